use Rattle.std.proofs.Common.{List, [], ◌∷◌, ◌++◌, subst, sym, ap, ◌∙◌, Vec}
use Rattle.capn_serve.specs.Pick.{AreAscending}
use Rattle.capn_serve.specs.declared.pick.Range.{Range}
use Rattle.capn_args.specs.declared.range_list.Begun.{Begun}
use Rattle.capn_args.proofs.RangeLists.{behind_comma, one_more, so_far_above, AreSoFar}
use Rattle.capn_args.proofs.range_list.ranges_in.Goals as goal
use Rattle.capn_args.proofs.range_list.ranges_in.Goals.{in-Some-range_of+in_ok-push-2, in_default-range_of-2}

pub loop-rest-preserved-in_ok-push : goal.loop-rest-preserved-in_ok-push
loop-rest-preserved-in_ok-push g c = (
  (λ are e.
      rw (c.in_ok-push.ensures.items, c.fresh-begun-in-Some.ensures)
      (behind_comma c.loop-rest.begun c.in-Some.range c.loop-rest.rest.now c.loop-rest.ranges.items are
      c.in-len1-up.len_at_least c.if-c-eq44.true (sym c.in-Some.ensures.is) (c.loop-rest.invariant.0 are e))),
  subst (λ (rs : List Range). AreSoFar 0 rs c.fresh-begun-in-Some.result.last) (sym c.in_ok-push.ensures.items)
      (subst (λ (b : Begun). AreSoFar 0 (c.loop-rest.ranges.items ++ c.in-Some.range ∷ []) b.last)
      (sym c.fresh-begun-in-Some.ensures)
      (one_more 0 c.loop-rest.begun.last c.loop-rest.ranges.items c.in-Some.range c.loop-rest.invariant.1
      c.in-Some.ensures.above.0 c.in-Some.ensures.above.1)),
)

pub returns-clause-ascending : goal.returns-clause-ascending
returns-clause-ascending g c = elim c.match-range_of-2.branch [
  | in-Some-range_of+in_ok-push-2 w ↦
      subst (λ (rs : List Range). AreAscending rs)
      (sym (ap (λ (v : Vec Range g.row.A.Denot). v.items) w.ranges-is ∙ w.in_ok-push-2.ensures.items))
      (so_far_above 0 w.in-Some-range_of.range.to (c.loop-rest.ranges.items ++ w.in-Some-range_of.range ∷ [])
      (one_more 0 c.loop-rest.begun.last c.loop-rest.ranges.items w.in-Some-range_of.range c.loop-rest.invariant.1
      w.in-Some-range_of.ensures.above.0 w.in-Some-range_of.ensures.above.1))
  | in_default-range_of-2 w ↦
      subst (λ (rs : List Range). AreAscending rs) (sym (ap (λ (v : Vec Range g.row.A.Denot). v.items) w.ranges-is))
      (so_far_above 0 c.loop-rest.begun.last c.loop-rest.ranges.items c.loop-rest.invariant.1)
]
