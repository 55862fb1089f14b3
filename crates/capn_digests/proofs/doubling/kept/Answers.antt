use Rattle.std.proofs.Common.{◌%◌, List, length, get_or, set, arith, sym, ap, ◌∙◌, subst}
use Rattle.std.proofs.lemmas.List.{length-set}
use Rattle.capn_digests.specs.declared.slot.Slot.{Slot}
use Rattle.capn_digests.specs.declared.slot.Head.{Head}
use Rattle.capn_digests.specs.Buckets.{IsHeld, no_slot}
use Rattle.capn_digests.proofs.Kept.{kept_one, kept_none}
use Rattle.capn_digests.proofs.doubling.kept.Goals as goal
use Rattle.capn_digests.proofs.doubling.kept.Goals.{then-j-head+then-home_of-at, else-j-head}
use Rattle.capn_digests.proofs.doubling.kept.Goals.{else-j-head-via-then-j-head+else-home_of-at}
use Rattle.capn_digests.proofs.doubling.kept.Goals.{else-j-head-via-else-j-head}

pub loop-j-preserved : goal.loop-j-preserved
loop-j-preserved c =
    elim c.if-j-head.branch [
      | then-j-head+then-home_of-at w ↦
          let i = c.loop-j.invariant.few in
          let n = w.and_one-new.ensures.count in
          let z = c.loop-j.invariant.sized in
          record {
            sized = ap (λ (b : List Slot). length b) w.kept-is ∙ (length-set c.loop-j.kept c.loop-j.new.count _ ∙ z);
            few = let e = ap (λ (h : Head). h.count) w.new-is in omega arith;
            fewer = let e = ap (λ (h : Head). h.count) w.new-is in let b = w.if-j-head.true in omega arith;
            overflowed = ap (λ (h : Head). h.overflowed) w.new-is
                ∙ (w.and_one-new.ensures.overflowed ∙ c.loop-j.invariant.overflowed);
            held = λ k below taken own.
                subst (λ (b : List Slot). IsHeld c.if-j-head.new b (get_or c.args.bucket.now k no_slot)) (sym w.kept-is)
                (subst (λ (h : Head). IsHeld h
                (set c.loop-j.kept c.loop-j.new.count (get_or c.args.bucket.now c.loop-j.j no_slot))
                (get_or c.args.bucket.now k no_slot)) (sym w.new-is)
                (kept_one c.args.head c.args.bucket.now c.args.buckets c.args.at c.loop-j.j c.loop-j.new c.loop-j.kept
                c.loop-j.invariant.held w.and_one-new.result (record { count = n; kept = w.and_one-new.ensures.kept })
                (omega arith) w.and_one-new.ensures.marked k below taken own));
          }
      | else-j-head w ↦ elim w.else-j-head.branch [
        | else-j-head-via-then-j-head+else-home_of-at u ↦ record {
          sized = ap (λ (b : List Slot). length b) w.kept-is ∙ c.loop-j.invariant.sized;
          few = let e = ap (λ (h : Head). h.count) w.new-is in let i = c.loop-j.invariant.few in omega arith;
          fewer = let e = ap (λ (h : Head). h.count) w.new-is in let i = c.loop-j.invariant.fewer in omega arith;
          overflowed = ap (λ (h : Head). h.overflowed) w.new-is ∙ c.loop-j.invariant.overflowed;
          held = λ k below taken own.
              subst (λ (b : List Slot). IsHeld c.if-j-head.new b (get_or c.args.bucket.now k no_slot)) (sym w.kept-is)
              (subst (λ (h : Head). IsHeld h c.loop-j.kept (get_or c.args.bucket.now k no_slot)) (sym w.new-is)
              (kept_none c.args.head c.args.bucket.now c.args.buckets c.args.at c.loop-j.j c.loop-j.new c.loop-j.kept
              c.loop-j.invariant.held (λ more own. u.if-home_of-at.false (u.home_of.ensures ∙ own)) k below taken own));
        }
        | else-j-head-via-else-j-head u ↦ record {
          sized = ap (λ (b : List Slot). length b) w.kept-is ∙ c.loop-j.invariant.sized;
          few = let e = ap (λ (h : Head). h.count) w.new-is in let i = c.loop-j.invariant.few in omega arith;
          fewer = let e = ap (λ (h : Head). h.count) w.new-is in let i = c.loop-j.invariant.fewer in omega arith;
          overflowed = ap (λ (h : Head). h.overflowed) w.new-is ∙ c.loop-j.invariant.overflowed;
          held = λ k below taken own.
              subst (λ (b : List Slot). IsHeld c.if-j-head.new b (get_or c.args.bucket.now k no_slot)) (sym w.kept-is)
              (subst (λ (h : Head). IsHeld h c.loop-j.kept (get_or c.args.bucket.now k no_slot)) (sym w.new-is)
              (kept_none c.args.head c.args.bucket.now c.args.buckets c.args.at c.loop-j.j c.loop-j.new c.loop-j.kept
              c.loop-j.invariant.held (λ more own. let e = u.if-j-head.false in omega arith) k below taken own));
        }
      ]
    ]

pub returns-clause-held : goal.returns-clause-held
returns-clause-held c s own h =
    let inside = h.within in
    subst (λ (x : Slot). IsHeld c.loop-j.new c.loop-j.kept x) h.is
    (c.loop-j.invariant.held h.place (omega arith) h.taken (ap (λ (x : Slot). x.tag % c.args.buckets) h.is ∙ own))
