use Rattle.std.proofs.Common.{ℕ, ◌+◌, ◌≤◌, ◌<◌, ◌∙◌, List, Option, Some, length, drop, refl, sym, ap, ap₂, arith}
use Rattle.std.specs.Prelude.{slice_index}
use Rattle.capn_value.specs.Tree.{Tree}
use Rattle.capn_target.specs.declared.target.Target.{Target}
use Rattle.capn_walk.specs.Accepted.{root}
use Rattle.capn_show.specs.Descent.{named_by}
use Rattle.capn_marks.specs.MarkedPart.{There, led, stepped}
use Rattle.capn_marks.proofs.LedSteps.{there-is, led-none, led-one, led-end}
use Rattle.capn_marks.proofs.marked_part.lead.Goals as goal

pub loop-i-init : goal.loop-i-init
loop-i-init g c =
    let m = (g.S.Space.message c.args.space.now) in
    record {
      inside = c.named-found.ensures.inside;
      lies = record { exists = c.requires.message.some; within = omega arith };
      leads = λ v h. (
        v,
        ap₂ (λ (f : Target) (w : List ℕ). led m c.args.numbers.now (Some (record {
          at = root;
          found = f;
          value = v;
          path = w;
        }))) (ap named_by c.named-found.ensures.is) (sym c.requires.empty),
        c.named-found.ensures.shown v h,
        omega arith,
      );
    }

pub step_down-requires-clause-value : goal.step_down-requires-clause-value
step_down-requires-clause-value g c =
    let x = c.loop-i.invariant.leads c.requires.value.0 c.requires.value.1 in
    (x.0, x.2)

pub loop-i-preserved : goal.loop-i-preserved
loop-i-preserved g c =
    let m = (g.S.Space.message c.args.space.now) in
    let numbers = c.args.numbers.now in
    let i = c.loop-i.i in
    let n = slice_index numbers i in
    record {
      inside = c.in-Some.ensures.inside;
      lies = c.in-Some.ensures.lies;
      leads = λ v h. let x = c.loop-i.invariant.leads v h in
          let p : There = (record {
            at = c.loop-i.part.at;
            found = c.loop-i.part.found;
            value = x.0;
            path =
                c.loop-i.path.items;
          }) in
          let y = c.in-Some.ensures.there x.0 x.2 in
          let past : i < length numbers = omega arith in
          let low = x.3 in
          let lower = y.low in (
            y.value,
            x.1 ∙ led-one m numbers i n p past refl
                ∙ ap (λ (o : Option Tree). led m (drop (i + 1) numbers) (stepped m p n o)) y.is
                ∙ ap (led m (drop (i + 1) numbers)) (there-is y.value _ _ _ _ _ _ (sym c.in-Some.ensures.at)
                (sym c.in-Some.ensures.to) (sym c.in_ok-push_number.ensures.below)),
            y.shown,
            omega arith,
          );
    }

pub returns-in-None-clause-there : goal.returns-in-None-clause-there
returns-in-None-clause-there g c v h =
    let m = (g.S.Space.message c.args.space.now) in
    let numbers = c.args.numbers.now in
    let i = c.loop-i.i in
    let n = slice_index numbers i in
    let x = c.loop-i.invariant.leads v h in
    let p : There = (record {
      at = c.loop-i.part.at;
      found = c.loop-i.part.found;
      value = x.0;
      path =
          c.loop-i.path.items;
    }) in
    let past : i < length numbers = omega arith in
    x.1 ∙ led-one m numbers i n p past refl
    ∙ ap (λ (o : Option Tree). led m (drop (i + 1) numbers) (stepped m p n o)) (c.in-None.ensures.none x.0 x.2)
    ∙ led-none m (drop (i + 1) numbers)

pub returns-clause-there : goal.returns-clause-there
returns-clause-there g c v h =
    let m = (g.S.Space.message c.args.space.now) in
    let numbers = c.args.numbers.now in
    let i = c.loop-i.i in
    let x = c.loop-i.invariant.leads v h in
    let p : There = (record {
      at = c.loop-i.part.at;
      found = c.loop-i.part.found;
      value = x.0;
      path =
          c.loop-i.path.items;
    }) in
    let past : length numbers ≤ i = omega arith in
    (x.0, x.1 ∙ led-end m numbers i p past, x.2, x.3)
