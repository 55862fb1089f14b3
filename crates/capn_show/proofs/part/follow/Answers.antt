use Rattle.std.proofs.Common.{◌+◌, ◌≤◌, ◌<◌, ◌∙◌, length, drop, refl, ap, arith}
use Rattle.std.specs.Prelude.{slice_index}
use Rattle.capn_show.specs.Part.{follow}
use Rattle.capn_show.proofs.PartSteps.{follow-one, follow-stop, follow-end}
use Rattle.capn_show.proofs.part.follow.Goals as goal

pub loop-i-init : goal.loop-i-init
loop-i-init g c = record { inside = c.requires.inside; leads = λ v h. (v, refl, h, omega arith) }

pub step_down-requires-clause-value : goal.step_down-requires-clause-value
step_down-requires-clause-value g c =
    let x = c.loop-i.invariant.leads c.requires.value.0 c.requires.value.1 in
    (x.0, x.2)

pub loop-i-preserved : goal.loop-i-preserved
loop-i-preserved g c =
    let path = c.args.path.now in
    let i = c.loop-i.i in
    record {
      inside = c.in-Some.ensures.inside;
      leads = λ v h. let x = c.loop-i.invariant.leads v h in
          let y = c.in-Some.ensures.there x.0 x.2 in
          let below : i < length path = omega arith in
          let low = x.3 in
          let lower = y.low in (
            y.value,
            x.1 ∙ follow-one path i (slice_index path i) x.0 below refl ∙ ap (follow (drop (i + 1) path)) y.is,
            y.shown,
            omega arith,
          );
    }

pub returns-in-None-clause-none : goal.returns-in-None-clause-none
returns-in-None-clause-none g c v h =
    let path = c.args.path.now in
    let i = c.loop-i.i in
    let x = c.loop-i.invariant.leads v h in
    let below : i < length path = omega arith in
    x.1 ∙ follow-stop path i (slice_index path i) x.0 below refl (c.in-None.ensures.none x.0 x.2)

pub returns-clause-there : goal.returns-clause-there
returns-clause-there g c v h =
    let path = c.args.path.now in
    let i = c.loop-i.i in
    let x = c.loop-i.invariant.leads v h in
    let past : length path ≤ i = omega arith in
    record { value = x.0; is = x.1 ∙ follow-end path i x.0 past; shown = x.2; low = x.3 }
