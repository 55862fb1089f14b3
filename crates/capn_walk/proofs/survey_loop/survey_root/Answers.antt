use Rattle.std.proofs.Common.{◌≡◌, ◌∙◌, [], sym, arith}
use Rattle.capn_walk.specs.Accepted.{root}
use Rattle.capn_walk.specs.inner.SlotsLeft.{owed, places_of}
use Rattle.capn_walk.proofs.OwedSlots.{done, nothing-left}
use Rattle.capn_walk.proofs.DeepVisits.{reach-named}
use Rattle.capn_walk.proofs.RootSurveys.{tells-alone}
use Rattle.capn_walk.proofs.survey_loop.survey_root.Goals as goal

pub returns-then-is_done-clause-tells : goal.returns-then-is_done-clause-tells
returns-then-is_done-clause-tells g c =
    let m = c.args.space.now in
    let x = c.in-Ok in
    let z : owed c.in-Ok.visited.below ≡ 0 = done c.is_done.result _ c.is_done.ensures c.if-is_done.true in
    tells-alone m c.args.base c.args.budget c.args.depth root x.visited.price x.visited.below x.visited.capability
    x.ensures.visits x.ensures.price x.ensures.owed x.ensures.capability c.levels.result x.ensures.below.rows z

pub returns-then-is_done-clause-depth : goal.returns-then-is_done-clause-depth
returns-then-is_done-clause-depth g c on =
    let m = c.args.space.now in
    let x = c.in-Ok in
    let z : owed c.in-Ok.visited.below ≡ 0 = done c.is_done.result _ c.is_done.ensures c.if-is_done.true in
    let e = nothing-left x.visited.below x.ensures.below.rows z in
    let r = reach-named m root c.args.depth c.args.target [] c.requires.some (sym c.requires.target)
    (x.ensures.places ∙ e) in
    let l = c.levels.ensures in
    omega arith

pub returns-in-Ok-survey_slots-clause-depth : goal.returns-in-Ok-survey_slots-clause-depth
returns-in-Ok-survey_slots-clause-depth g c on =
    let m = c.args.space.now in
    let x = c.in-Ok in
    let r = reach-named m root c.args.depth c.args.target (places_of c.in-Ok.visited.below) c.requires.some
    (sym c.requires.target) x.ensures.places in
    let l = c.levels-in-Ok-survey_slots.ensures in
    let b = c.in-Ok-survey_slots.ensures.depth on in
    omega arith
