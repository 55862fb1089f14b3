use Rattle.std.proofs.Common.{◌≡◌, ◌∙◌, Ok, Err, refl, ap, sym, arith}
use Rattle.capn_target.specs.declared.target.Target.{Target}
use Rattle.capn_target.specs.declared.target.Target.TheVariants as targets
use Rattle.capn_walk.specs.Surveyed.{cap_of}
use Rattle.capn_walk.specs.inner.Verdict.{judge}
use Rattle.capn_walk.specs.inner.Reach.{below_of}
use Rattle.capn_walk.specs.View.{cap_in, stepped}
use Rattle.capn_target.proofs.shared.Ways.{never-memory}
use Rattle.capn_target.proofs.shared.Inside.{found-inside}
use Rattle.capn_walk.proofs.Stepped.{step-pays, step-stops, stepped-memory}
use Rattle.capn_walk.proofs.shared.Walks.{visits-fault}
use Rattle.capn_walk.proofs.survey_visit.visit_found.Goals as goal

same-cap : (t : Target) → cap_of (Ok t) ≡ cap_in t
same-cap targets.Nil = refl
same-cap (targets.Cap k) = refl
same-cap (targets.Content s start shape pads) = refl

pub returns-in-Err : goal.returns-in-Err
returns-in-Err g c =
    let m = c.args.space.now in
    let e = sym c.requires.found ∙ c.in-Err.is in
    record {
      refused = ap (judge c.args.left) (visits-fault m c.args.base c.args.at c.args.depth c.in-Err.fault e);
      memory = never-memory m c.args.at c.in-Err.fault e;
    }

pub slots_below-requires-clause-inside : goal.slots_below-requires-clause-inside
slots_below-requires-clause-inside g c =
    found-inside c.args.space.now c.args.at c.in-Ok.target c.requires.place (sym c.requires.found
    ∙ c.in-Ok.is)

pub returns-in-Ok-price_within : goal.returns-in-Ok-price_within
returns-in-Ok-price_within g c =
    let m = c.args.space.now in
    let t = sym c.requires.found ∙ c.in-Ok.is in
    let x = c.in-Ok-price_within.ensures in
    let f = c.slots_below.ensures in
    let o = f.owed c.args.base in
    let n = x.price in
    let d = x.deep in
    let p = step-pays m c.args.base c.args.at c.args.depth c.args.left c.in-Ok.target
    (ap (stepped c.args.base c.args.depth c.args.left) t ∙ x.found) in
    record {
      visits = rw (f.places, n) p.is;
      price = x.within;
      capability = ap cap_of t ∙ same-cap c.in-Ok.target ∙ sym c.capability_of.ensures;
      places = ap below_of t ∙ sym f.places;
      below = f.lies;
      deep = λ some. d (omega arith);
      owed = omega arith;
    }

pub returns-in-Err-price_within : goal.returns-in-Err-price_within
returns-in-Err-price_within g c =
    let m = c.args.space.now in
    let t = sym c.requires.found ∙ c.in-Ok.is in
    record {
      refused = step-stops m c.args.base c.args.at c.args.depth c.args.left c.in-Err-price_within.fault
          (ap (stepped c.args.base c.args.depth c.args.left) t ∙ c.in-Err-price_within.ensures.found);
      memory = λ h. stepped-memory c.args.base c.args.depth c.args.left c.in-Ok.target
          (c.in-Err-price_within.ensures.found ∙ ap Err h);
    }
