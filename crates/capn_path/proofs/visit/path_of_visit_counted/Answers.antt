use Rattle.std.proofs.Common.{arith}
use Rattle.capn_path.proofs.Counts.{numbered-lowered}
use Rattle.capn_path.proofs.Stopping.{visited, not-visited}
use Rattle.capn_path.specs.declared.visit.Numbered.{Numbered}
use Rattle.capn_path.proofs.visit.path_of_visit_counted.Goals as goal

pub returns-in-Some-clause-found : goal.returns-in-Some-clause-found
returns-in-Some-clause-found g c =
    visited c.args.space.now c.args.limits c.args.number c.in-Some.path.items c.in-Some.place
    (rw (c.in-Some.is, c.depth.ensures.value) at c.in_ok-place.ensures.found)

pub returns-in-None-clause-none : goal.returns-in-None-clause-none
returns-in-None-clause-none g c =
    not-visited c.args.space.now c.args.limits c.args.number
    (rw (c.in-None.is, c.depth.ensures.value) at c.in_ok-place.ensures.none)

pub returns-in-Some-clause-reads : goal.returns-in-Some-clause-reads
returns-in-Some-clause-reads g c =
    let more = c.in_ok-place.ensures.reads (λ (aim : Numbered). aim.left) numbered-lowered in
    let one = c.segment_length.ensures.reads in
    omega (arith, more, one)

pub returns-in-None-clause-reads : goal.returns-in-None-clause-reads
returns-in-None-clause-reads g c =
    let more = c.in_ok-place.ensures.reads (λ (aim : Numbered). aim.left) numbered-lowered in
    let one = c.segment_length.ensures.reads in
    omega (arith, more, one)

pub returns-in_err-place-clause-reads : goal.returns-in_err-place-clause-reads
returns-in_err-place-clause-reads g c =
    let more = c.in_err-place.ensures.reads (λ (aim : Numbered). aim.left) numbered-lowered in
    let one = c.segment_length.ensures.reads in
    omega (arith, more, one)
