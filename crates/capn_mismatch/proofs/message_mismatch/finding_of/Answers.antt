use Rattle.std.proofs.Common.{sym, ◌∙◌, arith}
use Rattle.capn_mismatch.proofs.Mismatching.{all-canonical, finds-canonical, not-so}
use Rattle.capn_mismatch.proofs.message_mismatch.finding_of.Goals as goal

pub returns-then-measured-clause-canonical : goal.returns-then-measured-clause-canonical
returns-then-measured-clause-canonical g c v i =
    let f = c.requires.measured.checked in
    rw c.without_bytes.ensures.mismatch (
      λ t. all-canonical (g.S.Space.message c.args.space.now) c.args.limits f.value v f.is
          (f.answer.0 c.if-measured.true) i,
      λ h. tt,
    )

pub from_only_segment-requires-clause-mismatched : goal.from_only_segment-requires-clause-mismatched
from_only_segment-requires-clause-mismatched g c =
    let f = c.requires.measured.checked in
    let count = c.segments-segments.ensures.count in
    let some = c.segments-segments.ensures.bounds.some in
    let one = c.if-segments-gt1.false in (
      record {
        value = f.value;
        is = f.is;
        one = omega arith;
        not = λ h. not-so _ c.if-measured.false (f.answer.1 h);
      },
      sym f.capability ∙ c.in-None.is,
    )

pub returns-in_ok-index-in-Some-clause-found : goal.returns-in_ok-index-in-Some-clause-found
returns-in_ok-index-in-Some-clause-found g c =
    let f = c.requires.measured.checked in
    let count = c.segments-segments.ensures.count in
    let some = c.segments-segments.ensures.bounds.some in
    let one = c.if-segments-gt1.false in
    let found = c.in_ok-index-in-Some.ensures in
    rw c.without_bytes-in-Some.ensures.mismatch (f.value, f.is, omega arith, found.index f.value f.is, found.found)

pub returns-in-None-clause-canonical : goal.returns-in-None-clause-canonical
returns-in-None-clause-canonical g c =
    let m = g.S.Space.message c.args.space.now in
    let f = c.requires.measured.checked in
    finds-canonical m c.args.limits c.from_only_segment.result c.from_only_segment.ensures.found
    (λ v i h. not-so _ c.if-measured.false (f.answer.1 (all-canonical m c.args.limits v f.value i h f.is)))
