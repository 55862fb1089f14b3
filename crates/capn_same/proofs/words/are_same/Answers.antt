use Rattle.std.proofs.lemmas.Bool.{iff_false}
use Rattle.capn_words.specs.Message.{segment_at}
use Rattle.capn_same.proofs.stepwise.Words.{same-of_parts, equal-of_same, left-of_same, right-of_same}
use Rattle.capn_same.proofs.stepwise.Contents.{no, zeros-at}
use Rattle.capn_same.proofs.words.are_same.Goals as goal

pub returns-then-not-are_equal-clause-same : goal.returns-then-not-are_equal-clause-same
returns-then-not-are_equal-clause-same g c ws vs own en other ek =
    let a = c.args in
    no (λ h. iff_false c.are_equal.ensures.same c.if-not-are_equal.true
    (equal-of_same (segment_at a.a.now a.one.start.segment) (segment_at a.b.now a.two.start.segment) ws vs
    a.one.start.word a.two.start.word a.one.count a.two.count c.min-shared.result own other en ek
    c.min-shared.ensures h))

pub returns-then-not-are_zero-clause-same : goal.returns-then-not-are_zero-clause-same
returns-then-not-are_zero-clause-same g c ws vs own en other ek =
    let a = c.args in
    no (λ h. iff_false (zeros-at a.a.now _ _ _ _ c.behind.ensures c.are_zero.ensures.same) c.if-not-are_zero.true
    (left-of_same (segment_at a.a.now a.one.start.segment) (segment_at a.b.now a.two.start.segment) ws vs
    a.one.start.word a.two.start.word a.one.count a.two.count c.min-shared.result own other en ek
    c.min-shared.ensures h))

pub returns-clause-same : goal.returns-clause-same
returns-clause-same g c ws vs own en other ek =
    let a = c.args in
    let left = (zeros-at a.a.now _ _ _ _ c.behind.ensures c.are_zero.ensures.same).0 c.if-not-are_zero.false in
    let right = zeros-at a.b.now _ _ _ _ c.behind-2.ensures c.are_zero-2.ensures.same in (
      (λ t. same-of_parts (segment_at a.a.now a.one.start.segment) (segment_at a.b.now a.two.start.segment) ws vs
          a.one.start.word a.two.start.word a.one.count a.two.count c.min-shared.result own other en ek
          c.min-shared.ensures (c.are_equal.ensures.same.0 c.if-not-are_equal.false) left (right.0 t)),
      (λ h. right.1 (right-of_same (segment_at a.a.now a.one.start.segment) (segment_at a.b.now a.two.start.segment)
          ws vs a.one.start.word a.two.start.word a.one.count a.two.count c.min-shared.result own other en ek
          c.min-shared.ensures h)),
    )
