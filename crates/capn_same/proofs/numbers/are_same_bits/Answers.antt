use Rattle.std.proofs.Common.{◌%◌, refl, ap, ◌∙◌, arith}
use Rattle.std.proofs.lemmas.Bool.{iff_false}
use Rattle.capn_words.specs.Message.{segment_at, word_at}
use Rattle.capn_layout.proofs.shared.FirstBits.{shifted-one}
use Rattle.capn_same.proofs.stepwise.Bits.{equal-of_bits, last-of_bits, bits-of_equal, bits-of_both}
use Rattle.capn_same.proofs.stepwise.Contents.{no, last-test}
use Rattle.capn_same.proofs.numbers.are_same_bits.Goals as goal

pub returns-then-not-are_equal-clause-same : goal.returns-then-not-are_equal-clause-same
returns-then-not-are_equal-clause-same g c =
    let a = c.args in
    let here = c.requires.here.within in
    let there = c.requires.there.within in
    no (λ e. iff_false c.are_equal.ensures.same c.if-not-are_equal.true
    (equal-of_bits (segment_at a.a.now a.at.segment) (segment_at a.b.now a.beside.segment) a.at.word a.beside.word
    a.bits (omega arith) (omega arith) e))

pub returns-then-rest-eq0-clause-same : goal.returns-then-rest-eq0-clause-same
returns-then-rest-eq0-clause-same g c =
    let a = c.args in
    let here = c.requires.here.within in
    let there = c.requires.there.within in (
      (λ t. bits-of_equal (segment_at a.a.now a.at.segment) (segment_at a.b.now a.beside.segment) a.at.word
          a.beside.word a.bits (omega arith) (omega arith) c.if-rest-eq0.true
          (c.are_equal.ensures.same.0 c.if-not-are_equal.false)),
      (λ e. refl),
    )

pub returns-clause-same : goal.returns-clause-same
returns-clause-same g c =
    let a = c.args in
    let here = c.requires.here.within in
    let there = c.requires.there.within in
    let x = c.word.ensures.word ∙ ap (word_at a.a.now) c.behind.ensures in
    let y = c.word-2.ensures.word ∙ ap (word_at a.b.now) c.behind-2.ensures in
    let test = last-test _ _ _ _ _ (a.bits % 64) x y (shifted-one (a.bits % 64) (omega arith)) in (
      (λ t. bits-of_both (segment_at a.a.now a.at.segment) (segment_at a.b.now a.beside.segment) a.at.word
          a.beside.word a.bits (omega arith) (omega arith) c.if-rest-eq0.false
          (c.are_equal.ensures.same.0 c.if-not-are_equal.false) (test.0 t)),
      (λ e. test.1 (last-of_bits (segment_at a.a.now a.at.segment) (segment_at a.b.now a.beside.segment) a.at.word
          a.beside.word a.bits (omega arith) (omega arith) c.if-rest-eq0.false e)),
    )
