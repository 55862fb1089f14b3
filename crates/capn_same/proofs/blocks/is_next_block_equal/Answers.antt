use Rattle.std.proofs.lemmas.Bool.{iff_false}
use Rattle.std.proofs.Common.{refl}
use Rattle.capn_same.proofs.stepwise.Blocks.{dropped, left-over, begins, halves}
use Rattle.capn_same.proofs.stepwise.Contents.{no}
use Rattle.capn_same.proofs.blocks.is_next_block_equal.Goals as goal

pub are_next_four_equal-requires-2 : goal.are_next_four_equal-requires-2
are_next_four_equal-requires-2 c =
    let one = c.are_next_four_equal.ensures.one c.if-not-are_next_four_equal.false in
    let two = c.are_next_four_equal.ensures.two c.if-not-are_next_four_equal.false in
    record {
      here = left-over 32 32 c.args.one.now _ one c.requires.here;
      there = left-over 32 32 c.args.two.now _ two c.requires.there;
    }

pub returns-then-not-are_next_four_equal-clause-same : goal.returns-then-not-are_next_four_equal-clause-same
returns-then-not-are_next_four_equal-clause-same c =
    no (λ h. iff_false c.are_next_four_equal.ensures.same c.if-not-are_next_four_equal.true
    (begins c.args.one.now c.args.two.now 4 4 h))

pub returns-clause-same : goal.returns-clause-same
returns-clause-same c =
    let yes = c.if-not-are_next_four_equal.false in
    let one = c.are_next_four_equal.ensures.one c.if-not-are_next_four_equal.false in
    let two = c.are_next_four_equal.ensures.two c.if-not-are_next_four_equal.false in
    halves c.args.one.now c.args.two.now _ _ 4 4 32 one two refl c.are_next_four_equal-2.result
    (c.are_next_four_equal.ensures.same.0 yes) c.are_next_four_equal-2.ensures.same

pub returns-clause-one : goal.returns-clause-one
returns-clause-one c t =
    dropped 32 c.args.one.now _ _ (c.are_next_four_equal.ensures.one c.if-not-are_next_four_equal.false)
    (c.are_next_four_equal-2.ensures.one t)

pub returns-clause-two : goal.returns-clause-two
returns-clause-two c t =
    dropped 32 c.args.two.now _ _ (c.are_next_four_equal.ensures.two c.if-not-are_next_four_equal.false)
    (c.are_next_four_equal-2.ensures.two t)
