use Rattle.std.proofs.lemmas.Bool.{iff_false}
use Rattle.std.proofs.Common.{refl}
use Rattle.capn_same.proofs.stepwise.Blocks.{dropped, left-over, begins, halves}
use Rattle.capn_same.proofs.stepwise.Contents.{no}
use Rattle.capn_same.proofs.blocks.are_next_two_equal.Goals as goal

pub is_next_equal-requires-2 : goal.is_next_equal-requires-2
is_next_equal-requires-2 c =
    let one = c.is_next_equal.ensures.one in
    let two = c.is_next_equal.ensures.two in
    record {
      here = left-over 8 8 c.args.one.now _ one c.requires.here;
      there = left-over 8 8 c.args.two.now _ two c.requires.there;
    }

pub returns-then-not-is_next_equal-clause-same : goal.returns-then-not-is_next_equal-clause-same
returns-then-not-is_next_equal-clause-same c =
    no (λ h. iff_false c.is_next_equal.ensures.same c.if-not-is_next_equal.true
    (begins c.args.one.now c.args.two.now 1 1 h))

pub returns-clause-same : goal.returns-clause-same
returns-clause-same c =
    let yes = c.if-not-is_next_equal.false in
    let one = c.is_next_equal.ensures.one in
    let two = c.is_next_equal.ensures.two in
    halves c.args.one.now c.args.two.now _ _ 1 1 8 one two refl c.is_next_equal-2.result
    (c.is_next_equal.ensures.same.0 yes) c.is_next_equal-2.ensures.same

pub returns-clause-one : goal.returns-clause-one
returns-clause-one c t =
    dropped 8 c.args.one.now _ _ (c.is_next_equal.ensures.one)
    (c.is_next_equal-2.ensures.one)

pub returns-clause-two : goal.returns-clause-two
returns-clause-two c t =
    dropped 8 c.args.two.now _ _ (c.is_next_equal.ensures.two)
    (c.is_next_equal-2.ensures.two)
