use Rattle.std.proofs.Common.{◌≡◌, ◌+◌, ◌*◌, refl, subst, arith}
use Rattle.std.proofs.lemmas.Bool.{iff_false}
use Rattle.capn_walk.proofs.shared.Elements.{length-read}
use Rattle.capn_same.specs.inner.Runs.{BeginAlike}
use Rattle.capn_same.proofs.stepwise.Blocks.{block-left, block-of, block-more, block-dropped, alike-equal}
use Rattle.capn_same.proofs.stepwise.Contents.{no}
use Rattle.capn_same.proofs.blocks.are_equal_in_blocks.Goals as goal

pub is_next_block_equal-requires-clause-here : goal.is_next_block_equal-requires-clause-here
is_next_block_equal-requires-clause-here g c =
    let inside = c.requires.here.within in
    let size = length-read c.args.a.now c.args.at (64 * c.args.blocks) c.bytes-one.result c.bytes-one.ensures.bytes
    (omega arith) in
    block-left c.bytes-one.result c.loop-block.one c.loop-block._block c.args.blocks c.loop-block.invariant.one size
    c.loop-block-test.true

pub is_next_block_equal-requires-clause-there : goal.is_next_block_equal-requires-clause-there
is_next_block_equal-requires-clause-there g c =
    let inside = c.requires.there.within in
    let size = length-read c.args.b.now c.args.beside (64 * c.args.blocks) c.bytes-two.result
    c.bytes-two.ensures.bytes (omega arith) in
    block-left c.bytes-two.result c.loop-block.two c.loop-block._block c.args.blocks c.loop-block.invariant.two size
    c.loop-block-test.true

pub returns-then-not-is_next_block_equal-clause-same : goal.returns-then-not-is_next_block_equal-clause-same
returns-then-not-is_next_block_equal-clause-same g c =
    let a = c.args in
    let equal = alike-equal a.a.now a.b.now a.at a.beside (8 * a.blocks) (64 * a.blocks) c.bytes-one.result
    c.bytes-two.result c.requires.one c.requires.two c.requires.here c.requires.there (omega arith)
    c.bytes-one.ensures.bytes c.bytes-two.ensures.bytes in
    no (λ h. iff_false c.is_next_block_equal.ensures.same c.if-not-is_next_block_equal.true
    (block-of c.bytes-one.result c.bytes-two.result c.loop-block.one c.loop-block.two c.loop-block._block
    c.loop-block.invariant.one c.loop-block.invariant.two a.blocks c.loop-block-test.true (equal.1 h)))

pub loop-block-preserved : goal.loop-block-preserved
loop-block-preserved g c =
    let i = c.loop-block._block in
    let yes = c.if-not-is_next_block_equal.false in
    record {
      one = block-dropped c.bytes-one.result c.loop-block.one _ i (i + 1) refl c.loop-block.invariant.one
          (c.is_next_block_equal.ensures.one yes);
      two = block-dropped c.bytes-two.result c.loop-block.two _ i (i + 1) refl c.loop-block.invariant.two
          (c.is_next_block_equal.ensures.two yes);
      equal = block-more c.bytes-one.result c.bytes-two.result c.loop-block.one c.loop-block.two i
          c.loop-block.invariant.one c.loop-block.invariant.two (i + 1) refl c.loop-block.invariant.equal
          (c.is_next_block_equal.ensures.same.0 yes);
      first = let v = c.loop-block.invariant.first in let o = c.tick.ensures in omega arith;
      second = let v = c.loop-block.invariant.second in let o = c.tick-in-loop-block.ensures in omega arith;
    }

pub returns-clause-same : goal.returns-clause-same
returns-clause-same g c =
    let a = c.args in
    let i = c.loop-block._block in
    let ge = c.loop-block-test.false in
    let le = c.loop-block.auto._block-end in
    let e : 8 * i ≡ 8 * a.blocks = omega arith in
    let all = subst (BeginAlike c.bytes-one.result c.bytes-two.result) e c.loop-block.invariant.equal in
    let equal = alike-equal a.a.now a.b.now a.at a.beside (8 * a.blocks) (64 * a.blocks) c.bytes-one.result
    c.bytes-two.result c.requires.one c.requires.two c.requires.here c.requires.there (omega arith)
    c.bytes-one.ensures.bytes c.bytes-two.ensures.bytes in
    ((λ t. equal.0 all), (λ h. refl))
