use Rattle.std.proofs.Common.{ℕ, ◌+◌, ◌*◌, take, drop, ap, ◌∙◌, arith}
use Rattle.capn_words.specs.Message.{bytes}
use Rattle.capn_stream.proofs.shared.Cutting.{seen_bytes, seen_inside}
use Rattle.capn_scratch.specs.inner.Ends.{numbers}
use Rattle.capn_scratch.proofs.EndWords.{cut_count, start_small}
use Rattle.capn_scratch.proofs.scratch_segments.ScratchSegmentsSpace.bytes.Goals as goal

pub start_of-start-requires-clause-inside : goal.start_of-start-requires-clause-inside
start_of-start-requires-clause-inside c =
    let i = c.self.inside in
    omega (arith, c.requires.0, cut_count i.ends.now i.words c.args.self.now c.self.view_is c.self.invariant 0)

pub start_of-start-requires-clause-small : goal.start_of-start-requires-clause-small
start_of-start-requires-clause-small c =
    let i = c.self.inside in
    start_small i.ends.now i.words c.args.self.now c.self.view_is c.self.invariant c.args.at.segment c.requires.0

pub overflow_add-start : goal.overflow_add-start
overflow_add-start c =
    let i = c.self.inside in
    let inside = seen_inside (numbers i.ends.now) i.words c.args.self.now c.self.view_is c.self.invariant
    c.args.at.segment c.requires.0 in
    omega (arith, inside, c.start_of-start.ensures, c.self.invariant.room, c.requires.1)

pub bytes-requires : goal.bytes-requires
bytes-requires c =
    let i = c.self.inside in
    let inside = seen_inside (numbers i.ends.now) i.words c.args.self.now c.self.view_is c.self.invariant
    c.args.at.segment c.requires.0 in
    (omega arith, omega (arith, inside, c.start_of-start.ensures, c.requires.1))

pub returns : goal.returns
returns c =
    let i = c.self.inside in
    let part = seen_bytes (numbers i.ends.now) i.words c.args.self.now c.self.view_is c.self.invariant
    c.args.at.segment c.args.at.word c.args.len c.requires.0 c.requires.1 in
    c.bytes.ensures
    ∙ ap (λ (n : ℕ). take c.args.len (drop (8 * (n + c.args.at.word)) (bytes i.words))) c.start_of-start.ensures ∙ part
