use Rattle.std.proofs.Common.{ℕ, ◌+◌, slice_index, ap, ◌∙◌, arith}
use Rattle.capn_stream.proofs.shared.Cutting.{place_segment, seen_inside, seen_word}
use Rattle.capn_scratch.specs.inner.Ends.{numbers}
use Rattle.capn_scratch.proofs.EndWords.{cut_count, start_small}
use Rattle.capn_scratch.proofs.scratch_segments.ScratchSegmentsSpace.word.Goals as goal

pub start_of-start-requires-clause-inside : goal.start_of-start-requires-clause-inside
start_of-start-requires-clause-inside c =
    let i = c.self.inside in
    let here = place_segment c.args.self.now c.args.at.segment c.args.at.word c.requires in
    omega (arith, here, cut_count i.ends.now i.words c.args.self.now c.self.view_is c.self.invariant 0)

pub start_of-start-requires-clause-small : goal.start_of-start-requires-clause-small
start_of-start-requires-clause-small c =
    let i = c.self.inside in
    let here = place_segment c.args.self.now c.args.at.segment c.args.at.word c.requires in
    start_small i.ends.now i.words c.args.self.now c.self.view_is c.self.invariant c.args.at.segment here

pub overflow_add-start : goal.overflow_add-start
overflow_add-start c =
    let i = c.self.inside in
    let here = place_segment c.args.self.now c.args.at.segment c.args.at.word c.requires in
    let inside = seen_inside (numbers i.ends.now) i.words c.args.self.now c.self.view_is c.self.invariant
    c.args.at.segment here in
    omega (arith, inside, c.start_of-start.ensures, c.self.invariant.room)

pub word-requires : goal.word-requires
word-requires c =
    let i = c.self.inside in
    let here = place_segment c.args.self.now c.args.at.segment c.args.at.word c.requires in
    let inside = seen_inside (numbers i.ends.now) i.words c.args.self.now c.self.view_is c.self.invariant
    c.args.at.segment here in
    omega (arith, inside, c.start_of-start.ensures)

pub returns : goal.returns
returns c =
    let i = c.self.inside in
    let here = place_segment c.args.self.now c.args.at.segment c.args.at.word c.requires in
    let word = seen_word (numbers i.ends.now) i.words c.args.self.now c.self.view_is c.self.invariant
    c.args.at.segment c.args.at.word here c.requires in
    c.word.ensures ∙ ap (λ (n : ℕ). slice_index i.words (n + c.args.at.word)) c.start_of-start.ensures ∙ word
