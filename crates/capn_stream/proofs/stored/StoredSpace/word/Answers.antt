use Rattle.std.proofs.Common.{ℕ, ◌+◌, slice_index, ap, ◌∙◌, arith}
use Rattle.capn_stream.proofs.shared.Cutting.{place_segment, seen_count, seen_inside, seen_word}
use Rattle.capn_stream.proofs.stored.StoredSpace.word.Goals as goal

pub start_of-start-requires : goal.start_of-start-requires
start_of-start-requires g c =
    let here = place_segment c.args.self.now c.args.at.segment c.args.at.word c.requires in
    let count = seen_count c.self.inside.ends.items c.self.inside.words c.args.self.now c.self.view_is
    c.self.invariant in
    rw c.deref.ensures.value (omega (arith, here, count))

pub overflow_add-start : goal.overflow_add-start
overflow_add-start g c =
    let here = place_segment c.args.self.now c.args.at.segment c.args.at.word c.requires in
    let inside = seen_inside c.self.inside.ends.items c.self.inside.words c.args.self.now c.self.view_is
    c.self.invariant c.args.at.segment here in
    let start = rw c.deref.ensures.value at c.start_of-start.ensures in
    omega (arith, inside, start, c.self.invariant.room)

pub word-requires : goal.word-requires
word-requires g c =
    let here = place_segment c.args.self.now c.args.at.segment c.args.at.word c.requires in
    let inside = seen_inside c.self.inside.ends.items c.self.inside.words c.args.self.now c.self.view_is
    c.self.invariant c.args.at.segment here in
    let start = rw c.deref.ensures.value at c.start_of-start.ensures in
    omega (arith, inside, start)

pub returns : goal.returns
returns g c =
    let here = place_segment c.args.self.now c.args.at.segment c.args.at.word c.requires in
    let word = seen_word c.self.inside.ends.items c.self.inside.words c.args.self.now c.self.view_is c.self.invariant
    c.args.at.segment c.args.at.word here c.requires in
    let start = rw c.deref.ensures.value at c.start_of-start.ensures in
    c.word.ensures ∙ ap (λ (n : ℕ). slice_index c.self.inside.words (n + c.args.at.word)) start ∙ word
