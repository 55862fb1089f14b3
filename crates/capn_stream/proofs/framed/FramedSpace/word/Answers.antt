use Rattle.std.proofs.Common.{ℕ, ◌+◌, slice_index, ap, ◌∙◌, arith}
use Rattle.capn_stream.specs.inner.KeptEnds.{kept}
use Rattle.capn_stream.proofs.shared.Cutting.{place_segment, seen_count, seen_inside, seen_word}
use Rattle.capn_stream.proofs.framed.FramedSpace.word.Goals as goal

pub start_of-start-requires : goal.start_of-start-requires
start_of-start-requires g c =
    let here = place_segment c.args.self.now c.args.at.segment c.args.at.word c.requires in
    let count = seen_count (kept c.self.inside.ends) c.self.inside.words c.args.self.now c.self.view_is
    c.self.invariant.1 in
    record { kept = c.self.invariant.0; inside = omega (arith, here, count) }

pub overflow_add-start : goal.overflow_add-start
overflow_add-start g c =
    let here = place_segment c.args.self.now c.args.at.segment c.args.at.word c.requires in
    let inside = seen_inside (kept c.self.inside.ends) c.self.inside.words c.args.self.now c.self.view_is
    c.self.invariant.1 c.args.at.segment here in
    omega (arith, inside, c.start_of-start.ensures, c.self.invariant.1.room)

pub word-requires : goal.word-requires
word-requires g c =
    let here = place_segment c.args.self.now c.args.at.segment c.args.at.word c.requires in
    let inside = seen_inside (kept c.self.inside.ends) c.self.inside.words c.args.self.now c.self.view_is
    c.self.invariant.1 c.args.at.segment here in
    omega (arith, inside, c.start_of-start.ensures)

pub returns : goal.returns
returns g c =
    let here = place_segment c.args.self.now c.args.at.segment c.args.at.word c.requires in
    let word = seen_word (kept c.self.inside.ends) c.self.inside.words c.args.self.now c.self.view_is c.self.invariant.1
    c.args.at.segment c.args.at.word here c.requires in
    c.word.ensures
    ∙ ap (λ (n : ℕ). slice_index c.self.inside.words (n + c.args.at.word)) c.start_of-start.ensures
    ∙ word
