use Rattle.std.proofs.Common.{ℕ, ◌+◌, ◌*◌, take, drop, ap, ◌∙◌, arith}
use Rattle.capn_words.specs.Message.{bytes}
use Rattle.capn_stream.specs.inner.KeptEnds.{kept}
use Rattle.capn_stream.proofs.shared.Cutting.{seen_bytes, seen_count, seen_inside}
use Rattle.capn_stream.proofs.framed.FramedSpace.bytes.Goals as goal

pub start_of-start-requires : goal.start_of-start-requires
start_of-start-requires g c =
    let count = seen_count (kept c.self.inside.ends) c.self.inside.words c.args.self.now c.self.view_is
    c.self.invariant.1 in
    record { kept = c.self.invariant.0; inside = omega (arith, c.requires.0, count) }

pub overflow_add-start : goal.overflow_add-start
overflow_add-start g c =
    let inside = seen_inside (kept c.self.inside.ends) c.self.inside.words c.args.self.now c.self.view_is
    c.self.invariant.1 c.args.at.segment c.requires.0 in
    omega (arith, inside, c.start_of-start.ensures, c.self.invariant.1.room, c.requires.1)

pub bytes-requires : goal.bytes-requires
bytes-requires g c =
    let inside = seen_inside (kept c.self.inside.ends) c.self.inside.words c.args.self.now c.self.view_is
    c.self.invariant.1 c.args.at.segment c.requires.0 in
    (omega arith, omega (arith, inside, c.start_of-start.ensures, c.requires.1))

pub returns : goal.returns
returns g c =
    let part = seen_bytes (kept c.self.inside.ends) c.self.inside.words c.args.self.now c.self.view_is
    c.self.invariant.1 c.args.at.segment c.args.at.word c.args.len c.requires.0 c.requires.1 in
    c.bytes.ensures
    ∙ ap (λ (n : ℕ). take c.args.len (drop (8 * (n + c.args.at.word)) (bytes c.self.inside.words)))
    c.start_of-start.ensures
    ∙ part
