use Rattle.std.proofs.Common.{◌∙◌, ap, List, ℕ, ◌++◌, length, replicate}
use Rattle.capn_layout.specs.inner.PaddedBytes.{pad}
use Rattle.capn_layout.proofs.writer.PackedBytes.{written_over}
use Rattle.capn_layout.proofs.elements.append_bytes.Goals as goal

pub returns-clause-ok : goal.returns-clause-ok
returns-clause-ok g c =
    let xs = c.args.xs.now in
    written_over c.args.bytes.now.items c.append_room.new.bytes.items c.deref_mut.result.now c.copy_from_slice.new.self
    c.in_ok-start.start (length xs) (pad (length xs)) c.append_room.new.bytes.len
    c.in_ok-start.ensures.ok c.deref_mut.ensures.value c.in_ok-start.ensures.start
    (ap length c.copy_from_slice.ensures.after) c.append_room.new.bytes.ok.0
    ∙ ap (λ (ys : List ℕ). c.args.bytes.now.items ++ (ys ++ replicate (pad (length xs)) 0))
    c.copy_from_slice.ensures.after
