use Rattle.std.proofs.Common.{◌≡◌, ◌/◌, ◌++◌, List, ℕ, length, ap, subst}
use Rattle.capn_words.specs.Watched.{inner_of, has_failed}
use Rattle.capn_serve.specs.Outgoing.{outgoing}
use Rattle.capn_archive.specs.CanonicalFrame.{AddsText, framed, head}
use Rattle.capn_archive.proofs.FramesAdded.{both_added, none_added}
use Rattle.capn_archive.proofs.canonical_frame.add_frame.Goals as goal

whole : (front bytes : List ℕ) → front ≡ head (length bytes / 8) → front ++ bytes ≡ framed bytes
whole front bytes is = ap (λ (l : List ℕ). l ++ bytes) is

pub returns-in_err-add_bytes : goal.returns-in_err-add_bytes
returns-in_err-add_bytes g c =
    let made : c.head_of-head.result ≡ head (length c.args.bytes.now / 8) = c.head_of-head.ensures in
    subst (λ (t : List ℕ). AddsText t (outgoing (g.W.Write.contents (inner_of c.args.writer.now)) c.args.text.now.items)
    (outgoing (g.W.Write.contents (inner_of c.add_bytes.new.writer)) c.add_bytes.new.text.items)
    (has_failed c.add_bytes.new.writer) c.from_residual.result) (whole c.head_of-head.result c.args.bytes.now made)
    (none_added c.head_of-head.result c.args.bytes.now
    (outgoing (g.W.Write.contents (inner_of c.args.writer.now)) c.args.text.now.items)
    (outgoing (g.W.Write.contents (inner_of c.add_bytes.new.writer)) c.add_bytes.new.text.items)
    (has_failed c.add_bytes.new.writer) c.in_err-add_bytes.field-0.0 c.from_residual.result c.from_residual.ensures.1
    c.in_err-add_bytes.ensures)

pub returns : goal.returns
returns g c =
    let made : c.head_of-head.result ≡ head (length c.args.bytes.now / 8) = c.head_of-head.ensures in
    subst (λ (t : List ℕ). AddsText t (outgoing (g.W.Write.contents (inner_of c.args.writer.now)) c.args.text.now.items)
    (outgoing (g.W.Write.contents (inner_of c.add_bytes-2.new.writer)) c.add_bytes-2.new.text.items)
    (has_failed c.add_bytes-2.new.writer) c.add_bytes-2.result) (whole c.head_of-head.result c.args.bytes.now made)
    (both_added c.head_of-head.result c.args.bytes.now
    (outgoing (g.W.Write.contents (inner_of c.args.writer.now)) c.args.text.now.items)
    (outgoing (g.W.Write.contents (inner_of c.add_bytes.new.writer)) c.add_bytes.new.text.items)
    (outgoing (g.W.Write.contents (inner_of c.add_bytes-2.new.writer)) c.add_bytes-2.new.text.items)
    (has_failed c.add_bytes-2.new.writer) c.add_bytes-2.result c.in_ok-add_bytes.ensures.0 c.add_bytes-2.ensures)
