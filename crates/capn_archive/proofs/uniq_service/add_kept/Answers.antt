use Rattle.std.proofs.Common.{◌≡◌, List, ℕ, Bool, true, false, refl, subst}
use Rattle.capn_words.specs.Watched.{inner_of, has_failed}
use Rattle.capn_serve.specs.Outgoing.{outgoing}
use Rattle.capn_archive.specs.CanonicalFrame.{AddsText}
use Rattle.capn_archive.specs.UniqMessages.{kept_text}
use Rattle.capn_archive.proofs.FramesAdded.{text_added}
use Rattle.capn_archive.proofs.uniq_service.add_kept.Goals as goal

whole : (count is_duplicate : Bool) (frame : List ℕ) → count ≡ false → is_duplicate ≡ false
    → frame ≡ kept_text count is_duplicate frame
whole true is_duplicate frame e d = absurd (cc)
whole false true frame e d = absurd (cc)
whole false false frame e d = refl

pub returns : goal.returns
returns g c =
    subst (λ (t : List ℕ). AddsText t (outgoing (g.W.Write.contents (inner_of c.args.writer.now)) c.args.text.now.items)
    (outgoing (g.W.Write.contents (inner_of c.add_bytes.new.writer)) c.add_bytes.new.text.items)
    (has_failed c.add_bytes.new.writer) c.add_bytes.result)
    (whole c.args.count c.args.is_duplicate c.args.frame.now c.if-count.false c.if-is_duplicate.false)
    (text_added c.args.frame.now (outgoing (g.W.Write.contents (inner_of c.args.writer.now)) c.args.text.now.items)
    (outgoing (g.W.Write.contents (inner_of c.add_bytes.new.writer)) c.add_bytes.new.text.items)
    (has_failed c.add_bytes.new.writer) c.add_bytes.result c.add_bytes.ensures)
