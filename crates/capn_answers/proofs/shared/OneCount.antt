-- Bytes in a form have one number of lines. (For capn_c.)
use Rattle.std.proofs.Common.{◌≡◌, ◌<◌, ℕ, List, length, slice_index_or, ap, sym, subst, ◌∙◌, arith}
use Rattle.std.proofs.lemmas.List.{ext_get_or}
use Rattle.capn_walk.specs.Limits.{Bounds}
use Rattle.capn_canon.specs.declared.form.Form.{Form}
use Rattle.capn_canon.proofs.shared.OneReading.{one_message}
use Rattle.capn_cover.specs.Cover.{IsCover}
use Rattle.capn_cover.specs.Covers.{unreached}
use Rattle.capn_cover.specs.declared.covered.Covered.{Covered}
use Rattle.capn_lines.specs.Lines.{lines_of}
use Rattle.capn_answers.specs.Annotated.{HasLinesIn}

-- a message has one cover
pub one_cover : (m : List (List ℕ)) (limits : Bounds) (ws vs : List Covered) → IsCover m limits ws
    → IsCover m limits vs → ws ≡ vs
one_cover m limits ws vs h k =
    let n = h.each in
    ext_get_or unreached ws vs (h.each ∙ sym k.each)
    (λ i l. h.is i (omega (arith, l, n)) ∙ sym (k.is i (omega (arith, l, n))))

pub one_count : (form : Form) (bs : List ℕ) (limits : Bounds) (j k : ℕ) → HasLinesIn form bs limits j
    → HasLinesIn form bs limits k → j ≡ k
one_count form bs limits j k a b =
    let same = one_message form bs limits.message_words a.message b.message a.reads b.reads in
    let cover = subst (λ (m : List (List ℕ)). IsCover m limits a.words) same a.cover in
    let words = one_cover b.message limits a.words b.words cover b.cover in
    a.each ∙ ap (λ (m : List (List ℕ)). length (lines_of m a.words)) same
    ∙ ap (λ (ws : List Covered). length (lines_of b.message ws)) words ∙ sym b.each
