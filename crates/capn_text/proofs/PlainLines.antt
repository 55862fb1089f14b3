-- Lemmas for `plain_form.rt`: the lines of a list of bytes, written step by step, and the end of a line, found byte by
-- byte.
use Rattle.std.proofs.Common.{◌≡◌, ℕ, ◌+◌, ◌*◌, ◌<◌, ◌==◌, cond, Bool, List, [], ◌∷◌, ◌++◌, length, take}
use Rattle.std.proofs.Common.{get_or, codes, replicate, sym, ap, refl, ◌∙◌, append_assoc, arith}
use Rattle.std.specs.Prelude.{slice_index}
use Rattle.std.specs.Fmt.{decimal}
use Rattle.std.proofs.lemmas.Bool.{ne_eqb}
use Rattle.std.proofs.lemmas.List.{replicate-append-replicate, take_more}
use Rattle.hex.specs.Hex.{encode_lower}
use Rattle.capn_value.specs.Text.{line}
use Rattle.capn_show.specs.Quoting.{plain_bytes}
use Rattle.capn_text.specs.Streams.{ended_lines}
use Rattle.capn_text.specs.PlainForm.{plain_line, plain}
use Rattle.capn_text.proofs.LineCounts.{lines_append}
use Rattle.capn_text.proofs.TokenText.{encode_none, encode_more}
use Rattle.capn_text.proofs.PlainTexts.{plain_split, plain_last}

pub ruleset digits = (encode_none, encode_more)

pub indented_more : (o out more : List ℕ) (i : ℕ) → out ≡ o ++ replicate (2 * i) 32 → more ≡ out ++ 32 ∷ 32 ∷ []
    → more ≡ o ++ replicate (2 * (i + 1)) 32
indented_more o out more i so_far e =
    let next : 2 * i + 2 ≡ 2 * (i + 1) = omega arith in
    e ∙ ap (λ (l : List ℕ). l ++ 32 ∷ 32 ∷ []) so_far ∙ append_assoc o (replicate (2 * i) 32) (32 ∷ 32 ∷ [])
    ∙ ap (λ (l : List ℕ). o ++ l) (replicate-append-replicate (2 * i) 2 32) ∙ ap (λ n. o ++ replicate n 32) next

pub indented : (o out : List ℕ) (i level : ℕ) → i ≡ level → out ≡ o ++ replicate (2 * i) 32
    → out ≡ o ++ replicate (2 * level) 32
indented o out i level e so_far = so_far ∙ ap (λ n. o ++ replicate (2 * n) 32) e

pub bytes_lines : (o : List ℕ) (level : ℕ) (xs : List ℕ) → 0 < length xs
    → (((((o ++ replicate (2 * level) 32) ++ codes "bytes ") ++ (decimal (length xs) ++ 10 ∷ []))
    ++ replicate (2 * (level + 1)) 32) ++ encode_lower xs) ++ 10 ∷ [] ≡ o ++ plain_bytes level xs
unfolding line
bytes_lines o level [] some = absurd (omega arith)
bytes_lines o level (x ∷ xs) some =
    joined o (replicate (2 * level) 32) (codes "bytes ") (decimal (length (x ∷ xs)) ++ 10 ∷ [])
    (replicate (2 * (level + 1)) 32) (encode_lower (x ∷ xs)) (10 ∷ []) where
      joined : (o a b c d e f : List ℕ)
          → (((((o ++ a) ++ b) ++ c) ++ d) ++ e) ++ f ≡ o ++ ((a ++ (b ++ c)) ++ (d ++ (e ++ f)))
      joined o a b c d e f = simp append_assoc refl

-- If no line ends in the first `i` bytes, and byte `i` is not a newline, no line ends in the first `i + 1` bytes.
pub quiet_more : (t : List ℕ) (i : ℕ) → i < length t → (slice_index t i ≡ 10 → ⊥) → ended_lines (take i t) ≡ 0
    → ended_lines (take (i + 1) t) ≡ 0
quiet_more t i below other so_far =
    let more = ap ended_lines (take_more t i 0 below) in
    let both = lines_append (take i t) (get_or t i 0 ∷ []) in
    let one : ◌≡◌ {A = ℕ} (cond (get_or t i 0 == 10) 1 0) 0 =
    ap (λ (b : Bool). cond {A = ℕ} b 1 0) (ne_eqb (get_or t i 0) 10 other) in
    omega arith

pub line_more : (out more text rest front after : List ℕ) → out ++ plain rest ≡ plain text
    → rest ≡ front ++ 10 ∷ after → ended_lines front ≡ 0 → more ≡ out ++ plain_line front
    → more ++ plain after ≡ plain text
line_more out more text rest front after so_far is quiet e =
    ap (λ (l : List ℕ). l ++ plain after) e ∙ append_assoc out (plain_line front) (plain after)
    ∙ ap (λ (l : List ℕ). out ++ l) (sym (ap plain is ∙ plain_split [] front after quiet)) ∙ so_far

pub line_last : (out more text rest : List ℕ) → out ++ plain rest ≡ plain text → ended_lines rest ≡ 0
    → more ≡ out ++ rest → more ≡ plain text
line_last out more text rest so_far quiet e =
    e ∙ ap (λ (l : List ℕ). out ++ l) (sym (plain_last [] rest quiet)) ∙ so_far
