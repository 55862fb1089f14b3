-- Lemmas on bytes that do not begin with the text and the line `end` of a value. (For `look`, `end_of_one`,
-- `AfterTexts`, `Decided` and others.)
use Rattle.std.proofs.Common.{◌≡◌, inl, inr, ℕ, ◌≤◌, ◌-◌, List, [], ◌∷◌, ◌++◌, length, drop, refl, sym}
use Rattle.std.proofs.Common.{zero, suc, Bool, true, false, cond, ◌*◌, replicate, ap, ap₂, ◌∙◌, append_assoc, arith}
use Rattle.std.proofs.lemmas.Bool.{cases_lt}
use Rattle.std.proofs.lemmas.List.{append-nil, length-append}
use Rattle.capn_value.proofs.shared.Fitting.{fit_parts}
use Rattle.capn_value.specs.Tree.{Tree, nil, node, voids, numbers, links, rows, cap}
use Rattle.capn_value.specs.Text.{line, show_text}
use Rattle.capn_text.specs.Laws.{FittingIsShowable}
use Rattle.capn_text.specs.Streams.{end_line, ended_lines, BeginsAs}
use Rattle.capn_make.specs.MadeInput.{IsStuck, IsUnended}
use Rattle.capn_make.specs.inner.RunParts.{HoldsNoEnd, begins_with, holds_end}
use Rattle.capn_make.proofs.FirstTexts.{lines_append}

pub nothing_unended : IsUnended []
nothing_unended v more shows low e =
    let a = ap length e in
    let b = length-append (show_text v) (end_line ++ more) in
    let c = length-append end_line more in
    let d : length end_line ≡ 4 = refl in
    let z : length {A = ℕ} [] ≡ 0 = refl in
    absurd (omega arith)

pub unended_stuck : FittingIsShowable → (rest : List ℕ) → IsUnended rest → IsStuck rest
unended_stuck shows rest none v more one e =
    none v more (shows v one.fits one.in_range) (fit_parts v one.fits).low e

-- ---- a text has a line

line_some : (level : ℕ) (text : List ℕ) → 1 ≤ ended_lines (line level text)
unfolding line
line_some level text =
    let a = lines_append (replicate (2 * level) 32) (text ++ 10 ∷ []) in
    let b = lines_append text (10 ∷ []) in
    let one : ended_lines (10 ∷ []) ≡ 1 = refl in
    omega arith

first_some : (level : ℕ) (text rest : List ℕ) → 1 ≤ ended_lines (line level text ++ rest)
first_some level text rest =
    let a = lines_append (line level text) rest in
    let b = line_some level text in
    omega arith

pub text_some : (v : Tree) → 1 ≤ ended_lines (show_text v)
text_some nil = line_some 0 _
text_some (node ws ss) = first_some 0 _ _
text_some (voids n) = line_some 0 _
text_some (numbers w xs) = first_some 0 _ _
text_some (links ts) = first_some 0 _ _
text_some (rows bs) = first_some 0 _ _
text_some (cap k) = line_some 0 _

pub begins_none : (rest : List ℕ) → ((v : Tree) → BeginsAs rest v → ⊥) → IsUnended rest
begins_none rest none v more shows low e =
    let some = text_some v in
    none v (shows, show_text v, end_line ++ more, [], e, sym (append-nil (show_text v)), omega arith)

-- ---- more bytes have arrived

pub front_of : (x y a b : List ℕ) → x ++ y ≡ a ++ b → length a ≤ length x → (left : List ℕ) × (x ≡ a ++ left)
front_of x y [] b e short = (x, refl)
front_of [] y (c ∷ a) b e short = absurd (omega arith)
front_of (d ∷ x) y (c ∷ a) b e short =
    let tail : x ++ y ≡ a ++ b = cc in
    let le : length a ≤ length x = omega arith in
    let p = front_of x y a b tail le in
    let same : d ≡ c = cc in
    (p.0, ap₂ (λ h t. h ∷ t) same p.1)

back_of : (n : ℕ) (a b : List ℕ) → n ≤ length a → drop n (a ++ b) ≡ drop n a ++ b
back_of zero a b le = refl
back_of (suc n) [] b le = absurd (omega arith)
back_of (suc n) (c ∷ a) b le = back_of n a b (omega arith)

either : (b t : Bool) → t ≡ true → cond b true t ≡ true
either true t is = refl
either false t is = is

stands_in : (front rest : List ℕ) → holds_end (front ++ (end_line ++ rest)) ≡ true
stands_in [] rest = refl
stands_in (c ∷ front) rest =
    either (begins_with end_line (c ∷ front ++ (end_line ++ rest))) (holds_end (front ++ (end_line ++ rest)))
    (stands_in front rest)

pub no_end : (bytes : List ℕ) → holds_end bytes ≡ false → HoldsNoEnd bytes
no_end bytes none front rest is = let some = ap holds_end is ∙ stands_in front rest in absurd cc

-- `IsUnended` stays true if bytes `more` are added, and no line `end` begins in the last 3 bytes of `rest` or in
-- `more`.
pub unended_on : (rest more : List ℕ) → IsUnended rest → HoldsNoEnd (drop (length rest - 3) (rest ++ more))
    → IsUnended (rest ++ more)
unended_on rest more none no_end v after shows low e =
    let size = length-append (show_text v) end_line in
    let four : length end_line ≡ 4 = refl in
    let parted = sym (append_assoc (show_text v) end_line after) in
    elim (cases_lt (length rest) (length (show_text v ++ end_line))) [
      | inl further ↦
          (let at : length rest - 3 ≤ length (show_text v) = omega arith in
          no_end (drop (length rest - 3) (show_text v)) after
          (ap (drop (length rest - 3)) e ∙ back_of (length rest - 3) (show_text v) (end_line ++ after) at))
      | inr within ↦
          (let p = front_of rest more (show_text v ++ end_line) after (e ∙ parted) (omega arith) in
          none v p.0 shows low (p.1 ∙ append_assoc (show_text v) end_line p.0))
    ]
