-- Lines that are written one after another.
use Rattle.std.proofs.Common.{◌≡◌, ℕ, zero, suc, ◌+◌, ◌≤◌, List, [], ◌∷◌, ◌++◌, length, map, drop, set, refl, ap, ap₂}
use Rattle.std.proofs.Common.{sym, subst, ◌∙◌, arith}
use Rattle.std.proofs.Math.Seq.{set-append_seam}
use Rattle.std.proofs.lemmas.List.{append_assoc, length-append, length-set}
use Rattle.capn_lines.specs.declared.line.Line.{Line}
use Rattle.capn_answers.specs.LineRecords.{c_line}
use Rattle.capn_answers.specs.declared.line_record.CapnLine.{CapnLine}
use Rattle.capn_answers.specs.inner.Filled.{written_from}

module _ (table : ℕ) (m : List (List ℕ)) where
  abbrev told : Line → CapnLine
  told = c_line table m

  -- lines that are written after others
  pub written-append : (first : ℕ) (xs ys : List Line) (out : List CapnLine)
      → written_from table m first (xs ++ ys) out
      ≡ written_from table m (first + length xs) ys (written_from table m first xs out)
  written-append first [] ys out =
      let e : first ≡ first + 0 = omega arith in
      ap (λ (i : ℕ). written_from table m i ys out) e
  written-append first (x ∷ xs) ys out =
      let e : suc first + length xs ≡ first + suc (length xs) = omega arith in
      written-append (suc first) xs ys (set out first (told x))
      ∙ ap (λ (i : ℕ). written_from table m i ys (written_from table m (suc first) xs (set out first (told x)))) e

  pub written-length : (first : ℕ) (ls : List Line) (out : List CapnLine)
      → length (written_from table m first ls out) ≡ length out
  written-length first [] out = refl
  written-length first (l ∷ ls) out =
      written-length (suc first) ls (set out first (told l)) ∙ length-set out first (told l)

  -- lines that fit behind the items before them
  written-behind : (before : List CapnLine) (ls : List Line) (rest : List CapnLine) → length ls ≤ length rest
      → written_from table m (length before) ls (before ++ rest)
      ≡ before ++ (map told ls ++ drop (length ls) rest)
  written-behind before [] rest h = refl
  written-behind before (l ∷ ls) [] h = absurd (omega arith)
  written-behind before (l ∷ ls) (r ∷ rest) h =
      let one : List CapnLine = told l ∷ [] in
      let e : suc (length before) ≡ length (before ++ one) = omega (arith, length-append before one) in
      ap (λ (out : List CapnLine). written_from table m (suc (length before)) ls out)
      (set-append_seam before r rest (told l) ∙ sym (append_assoc before one rest))
      ∙ ap (λ (i : ℕ). written_from table m i ls ((before ++ one) ++ rest)) e
      ∙ written-behind (before ++ one) ls rest (omega arith)
      ∙ append_assoc before one (map told ls ++ drop (length ls) rest)

  -- lines that fit
  pub written-all : (ls : List Line) (out : List CapnLine) → length ls ≤ length out
      → written_from table m 0 ls out ≡ map told ls ++ drop (length ls) out
  written-all ls out h = written-behind [] ls out h
