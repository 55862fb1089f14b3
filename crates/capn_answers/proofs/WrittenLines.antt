-- The lines of a segment and of a message, written one by one. (For `put_segment` and `put_lines`.)
use Rattle.std.proofs.Common.{◌≡◌, ℕ, zero, suc, ◌+◌, ◌-◌, ◌<◌, ◌≤◌, Bool, true, List, [], ◌∷◌, ◌++◌, length, set}
use Rattle.std.proofs.Common.{take, ◌^◌, refl, ap, ap₂, sym, subst, ◌∙◌, arith}
use Rattle.std.proofs.lemmas.List.{length-append}
use Rattle.std.proofs.lemmas.List.Sums.{sum_by_more, sum_by_more_le}
use Rattle.capn_words.specs.Message.{segment_at, total, IsMessage}
use Rattle.capn_words.specs.declared.space.Place.{Place}
use Rattle.capn_cover.specs.Numbers.{number}
use Rattle.capn_cover.specs.declared.covered.Covered.{Covered}
use Rattle.capn_lines.specs.Lines.{begins, line_at, lines_before, lines_from, segment_lines}
use Rattle.capn_lines.specs.declared.line.Line.{Line}
use Rattle.capn_lines.proofs.shared.Lines.{lines-more}
use Rattle.capn_answers.specs.LineRecords.{c_line}
use Rattle.capn_answers.specs.declared.line_record.CapnLine.{CapnLine}
use Rattle.capn_answers.specs.inner.Filled.{written_from}
use Rattle.capn_answers.proofs.Filled.{written-append}

-- an item past the end is not written
pub set-past : (xs : List CapnLine) (i : ℕ) (x : CapnLine) → length xs ≤ i → set xs i x ≡ xs
set-past [] i x h = refl
set-past (y ∷ xs) zero x h = absurd (omega arith)
set-past (y ∷ xs) (suc i) x h = ap (λ (l : List CapnLine). y ∷ l) (set-past xs i x (omega arith))

module _ (m : List (List ℕ)) (words : List Covered) (s : ℕ) where
  -- the lines of the segment from word `w` on
  abbrev pub rest_of : ℕ → List Line
  rest_of w = lines_from m words s w (length (segment_at m s) - w)

  pub none-left : (w : ℕ) → length (segment_at m s) ≤ w → rest_of w ≡ []
  none-left w h = let z : length (segment_at m s) - w ≡ 0 = omega arith in rw z refl

  pub whole : rest_of 0 ≡ segment_lines m words s
  whole = let z : length (segment_at m s) - 0 ≡ length (segment_at m s) = omega arith in rw z refl

  one-more : (w : ℕ) → w < length (segment_at m s) → begins m words s w ≡ true
      → rest_of w
      ≡ line_at m words (record { segment = s; word = w })
      ∷ rest_of (w + (line_at m words (record { segment = s; word = w })).words)
  one-more w h e =
      let n = length (segment_at m s) - w - 1 in
      let k : Line = line_at m words (record { segment = s; word = w }) in
      let a : length (segment_at m s) - w ≡ suc n = omega arith in
      let b : suc n - k.words ≡ length (segment_at m s) - (w + k.words) = omega arith in
      let x = lines-more m words s w n (omega arith) e in
      let y = rw b at x in
      rw a y

  -- from a word on at which a line begins: this line, and the lines behind it
  pub more : (w : ℕ) (line : Line) → line ≡ line_at m words (record { segment = s; word = w })
      → w < length (segment_at m s) → begins m words s w ≡ true → rest_of w ≡ line ∷ rest_of (w + line.words)
  more w line is h e =
      subst (λ (l : Line). rest_of w ≡ l ∷ rest_of (w + l.words)) (sym is) (one-more w h e)

module _ (table : ℕ) (m : List (List ℕ)) (words : List Covered) where
  -- the items after the lines of the first `n` segments are written
  abbrev pub written_before : (n : ℕ) → List CapnLine → List CapnLine
  written_before n out = written_from table m 0 (lines_before m words n) out

  -- one line more is written
  pub line-written : (next : ℕ) (line : Line) (before rest : List Line) (out new : List CapnLine)
      → before ≡ line ∷ rest → set out next (c_line table m line) ≡ new
      → written_from table m (next + 1) rest new ≡ written_from table m next before out
  line-written next line before rest out new is one =
      let e : next + 1 ≡ suc next = omega arith in
      ap₂ (λ (n : ℕ) (xs : List CapnLine). written_from table m n rest xs) e (sym one)
      ∙ ap (λ (ls : List Line). written_from table m next ls out) (sym is)

  pub segment-counted : (n : ℕ)
      → length (lines_before m words (n + 1)) ≡ length (lines_before m words n) + length (segment_lines m words n)
  segment-counted n =
      let e : n + 1 ≡ suc n = omega arith in
      rw e (length-append (lines_before m words n) (segment_lines m words n))

  pub segment-written : (n : ℕ) (out : List CapnLine)
      → written_before (n + 1) out
      ≡ written_from table m (length (lines_before m words n)) (segment_lines m words n) (written_before n out)
  segment-written n out =
      let e : n + 1 ≡ suc n = omega arith in
      let z : 0 + length (lines_before m words n) ≡ length (lines_before m words n) = omega arith in
      let a = written-append table m 0 (lines_before m words n) (segment_lines m words n) out in
      let b = rw z at a in
      rw e b

-- the number of the words of the segments before a segment, with those of the segment
pub number-next : (m : List (List ℕ)) (s : ℕ) → s < length m
    → number m (record { segment = s + 1; word = 0 })
    ≡ number m (record { segment = s; word = length (segment_at m s) })
number-next m s l = let a = sum_by_more length m s [] l in omega arith

-- the words up to the end of a segment are no more than a message may have
pub number-room : (m : List (List ℕ)) (s w : ℕ) → IsMessage m → s < length m → w < length (segment_at m s)
    → number m (record { segment = s; word = w }) + 1 ≤ 2 ^ 28 + 1
number-room m s w is l h = let a = sum_by_more_le length m s [] l in let b = is.room in omega arith
