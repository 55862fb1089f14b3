-- The lines of a segment and of a message, one by one.
use Rattle.std.proofs.Common.{◌≡◌, ℕ, zero, suc, ◌+◌, ◌-◌, ◌<◌, ◌≤◌, true, List, [], ◌++◌, length, refl}
use Rattle.std.proofs.Common.{ap, sym}
use Rattle.std.proofs.Common.{◌∙◌, subst, arith, append-nil, append_assoc, add-one}
use Rattle.std.proofs.lemmas.Grind.{flat_map-append}
use Rattle.capn_words.specs.Message.{segment_at}
use Rattle.capn_cover.specs.declared.covered.Covered.{Covered}
use Rattle.capn_lines.specs.Lines.{begins, line_at, lines_before, lines_from, segment_lines}
use Rattle.capn_lines.specs.declared.line.Line.{Line}
use Rattle.capn_lines.proofs.shared.Lines.{line-next, lines-more}
use Rattle.capn_annotate.specs.LineTexts.{line_text}
use Rattle.capn_annotate.specs.MessageLines.{lines_text}

module _ (m : List (List ℕ)) (words : List Covered) (start levels s : ℕ) where
  -- The texts of the lines of the segment from word `w` on.
  abbrev pub rest_of : ℕ → List ℕ
  rest_of w = lines_text m words start levels (lines_from m words s w (length (segment_at m s) - w))

  -- At the segment's end there are none.
  pub none-left : (w : ℕ) → length (segment_at m s) ≤ w → rest_of w ≡ []
  none-left w h = let z : length (segment_at m s) - w ≡ 0 = omega arith in rw z refl

  more-at : (w n : ℕ) → w + suc n ≡ length (segment_at m s) → begins m words s w ≡ true
      → lines_text m words start levels (lines_from m words s w (suc n))
      ≡ line_text m words start levels (line_at m words (record { segment = s; word = w }))
      ++ lines_text m words start levels
      (lines_from m words s (w + (line_at m words (record { segment = s; word = w })).words)
      (suc n - (line_at m words (record { segment = s; word = w })).words))
  more-at w n l e = ap (lines_text m words start levels) (lines-more m words s w n l e)

  -- From a word on at which a line begins: this line, and the lines behind it.
  pub one-more : (w : ℕ) → w < length (segment_at m s) → begins m words s w ≡ true
      → rest_of w
      ≡ line_text m words start levels (line_at m words (record { segment = s; word = w }))
      ++ rest_of (w + (line_at m words (record { segment = s; word = w })).words)
  one-more w h e =
      let n = length (segment_at m s) - w - 1 in
      let k : Line = line_at m words (record { segment = s; word = w }) in
      let a : length (segment_at m s) - w ≡ suc n = omega arith in
      let b : suc n - k.words ≡ length (segment_at m s) - (w + k.words) = omega arith in
      let x = more-at w n (omega arith) e in
      let y = rw b at x in
      rw a y

  -- The texts up to word `w`, and those from there on, are those of the segment. One line more is read.
  pub step : (w : ℕ) (line : Line) → line ≡ line_at m words (record { segment = s; word = w })
      → w < length (segment_at m s) → begins m words s w ≡ true
      → (done : List ℕ) → done ++ rest_of w ≡ rest_of 0
      → (done ++ line_text m words start levels line) ++ rest_of (w + line.words) ≡ rest_of 0
  step w line is h e done so_far =
      let k : Line = line_at m words (record { segment = s; word = w }) in
      let x : (done ++ line_text m words start levels k) ++ rest_of (w + k.words) ≡ rest_of 0 =
      append_assoc done (line_text m words start levels k) (rest_of (w + k.words))
      ∙ ap (λ (l : List ℕ). done ++ l) (sym (one-more w h e)) ∙ so_far in
      subst (λ (l : Line). (done ++ line_text m words start levels l) ++ rest_of (w + l.words) ≡ rest_of 0) (sym is) x

  -- The next line begins where a line ends.
  pub begins-next : (w : ℕ) (line : Line) → line ≡ line_at m words (record { segment = s; word = w })
      → w + line.words < length (segment_at m s) → begins m words s (w + line.words) ≡ true
  begins-next w line is =
      subst (λ (l : Line). w + l.words < length (segment_at m s) → begins m words s (w + l.words) ≡ true) (sym is)
      (line-next m words (record { segment = s; word = w }))

  pub whole : rest_of 0 ≡ lines_text m words start levels (segment_lines m words s)
  whole = let z : length (segment_at m s) - 0 ≡ length (segment_at m s) = omega arith in rw z refl

  -- At the segment's end, the texts so far are those of the segment.
  pub finished : (w : ℕ) → length (segment_at m s) ≤ w → (done : List ℕ) → done ++ rest_of w ≡ rest_of 0
      → done ≡ lines_text m words start levels (segment_lines m words s)
  finished w h done so_far =
      sym (append-nil done) ∙ ap (λ (l : List ℕ). done ++ l) (sym (none-left w h)) ∙ so_far ∙ whole

module _ (m : List (List ℕ)) (words : List Covered) (start levels : ℕ) where
  -- The texts of the lines of the first `i` segments.
  abbrev pub text_before : ℕ → List ℕ
  text_before i = lines_text m words start levels (lines_before m words i)

  pub segment-more : (i : ℕ) → text_before (i + 1)
      ≡ text_before i ++ lines_text m words start levels (segment_lines m words i)
  segment-more i =
      rw add-one (flat_map-append (line_text m words start levels) (lines_before m words i) (segment_lines m words i))

  -- The lines of the first segments are a beginning of those of more segments.
  more-segments : (i k : ℕ) → (rest : List Line) × (lines_before m words (k + i) ≡ lines_before m words i ++ rest)
  more-segments i zero = let z : 0 + i ≡ i = omega arith in ([], rw z (sym (append-nil (lines_before m words i))))
  more-segments i (suc k) =
      let r = more-segments i k in
      let seg = segment_lines m words (k + i) in
      let z : suc k + i ≡ suc (k + i) = omega arith in (
        r.0 ++ seg,
        rw z (ap (λ (l : List Line). l ++ seg) r.1 ∙ append_assoc (lines_before m words i) r.0 seg),
      )

  pub rest-of-segments : (i n : ℕ) → i ≤ n → (rest : List ℕ) × (text_before n ≡ text_before i ++ rest)
  rest-of-segments i n h =
      let r = more-segments i (n - i) in
      let e : n - i + i ≡ n = omega arith in
      let k = rw e at r.1 in (
        lines_text m words start levels r.0,
        ap (lines_text m words start levels) k
            ∙ flat_map-append (line_text m words start levels) (lines_before m words i) r.0,
      )
