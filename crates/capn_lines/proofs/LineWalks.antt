-- A line that grows word by word.
use Rattle.std.proofs.Common.{◌≡◌, ℕ, ◌+◌, ◌-◌, ◌==◌, ◌<◌, ◌≤◌, Bool, true, false, not, List, length, ap, ap₂}
use Rattle.std.proofs.Common.{sym, ◌∙◌, zero-add, arith}
use Rattle.capn_words.specs.Message.{segment_at, word_at}
use Rattle.capn_words.specs.declared.space.Place.{Place}
use Rattle.capn_cover.specs.declared.covered.Covered.{Covered}
use Rattle.capn_lines.specs.Sums.{one_if, sum_to}
use Rattle.capn_lines.specs.Lines.{begins, behind, covered_at, followers, is_alike, kind_at, line_at, line_of}
use Rattle.capn_lines.specs.declared.kind.Kind.{Kind}
use Rattle.capn_lines.specs.declared.line.Line.{Line}
use Rattle.capn_lines.proofs.Sums.{one-small, sum-most, sum-next}
use Rattle.capn_lines.proofs.shared.Lines.{begins-behind, followers-more, followers-none}

module _ (m : List (List ℕ)) (ws : List Covered) (at : Place) where
  -- a line of which two sums are not known yet
  abbrev with_sums : (n cut not_zero : ℕ) → Line
  with_sums n cut not_zero = record {
    place = at;
    words = n;
    times = (covered_at m ws at).times;
    kind = kind_at m ws at;
    slot = (covered_at m ws at).slot;
    cut = cut;
    not_zero = not_zero;
    overlap = (covered_at m ws at).overlap;
  }

  first-sum : (f : Place → ℕ) → f at ≡ sum_to (λ k. f (behind at k)) 1
  first-sum f = let e : at.word + 0 ≡ at.word = omega arith in rw e (sym (zero-add (f at)))

  -- the line of its first word
  pub first : (word : ℕ) (kind : Kind) (covered : Covered) → word ≡ word_at m at → kind ≡ kind_at m ws at
      → covered ≡ covered_at m ws at
      → (line : Line)
      → line ≡ (record {
        place = at;
        words = 1;
        times = covered.times;
        kind = kind;
        slot = covered.slot;
        cut = one_if covered.cut;
        not_zero = one_if (not (word == 0));
        overlap = covered.overlap;
      })
      → line ≡ line_of m ws at (at.word + 1 - at.word)
  first word kind covered a b c line e =
      let n : at.word + 1 - at.word ≡ 1 = omega arith in
      let x = rw (a, b, c) at e in
      rw n (x ∙ ap₂ (with_sums 1) (first-sum (λ p. one_if (covered_at m ws p).cut))
      (first-sum (λ p. one_if (not (word_at m p == 0)))))

  -- the line of one word more
  pub longer : (w word : ℕ) (covered : Covered) → at.word < w
      → word ≡ word_at m (record { segment = at.segment; word = w })
      → covered ≡ covered_at m ws (record { segment = at.segment; word = w })
      → (line : Line) → line ≡ line_of m ws at (w - at.word)
      → (new : Line)
      → new ≡ (record line {
        words = line.words + 1;
        cut = line.cut + one_if covered.cut;
        not_zero = line.not_zero + one_if (not (word == 0));
      })
      → new ≡ line_of m ws at (w + 1 - at.word)
  longer w word covered h a b line l new e =
      let n : w + 1 - at.word ≡ w - at.word + 1 = omega arith in
      let k : at.word + (w - at.word) ≡ w = omega arith in
      let a' : word ≡ word_at m (behind at (w - at.word)) = rw k a in
      let b' : covered ≡ covered_at m ws (behind at (w - at.word)) = rw k b in
      let x = rw (l, a', b') at e in
      let f : ℕ → ℕ = λ i. one_if (covered_at m ws (behind at i)).cut in
      let g : ℕ → ℕ = λ i. one_if (not (word_at m (behind at i) == 0)) in
      rw n (x ∙ ap₂ (with_sums (w - at.word + 1)) (sym (sum-next f (w - at.word))) (sym (sum-next g (w - at.word))))

  -- whether a line begins, by what was seen of the word and of the word before it
  pub begins-by : (w : ℕ) (b : Bool) (kind next : Kind) (covered other : Covered) → 0 < w
      → b ≡ is_alike kind covered next other
      → kind ≡ kind_at m ws (record { segment = at.segment; word = w - 1 })
      → covered ≡ covered_at m ws (record { segment = at.segment; word = w - 1 })
      → next ≡ kind_at m ws (record { segment = at.segment; word = w })
      → other ≡ covered_at m ws (record { segment = at.segment; word = w })
      → begins m ws at.segment w ≡ not b
  begins-by w b kind next covered other h e a c d f =
      let x = rw (a, c, d, f) at e in
      begins-behind m ws at.segment w h ∙ ap not (sym x)

  -- the words that come before the next line, of which some are known
  abbrev size : ℕ
  size = length (segment_at m at.segment)

  abbrev Rest : (w : ℕ) → Type 0
  Rest w =
      followers m ws at.segment (at.word + 1) (size - (at.word + 1))
      ≡ (w - (at.word + 1)) + followers m ws at.segment w (size - w)

  pub rest-first : Rest (at.word + 1)
  rest-first = omega arith

  pub rest-more : (w : ℕ) → at.word < w → w < size → begins m ws at.segment w ≡ false → Rest w → Rest (w + 1)
  rest-more w h l e r =
      let a = followers-more m ws at.segment w (size - w) (omega arith) e in
      let x : size - w - 1 ≡ size - (w + 1) = omega arith in
      let b = rw x at a in
      omega arith

  pub rest-stop : (w : ℕ) → at.word < w → begins m ws at.segment w ≡ true → Rest w
      → line_of m ws at (w - at.word) ≡ line_at m ws at
  rest-stop w h e r =
      let a = followers-none m ws at.segment w (size - w) e in
      let k : w - at.word ≡ 1 + followers m ws at.segment (at.word + 1) (size - (at.word + 1)) = omega arith in
      ap (line_of m ws at) k

  -- the sums of a line are at most its words
  pub cut-few : (n : ℕ) → (line_of m ws at n).cut ≤ (line_of m ws at n).words
  cut-few n =
      sum-most (λ k. one_if (covered_at m ws (behind at k)).cut) n (λ k. one-small (covered_at m ws (behind at k)).cut)

  pub not-zero-few : (n : ℕ) → (line_of m ws at n).not_zero ≤ (line_of m ws at n).words
  not-zero-few n =
      sum-most (λ k. one_if (not (word_at m (behind at k) == 0))) n
      (λ k. one-small (not (word_at m (behind at k) == 0)))
