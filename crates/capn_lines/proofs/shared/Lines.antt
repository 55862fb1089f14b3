-- Lemmas for `line_at` and for crates that make all lines of a message: how far a line goes, and the lines from a word
-- on.
use Rattle.std.proofs.Common.{◌≡◌, ℕ, zero, suc, ◌+◌, ◌-◌, ◌<◌, ◌≤◌, Bool, true, false, not, List, ◌∷◌}
use Rattle.std.proofs.Common.{length, refl, ap, ap₂, ◌∙◌, subst, arith}
use Rattle.capn_words.specs.Message.{segment_at}
use Rattle.capn_words.specs.declared.space.Place.{Place}
use Rattle.capn_cover.specs.declared.covered.Covered.{Covered}
use Rattle.capn_lines.specs.Lines.{are_alike, begins, followers, line_at, lines_from}
use Rattle.capn_lines.specs.declared.line.Line.{Line}

module _ (m : List (List ℕ)) (ws : List Covered) where
  pub begins-behind : (s w : ℕ) → 0 < w
      → begins m ws s w
      ≡ not (are_alike m ws (record { segment = s; word = w - 1 }) (record { segment = s; word = w }))
  begins-behind s zero h = absurd (omega arith)
  begins-behind s (suc w) h = let e : suc w - 1 ≡ w = omega arith in rw e refl

  -- no word comes before a line that begins at once
  pub followers-none : (s w n : ℕ) → begins m ws s w ≡ true → followers m ws s w n ≡ 0
  followers-none s w zero e = refl
  followers-none s w (suc n) e = rw e refl

  -- a word that begins no line, and the words behind it
  pub followers-more : (s w n : ℕ) → 0 < n → begins m ws s w ≡ false
      → followers m ws s w n ≡ 1 + followers m ws s (w + 1) (n - 1)
  followers-more s w zero h e = absurd (omega arith)
  followers-more s w (suc n) h e =
      let a : suc n - 1 ≡ n = omega arith in
      let b : w + 1 ≡ suc w = omega arith in
      rw (a, b, e) refl

  followers-few-at : (s w n : ℕ) (b : Bool) → begins m ws s w ≡ b → followers m ws s (suc w) n ≤ n
      → followers m ws s w (suc n) ≤ suc n
  followers-few-at s w n true e h = let a = followers-none s w (suc n) e in omega arith
  followers-few-at s w n false e h =
      let a = followers-more s w (suc n) (omega arith) e in
      let x : w + 1 ≡ suc w = omega arith in
      let y : suc n - 1 ≡ n = omega arith in
      let c = rw (x, y) at a in
      omega arith

  pub followers-few : (s w n : ℕ) → followers m ws s w n ≤ n
  followers-few s w zero = omega arith
  followers-few s w (suc n) = followers-few-at s w n (begins m ws s w) refl (followers-few s (suc w) n)

  stop-at : (s w n : ℕ) (b : Bool) → begins m ws s w ≡ b
      → (followers m ws s (suc w) n < n → begins m ws s (suc w + followers m ws s (suc w) n) ≡ true)
      → followers m ws s w (suc n) < suc n → begins m ws s (w + followers m ws s w (suc n)) ≡ true
  stop-at s w n true e k h =
      let a = followers-none s w (suc n) e in
      let x : w + 0 ≡ w = omega arith in
      rw (a, x) e
  stop-at s w n false e k h =
      let a = followers-more s w (suc n) (omega arith) e in
      let x : w + 1 ≡ suc w = omega arith in
      let y : suc n - 1 ≡ n = omega arith in
      let c = rw (x, y) at a in
      let z : w + (1 + followers m ws s (suc w) n) ≡ suc w + followers m ws s (suc w) n = omega arith in
      rw (c, z) (k (omega arith))

  -- a line begins behind the words that come before it
  pub followers-stop : (s w n : ℕ) → followers m ws s w n < n → begins m ws s (w + followers m ws s w n) ≡ true
  followers-stop s w zero h = absurd (omega arith)
  followers-stop s w (suc n) h =
      stop-at s w n (begins m ws s w) refl (followers-stop s (suc w) n) h

  -- the next line begins where a line ends
  pub line-next : (at : Place) → at.word + (line_at m ws at).words < length (segment_at m at.segment)
      → begins m ws at.segment (at.word + (line_at m ws at).words) ≡ true
  line-next at h =
      let n = length (segment_at m at.segment) - (at.word + 1) in
      let k = followers m ws at.segment (at.word + 1) n in
      let x : at.word + 1 + k ≡ at.word + (1 + k) = omega arith in
      subst (λ (w : ℕ). begins m ws at.segment w ≡ true) x
      (followers-stop at.segment (at.word + 1) n (omega arith))

  -- the lines from a word at which no line begins on
  skip-at : (s w n : ℕ) (b : Bool) → begins m ws s w ≡ b
      → lines_from m ws s (suc w) n
      ≡ lines_from m ws s (suc w + followers m ws s (suc w) n) (n - followers m ws s (suc w) n)
      → lines_from m ws s w (suc n)
      ≡ lines_from m ws s (w + followers m ws s w (suc n)) (suc n - followers m ws s w (suc n))
  skip-at s w n true e k =
      let a = followers-none s w (suc n) e in
      let x : w + 0 ≡ w = omega arith in
      let y : suc n - 0 ≡ suc n = omega arith in
      rw (a, x, y) refl
  skip-at s w n false e k =
      let a = followers-more s w (suc n) (omega arith) e in
      let x : w + 1 ≡ suc w = omega arith in
      let y : suc n - 1 ≡ n = omega arith in
      let c = rw (x, y) at a in
      let z : w + (1 + followers m ws s (suc w) n) ≡ suc w + followers m ws s (suc w) n = omega arith in
      let v : suc n - (1 + followers m ws s (suc w) n) ≡ n - followers m ws s (suc w) n = omega arith in
      rw (c, z, v, ← k, e) refl

  pub lines-skip : (s w n : ℕ)
      → lines_from m ws s w n ≡ lines_from m ws s (w + followers m ws s w n) (n - followers m ws s w n)
  lines-skip s w zero = refl
  lines-skip s w (suc n) = skip-at s w n (begins m ws s w) refl (lines-skip s (suc w) n)

  -- the lines from a word at which a line begins on: this line, and the lines from its end on
  pub lines-more : (s w n : ℕ) → w + suc n ≡ length (segment_at m s) → begins m ws s w ≡ true
      → lines_from m ws s w (suc n)
      ≡ line_at m ws (record { segment = s; word = w })
      ∷ lines_from m ws s (w + (line_at m ws (record { segment = s; word = w })).words)
      (suc n - (line_at m ws (record { segment = s; word = w })).words)
  lines-more s w n l e =
      let p : Place = record { segment = s; word = w } in
      let k = followers m ws s (suc w) n in
      let a : w + 1 ≡ suc w = omega arith in
      let b : length (segment_at m s) - suc w ≡ n = omega arith in
      let c : (line_at m ws p).words ≡ 1 + k = rw (a, b) refl in
      let x : suc w + k ≡ w + (line_at m ws p).words = omega arith in
      let y : n - k ≡ suc n - (line_at m ws p).words = omega arith in
      let first : lines_from m ws s w (suc n) ≡ line_at m ws p ∷ lines_from m ws s (suc w) n = rw e refl in
      first
      ∙ ap (λ (ls : List Line). line_at m ws p ∷ ls) (lines-skip s (suc w) n ∙ ap₂ (lines_from m ws s) x y)
