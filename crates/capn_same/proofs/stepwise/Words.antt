-- Two lists of words are the same exactly if they are equal up to the end of the shorter list, and the remaining words
-- of the longer list are zero. (For `are_same`.)
use Rattle.std.proofs.Common.{◌≡◌, ◌⊎◌, inl, inr, ℕ, ◌+◌, ◌-◌, ◌<◌, ◌≤◌, min, List, length, take, drop, slice_index}
use Rattle.std.proofs.Common.{ap, sym, ◌∙◌, arith}
use Rattle.std.proofs.lemmas.Bool.{cases_lt}
use Rattle.std.proofs.lemmas.List.{get_or-take, get_or-drop, get_or_past}
use Rattle.capn_value.specs.Same.{SameWords}
use Rattle.capn_same.specs.inner.Runs.{AreEqual, AreZeros}

pub word-in : (xs ws : List ℕ) (w i : ℕ) → take (length ws) (drop w xs) ≡ ws → i < length ws
    → slice_index ws i ≡ slice_index xs (w + i)
word-in xs ws w i e lt =
    ap (λ (l : List ℕ). slice_index l i) (sym e) ∙ get_or-take (length ws) (drop w xs) i 0 lt ∙ get_or-drop w xs i 0

zero-past : (xs ws : List ℕ) (w n s i : ℕ) → take (length ws) (drop w xs) ≡ ws → length ws ≡ n → s ≤ i
    → AreZeros xs (w + s) (n - s) → slice_index ws i ≡ 0
zero-past xs ws w n s i own l le z = by (cases_lt i n)
  where
    by : (i < n) ⊎ (n ≤ i) → slice_index ws i ≡ 0
    by (inl lt) =
        let e : w + s + (i - s) ≡ w + i = omega arith in
        word-in xs ws w i own (omega arith) ∙ ap (slice_index xs) (sym e) ∙ z (i - s) (omega arith)
    by (inr past) = get_or_past ws i 0 (omega arith)

module _ (xs ys ws vs : List ℕ) (w v n k s : ℕ) (own : take (length ws) (drop w xs) ≡ ws)
    (other : take (length vs) (drop v ys) ≡ vs) (en : length ws ≡ n) (ek : length vs ≡ k) (es : s ≡ min n k) where
  -- the words `ws` and `vs` are the same if their first `s` words are equal and all their remaining words are zero
  pub same-of_parts : AreEqual xs w ys v s → AreZeros xs (w + s) (n - s) → AreZeros ys (v + s) (k - s) → SameWords ws vs
  same-of_parts eq za zb i = by (cases_lt i s)
    where
      by : (i < s) ⊎ (s ≤ i) → slice_index ws i ≡ slice_index vs i
      by (inl lt) =
          word-in xs ws w i own (omega arith) ∙ eq i lt ∙ sym (word-in ys vs v i other (omega arith))
      by (inr le) = zero-past xs ws w n s i own en le za ∙ sym (zero-past ys vs v k s i other ek le zb)

  pub equal-of_same : SameWords ws vs → AreEqual xs w ys v s
  equal-of_same h i lt =
      sym (word-in xs ws w i own (omega arith)) ∙ h i ∙ word-in ys vs v i other (omega arith)

  pub left-of_same : SameWords ws vs → AreZeros xs (w + s) (n - s)
  left-of_same h i lt =
      let e : w + s + i ≡ w + (s + i) = omega arith in
      ap (slice_index xs) e ∙ sym (word-in xs ws w (s + i) own (omega arith)) ∙ h (s + i)
      ∙ get_or_past vs (s + i) 0 (omega arith)

  pub right-of_same : SameWords ws vs → AreZeros ys (v + s) (k - s)
  right-of_same h i lt =
      let e : v + s + i ≡ v + (s + i) = omega arith in
      ap (slice_index ys) e ∙ sym (word-in ys vs v (s + i) other (omega arith)) ∙ sym (h (s + i))
      ∙ get_or_past ws (s + i) 0 (omega arith)
