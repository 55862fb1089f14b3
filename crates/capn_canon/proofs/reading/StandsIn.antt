-- Lemmas on `Has`: words that are in a longer list of words. (For `LaidPointers` and `ReadBack`.)
use Rattle.std.proofs.Common.{◌≡◌, ℕ, ◌+◌, ◌≤◌, List, ◌∷◌, ◌++◌, length, take, drop, slice_index, ap, sym, ◌∙◌, arith}
use Rattle.std.proofs.Common.{length-append, append_assoc}
use Rattle.std.proofs.lemmas.List.{drop_at, get_or-drop}
use Rattle.std.proofs.Math.Seq.{take-append_seam}

-- The words `xs` are in `ws`, from the word `at` on.
pub record Has (ws : List ℕ) (at : ℕ) (xs : List ℕ) : Type 0 where
  pub before : List ℕ
  pub behind : List ℕ
  pub is : ws ≡ before ++ (xs ++ behind)
  pub where_at : length before ≡ at

module _ (ws : List ℕ) (at : ℕ) where
  pub has-front : (xs ys : List ℕ) → Has ws at (xs ++ ys) → Has ws at xs
  has-front xs ys h = record {
    before = h.before;
    behind = ys ++ h.behind;
    is = h.is ∙ ap (λ (r : List ℕ). h.before ++ r) (append_assoc xs ys h.behind);
    where_at = h.where_at;
  }

  pub has-back : (xs ys : List ℕ) → Has ws at (xs ++ ys) → Has ws (at + length xs) ys
  has-back xs ys h = record {
    before = h.before ++ xs;
    behind = h.behind;
    is = h.is ∙ ap (λ (r : List ℕ). h.before ++ r) (append_assoc xs ys h.behind)
        ∙ sym (append_assoc h.before xs (ys ++ h.behind));
    where_at = let e = length-append h.before xs in let f = h.where_at in omega arith;
  }

  pub has-room : (xs : List ℕ) → Has ws at xs → at + length xs ≤ length ws
  has-room xs h =
      let a = ap length h.is in
      let b = length-append h.before (xs ++ h.behind) in
      let c = length-append xs h.behind in
      let d = h.where_at in
      omega arith

  -- The words of `ws` from `at` on begin with `xs`.
  pub has-from : (xs : List ℕ) → (h : Has ws at xs) → drop at ws ≡ xs ++ h.behind
  has-from xs h = ap (drop at) h.is ∙ drop_at h.before (xs ++ h.behind) at h.where_at

  pub has-words : (xs : List ℕ) → Has ws at xs → take (length xs) (drop at ws) ≡ xs
  has-words xs h = ap (take (length xs)) (has-from xs h) ∙ take-append_seam xs h.behind

  pub has-word : (x : ℕ) (xs : List ℕ) → Has ws at (x ∷ xs) → slice_index ws at ≡ x
  has-word x xs h =
      let e : at + 0 ≡ at = omega arith in
      let a = get_or-drop at ws 0 0 in
      let b = rw e at a in
      sym b ∙ ap (λ (r : List ℕ). slice_index r 0) (has-from (x ∷ xs) h)
