-- Lemmas for `contents.rt`, `leaves.rt` and `tokens.rt`: loops that read one item after another.
use Rattle.std.proofs.Common.{◌≡◌, ℕ, suc, ◌-◌, ◌+◌, ◌≤◌, ◌<◌, List, [], ◌∷◌, ◌++◌, Option, Some, None, refl, sym, ap}
use Rattle.std.proofs.Common.{◌∙◌, append_assoc, arith, codes}
use Rattle.std.proofs.lemmas.List.{append-nil}
use Rattle.capn_text.specs.declared.fault.Stop.{Stop}
use Rattle.capn_text.specs.declared.fault.Stop.TheVariants as stops
use Rattle.capn_text.specs.inner.Tokens.{◌>>=◌, Fails, many, strip, indent_at}

-- The items `front`, followed by the items in `read`, or `None` if `read` is `None`.
abbrev pub with_front : {X : Type 0} → List X → Option (List X × List ℕ) → Option (List X × List ℕ)
with_front front read = read >>= λ xs. Some (front ++ xs.0, xs.1)

regroup : {X : Type 0} (front : List X) (x : X) (read : Option (List X × List ℕ))
    → with_front front (read >>= λ xs. Some (x ∷ xs.0, xs.1)) ≡ with_front (front ++ x ∷ []) read
regroup front x (Some xs) = ap (λ ys. Some (ys, xs.1)) (sym (append_assoc front (x ∷ []) xs.0))
regroup front x None = refl

module _ {X : Type 0} (one : List ℕ → Option (X × List ℕ)) (front : List X) (count i : ℕ) (text : List ℕ)
    (total : Option (List X × List ℕ)) where
  pub goes_on : (x : X) (after : List ℕ) → i < count → one text ≡ Some (x, after)
      → with_front front (many one (count - i) text) ≡ total
      → with_front (front ++ x ∷ []) (many one (count - (i + 1)) after) ≡ total
  unfolding many
  goes_on x after lt h so_far =
      let k : count - i ≡ suc (count - (i + 1)) = omega arith in
      let next : with_front front (many one (count - i) text)
      ≡ with_front (front ++ x ∷ []) (many one (count - (i + 1)) after) =
      rw (k, h) (regroup front x (many one (count - (i + 1)) after)) in
      sym next ∙ so_far

  pub ends : (e : Stop) → i < count → Fails e (one text) → with_front front (many one (count - i) text) ≡ total
      → Fails e total
  unfolding many
  ends stops.Memory lt h so_far = tt
  ends (stops.Left n) lt h so_far =
      let k : count - i ≡ suc (count - (i + 1)) = omega arith in
      let next : with_front front (many one (count - i) text) ≡ None = rw (k, h) refl in
      sym so_far ∙ next
  ends (stops.Cut n) lt h so_far =
      let k : count - i ≡ suc (count - (i + 1)) = omega arith in
      let next : with_front front (many one (count - i) text) ≡ None = rw (k, h) refl in
      sym so_far ∙ next
  ends stops.Deep lt h so_far =
      let k : count - i ≡ suc (count - (i + 1)) = omega arith in
      let next : with_front front (many one (count - i) text) ≡ None = rw (k, h) refl in
      sym so_far ∙ next

  pub is_done : count ≤ i → with_front front (many one (count - i) text) ≡ total → total ≡ Some (front, text)
  unfolding many
  is_done le so_far =
      let k : count - i ≡ 0 = omega arith in
      let next : with_front front (many one (count - i) text) ≡ Some (front, text) =
      rw k (ap (λ xs. Some (xs, text)) (append-nil front)) in
      sym so_far ∙ next

pub indent_more : (level i : ℕ) (t after : List ℕ) (total : Option (List ℕ)) → i < level
    → strip (codes "  ") t ≡ Some after → indent_at (level - i) t ≡ total → indent_at (level - (i + 1)) after ≡ total
indent_more level i t after total lt h so_far =
    let k : level - i ≡ suc (level - (i + 1)) = omega arith in
    let next : indent_at (level - i) t ≡ indent_at (level - (i + 1)) after =
    ap (λ n. indent_at n t) k ∙ ap (λ (r : Option (List ℕ)). r >>= indent_at (level - (i + 1))) h in
    sym next ∙ so_far
