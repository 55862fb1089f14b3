-- The items of a room after the entries that are written to it. (For the cycle `index_slots`.)
use Rattle.std.proofs.Common.{◌≡◌, ℕ, suc, ◌+◌, ◌-◌, ◌<◌, ◌≤◌, List, [], ◌∷◌, length, set, drop, refl, ap, sym}
use Rattle.std.proofs.Common.{◌∙◌, arith}
use Rattle.std.proofs.lemmas.List.{drop-drop, drop-set-lt}
use Rattle.capn_walk.specs.declared.entry.Entry.{Entry}
use Rattle.capn_walk.specs.inner.IndexRoom.{laid, IsLaid, IsKept}

module _ {A : Type 0} where
  behind-laid : (f : Entry → A) (es : List Entry) (i n : ℕ) (room : List A) → i + length es ≤ n
      → drop n (laid f i es room) ≡ drop n room
  behind-laid f [] i n room h = refl
  behind-laid f (e ∷ es) i n room h =
      behind-laid f es (suc i) n (set room i (f e)) (omega arith) ∙ drop-set-lt n room i (f e) (omega arith)

  from-later : (k n : ℕ) (xs ys : List A) → drop k xs ≡ drop k ys → k ≤ n → drop n xs ≡ drop n ys
  from-later k n xs ys e h =
      let z : k + (n - k) ≡ n = omega arith in
      ap (λ (c : ℕ). drop c xs) (sym z) ∙ sym (drop-drop (n - k) k xs) ∙ ap (drop (n - k)) e
      ∙ drop-drop (n - k) k ys ∙ ap (λ (c : ℕ). drop c ys) z

  module _ (first k : ℕ) (all old : List A) (e : drop (first + k) old ≡ drop (first + k) all) where
    pub kept-takes : (f : Entry → A) (es : List Entry) (j : ℕ) (new : List A) → IsLaid f es (first + k) old new j
        → drop (first + (k + j)) new ≡ drop (first + (k + j)) all
    kept-takes f es j new h =
        let c = h.count in
        ap (drop (first + (k + j))) h.is ∙ behind-laid f es (first + k) (first + (k + j)) old (omega arith)
        ∙ from-later (first + k) (first + (k + j)) old all e (omega arith)

    pub kept-stops : (j : ℕ) (new : List A) → IsKept (first + k) old new j → IsKept first all new (k + j)
    kept-stops j new h =
        let some = h.some in
        let z : first + (k + j) - 1 ≡ first + k + j - 1 = omega arith in
        record {
          some = omega arith;
          rest = ap (λ (c : ℕ). drop c new) z ∙ h.rest
              ∙ from-later (first + k) (first + k + j - 1) old all e (omega arith)
              ∙ ap (λ (c : ℕ). drop c all) (sym z);
        }

  pub kept-object : (first j : ℕ) (x : A) (old put new : List A) → put ≡ set old first x
      → IsKept (first + 1) put new j → IsKept first old new (1 + j)
  kept-object first j x old put new e h =
      let z : first + 1 + j - 1 ≡ first + (1 + j) - 1 = omega arith in
      let some = h.some in
      let later : first < first + 1 + j - 1 = omega arith in
      record {
        some = omega arith;
        rest = ap (λ (c : ℕ). drop c new) (sym z) ∙ h.rest ∙ ap (drop (first + 1 + j - 1)) e
            ∙ drop-set-lt (first + 1 + j - 1) old first x later
            ∙ ap (λ (c : ℕ). drop c old) z;
      }

  pub kept-first : (k : ℕ) (old new : List A) → IsKept 0 old new k → drop (k - 1) new ≡ drop (k - 1) old
  kept-first k old new h =
      let z : 0 + k - 1 ≡ k - 1 = omega arith in
      ap (λ (c : ℕ). drop c new) (sym z) ∙ h.rest ∙ ap (λ (c : ℕ). drop c old) z
