-- Lemmas for the cycle `slots`, `show_numbers` and `show_words`: the texts of numbered items, one after the other.
use Rattle.std.proofs.Common.{◌≡◌, ℕ, zero, suc, ◌+◌, ◌<◌, List, [], ◌∷◌, ◌++◌, length, take, get_or}
use Rattle.std.proofs.Common.{sym, ap, ◌∙◌, arith, append_assoc}
use Rattle.std.proofs.lemmas.List.{append-nil, take_all}
use Rattle.capn_show.specs.declared.fault.Broken.{Broken}
use Rattle.capn_show.specs.Outgoing.{Outgoing, Adds, BreaksOff}
use Rattle.capn_show.proofs.shared.Appended.{both, otherwise, otherwise-broken, then-broken, broken-before}

-- The texts of the items, one after the other. The items are numbered from `k` on.
module _ {A : Type 0} (item : ℕ → A → List ℕ) where
  abbrev pub texts : ℕ → List A → List ℕ
  texts k [] = []
  texts k (x ∷ xs) = item k x ++ texts (suc k) xs

  texts-next : (d : A) (k i : ℕ) (xs : List A) → i < length xs
      → texts k (take i xs) ++ item (k + i) (get_or xs i d) ≡ texts k (take (suc i) xs)
  texts-next d k i [] below = absurd (omega arith)
  texts-next d k zero (x ∷ xs) below =
      let same : k + 0 ≡ k = omega arith in
      ap (λ (n : ℕ). item n x) same ∙ sym (append-nil (item k x))
  texts-next d k (suc i) (x ∷ xs) below =
      let y = get_or xs i d in
      let front = texts (suc k) (take i xs) in
      let same : k + suc i ≡ suc k + i = omega arith in
      append_assoc (item k x) front (item (k + suc i) y)
      ∙ ap (λ (l : List ℕ). item k x ++ l)
      (ap (λ (n : ℕ). front ++ item n y) same ∙ texts-next d (suc k) i xs (omega arith))

  -- The texts of all items begin with the texts of the items before item `i`, and then the text of item `i`.
  texts-split : (d : A) (k i : ℕ) (xs : List A) → i < length xs → (rest : List ℕ)
      × ((texts k (take i xs) ++ item (k + i) (get_or xs i d)) ++ rest ≡ texts k xs)
  texts-split d k i [] below = absurd (omega arith)
  texts-split d k zero (x ∷ xs) below =
      let same : k + 0 ≡ k = omega arith in
      (texts (suc k) xs, ap (λ (n : ℕ). item n x ++ texts (suc k) xs) same)
  texts-split d k (suc i) (x ∷ xs) below =
      let y = get_or xs i d in
      let front = texts (suc k) (take i xs) in
      let same : k + suc i ≡ suc k + i = omega arith in
      let rest = texts-split d (suc k) i xs (omega arith) in (
        rest.0,
        ap (λ (l : List ℕ). l ++ rest.0) (append_assoc (item k x) front (item (k + suc i) y))
            ∙ append_assoc (item k x) (front ++ item (k + suc i) y) rest.0
            ∙ ap (λ (l : List ℕ). item k x ++ l) (ap (λ (n : ℕ). (front ++ item n y) ++ rest.0) same ∙ rest.1),
      )

  module _ (d : A) (p q : Outgoing) (xs : List A) (i : ℕ) where
    pub item-more : (r : Outgoing) → i < length xs → Adds p q (texts 0 (take i xs))
        → Adds q r (item i (get_or xs i d)) → Adds p r (texts 0 (take (i + 1) xs))
    item-more r below h k =
        let next : suc i ≡ i + 1 = omega arith in
        let number : i ≡ 0 + i = omega arith in
        let front = texts 0 (take i xs) in
        let here = get_or xs i d in
        otherwise p r (front ++ item i here) (texts 0 (take (i + 1) xs))
        (ap (λ (n : ℕ). front ++ item n here) number ∙ texts-next d 0 i xs below
        ∙ ap (λ (n : ℕ). texts 0 (take n xs)) next) (both p q r front (item i here) h k)

    pub item-cut : (r : Outgoing) (e : Broken) (end : List ℕ) → i < length xs → Adds p q (texts 0 (take i xs))
        → BreaksOff q r e (item i (get_or xs i d)) → BreaksOff p r e (texts 0 xs ++ end)
    item-cut r e end below h k =
        let x = texts-split d 0 i xs below in
        let number : i ≡ 0 + i = omega arith in
        let front = texts 0 (take i xs) in
        let here = get_or xs i d in
        broken-before p r e (texts 0 xs) end
        (otherwise-broken p r e ((front ++ item i here) ++ x.0) (texts 0 xs)
        (ap (λ (n : ℕ). (front ++ item n here) ++ x.0) number ∙ x.1)
        (broken-before p r e (front ++ item i here) x.0 (then-broken p q r e front (item i here) h k)))

    items-all : i ≡ length xs → Adds p q (texts 0 (take i xs)) → Adds p q (texts 0 xs)
    items-all e h = otherwise p q (texts 0 (take i xs)) (texts 0 xs) (ap (texts 0) (take_all i xs (omega arith))) h

    -- Case: `i` is the number of items. The text `end` is added after the texts of all items.
    pub items-end : (r : Outgoing) (end : List ℕ) → i ≡ length xs → Adds p q (texts 0 (take i xs)) → Adds q r end
        → Adds p r (texts 0 xs ++ end)
    items-end r end e h k = both p q r (texts 0 xs) end (items-all e h) k

    pub end-cut : (r : Outgoing) (e : Broken) (end : List ℕ) → i ≡ length xs → Adds p q (texts 0 (take i xs))
        → BreaksOff q r e end → BreaksOff p r e (texts 0 xs ++ end)
    end-cut r b end e h k = then-broken p q r b (texts 0 xs) end (items-all e h) k
