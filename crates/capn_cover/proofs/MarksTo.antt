-- Marks of words that canonical bytes leave out, slot after slot.
use Rattle.std.proofs.Common.{◌≡◌, ◌⊎◌, inl, inr, ℕ, ◌+◌, ◌<◌, ◌≤◌, ◌==◌, nat_lt, Bool, true, false, List}
use Rattle.std.proofs.Common.{length, get_or, if◌then◌else◌, Option, None, refl, ap, sym, ◌∙◌, arith}
use Rattle.std.proofs.lemmas.Bool.{cases_eq, cases_lt}
use Rattle.std.proofs.lemmas.List.{get_or_past}
use Rattle.capn_words.specs.declared.space.Place.{Place}
use Rattle.capn_words.proofs.shared.Choices.{less-yes, less-no, same-yes, same-no}
use Rattle.capn_cover.specs.declared.covered.Covered.{Covered}
use Rattle.capn_cover.specs.declared.covered.Role.{Role}
use Rattle.capn_cover.specs.Numbers.{place_from}
use Rattle.capn_cover.specs.Cuts.{is_cut, is_cut_at}
use Rattle.capn_cover.specs.Covers.{unreached}
use Rattle.capn_cover.specs.inner.Marked.{marked, AreMarkedOf, AreMarkedTo, AreMarked, AreUnmarked}
use Rattle.capn_cover.proofs.Marks.{same-mark, less-next}

module _ (m : List (List ℕ)) (old : List Covered) (fresh : AreUnmarked old) where
  -- what is marked of an item with the number `v`, once the first `n` slots are done
  abbrev item : (n v : ℕ) → Covered
  item n v = if nat_lt (get_or old v unreached).slot n then marked m v (get_or old v unreached)
      else get_or old v unreached

  abbrev chosen : (v : ℕ) → Bool → Covered
  chosen v b = if b then marked m v (get_or old v unreached) else get_or old v unreached

  module _ (n : ℕ) (new : List Covered) (h : AreMarkedTo m n old new) where
    slot-kept : (v : ℕ) (b : Bool) → (chosen v b).slot ≡ (get_or old v unreached).slot
    slot-kept v true = refl
    slot-kept v false = refl

    followed-kept : (v : ℕ) (b : Bool) → (chosen v b).is_followed ≡ (get_or old v unreached).is_followed
    followed-kept v true = refl
    followed-kept v false = refl

    same-slot : (v : ℕ) → v < length old → (get_or new v unreached).slot ≡ (get_or old v unreached).slot
    same-slot v l =
        ap (λ (x : Covered). x.slot) (h.each v l) ∙ slot-kept v (nat_lt (get_or old v unreached).slot n)

    same-followed : (v : ℕ) → v < length old
        → (get_or new v unreached).is_followed ≡ (get_or old v unreached).is_followed
    same-followed v l =
        ap (λ (x : Covered). x.is_followed) (h.each v l) ∙ followed-kept v (nat_lt (get_or old v unreached).slot n)

    -- if nothing is marked for slot `n`, and no word belongs to it
    other : (v : ℕ) → ((get_or old v unreached).slot ≡ n → ⊥) → item n v ≡ item (n + 1) v
    other v ne = ap (chosen v) (sym (less-next (get_or old v unreached).slot n ne))

    pub slots-skip : n < length old → (get_or new n unreached).is_followed ≡ false → AreMarkedTo m (n + 1) old new
    slots-skip l off = record {
      count = h.count;
      each = λ v k. h.each v k ∙ other v (λ e. not-slot v k e);
    }
      where
        not-slot : (v : ℕ) → v < length old → (get_or old v unreached).slot ≡ n → ⊥
        not-slot v k e =
            let says : (get_or old n unreached).is_followed ≡ true =
            ap (λ (s : ℕ). (get_or old s unreached).is_followed) (sym e) ∙ fresh.slots v k in
            let never : true ≡ false = sym says ∙ sym (same-followed n l) ∙ off in
            absurd cc

    -- if slot `n` has no place
    no-cut : place_from 0 m n ≡ None → (role : Role) (v : ℕ) → is_cut m n role v ≡ false
    unfolding is_cut
    no-cut e role v = ap (λ (o : Option Place). is_cut_at m o role v) e

    pub slots-none : place_from 0 m n ≡ None → AreMarkedTo m (n + 1) old new
    slots-none e = record {
      count = h.count;
      each = λ v k. h.each v k ∙ none v k (cases_eq (get_or old v unreached).slot n);
    }
      where
        none : (v : ℕ) → v < length old → ((get_or old v unreached).slot ≡ n) ⊎ ((get_or old v unreached).slot ≡ n → ⊥)
            → item n v ≡ item (n + 1) v
        none v k (inr ne) = other v ne
        none v k (inl s) =
            let x : Covered = get_or old v unreached in
            let a = less-no x.slot n (omega arith) in
            let b = less-yes x.slot (n + 1) (omega arith) in
            let c = ap (λ (j : ℕ). is_cut m j x.role v) s ∙ no-cut e x.role v in
            ap (chosen v) a ∙ sym (same-mark x (is_cut m x.slot x.role v) (fresh.uncut v k ∙ sym c))
            ∙ ap (chosen v) (sym b)

    -- if what belongs to slot `n` is marked
    pub slots-next : (next : List Covered) → AreMarkedOf m n new next → AreMarkedTo m (n + 1) old next
    slots-next next of = record { count = of.count ∙ h.count; each = each }
      where
        by : (v : ℕ) → v < length old → ((get_or old v unreached).slot ≡ n) ⊎ ((get_or old v unreached).slot ≡ n → ⊥)
            → (if (get_or new v unreached).slot == n then marked m v (get_or new v unreached)
            else get_or new v unreached) ≡ item (n + 1) v
        by v l (inl e) =
            let s = same-slot v l in
            let y = same-yes (get_or new v unreached).slot n (omega arith) in
            let a = less-no (get_or old v unreached).slot n (omega arith) in
            let b = less-yes (get_or old v unreached).slot (n + 1) (omega arith) in
            ap (λ (c : Bool). if c then marked m v (get_or new v unreached) else get_or new v unreached) y
            ∙ ap (marked m v) (h.each v l ∙ ap (chosen v) a) ∙ ap (chosen v) (sym b)
        by v l (inr ne) =
            let s = same-slot v l in
            let y = same-no (get_or new v unreached).slot n (λ e. ne (sym s ∙ e)) in
            ap (λ (c : Bool). if c then marked m v (get_or new v unreached) else get_or new v unreached) y
            ∙ h.each v l ∙ other v ne

        each : (v : ℕ) → v < length old → get_or next v unreached ≡ item (n + 1) v
        each v l =
            let k = h.count in
            of.each v (omega arith) ∙ by v l (cases_eq (get_or old v unreached).slot n)

    -- once all slots are done, all words are marked
    pub slots-end : length old ≤ n → AreMarked m old new
    slots-end le = record {
      count = h.count;
      each = λ v l. h.each v l ∙ ap (chosen v) (less-yes (get_or old v unreached).slot n (below v l));
    }
      where
        below : (v : ℕ) → v < length old → (get_or old v unreached).slot < n
        below v l = by (cases_lt (get_or old v unreached).slot n)
          where
            by : ((get_or old v unreached).slot < n) ⊎ (n ≤ (get_or old v unreached).slot)
                → (get_or old v unreached).slot < n
            by (inl b) = b
            by (inr past) =
                let e = get_or_past old (get_or old v unreached).slot unreached (omega arith) in
                let never : false ≡ true = sym (ap (λ (x : Covered). x.is_followed) e) ∙ fresh.slots v l in
                absurd cc
