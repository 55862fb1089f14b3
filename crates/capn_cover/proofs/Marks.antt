-- Marks of words that canonical bytes leave out: word after word of the rows of an object, and slot after slot.
use Rattle.std.proofs.Common.{◌≡◌, ◌⊎◌, inl, inr, ℕ, ◌+◌, ◌-◌, ◌*◌, ◌%◌, ◌<◌, ◌≤◌, ◌==◌, nat_lt, Bool, true}
use Rattle.std.proofs.Common.{false, not, ◌&&◌, List, length, get_or, set, if◌then◌else◌, Option, Some}
use Rattle.std.proofs.Common.{refl, ap, ap₂, sym, ◌∙◌, arith}
use Rattle.std.proofs.lemmas.Bool.{cases_eq, cases_lt}
use Rattle.std.proofs.lemmas.Bool.Decides.{nat_tests}
use Rattle.std.proofs.lemmas.List.{get_or-set_same, get_or-set_other, length-set}
use Rattle.capn_words.specs.declared.space.Place.{Place}
use Rattle.capn_words.proofs.shared.Choices.{less-yes, less-no}
use Rattle.capn_target.specs.Target.{target}
use Rattle.capn_layout.specs.RowWords.{kept_each}
use Rattle.capn_cover.specs.declared.covered.Covered.{Covered}
use Rattle.capn_cover.specs.declared.covered.Role.{Role}
use Rattle.capn_cover.specs.Numbers.{number, place_from}
use Rattle.capn_cover.specs.Cuts.{is_in, is_behind, is_cut, is_cut_at, is_cut_of}
use Rattle.capn_cover.specs.Covers.{unreached}
use Rattle.capn_cover.specs.inner.Marked.{marked, marked_in, AreMarkedRows, AreMarkedOf, AreUnmarkedOf}

-- an item with the mark that it has already
pub same-mark : (x : Covered) (b : Bool) → x.cut ≡ b → record x { cut = b } ≡ x
same-mark x b e = ap (λ (c : Bool). record x { cut = c }) (sym e)

-- ---- word after word of the rows of an object

in-last : (first n : ℕ) → is_in first (n + 1) (first + n) ≡ true
in-last first n =
    ap₂ (λ (b c : Bool). not b && c) (less-no (first + n) first (omega arith))
    (less-yes (first + n) (first + (n + 1)) (omega arith))

not-in-yet : (first n : ℕ) → is_in first n (first + n) ≡ false
not-in-yet first n =
    ap₂ (λ (b c : Bool). not b && c) (less-no (first + n) first (omega arith))
    (less-no (first + n) (first + n) (omega arith))

-- a number that is not below another, and differs from it, is above it
pub above : (a b : ℕ) → a ≤ b → (b ≡ a → ⊥) → a < b
above a b l ne = elim (cases_lt a b) [ inl h ↦ h | inr h ↦ absurd (ne (omega arith)) ]

pub less-next : (v k : ℕ) → (v ≡ k → ⊥) → nat_lt v (k + 1) ≡ nat_lt v k
less-next v k ne = elim (cases_lt v k) [
  | inl l ↦ less-yes v (k + 1) (omega arith) ∙ sym (less-yes v k l)
  | inr l ↦ let a = above k v l ne in less-no v (k + 1) (omega arith) ∙ sym (less-no v k l)
]

in-other : (first n v : ℕ) → (v ≡ first + n → ⊥) → is_in first (n + 1) v ≡ is_in first n v
in-other first n v h =
    let e : first + (n + 1) ≡ first + n + 1 = omega arith in
    ap (λ (k : ℕ). not (nat_lt v first) && nat_lt v k) e
    ∙ ap (λ (b : Bool). not (nat_lt v first) && b) (less-next v (first + n) h)

module _ (slot a words slots step first : ℕ) where
  abbrev mark : ℕ → Covered → Covered
  mark v x = marked_in slot a words slots ((v - first) % step) x

  abbrev item : (n : ℕ) (old : List Covered) (v : ℕ) → Covered
  item n old v = if is_in first n v then mark v (get_or old v unreached) else get_or old v unreached

  module _ (n : ℕ) (old new : List Covered) (h : AreMarkedRows slot a words slots step first n old new)
      (within : first + n < length new) where
    abbrev next : Covered
    next = marked_in slot a words slots (n % step) (get_or new (first + n) unreached)

    by-word : (v : ℕ) → v < length old → (v ≡ first + n) ⊎ (v ≡ first + n → ⊥)
        → get_or (set new (first + n) next) v unreached ≡ item (n + 1) old v
    by-word v l (inl e) =
        let k = h.count in
        let i : first + n - first ≡ n = omega arith in
        let was : get_or new (first + n) unreached ≡ get_or old (first + n) unreached =
        h.each (first + n) (omega arith)
        ∙ ap (λ (b : Bool). if b then mark (first + n) (get_or old (first + n) unreached)
        else get_or old (first + n) unreached) (not-in-yet first n) in
        rw e (get_or-set_same new (first + n) next unreached within
        ∙ ap (marked_in slot a words slots (n % step)) was
        ∙ ap (λ (j : ℕ). marked_in slot a words slots (j % step) (get_or old (first + n) unreached)) (sym i)
        ∙ ap (λ (b : Bool). if b then mark (first + n) (get_or old (first + n) unreached)
        else get_or old (first + n) unreached) (sym (in-last first n)))
    by-word v l (inr ne) =
        get_or-set_other new (first + n) v next unreached ne ∙ h.each v l
        ∙ ap (λ (b : Bool). if b then mark v (get_or old v unreached) else get_or old v unreached)
        (sym (in-other first n v ne))

    -- one more word is marked
    pub rows-next : AreMarkedRows slot a words slots step first (n + 1) old (set new (first + n) next)
    rows-next = record {
      count = length-set new (first + n) next ∙ h.count;
      each = λ v l. by-word v l (cases_eq v (first + n));
    }

-- ---- the object of a slot

-- a word outside the rows is not cut, and one inside is by its index
join-marks : (s i b : Bool) (x : Covered) → (s ≡ true → x.cut ≡ false)
    → (if i then (if s then record x { cut = b } else x) else x) ≡ (if s then record x { cut = i && b } else x)
join-marks true true b x h = refl
join-marks false true b x h = refl
join-marks true false b x h = sym (same-mark x false (h refl))
join-marks false false b x h = refl

module _ (m : List (List ℕ)) (at : Place) (slot : ℕ) (place : place_from 0 m slot ≡ Some at) where
  cut-of : (role : Role) (v : ℕ) → is_cut m slot role v ≡ is_cut_of m (target m at) role v
  unfolding is_cut
  cut-of role v = ap (λ (o : Option Place). is_cut_at m o role v) place

  marked-of : (x : Covered) (v : ℕ) → x.slot ≡ slot
      → record x { cut = is_cut_of m (target m at) x.role v } ≡ marked m v x
  marked-of x v e =
      ap (λ (b : Bool). record x { cut = b })
      (sym (cut-of x.role v) ∙ ap (λ (k : ℕ). is_cut m k x.role v) (sym e))

  of-slot : (b : Bool) (x : Covered) (v : ℕ) → (x.slot == slot) ≡ b
      → (if b then record x { cut = is_cut_of m (target m at) x.role v } else x)
      ≡ (if b then marked m v x else x)
  of-slot true x v e = marked-of x v (grind (arith, nat_tests))
  of-slot false x v e = refl

  module _ (old new : List Covered) (fresh : AreUnmarkedOf slot old) where
    -- the words of the rows are marked
    pub marked-rows : (s w a b n : ℕ)
        → ((role : Role) (v : ℕ) → is_cut_of m (target m at) role v
        ≡ (is_in (number m (record { segment = s; word = w })) (n * (a + b)) v
        && is_behind a (kept_each m s w a (a + b) n) (kept_each m s (w + a) b (a + b) n) role
        ((v - number m (record { segment = s; word = w })) % (a + b))))
        → AreMarkedRows slot a (kept_each m s w a (a + b) n) (kept_each m s (w + a) b (a + b) n) (a + b)
        (number m (record { segment = s; word = w })) (n * (a + b)) old new
        → AreMarkedOf m slot old new
    marked-rows s w a b n is h = record { count = h.count; each = each }
      where
        first : ℕ
        first = number m (record { segment = s; word = w })

        behind : ℕ → Role → Bool
        behind v role = is_behind a (kept_each m s w a (a + b) n) (kept_each m s (w + a) b (a + b) n) role
            ((v - first) % (a + b))

        each : (v : ℕ) → v < length old
            → get_or new v unreached
            ≡ (if (get_or old v unreached).slot == slot then marked m v (get_or old v unreached)
            else get_or old v unreached)
        each v l =
            let x : Covered = get_or old v unreached in
            h.each v l
            ∙ join-marks (x.slot == slot) (is_in first (n * (a + b)) v) (behind v x.role) x
            (λ t. fresh v l (grind (arith, nat_tests)))
            ∙ ap (λ (c : Bool). if x.slot == slot then record x { cut = c } else x) (sym (is x.role v))
            ∙ of-slot (x.slot == slot) x v refl

    -- nothing is cut of the object
    pub marked-none : ((role : Role) (v : ℕ) → is_cut_of m (target m at) role v ≡ false) → new ≡ old
        → AreMarkedOf m slot old new
    marked-none is e = rw e (record { count = refl; each = each })
      where
        each : (v : ℕ) → v < length old
            → get_or old v unreached
            ≡ (if (get_or old v unreached).slot == slot then marked m v (get_or old v unreached)
            else get_or old v unreached)
        each v l =
            let x : Covered = get_or old v unreached in
            join-marks (x.slot == slot) false false x (λ t. fresh v l (grind (arith, nat_tests)))
            ∙ ap (λ (c : Bool). if x.slot == slot then record x { cut = c } else x) (sym (is x.role v))
            ∙ of-slot (x.slot == slot) x v refl
