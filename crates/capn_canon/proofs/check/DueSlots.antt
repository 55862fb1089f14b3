-- If the pass must find values at slots, it must find a value at the first slot, and then the other values. (For the
-- cycle `pass`, `open_composite`, `open_pointers` and `open_struct`.)
use Rattle.std.proofs.Common.{◌≡◌, ℕ, suc, ◌+◌, ◌-◌, ◌<◌, Bool, List, [], ◌∷◌, ◌++◌, length, Option}
use Rattle.std.proofs.Common.{Some, None, refl, ap, sym, subst, ◌∙◌, arith}
use Rattle.std.specs.Option.{option_or}
use Rattle.std.proofs.lemmas.Grind.{flat_map-append}
use Rattle.capn_value.specs.Tree.{Tree, Trees, no_trees, tree, count, Bodies, no_bodies, body, count_rows}
use Rattle.capn_value.specs.FirstCap.{first_cap, first_in, first_in_rows}
use Rattle.capn_walk.specs.Accepted.{paid_of, IsWithin}
use Rattle.capn_walk.specs.Visits.{Visit, places, row_places, visits, visits_of}
use Rattle.capn_walk.proofs.shared.Costs.{all-front, all-back, paid-append}
use Rattle.capn_walk.proofs.shared.Unique.{unique, unique-slots}
use Rattle.capn_canon.specs.declared.progress.Progress.{Progress}
use Rattle.capn_canon.specs.declared.progress.Pass.{Pass}
use Rattle.capn_layout.specs.Layout.{size, sizes}
use Rattle.capn_canon.specs.inner.Due.{IsDue, AreDue, RowsAreDue, DueSlots, DueRows, DueFirst, Due}
use Rattle.capn_canon.specs.inner.InPlace.{FindsSlots, FindsFirst, IsOpen}
use Rattle.capn_canon.proofs.places.Compared.{slots-first, slots-others}
use Rattle.capn_canon.proofs.places.ComparedRows.{row-first, row-others}
use Rattle.capn_canon.proofs.reading.OneSegment.{here}
use Rattle.capn_canon.proofs.check.PassLeads.{behind}

none-front : {A : Type 0} (a b : Option A) → option_or a b ≡ None → a ≡ None
none-front None b e = refl
none-front (Some x) b e = absurd (cc)

none-back : {A : Type 0} (a b : Option A) → option_or a b ≡ None → b ≡ None
none-back None b e = e
none-back (Some x) b e = absurd (cc)

within-front : (xs ys : List Visit) (left : ℕ) → IsWithin left (xs ++ ys) → IsWithin left xs
within-front xs ys left h =
    let p = h.paid in
    let e = paid-append xs ys in
    record { all = all-front xs ys h.all; paid = omega arith }

-- If the visits `xs` pay `price` words of `left`, the visits `ys` after them pay at most the other words (`rest`).
within-back : (xs ys : List Visit) (left rest price : ℕ) → paid_of xs ≡ price → rest + price ≡ left
    → IsWithin left (xs ++ ys) → IsWithin rest ys
within-back xs ys left rest price k l h =
    let p = h.paid in
    let e = paid-append xs ys in
    record { all = all-back xs ys h.all; paid = omega arith }

some-first : (ts : Trees) → 0 < count ts → (v : Tree) × (us : Trees) × (ts ≡ tree v us)
some-first no_trees h = absurd (omega arith)
some-first (tree v us) h = (v, us, refl)

module _ (all : List ℕ) (base : ℕ) where
  abbrev only : List (List ℕ)
  only = all ∷ []

  -- ---- slots

  module _ (from to d left : ℕ) (v : Tree) (us : Trees) (inside : from < length all)
      (h : AreDue all base from to d left (tree v us)) where
    first-due : IsDue all base from to d left v
    first-due =
        let f = h.fits in
        record {
          is = h.are.0;
          laid = slots-first all v us from to inside h.sound.0 h.laid;
          sound = h.sound.0;
          free = none-front (first_cap v) (first_in us) h.free;
          fits = omega arith;
          pays = within-front (visits only base d (here from)) (visits_of only base d (places 0 (from + 1) (count us)))
              left h.pays;
        }

    others-due : (rest price : ℕ) → paid_of (visits only base d (here from)) ≡ price → rest + price ≡ left
        → AreDue all base (from + 1) (to + size v) d rest us
    others-due rest price p l =
        let f = h.fits in
        let e : suc from ≡ from + 1 = omega arith in
        subst (λ (k : ℕ). AreDue all base k (to + size v) d rest us) e
        (record {
          are = h.are.1;
          laid = slots-others all v us from to inside h.sound.0 h.laid;
          sound = h.sound.1;
          free = none-back (first_cap v) (first_in us) h.free;
          fits = omega arith;
          pays = subst (λ (k : ℕ). IsWithin rest (visits_of only base d (places 0 k (count us)))) (sym e)
              (within-back (visits only base d (here from)) (visits_of only base d (places 0 (from + 1) (count us)))
              left rest price p l h.pays);
        })

  module _ (p : Pass) (some : p.from < p.end) (o : IsOpen all p) (h : Due all base p) where
    inside : p.from < length all
    inside = let a = o.before in let b = o.fits in omega arith

    parts : (v : Tree) × (us : Trees) × (h.values ≡ tree v us)
    parts = let c = h.count in some-first h.values (omega arith)

    whole : AreDue all base p.from p.next p.depth p.left (tree parts.0 parts.1)
    whole = subst (λ (ts : Trees). AreDue all base p.from p.next p.depth p.left ts) parts.2 h.due

    pub due-first : DueFirst all base p
    due-first = record {
      value = parts.0;
      due = first-due p.from p.next p.depth p.left parts.0 parts.1 inside whole;
    }

    -- If the pass `p` finds a value at its first slot, it must find values at the slots after the first (`behind`).
    pub due-behind : {deep : Bool} {least low : ℕ} (g : Progress) → FindsFirst all base deep p least g low
        → Due all base (behind p g)
    due-behind g f =
        let same = unique only f.value parts.0 (here p.from) f.in_place.is whole.are.0 in
        let n : p.next + size parts.0 ≡ g.next = let a = f.comes.next_is in let b = ap size same in omega arith in
        let c = h.count in
        let e = ap count parts.2 in
        record {
          values = parts.1;
          count = omega arith;
          due = subst (λ (k : ℕ). AreDue all base (p.from + 1) k p.depth g.left parts.1) n
              (others-due p.from p.next p.depth p.left parts.0 parts.1 inside whole g.left f.price f.in_place.pays.sum
              f.comes.left_is);
        }

    pub goes-due : {deep : Bool} {least low : ℕ} (g : Progress) → FindsFirst all base deep p least g low → (r : Pass)
        → r ≡ behind p g → Due all base r
    goes-due g f r e = subst (λ (s : Pass). Due all base s) (sym e) (due-behind g f)

  pub same-due : (from to n m at end d l r : ℕ) → from ≡ to → n ≡ m → at ≡ end → l ≡ r → DueSlots all base from n at d l
      → DueSlots all base to m end d r
  same-due from to n m at end d l r e f g k h =
      subst (λ (x : ℕ). DueSlots all base x m end d r) e
      (subst (λ (x : ℕ). DueSlots all base from x end d r) f
      (subst (λ (x : ℕ). DueSlots all base from n x d r) g (subst (λ (x : ℕ). DueSlots all base from n at d x) k h)))

  -- ---- rows

  pub same-rows-due : (a b i j from n m at end d l r : ℕ) → a ≡ i → b ≡ j → n ≡ m → at ≡ end → l ≡ r
      → DueRows all base a b from n at d l → DueRows all base i j from m end d r
  same-rows-due a b i j from n m at end d l r p q f g k h =
      subst (λ (x : ℕ). DueRows all base x j from m end d r) p
      (subst (λ (x : ℕ). DueRows all base a x from m end d r) q
      (subst (λ (x : ℕ). DueRows all base a b from x end d r) f
      (subst (λ (x : ℕ). DueRows all base a b from n x d r) g
      (subst (λ (x : ℕ). DueRows all base a b from n at d x) k h))))

  module _ (a b from n to d left : ℕ) (h : DueRows all base a b from n to d left) (some : 0 < n) where
    record Row : Type 0 where
      words : List ℕ
      slots : Trees
      others : Bodies
      is : h.values ≡ body words slots others

    row-of : (bs : Bodies) → h.values ≡ bs → Row
    row-of no_bodies e = let c = h.count in let k = ap count_rows e in absurd (omega arith)
    row-of (body ws ss bs) e = record { words = ws; slots = ss; others = bs; is = e }

    row : Row
    row = row-of h.values refl

    full : RowsAreDue all base a b from to d left (body row.words row.slots row.others)
    full = subst (λ (bs : Bodies). RowsAreDue all base a b from to d left bs) row.is h.due

    abbrev firsts : List Visit
    firsts = visits_of only base d (places 0 (from + a) b)

    abbrev laters : List Visit
    laters = visits_of only base d (row_places 0 (from + a + b) a b (count_rows row.others))

    joined : IsWithin left (firsts ++ laters)
    joined = subst (λ (vs : List Visit). IsWithin left vs)
        (flat_map-append (visits only base d) (places 0 (from + a) b)
        (row_places 0 (from + a + b) a b (count_rows row.others))) full.pays

    pub row-due : DueSlots all base (from + a) b to d left
    row-due =
        let i = full.are in
        let f = full.fits in
        record {
          values = row.slots;
          count = i.1;
          due = record {
            are = i.3;
            laid = row-first all a b row.words row.slots row.others from to i.0 i.1 i.2 full.sound.0 full.laid;
            sound = full.sound.0;
            free = none-front (first_in row.slots) (first_in_rows row.others) full.free;
            fits = omega arith;
            pays = subst (λ (k : ℕ). IsWithin left (visits_of only base d (places 0 (from + a) k))) (sym i.1)
                (within-front firsts laters left joined);
          };
        }

    -- If the pass finds values at the slots of the first row, it must then find the other `n - 1` rows.
    pub rows-due : {deep : Bool} {least low : ℕ} (met : ℕ) (g : Progress)
        → FindsSlots all base deep (from + a) b to d left met least g low
        → DueRows all base a b (from + a + b) (n - 1) g.next d g.left
    rows-due met g f =
        let i = full.are in
        let fc = f.count in
        let same : f.values ≡ row.slots = unique-slots only f.values row.slots 0 (from + a) (fc ∙ sym i.1)
        f.in_place.are i.3 in
        let m : to + sizes row.slots ≡ g.next = let x = f.comes.next_is in let y = ap sizes same in omega arith in
        let c = h.count in
        let k = ap count_rows row.is in
        let fits = full.fits in
        let sum : paid_of firsts ≡ f.price =
        subst (λ (j : ℕ). paid_of (visits_of only base d (places 0 (from + a) j)) ≡ f.price) fc f.in_place.pays.sum in
        record {
          values = row.others;
          count = omega arith;
          due = subst (λ (j : ℕ). RowsAreDue all base a b (from + a + b) j d g.left row.others) m
              (record {
                are = i.4;
                laid = row-others all a b row.words row.slots row.others from to i.0 i.1 i.2 full.sound.0 full.laid;
                sound = full.sound.1;
                free = none-back (first_in row.slots) (first_in_rows row.others) full.free;
                fits = omega arith;
                pays = within-back firsts laters left g.left f.price sum f.comes.left_is joined;
              });
        }
