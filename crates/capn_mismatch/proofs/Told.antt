-- Either a word is the same as in the canonical words, or the visits include the visit of the slot that owns the word.
-- (For `Belonging`, `Leaving`, `NumbersTold` and others.)
use Rattle.std.proofs.Common.{◌≡◌, ◌⊎◌, inl, inr, ℕ, suc, ◌+◌, ◌-◌, ◌*◌, ◌<◌, ◌≤◌}
use Rattle.std.proofs.Common.{List, [], ◌∷◌, ◌++◌, length, drop, slice_index}
use Rattle.std.proofs.Common.{Ok, ap, ap₂, sym, ◌∙◌, arith}
use Rattle.std.proofs.lemmas.List.{take_all, get_or-take, get_or-drop}
use Rattle.std.specs.List.{flat_map}
use Rattle.std.proofs.lemmas.Grind.{flat_map-append}
use Rattle.capn_value.specs.Tree.{Tree, Trees}
use Rattle.capn_value.specs.Tree.{Bodies, no_bodies, body, count, count_rows}
use Rattle.capn_value.specs.Cost.{height, greatest, greatest_in_rows}
use Rattle.capn_target.specs.declared.target.Target.TheVariants as targets
use Rattle.capn_target.specs.declared.target.Shape.{Shape}
use Rattle.capn_target.specs.Target.{target}
use Rattle.capn_walk.specs.Visits.{Visit, pays, price, places, row_places, slots, visits}
use Rattle.capn_walk.specs.ValueAt.{IsAt, AreAt, RowsAt, AreWordsAt}
use Rattle.capn_walk.proofs.shared.Walks.{visits-object}
use Rattle.capn_layout.specs.Layout.{size, sizes, sizes_in_rows, point, points, lay, lays, row_contents, lays_in_rows}
use Rattle.capn_layout.specs.Sound.{Sound, Sounds, SoundRows}
use Rattle.capn_layout.proofs.shared.LayLengths.{length-points}
use Rattle.capn_mismatch.proofs.Pointed.{here}
use Rattle.capn_mismatch.proofs.Owned.{owned-among, owned-left, Owned, owned-right, owned-as}
use Rattle.capn_mismatch.proofs.Lying.{lies-back, Lies, lies-front, lies-as}

pub decided : (x y : ℕ) → (x < y) ⊎ (y ≤ x)
decided x y = grind arith

module _ (ws cs : List ℕ) (base k : ℕ) where
  abbrev pub n : List (List ℕ)
  n = ws ∷ []

  abbrev pub m : List (List ℕ)
  m = cs ∷ []

  -- ---- word `k` is the same in `ws` and `cs`, or the visits include the visit of the slot that owns word `k`

  abbrev pub Same : Type 0
  Same = slice_index ws k ≡ slice_index cs k

  abbrev pub Told : List Visit → Type 0
  Told vs = (k < length ws) × (Same ⊎ Owned cs base k vs)

  pub told : (vs us : List Visit) → (Owned cs base k vs → Owned cs base k us) → Told vs → Told us
  told vs us f (lt, inl s) = (lt, inl s)
  told vs us f (lt, inr o) = (lt, inr (f o))

  pub same-word : (at : ℕ) (xs : List ℕ) → AreWordsAt n 0 at xs → Lies cs at xs → at ≤ k → k < at + length xs → Same
  same-word at xs s h le lt =
      let j = k - at in
      let e : at + j ≡ k = omega arith in
      let a = get_or-take (length xs) (drop at ws) j 0 (omega arith) in
      let b = get_or-drop at ws j 0 in
      let c = ap (λ (ys : List ℕ). slice_index ys j) s in
      ap (slice_index ws) (sym e) ∙ sym b ∙ sym a ∙ c ∙ sym (h j (omega arith)) ∙ ap (slice_index cs) e

  -- ---- rows, split into the first row and the other rows

  module _ (a b : ℕ) (xs : List ℕ) (ss : Trees) (bs : Bodies) (p q : ℕ) (la : length xs ≡ a) (lb : count ss ≡ b)
      (h : Lies cs p (row_contents a b (body xs ss bs) p q)) where
    abbrev pub others : List ℕ
    others = row_contents a b bs (p + a + b) (q + sizes ss)

    pub parts : Lies cs p (xs ++ (points ss (p + a) q ++ others))
    parts =
        let l = length-points ss (p + a) q in
        lies-as cs p _ _ (ap₂ (λ (x y : List ℕ). x ++ (y ++ others)) (take_all a xs (omega arith))
        (take_all b (points ss (p + a) q) (omega arith))) h

    pub words-lie : Lies cs p xs
    words-lie = lies-front cs p xs (points ss (p + a) q ++ others) parts

    pub slots-lie : Lies cs (p + a) (points ss (p + a) q)
    slots-lie = lies-front cs (p + a) (points ss (p + a) q) others
        (lies-back cs p a xs (points ss (p + a) q ++ others) la parts)

    pub others-lie : Lies cs (p + a + b) others
    others-lie = lies-back cs (p + a) b (points ss (p + a) q) others (length-points ss (p + a) q ∙ lb)
        (lies-back cs p a xs (points ss (p + a) q ++ others) la parts)

  -- Word `k` is the same in `ws` and `cs`, or the visits of the rows' slots include the visit of the slot that owns
  -- word `k`.
  abbrev pub OwnRows : ℕ → ℕ → Bodies → ℕ → ℕ → Type 0
  OwnRows a b bs p d = Same ⊎ Owned cs base k (flat_map (visits m base d) (row_places 0 p a b (count_rows bs)))

  module _ (a b : ℕ) (xs : List ℕ) (ss : Trees) (bs : Bodies) (p q d : ℕ)
      (h : RowsAt n a b 0 p (body xs ss bs)) (c : Lies cs p (row_contents a b (body xs ss bs) p q)) (le : p ≤ k) where
    abbrev pub first-row : List Visit
    first-row = flat_map (visits m base d) (places 0 (p + a) b)

    abbrev pub other-rows : List Visit
    other-rows = flat_map (visits m base d) (row_places 0 (p + a + b) a b (count_rows bs))

    pub rows-join : flat_map (visits m base d) (row_places 0 p a b (count_rows (body xs ss bs))) ≡ first-row ++
        other-rows
    rows-join = flat_map-append (visits m base d) (places 0 (p + a) b) (row_places 0 (p + a + b) a b (count_rows bs))

    pub behind-it : OwnRows a b bs (p + a + b) d → OwnRows a b (body xs ss bs) p d
    behind-it (inl s) = inl s
    behind-it (inr o) = inr (owned-as cs base k _ _ rows-join (owned-right cs base k first-row other-rows o))

    pub in-row : (k < p + a) ⊎ (p + a ≤ k) → (k < p + a + b) ⊎ (p + a + b ≤ k)
        → (p + a + b ≤ k → OwnRows a b bs (p + a + b) d) → OwnRows a b (body xs ss bs) p d
    in-row (inl u) v next =
        let la = h.0 in
        inl (same-word p xs h.2 (words-lie a b xs ss bs p q h.0 h.1 c) le (omega arith))
    in-row (inr u) (inl v) next =
        inr (owned-as cs base k _ _ rows-join (owned-left cs base k first-row other-rows (owned-among cs base k (p + a)
        b d u v)))
    in-row (inr u) (inr v) next = behind-it (next v)

  pub rows-own : (a b : ℕ) (bs : Bodies) (p q d : ℕ) → RowsAt n a b 0 p bs → Lies cs p (row_contents a b bs p q) → p ≤ k
      → k < p + count_rows bs * (a + b) → OwnRows a b bs p d
  rows-own a b no_bodies p q d h c le lt = absurd (omega arith)
  rows-own a b (body xs ss bs) p q d h c le lt =
      let z : suc (count_rows bs) * (a + b) ≡ a + b + count_rows bs * (a + b) = omega arith in
      in-row a b xs ss bs p q d h c le (decided k (p + a)) (decided k (p + a + b)) (λ over.
      rows-own a b bs (p + a + b) (q + sizes ss) d h.4 (others-lie a b xs ss bs p q h.0 h.1 c) over (omega arith))

  -- ---- word `k` lies in the contents below one slot, below several slots, or below the slots of rows

  pub record Slot (t : Tree) (p to d : ℕ) : Type 0 where
    pub sound : Sound t
    pub is : IsAt n (here p) t
    pub order : p < to
    pub before : p < k
    pub pointer : slice_index cs p ≡ point t p to
    pub content : Lies cs to (lay t to)
    pub room : to + size t ≤ length cs
    pub starts : to ≤ k
    pub ends : k < to + size t
    pub low : height t ≤ d

  pub record Slots (ts : Trees) (p to d : ℕ) : Type 0 where
    pub sound : Sounds ts
    pub are : AreAt n 0 p ts
    pub order : p + count ts ≤ to
    pub before : p + count ts ≤ k
    pub pointers : Lies cs p (points ts p to)
    pub contents : Lies cs to (lays ts to)
    pub room : to + sizes ts ≤ length cs
    pub starts : to ≤ k
    pub ends : k < to + sizes ts
    pub low : greatest ts ≤ d

  pub record RowSlots (a b : ℕ) (bs : Bodies) (p to d : ℕ) : Type 0 where
    pub sound : SoundRows bs
    pub are : RowsAt n a b 0 p bs
    pub order : p + count_rows bs * (a + b) ≤ to
    pub before : p + count_rows bs * (a + b) ≤ k
    pub pointers : Lies cs p (row_contents a b bs p to)
    pub contents : Lies cs to (lays_in_rows bs to)
    pub room : to + sizes_in_rows bs ≤ length cs
    pub starts : to ≤ k
    pub ends : k < to + sizes_in_rows bs
    pub low : greatest_in_rows bs ≤ d

  pub below : (p d s start pads : ℕ) (shape : Shape) → target m (here p) ≡ Ok (targets.Content s start shape pads) → 0
      < d
      → Told (flat_map (visits m base (d - 1)) (slots s start shape)) → Told (visits m base d (here p))
  below p d s start pads shape e deep h =
      let rest = flat_map (visits m base (d - 1)) (slots s start shape) in
      let one = pays (here p) (price base shape + pads) in
      told rest (visits m base d (here p)) (λ o. owned-as cs base k (visits m base d (here p)) (one ∷ rest)
      (visits-object m base (here p) s start pads shape e d deep) (owned-right cs base k (one ∷ []) rest o)) h

  pub slots-told : (ts : Trees) (p d : ℕ) → AreAt n 0 p ts → Sounds ts
      → Lies cs p (points ts p (p + count ts) ++ lays ts (p + count ts)) → p + count ts + sizes ts ≤ length cs → p ≤ k
      → k < p + count ts + sizes ts → p + count ts ≤ length ws → greatest ts ≤ d
      → (Slots ts p (p + count ts) d → Told (flat_map (visits m base d) (places 0 p (count ts))))
      → Told (flat_map (visits m base d) (places 0 p (count ts)))
  slots-told ts p d are sound lie room le lt inside low next = from (decided k (p + count ts))
    where
      from : (k < p + count ts) ⊎ (p + count ts ≤ k) → Told (flat_map (visits m base d) (places 0 p (count ts)))
      from (inl u) = (omega arith, inr (owned-among cs base k p (count ts) d le u))
      from (inr u) = next (record {
        sound = sound;
        are = are;
        order = omega arith;
        before = u;
        pointers = lies-front cs p (points ts p (p + count ts)) (lays ts (p + count ts)) lie;
        contents = lies-back cs p (count ts) (points ts p (p + count ts)) (lays ts (p + count ts))
            (length-points ts p (p + count ts)) lie;
        room = room;
        starts = u;
        ends = lt;
        low = low;
      })
