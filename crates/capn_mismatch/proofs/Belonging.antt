-- Suppose that all words before word `k` are the same in the message and in the canonical words. Then word `k` is the
-- same too, or the visits include the visit of the slot that owns it (`Told`). (For `Leaving`.)
use Rattle.std.proofs.Common.{◌≡◌, ◌⊎◌, inl, inr, ℕ, suc, ◌+◌, ◌-◌, ◌*◌, ◌^◌, ◌<◌, ◌≤◌}
use Rattle.std.proofs.Common.{List, [], ◌∷◌, ◌++◌, length, slice_index}
use Rattle.std.proofs.Common.{refl, ap, sym, subst, ◌∙◌, arith}
use Rattle.std.specs.List.{flat_map}
use Rattle.std.proofs.lemmas.Grind.{flat_map-append}
use Rattle.capn_value.specs.Tree.{Tree, nil, node, voids, numbers, links, rows, cap, Trees, no_trees, tree}
use Rattle.capn_value.specs.Tree.{Bodies, no_bodies, body, count, count_rows}
use Rattle.capn_value.specs.Trim.{kept_words_of_rows, kept_slots_of_rows}
use Rattle.capn_value.specs.Cost.{height}
use Rattle.capn_walk.specs.Visits.{places, row_places, visits}
use Rattle.capn_walk.specs.ValueAt.{IsAt, AreAt}
use Rattle.capn_layout.specs.Layout.{size, sizes, point, points, lay, lays, lays_in_rows}
use Rattle.capn_layout.specs.Sound.{Sound}
use Rattle.capn_layout.proofs.shared.LayLengths.{length-lay, length-lays}
use Rattle.capn_value.specs.NumberWidth.{bit, byte, pair, quad, oct}
use Rattle.capn_walk.specs.Accepted.{root}
use Rattle.capn_layout.specs.Layout.{words}
use Rattle.capn_layout.proofs.shared.Room.{length_words}
use Rattle.capn_mismatch.proofs.Pointed.{here}
use Rattle.capn_mismatch.proofs.Owned.{owned-left, Owned, owned-slot, owned-right, owned-as}
use Rattle.capn_mismatch.proofs.Lying.{lies-back, Lies, lies-front}
use Rattle.capn_mismatch.proofs.Told.{others-lie, Slots, Slot, Told, slots-lie, told, RowSlots, decided}
use Rattle.capn_mismatch.proofs.StructsTold.{links-told, struct-told}
use Rattle.capn_mismatch.proofs.RowsTold.{tag-or-rows}
use Rattle.capn_mismatch.proofs.NumbersTold.{numbers-told, words-told}

module _ (ws cs : List ℕ) (base k : ℕ) (small : length cs ≤ 2 ^ 29)
    (same : (j : ℕ) → j < k → slice_index ws j ≡ slice_index cs j) (each : (j : ℕ) → slice_index ws j < 2 ^ 64) where
  abbrev pub n : List (List ℕ)
  n = ws ∷ []

  abbrev pub m : List (List ℕ)
  m = cs ∷ []

  -- ---- one of several slots or rows: the first, or a later one

  pub of-first : (t : Tree) (ts : Trees) (p to d : ℕ) → Slots ws cs base k (tree t ts) p to d
      → (k < to + size t) ⊎ (to + size t ≤ k) → (Slot ws cs base k t p to d → Told ws cs base k (visits m base d (here
      p)))
      → (Slots ws cs base k ts (p + 1) (to + size t) d → Told ws cs base k
      (flat_map (visits m base d) (places 0 (p + 1) (count ts))))
      → Told ws cs base k (flat_map (visits m base d) (places 0 p (count (tree t ts))))
  of-first t ts p to d h (inl u) one others =
      let f = visits m base d in
      let z : p + 0 ≡ p = omega arith in
      let q = h.order in
      let v = h.before in
      let r = h.room in
      let l = h.low in
      told ws cs base k (f (here p)) (f (here p) ++ flat_map f (places 0 (p + 1) (count ts)))
      (owned-left cs base k (f (here p)) (flat_map f (places 0 (p + 1) (count ts))))
      (one (record {
        sound = h.sound.0;
        is = h.are.0;
        order = omega arith;
        before = omega arith;
        pointer = ap (slice_index cs) (sym z) ∙ h.pointers 0 (omega arith);
        content = lies-front cs to (lay t to) (lays ts (to + size t)) h.contents;
        room = omega arith;
        starts = h.starts;
        ends = u;
        low = omega arith;
      }))
  of-first t ts p to d h (inr u) one others =
      let f = visits m base d in
      let z : suc p ≡ p + 1 = omega arith in
      let q = h.order in
      let v = h.before in
      let r = h.room in
      let l = h.low in
      let e = h.ends in
      told ws cs base k (flat_map f (places 0 (p + 1) (count ts)))
      (f (here p) ++ flat_map f (places 0 (p + 1) (count ts)))
      (owned-right cs base k (f (here p)) (flat_map f (places 0 (p + 1) (count ts))))
      (others (record {
        sound = h.sound.1;
        are = subst (λ (x : ℕ). AreAt n 0 x ts) z h.are.1;
        order = omega arith;
        before = omega arith;
        pointers = subst (λ (x : ℕ). Lies cs (p + 1) (points ts x (to + size t))) z
            (lies-back cs p 1 (point t p to ∷ []) (points ts (suc p) (to + size t)) refl h.pointers);
        contents = lies-back cs to (size t) (lay t to) (lays ts (to + size t)) (length-lay t to h.sound.0) h.contents;
        room = omega arith;
        starts = u;
        ends = omega arith;
        low = omega arith;
      }))

  pub of-first-row : (a b : ℕ) (xs : List ℕ) (ss : Trees) (bs : Bodies) (p to d : ℕ) → RowSlots ws cs base k a b
      (body xs ss bs) p to d
      → (k < to + sizes ss) ⊎ (to + sizes ss ≤ k)
      → (Slots ws cs base k ss (p + a) to d → Told ws cs base k
      (flat_map (visits m base d) (places 0 (p + a) (count ss))))
      → (RowSlots ws cs base k a b bs (p + a + b) (to + sizes ss) d
      → Told ws cs base k (flat_map (visits m base d) (row_places 0 (p + a + b) a b (count_rows bs))))
      → Told ws cs base k (flat_map (visits m base d) (row_places 0 p a b (count_rows (body xs ss bs))))
  of-first-row a b xs ss bs p to d h (inl u) one others =
      let f = visits m base d in
      let row = flat_map f (places 0 (p + a) b) in
      let whole = flat_map f (row_places 0 p a b (count_rows (body xs ss bs))) in
      let rest = flat_map f (row_places 0 (p + a + b) a b (count_rows bs)) in
      let join = flat_map-append f (places 0 (p + a) b) (row_places 0 (p + a + b) a b (count_rows bs)) in
      let z : suc (count_rows bs) * (a + b) ≡ a + b + count_rows bs * (a + b) = omega arith in
      let la = h.are.0 in
      let lb = h.are.1 in
      let q = h.order in
      let v = h.before in
      let r = h.room in
      let l = h.low in
      told ws cs base k row whole (λ o. owned-as cs base k whole (row ++ rest) join (owned-left cs base k row rest o))
      (subst (λ (x : ℕ). Told ws cs base k (flat_map f (places 0 (p + a) x))) lb (one (record {
        sound = h.sound.0;
        are = h.are.3;
        order = omega arith;
        before = omega arith;
        pointers = slots-lie ws cs base k a b xs ss bs p to la lb h.pointers;
        contents = lies-front cs to (lays ss to) (lays_in_rows bs (to + sizes ss)) h.contents;
        room = omega arith;
        starts = h.starts;
        ends = u;
        low = omega arith;
      })))
  of-first-row a b xs ss bs p to d h (inr u) one others =
      let f = visits m base d in
      let row = flat_map f (places 0 (p + a) b) in
      let whole = flat_map f (row_places 0 p a b (count_rows (body xs ss bs))) in
      let rest = flat_map f (row_places 0 (p + a + b) a b (count_rows bs)) in
      let join = flat_map-append f (places 0 (p + a) b) (row_places 0 (p + a + b) a b (count_rows bs)) in
      let z : suc (count_rows bs) * (a + b) ≡ a + b + count_rows bs * (a + b) = omega arith in
      let la = h.are.0 in
      let lb = h.are.1 in
      let q = h.order in
      let v = h.before in
      let r = h.room in
      let l = h.low in
      let e = h.ends in
      told ws cs base k rest whole (λ o. owned-as cs base k whole (row ++ rest) join (owned-right cs base k row rest o))
      (others (record {
        sound = h.sound.1;
        are = h.are.4;
        order = omega arith;
        before = omega arith;
        pointers = others-lie ws cs base k a b xs ss bs p to la lb h.pointers;
        contents = lies-back cs to (sizes ss) (lays ss to) (lays_in_rows bs (to + sizes ss))
            (length-lays ss to h.sound.0) h.contents;
        room = omega arith;
        starts = u;
        ends = omega arith;
        low = omega arith;
      }))

  -- ---- all values

  mutual
    pub slot-told : (t : Tree) (p to d : ℕ) → Slot ws cs base k t p to d → Told ws cs base k (visits m base d (here p))
    slot-told nil p to d h = let a = h.starts in let b = h.ends in absurd (omega arith)
    slot-told (cap j) p to d h = let a = h.starts in let b = h.ends in absurd (omega arith)
    slot-told (voids c) p to d h = let a = h.starts in let b = h.ends in absurd (omega arith)
    slot-told (numbers bit xs) p to d h = numbers-told ws cs base k small same each bit xs p to d h refl
    slot-told (numbers byte xs) p to d h = numbers-told ws cs base k small same each byte xs p to d h refl
    slot-told (numbers pair xs) p to d h = numbers-told ws cs base k small same each pair xs p to d h refl
    slot-told (numbers quad xs) p to d h = numbers-told ws cs base k small same each quad xs p to d h refl
    slot-told (numbers oct xs) p to d h = words-told ws cs base k small same each xs p to d h
    slot-told (node xs ss) p to d h =
        struct-told ws cs base k small same xs ss p to d h (slots-below ss (to + length xs) (to + length xs + count ss)
        (d - 1))
    slot-told (links ts) p to d h = links-told ws cs base k small same ts p to d h
        (slots-below ts to (to + count ts) (d - 1))
    slot-told (rows bs) p to d h =
        tag-or-rows ws cs base k small same bs p to d h (decided to k)
        (rows-below-it bs (kept_words_of_rows bs) (kept_slots_of_rows bs)
        (to + 1) (to + 1 + count_rows bs * (kept_words_of_rows bs + kept_slots_of_rows bs)) (d - 1))

    pub slots-below : (ts : Trees) (p to d : ℕ) → Slots ws cs base k ts p to d
        → Told ws cs base k (flat_map (visits m base d) (places 0 p (count ts)))
    slots-below no_trees p to d h = let a = h.starts in let b = h.ends in absurd (omega arith)
    slots-below (tree t ts) p to d h = of-first t ts p to d h (decided k (to + size t)) (slot-told t p to d)
        (slots-below ts (p + 1) (to + size t) d)

    pub rows-below-it : (bs : Bodies) (a b p to d : ℕ) → RowSlots ws cs base k a b bs p to d
        → Told ws cs base k (flat_map (visits m base d) (row_places 0 p a b (count_rows bs)))
    rows-below-it no_bodies a b p to d h = let e = h.starts in let f = h.ends in absurd (omega arith)
    rows-below-it (body xs ss bs) a b p to d h = of-first-row a b xs ss bs p to d h (decided k (to + sizes ss))
        (slots-below ss (p + a) to d) (rows-below-it bs a b (p + a + b) (to + sizes ss) d)

  -- ---- from the root on

  pub root-told : (v : Tree) (d : ℕ) → cs ≡ words v → Sound v → IsAt n root v → height v ≤ d → 0 < length ws
      → k < length cs → Told ws cs base k (visits m base d root)
  unfolding words
  root-told v d e sound is low some lt = from (decided 0 k)
    where
      of-layout : words v ≡ point v 0 1 ∷ lay v 1
      of-layout = refl

      content : Lies cs 1 (lay v 1)
      content j l =
          let z : 1 + j ≡ suc j = omega arith in
          ap (slice_index cs) z ∙ ap (λ (xs : List ℕ). slice_index xs (suc j)) (e ∙ of-layout)

      from : (0 < k) ⊎ (k ≤ 0) → Told ws cs base k (visits m base d root)
      from (inr u) =
          let z : k ≡ 0 = omega arith in
          (omega arith, inr (subst (λ (w : ℕ). Owned cs base k (visits m base d (here w))) z (owned-slot cs base k d)))
      from (inl u) =
          let l = length_words v sound in
          let x = ap length e in
          slot-told v 0 1 d (record {
            sound = sound;
            is = is;
            order = omega arith;
            before = u;
            pointer = ap (λ (xs : List ℕ). slice_index xs 0) (e ∙ of-layout);
            content = content;
            room = omega arith;
            starts = u;
            ends = omega arith;
            low = low;
          })
