-- The lowest bits and the fields of a pointer word in a layout decide the kind of the value that it points to. (For
-- `DueComposite`, `DueLists` and `DueObjects`.)
use Rattle.std.proofs.Common.{◌≡◌, ◌≢◌, ◌⊎◌, inl, inr, ℕ, zero, suc, ◌+◌, ◌-◌, ◌*◌, ◌%◌, ◌^◌, ◌<◌, ◌≤◌, ◌==◌, ◌&&◌}
use Rattle.std.proofs.Common.{Bool, true, false, if◌then◌else◌, List, length, None, Ok, pos, negsuc, refl, ap, sym}
use Rattle.std.proofs.Common.{◌∙◌, arith}
use Rattle.std.proofs.lemmas.Bool.Decides.{nat_tests}
use Rattle.capn_words.specs.Pointers.{word_of, field, pointer_of}
use Rattle.capn_words.specs.declared.space.Place.{Place}
use Rattle.capn_words.specs.declared.pointer.Pointer.TheVariants.{Node, Many}
use Rattle.capn_words.specs.declared.pointer.Width.{Width}
use Rattle.capn_words.specs.declared.pointer.Width.TheVariants.{W0, Link, Rows}
use Rattle.capn_words.proofs.shared.Choices.{if-no}
use Rattle.capn_words.proofs.shared.Pointers.{pointer_of-word_of}
use Rattle.capn_value.specs.Tree.{Tree, nil, node, voids, numbers, links, rows, cap, Trees}
use Rattle.capn_value.specs.Tree.{Bodies, count, count_rows}
use Rattle.capn_value.specs.FirstCap.{first_cap}
use Rattle.capn_value.specs.Trim.{kept_words, kept_slots}
use Rattle.capn_target.specs.declared.target.Target.TheVariants as targets
use Rattle.capn_target.specs.declared.target.Shape.{Shape}
use Rattle.capn_target.specs.declared.target.Shape.TheVariants as shapes
use Rattle.capn_target.specs.Target.{target, list_width}
use Rattle.capn_walk.specs.ValueAt.{IsAt}
use Rattle.capn_walk.proofs.shared.Numbers.{no-number_width}
use Rattle.capn_layout.specs.Layout.{point, struct_to, list_to, row_size}
use Rattle.capn_layout.specs.Sound.{Sound}

-- ---- the low half of a word

low-struct : (b : Bool) (n x y : ℕ) → n < 2 ^ 29
    → (word_of (if b then Node (negsuc 0) 0 0 else Node (pos n) x y) ≡ 0xffff_fffc)
    ⊎ (word_of (if b then Node (negsuc 0) 0 0 else Node (pos n) x y) % 2 ^ 32 ≡ 4 * n)
low-struct true n x y h = inl (omega arith)
low-struct false n x y h = inr (omega arith)

-- The word `x` is the pointer to an empty struct, or the low half of `x` is that of a pointer with the offset `n` to a
-- struct or a list. (Our own.)
abbrev pub IsNear : ℕ → ℕ → Type 0
IsNear x n = (x ≡ 0xffff_fffc) ⊎ ((x % 2 ^ 32 ≡ 4 * n) ⊎ (x % 2 ^ 32 ≡ 4 * n + 1))

module _ (from to : ℕ) (order : from < to) (room : to ≤ 2 ^ 29) where
  -- If `v` has no capability and its pointer is not null, that pointer leads to an empty struct or to `to` (`IsNear`).
  pub near-word : (v : Tree) → first_cap v ≡ None → point v from to ≢ 0 → IsNear (point v from to) (to - from - 1)
  unfolding point
  near-word nil e z = absurd (z refl)
  near-word (cap k) e z = absurd (cc)
  near-word (node ws ss) e z =
      elim (low-struct ((kept_words ws == 0) && (kept_slots ss == 0)) (to - suc from) (kept_words ws) (kept_slots ss)
      (omega arith)) as (λ _. IsNear (point (node ws ss) from to) (to - from - 1)) [
        | inl x ↦ inl x
        | inr y ↦ inr (inl (omega arith))
      ]
  near-word (voids n) e z = inr (inr (omega arith))
  near-word (numbers a xs) e z = inr (inr (omega arith))
  near-word (links ts) e z = inr (inr (omega arith))
  near-word (rows bs) e z = inr (inr (omega arith))

  -- If the pointer of `v` is not null and its two lowest bits are 0, `v` is a struct.
  pub struct-of : (v : Tree) → first_cap v ≡ None → point v from to ≢ 0 → point v from to % 4 ≡ 0
      → (ws : List ℕ) × (ss : Trees) × (v ≡ node ws ss)
  unfolding point
  struct-of nil e z l = absurd (z refl)
  struct-of (cap k) e z l = absurd (cc)
  struct-of (node ws ss) e z l = (ws, ss, refl)
  struct-of (voids n) e z l = absurd (omega arith)
  struct-of (numbers a xs) e z l = absurd (omega arith)
  struct-of (links ts) e z l = absurd (omega arith)
  struct-of (rows bs) e z l = absurd (omega arith)

  -- A struct whose pointer leads to the word `to` has words or slots.
  pub struct-some : (a b : ℕ) → struct_to from to a b % 2 ^ 32 ≡ 4 * (to - from - 1) → 0 < a + b
  struct-some zero zero e = absurd (omega arith)
  struct-some zero (suc b) e = omega arith
  struct-some (suc a) b e = omega arith

  pub struct-fields : (a b : ℕ) → a < 2 ^ 16 → b < 2 ^ 16 → 0 < a + b
      → (field 32 16 (struct_to from to a b) ≡ a) × (field 48 16 (struct_to from to a b) ≡ b)
  struct-fields a b ha hb some =
      let e = ap word_of (if-no ((a == 0) && (b == 0)) (Node (negsuc 0) 0 0) (Node (pos (to - suc from)) a b)
      (grind (arith, nat_tests))) in
      (ap (field 32 16) e ∙ omega arith, ap (field 48 16) e ∙ omega arith)

  -- If the pointers to two lists at `to` are equal, the lists have the same width and the same count.
  module _ (k l : Width) (n m : ℕ) (hn : n < 2 ^ 29) (hm : m < 2 ^ 29)
      (e : list_to from to k n ≡ list_to from to l m) where
    same-pointer : Many (pos (to - suc from)) k n ≡ Many (pos (to - suc from)) l m
    same-pointer =
        sym (pointer_of-word_of (Many (pos (to - suc from)) k n) (omega arith, hn)) ∙ ap pointer_of e
        ∙ pointer_of-word_of (Many (pos (to - suc from)) l m) (omega arith, hm)

    pub same-width : k ≡ l
    same-width = let p = same-pointer in cc

    pub same-number : n ≡ m
    same-number = let p = same-pointer in cc

-- ---- the target of a value that isn't null

-- The target of the pointer at the place `at` is an object (`Content`).
abbrev pub HasContent : List (List ℕ) → Place → Type 0
HasContent m at = (s start pads : ℕ) × (shape : Shape) × (target m at ≡ Ok (targets.Content s start shape pads))

pub content-of : (m : List (List ℕ)) (at : Place) (v : Tree) → IsAt m at v → first_cap v ≡ None → (v ≡ nil → ⊥)
    → HasContent m at
content-of m at nil h e z = absurd (z refl)
content-of m at (cap k) h e z = absurd (cc)
content-of m at (node ws ss) h e z = (h.segment, h.start, h.pads, _, h.is)
content-of m at (voids n) h e z = (h.segment, h.start, h.pads, _, h.is)
content-of m at (numbers a xs) h e z = (h.segment, h.start, h.pads, _, h.is)
content-of m at (links ts) h e z = (h.segment, h.start, h.pads, _, h.is)
content-of m at (rows bs) h e z = (h.3.segment, h.3.start, h.3.pads, _, h.3.is)

pub point-nil : (v : Tree) (from to : ℕ) → v ≡ nil → point v from to ≡ 0
unfolding point
point-nil v from to e = ap (λ (x : Tree). point x from to) e

-- ---- the target of a list

-- The target of the pointer at the place `at` is a list of `n` elements of the width `k` (`Many`).
abbrev pub NamesList : List (List ℕ) → Place → Width → ℕ → Type 0
NamesList m at k n = (s start pads : ℕ) × (target m at ≡ Ok (targets.Content s start (shapes.Many k n) pads))

module _ (m : List (List ℕ)) (at : Place) (from to : ℕ) (order : from < to) (room : to ≤ 2 ^ 29) (k : Width) (n : ℕ)
    (few : n < 2 ^ 29) where
  as-list : (l : Width) (j s start pads : ℕ) → j < 2 ^ 29 → list_to from to l j ≡ list_to from to k n
      → target m at ≡ Ok (targets.Content s start (shapes.Many l j) pads) → NamesList m at k n
  as-list l j s start pads h e t =
      let w = same-width from to order room l k j n h few e in
      let c = same-number from to order room l k j n h few e in (
        s,
        start,
        pads,
        t ∙ ap (λ (x : Width). Ok (targets.Content s start (shapes.Many x j) pads)) w
            ∙ ap (λ (x : ℕ). Ok (targets.Content s start (shapes.Many k x) pads)) c,
      )

  pub list-of : (v : Tree) → first_cap v ≡ None → Sound v → IsAt m at v → point v from to ≡ list_to from to k n
      → (k ≡ Rows → ⊥) → NamesList m at k n
  unfolding point
  list-of nil f o h e r = absurd (omega arith)
  list-of (cap i) f o h e r = absurd (cc)
  list-of (node ws ss) f o h e r =
      elim (low-struct ((kept_words ws == 0) && (kept_slots ss == 0)) (to - suc from) (kept_words ws) (kept_slots ss)
      (omega arith)) as (λ _. NamesList m at k n) [ inl x ↦ absurd (omega arith) | inr y ↦ absurd (omega arith) ]
  list-of (voids j) f o h e r = as-list W0 j h.segment h.start h.pads o e h.is
  list-of (numbers a xs) f o h e r = as-list (list_width a) (length xs) h.segment h.start h.pads o.0 e h.is
  list-of (links ts) f o h e r = as-list Link (count ts) h.segment h.start h.pads o.0 e h.is
  list-of (rows bs) f o h e r =
      absurd (r (sym (same-width from to order room Rows k (count_rows bs * row_size bs) n o.3 few e)))

  no-rows : (l : Width) (j : ℕ) → j < 2 ^ 29 → list_to from to l j ≡ list_to from to k n → k ≡ Rows
      → (l ≡ Rows → ⊥) → ⊥
  no-rows l j h e r z = z (same-width from to order room l k j n h few e ∙ r)

  pub rows-of : (v : Tree) → first_cap v ≡ None → Sound v → point v from to ≡ list_to from to k n → k ≡ Rows
      → (bs : Bodies) × (v ≡ rows bs)
  unfolding point
  rows-of nil f o e r = absurd (omega arith)
  rows-of (cap i) f o e r = absurd (cc)
  rows-of (node ws ss) f o e r =
      elim (low-struct ((kept_words ws == 0) && (kept_slots ss == 0)) (to - suc from) (kept_words ws) (kept_slots ss)
      (omega arith)) as (λ _. (bs : Bodies) × (node ws ss ≡ rows bs)) [
        | inl x ↦ absurd (omega arith)
        | inr y ↦ absurd (omega arith)
      ]
  rows-of (voids j) f o e r = absurd (no-rows W0 j o e r (λ q. cc))
  rows-of (numbers a xs) f o e r =
      absurd (no-rows (list_width a) (length xs) o.0 e r (no-number_width a Rows refl))
  rows-of (links ts) f o e r = absurd (no-rows Link (count ts) o.0 e r (λ q. cc))
  rows-of (rows bs) f o e r = (bs, refl)
