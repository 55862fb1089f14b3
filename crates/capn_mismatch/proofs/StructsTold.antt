-- The cases of `Belonging` in which word `k` belongs to a struct or to a list of pointers, or lies below that object.
-- (For `Belonging` and `NumbersTold`.)
use Rattle.std.proofs.Common.{◌≡◌, ◌⊎◌, inl, inr, ℕ, ◌+◌, ◌-◌, ◌^◌, ◌<◌, ◌≤◌}
use Rattle.std.proofs.Common.{Bool, true, false, List, [], ◌∷◌, ◌++◌, length, take, slice_index}
use Rattle.std.proofs.Common.{Ok, refl, ap, ap₂, sym, subst, ◌∙◌, arith}
use Rattle.std.proofs.lemmas.List.{take_all}
use Rattle.std.proofs.lemmas.Bool.Decides.{nat_tests}
use Rattle.std.specs.List.{flat_map}
use Rattle.capn_words.specs.declared.pointer.Width.TheVariants.{Link}
use Rattle.capn_value.specs.Tree.{Tree, nil, node, voids, numbers, links, rows, cap, Trees, no_trees, tree}
use Rattle.capn_value.specs.Tree.{count}
use Rattle.capn_value.specs.Trim.{kept_behind, kept_words, kept_slots}
use Rattle.capn_target.specs.declared.target.Target.TheVariants as targets
use Rattle.capn_target.specs.declared.target.Shape.{Shape}
use Rattle.capn_target.specs.declared.target.Shape.TheVariants as shapes
use Rattle.capn_target.specs.Target.{target}
use Rattle.capn_walk.specs.Visits.{places, visits}
use Rattle.capn_walk.specs.ValueAt.{IsAt}
use Rattle.capn_layout.specs.Layout.{struct_to, list_to}
use Rattle.capn_layout.proofs.shared.KeptLengths.{kept_words-le, kept_slots-le}
use Rattle.capn_target.specs.Target.{if_inside}
use Rattle.capn_layout.specs.Layout.{size, sizes, point, points, lays}
use Rattle.capn_layout.proofs.shared.LayLengths.{length-points}
use Rattle.capn_layout.proofs.shared.Shaped.{found, inside-of}
use Rattle.capn_walk.specs.ValueAt.{IsInside}
use Rattle.capn_mismatch.proofs.Pointed.{here, has-room, had-room, struct-named, list-named}
use Rattle.capn_mismatch.proofs.Lying.{lies-back, Lies, lies-front, lies-as}
use Rattle.capn_mismatch.proofs.Told.{Slots, same-word, slots-told, Slot, Told, below, decided}

none-kept : (b : Bool) (n : ℕ) → kept_behind b n ≡ 0 → n ≡ 0
none-kept b n e = grind (arith, nat_tests)

some-kept : (n : ℕ) → kept_behind false n ≡ 0 → ⊥
some-kept n e = grind (arith, nat_tests)

no-sizes : (ss : Trees) → kept_slots ss ≡ 0 → sizes ss ≡ 0
no-sizes no_trees e = refl
no-sizes (tree nil ts) e = let f = no-sizes ts (none-kept true (kept_slots ts) e) in omega arith
no-sizes (tree (cap k) ts) e = absurd (some-kept (kept_slots ts) e)
no-sizes (tree (node ws ss) ts) e = absurd (some-kept (kept_slots ts) e)
no-sizes (tree (voids n) ts) e = absurd (some-kept (kept_slots ts) e)
no-sizes (tree (numbers a xs) ts) e = absurd (some-kept (kept_slots ts) e)
no-sizes (tree (links us) ts) e = absurd (some-kept (kept_slots ts) e)
no-sizes (tree (rows bs) ts) e = absurd (some-kept (kept_slots ts) e)

module _ (ws cs : List ℕ) (base k : ℕ) (small : length cs ≤ 2 ^ 29)
    (same : (j : ℕ) → j < k → slice_index ws j ≡ slice_index cs j) where
  abbrev pub n : List (List ℕ)
  n = ws ∷ []

  abbrev pub m : List (List ℕ)
  m = cs ∷ []

  -- ---- one object

  -- In the message and in the canonical words, the pointer at word `p` names the same object: `shape` at word `to`. The
  -- message has the object's `size` words.
  pub record Both (p to size : ℕ) (shape : Shape) : Type 0 where
    pub message : target n (here p) ≡ Ok (targets.Content 0 to shape 0)
    pub canonical : target m (here p) ≡ Ok (targets.Content 0 to shape 0)
    pub inside : to + size ≤ length ws

  pub both-within : (t : Tree) (p to size : ℕ) (shape : Shape) → IsAt n (here p) t
      → target n (here p) ≡ if_inside n 0 to size (Ok (targets.Content 0 to shape 0))
      → target m (here p) ≡ if_inside m 0 to size (Ok (targets.Content 0 to shape 0)) → to + size ≤ length cs
      → Both p to size shape
  both-within t p to size shape is e f room =
      let x = found n (here p) t is in
      let r = had-room ws to size (Ok (targets.Content 0 to shape 0)) x.0 (sym e ∙ x.1) in
      record {
        message = e ∙ has-room ws to size (Ok (targets.Content 0 to shape 0)) r.0;
        canonical = f ∙ has-room cs to size (Ok (targets.Content 0 to shape 0)) room;
        inside = r.0;
      }

  -- ---- a struct

  module _ (xs : List ℕ) (ss : Trees) (p to d : ℕ) (h : Slot ws cs base k (node xs ss) p to d) where
    abbrev pub a : ℕ
    a = kept_words xs

    abbrev pub b : ℕ
    b = kept_slots ss

    pub struct-some : 0 < a + b
    struct-some = from (decided 0 (a + b))
      where
        from : (0 < a + b) ⊎ (a + b ≤ 0) → 0 < a + b
        from (inl u) = u
        from (inr u) =
            let z = no-sizes ss (omega arith) in
            let e = h.ends in
            let f = h.starts in
            absurd (omega arith)

    pub struct-pointer : slice_index cs p ≡ struct_to p to a b
    unfolding point
    struct-pointer = h.pointer

    pub struct-both : Both p to (a + b) (shapes.Node a b)
    struct-both =
        let o = h.sound in
        let u = kept_words-le xs in
        let v = kept_slots-le ss in
        let r = h.room in
        let q = h.order in
        let s = struct-some in
        both-within (node xs ss) p to (a + b) (shapes.Node a b) h.is
        (struct-named ws p to a b q (omega arith) (omega arith) (omega arith) s (same p h.before ∙ struct-pointer))
        (struct-named cs p to a b q (omega arith) (omega arith) (omega arith) s struct-pointer) (omega arith)

    pub struct-inside : IsInside n (shapes.Node a b) 0 to (node xs ss)
    struct-inside = inside-of n (here p) 0 to 0 (shapes.Node a b) struct-both.message (node xs ss) h.is

    pub all-words : a ≡ length xs
    all-words = let f = struct-inside.0 in cc

    pub all-slots : b ≡ count ss
    all-slots = let f = struct-inside.0 in cc

    pub struct-content : Lies cs to (xs ++ (points ss (to + length xs) (to + length xs + count ss)
        ++ lays ss (to + length xs + count ss)))
    struct-content =
        let l = length-points ss (to + length xs) (to + length xs + count ss) in
        let z : to + (length xs + count ss) ≡ to + length xs + count ss = omega arith in
        lies-as cs to _ _
        (ap₂ (λ (x y : ℕ). take x xs ++ (take y (points ss (to + x) (to + (x + y))) ++ lays ss (to + (x + y))))
        all-words all-slots
        ∙ ap (λ (x : ℕ). take (length xs) xs ++ (take (count ss) (points ss (to + length xs) x) ++ lays ss x)) z
        ∙ ap₂ (λ (x y : List ℕ). x ++ (y ++ lays ss (to + length xs + count ss)))
        (take_all (length xs) xs (omega arith))
        (take_all (count ss) (points ss (to + length xs) (to + length xs + count ss)) (omega arith))) h.content

    pub struct-told : (Slots ws cs base k ss (to + length xs) (to + length xs + count ss) (d - 1)
        → Told ws cs base k (flat_map (visits m base (d - 1)) (places 0 (to + length xs) (count ss))))
        → Told ws cs base k (visits m base d (here p))
    struct-told next = from (decided k (to + length xs))
      where
        rest : List ℕ
        rest = points ss (to + length xs) (to + length xs + count ss) ++ lays ss (to + length xs + count ss)

        from : (k < to + length xs) ⊎ (to + length xs ≤ k) → Told ws cs base k (visits m base d (here p))
        from (inl u) =
            let w = all-words in
            let i = struct-both.inside in (
              omega arith,
              inl (same-word ws cs base k to xs struct-inside.1 (lies-front cs to xs rest struct-content)
                  h.starts u),
            )
        from (inr u) =
            let w = all-words in
            let s = all-slots in
            let i = struct-both.inside in
            let r = h.room in
            let e = h.ends in
            let o = h.sound in
            let l = h.low in
            let f = below ws cs base k p d 0 to 0 (shapes.Node a b) struct-both.canonical (omega arith) in
            f (subst (λ (x : ℕ). Told ws cs base k (flat_map (visits m base (d - 1)) (places 0 (to + x) b))) (sym w)
            (subst (λ (x : ℕ). Told ws cs base k (flat_map (visits m base (d - 1)) (places 0 (to + length xs) x)))
            (sym s)
            (slots-told ws cs base k ss (to + length xs) (d - 1) struct-inside.2 o.2
            (lies-back cs to (length xs) xs rest refl struct-content) (omega arith) u (omega arith) (omega arith)
            (omega arith) next)))

  -- ---- a list of pointers

  module _ (ts : Trees) (p to d : ℕ) (h : Slot ws cs base k (links ts) p to d) where
    pub links-pointer : slice_index cs p ≡ list_to p to Link (count ts)
    unfolding point
    links-pointer = h.pointer

    pub links-both : Both p to (count ts) (shapes.Many Link (count ts))
    links-both =
        let o = h.sound in
        let r = h.room in
        let e = h.ends in
        let q = h.order in
        both-within (links ts) p to (count ts) (shapes.Many Link (count ts)) h.is
        (list-named ws p to (count ts) Link tt q (omega arith) o.0 (same p h.before ∙ links-pointer))
        (list-named cs p to (count ts) Link tt q (omega arith) o.0 links-pointer) (omega arith)

    pub links-told : (Slots ws cs base k ts to (to + count ts) (d - 1)
        → Told ws cs base k (flat_map (visits m base (d - 1)) (places 0 to (count ts)))) → Told ws cs base k
        (visits m base d (here p))
    links-told next =
        let i = inside-of n (here p) 0 to 0 (shapes.Many Link (count ts)) links-both.message (links ts) h.is in
        let o = h.sound in
        let r = h.room in
        let e = h.ends in
        let l = h.low in
        let u = links-both.inside in
        below ws cs base k p d 0 to 0 (shapes.Many Link (count ts)) links-both.canonical (omega arith)
        (slots-told ws cs base k ts to (d - 1) i.1 o.1 h.content (omega arith) h.starts (omega arith) u (omega arith)
        next)
