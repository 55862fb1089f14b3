-- If no visit is a fault, the first capability of a value is the first capability among the targets of the visited
-- slots. (For `RootSurveys` and capn_mismatch.)
use Rattle.std.proofs.Common.{◌≡◌, ℕ, zero, suc, ◌+◌, ◌-◌, List, [], ◌∷◌, ◌++◌, length, Option, Some, None, Ok, refl}
use Rattle.std.proofs.Common.{ap, ap₂, ◌∙◌, arith}
use Rattle.std.specs.List.{flat_map}
use Rattle.std.specs.Option.{option_or}
use Rattle.std.proofs.lemmas.Grind.{flat_map-append}
use Rattle.capn_words.specs.declared.space.Place.{Place}
use Rattle.capn_value.specs.Tree.{Tree, nil, node, voids, numbers, links, rows, cap, Trees}
use Rattle.capn_value.specs.Tree.{no_trees, tree, Bodies, no_bodies, body, count, count_rows}
use Rattle.capn_value.specs.FirstCap.{first_cap, first_in, first_in_rows}
use Rattle.capn_words.specs.declared.pointer.Width.TheVariants.{W0, Link}
use Rattle.capn_target.specs.declared.target.Target.TheVariants as targets
use Rattle.capn_target.specs.declared.target.Shape.{Shape}
use Rattle.capn_target.specs.declared.target.Shape.TheVariants as shapes
use Rattle.capn_target.specs.Target.{target, list_width}
use Rattle.capn_walk.specs.Visits.{Visit, pays, fails, places, row_places, slots, visits}
use Rattle.capn_walk.specs.Accepted.{AllPay}
use Rattle.capn_walk.specs.ValueAt.{IsAt, AreAt, RowsAt}
use Rattle.capn_walk.specs.Surveyed.{cap_of, first_cap_of}
use Rattle.capn_walk.proofs.shared.Costs.{all-front, all-back}
use Rattle.capn_walk.proofs.shared.Numbers.{no-slots}
use Rattle.capn_walk.proofs.shared.Walks.{slot, visits-null, visits-cap, visits-deep, visits-object}

option_or-assoc : (a b c : Option ℕ) → option_or a (option_or b c) ≡ option_or (option_or a b) c
option_or-assoc None b c = refl
option_or-assoc (Some k) b c = refl

module _ (m : List (List ℕ)) where
  caps-append : (xs ys : List Visit) → first_cap_of m (xs ++ ys) ≡ option_or (first_cap_of m xs) (first_cap_of m ys)
  caps-append [] ys = refl
  caps-append (pays at n ∷ xs) ys =
      ap (option_or (cap_of (target m at))) (caps-append xs ys)
      ∙ option_or-assoc (cap_of (target m at)) (first_cap_of m xs) (first_cap_of m ys)
  caps-append (fails at e ∷ xs) ys = caps-append xs ys

  module _ (base : ℕ) where
    record Object (at : Place) (d s start : ℕ) (shape : Shape) : Type 0 where
      below : AllPay (flat_map (visits m base (d - 1)) (slots s start shape))
      caps : first_cap_of m (visits m base d at)
          ≡ first_cap_of m (flat_map (visits m base (d - 1)) (slots s start shape))

    object : (at : Place) (d s start pads : ℕ) (shape : Shape) → target m at ≡ Ok (targets.Content s start shape pads)
        → AllPay (visits m base d at) → Object at d s start shape
    object at zero s start pads shape e h = let f = rw (visits-deep m base at s start pads shape e 0 refl) at h in
        absurd f
    object at (suc d) s start pads shape e h =
        let o = visits-object m base at s start pads shape e (suc d) (omega arith) in
        let f = rw o at h in
        record {
          below = f;
          caps = ap (first_cap_of m) o
              ∙ ap (λ (k : Option ℕ). option_or k
              (first_cap_of m (flat_map (visits m base (suc d - 1)) (slots s start shape)))) (ap cap_of e);
        }

    mutual
      pub caps-at : (v : Tree) (at : Place) (d : ℕ) → IsAt m at v → AllPay (visits m base d at)
          → first_cap_of m (visits m base d at) ≡ first_cap v
      caps-at nil at d i h = ap (first_cap_of m) (visits-null m base at d i)
          ∙ ap (λ (k : Option ℕ). option_or k None) (ap cap_of i)
      caps-at (cap k) at d i h = ap (first_cap_of m) (visits-cap m base at d k i)
          ∙ ap (λ (k : Option ℕ). option_or k None) (ap cap_of i)
      caps-at (node ws ss) at d i h =
          let o = object at d i.segment i.start i.pads (shapes.Node (length ws) (count ss)) i.is h in
          o.caps ∙ caps-in ss i.segment (i.start + length ws) (d - 1) i.inside.1 o.below
      caps-at (links ts) at d i h =
          let o = object at d i.segment i.start i.pads (shapes.Many Link (count ts)) i.is h in
          o.caps ∙ caps-in ts i.segment i.start (d - 1) i.inside o.below
      caps-at (rows bs) at d i h =
          let n = i.3 in
          let o = object at d n.segment n.start n.pads (shapes.Rows (count_rows bs) i.0 i.1 i.2) n.is h in
          o.caps ∙ caps-in_rows bs i.0 i.1 n.segment (n.start + 1) (d - 1) (let e : suc n.start ≡ n.start + 1 =
          omega arith in rw e at n.inside) o.below
      caps-at (voids n) at d i h = (object at d i.segment i.start i.pads (shapes.Many W0 n) i.is h).caps
      caps-at (numbers a xs) at d i h =
          (object at d i.segment i.start i.pads (shapes.Many (list_width a) (length xs)) i.is h).caps
          ∙ ap (λ (ps : List Place). first_cap_of m (flat_map (visits m base (d - 1)) ps))
          (no-slots a i.segment i.start (length xs))

      caps-in : (ts : Trees) (s w d : ℕ) → AreAt m s w ts → AllPay (flat_map (visits m base d) (places s w (count ts)))
          →
          first_cap_of m (flat_map (visits m base d) (places s w (count ts))) ≡ first_in ts
      caps-in no_trees s w d i h = refl
      caps-in (tree t ts) s w d i h =
          let here = visits m base d (slot s w) in
          let rest = flat_map (visits m base d) (places s (w + 1) (count ts)) in
          let e : suc w ≡ w + 1 = omega arith in
          let one = caps-at t (slot s w) d i.0 (all-front here rest h) in
          let two = caps-in ts s (w + 1) d (rw e at i.1) (all-back here rest h) in
          caps-append here rest ∙ ap₂ option_or one two

      caps-in_rows : (bs : Bodies) (a b s w d : ℕ) → RowsAt m a b s w bs
          → AllPay (flat_map (visits m base d) (row_places s w a b (count_rows bs))) →
          first_cap_of m (flat_map (visits m base d) (row_places s w a b (count_rows bs))) ≡ first_in_rows bs
      caps-in_rows no_bodies a b s w d i h = refl
      caps-in_rows (body ws ss bs) a b s w d i h =
          let here = flat_map (visits m base d) (places s (w + a) b) in
          let rest = flat_map (visits m base d) (row_places s (w + a + b) a b (count_rows bs)) in
          let e = flat_map-append (visits m base d) (places s (w + a) b)
          (row_places s (w + a + b) a b (count_rows bs)) in
          let h2 = rw e at h in
          let lb = i.1 in
          let one = caps-in ss s (w + a) d i.3 (rw (← lb) at (all-front here rest h2)) in
          let two = caps-in_rows bs a b s (w + a + b) d i.4 (all-back here rest h2) in
          let first = rw lb at one in
          ap (first_cap_of m) e ∙ caps-append here rest ∙ ap₂ option_or first two
