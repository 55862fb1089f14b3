-- The depth of a message is the height of its value. (For `values`.)
use Rattle.std.proofs.Common.{◌≡◌, true, ℕ, zero, suc, ◌+◌, ◌-◌, ◌<◌, max, List, [], ◌∷◌, ◌++◌, length, Result, Ok}
use Rattle.std.proofs.Common.{Err, refl, ap, ap₂, ◌∙◌, arith}
use Rattle.std.specs.List.{flat_map}
use Rattle.std.proofs.lemmas.Grind.{flat_map-append}
use Rattle.capn_words.specs.declared.space.Place.{Place}
use Rattle.capn_words.specs.declared.pointer.Width.TheVariants.{W0, Link}
use Rattle.capn_value.specs.Tree.{Tree, nil, node, voids, numbers, links, rows, cap, Trees}
use Rattle.capn_value.specs.Tree.{no_trees, tree, Bodies, no_bodies, body, count, count_rows}
use Rattle.capn_value.specs.Cost.{base, height, greatest, greatest_in_rows}
use Rattle.capn_target.specs.declared.target.Target.{Target}
use Rattle.capn_target.specs.declared.target.Target.TheVariants as targets
use Rattle.capn_target.specs.declared.target.Shape.{Shape}
use Rattle.capn_target.specs.declared.target.Shape.TheVariants as shapes
use Rattle.capn_target.specs.declared.target.Fault.{Fault}
use Rattle.capn_target.specs.Target.{target, list_width}
use Rattle.capn_walk.specs.Visits.{places, row_places, slots, visits}
use Rattle.capn_walk.specs.Accepted.{AllPay, IsAccepted, root, may_be_root}
use Rattle.capn_walk.specs.ValueAt.{IsAt, AreAt, RowsAt}
use Rattle.capn_walk.specs.Limits.{Bounds}
use Rattle.capn_walk.specs.Depth.{IsDepth}
use Rattle.capn_walk.specs.Laws.{DepthsAreHeights}
use Rattle.capn_walk.specs.inner.Reach.{greatest_of, reach, reach_of}
use Rattle.capn_walk.proofs.DeepVisits.{reach-null, reach-cap, reach-object}
use Rattle.capn_walk.proofs.Depths.{is-depth}
use Rattle.capn_walk.proofs.RootWalks.{from-root, wrong-root, faulty-root}
use Rattle.capn_walk.proofs.shared.Costs.{all-front, all-back}
use Rattle.capn_walk.proofs.shared.Numbers.{no-slots}
use Rattle.capn_walk.proofs.shared.Walks.{slot, visits-deep, visits-object}

greatest_of-append : (f : Place → ℕ) (ps qs : List Place)
    → greatest_of f (ps ++ qs) ≡ max (greatest_of f ps) (greatest_of f qs)
greatest_of-append f [] qs = omega arith
greatest_of-append f (p ∷ ps) qs = let e = greatest_of-append f ps qs in omega arith

module _ (m : List (List ℕ)) (base : ℕ) where
  record Object (at : Place) (d s start : ℕ) (shape : Shape) : Type 0 where
    below : AllPay (flat_map (visits m base (d - 1)) (slots s start shape))
    is : reach m d at ≡ 1 + reach_of m (d - 1) (slots s start shape)

  object : (at : Place) (d s start pads : ℕ) (shape : Shape) → target m at ≡ Ok (targets.Content s start shape pads)
      → AllPay (visits m base d at) → Object at d s start shape
  object at zero s start pads shape e h =
      let f = rw (visits-deep m base at s start pads shape e 0 refl) at h in absurd f
  object at (suc d) s start pads shape e h =
      let o = visits-object m base at s start pads shape e (suc d) (omega arith) in
      let f = rw o at h in
      record { below = f; is = reach-object m at (suc d) s start pads shape e (omega arith) }

  mutual
    pub reach-at : (v : Tree) (at : Place) (d : ℕ) → IsAt m at v → AllPay (visits m base d at)
        → reach m d at ≡ height v
    reach-at nil at d i h = reach-null m at d i
    reach-at (cap k) at d i h = reach-cap m at d k i
    reach-at (node ws ss) at d i h =
        let o = object at d i.segment i.start i.pads (shapes.Node (length ws) (count ss)) i.is h in
        o.is ∙ ap (λ (n : ℕ). 1 + n) (reach-in ss i.segment (i.start + length ws) (d - 1) i.inside.1 o.below)
    reach-at (links ts) at d i h =
        let o = object at d i.segment i.start i.pads (shapes.Many Link (count ts)) i.is h in
        o.is ∙ ap (λ (n : ℕ). 1 + n) (reach-in ts i.segment i.start (d - 1) i.inside o.below)
    reach-at (rows bs) at d i h =
        let n = i.3 in
        let o = object at d n.segment n.start n.pads (shapes.Rows (count_rows bs) i.0 i.1 i.2) n.is h in
        let e : suc n.start ≡ n.start + 1 = omega arith in
        o.is ∙ ap (λ (k : ℕ). 1 + k)
        (reach-in_rows bs i.0 i.1 n.segment (n.start + 1) (d - 1) (rw e at n.inside) o.below)
    reach-at (voids n) at d i h = (object at d i.segment i.start i.pads (shapes.Many W0 n) i.is h).is
    reach-at (numbers a xs) at d i h =
        (object at d i.segment i.start i.pads (shapes.Many (list_width a) (length xs)) i.is h).is
        ∙ ap (λ (ps : List Place). 1 + reach_of m (d - 1) ps) (no-slots a i.segment i.start (length xs))

    reach-in : (ts : Trees) (s w d : ℕ) → AreAt m s w ts → AllPay (flat_map (visits m base d) (places s w (count ts)))
        → reach_of m d (places s w (count ts)) ≡ greatest ts
    reach-in no_trees s w d i h = refl
    reach-in (tree t ts) s w d i h =
        let rest = flat_map (visits m base d) (places s (w + 1) (count ts)) in
        let e : suc w ≡ w + 1 = omega arith in
        let one = reach-at t (slot s w) d i.0 (all-front (visits m base d (slot s w)) rest h) in
        let two = reach-in ts s (w + 1) d (rw e at i.1) (all-back (visits m base d (slot s w)) rest h) in
        ap₂ max one two

    reach-in_rows : (bs : Bodies) (a b s w d : ℕ) → RowsAt m a b s w bs
        → AllPay (flat_map (visits m base d) (row_places s w a b (count_rows bs)))
        → reach_of m d (row_places s w a b (count_rows bs)) ≡ greatest_in_rows bs
    reach-in_rows no_bodies a b s w d i h = refl
    reach-in_rows (body ws ss bs) a b s w d i h =
        let here = flat_map (visits m base d) (places s (w + a) b) in
        let rest = flat_map (visits m base d) (row_places s (w + a + b) a b (count_rows bs)) in
        let e = flat_map-append (visits m base d) (places s (w + a) b) (row_places s (w + a + b) a b (count_rows bs)) in
        let g = greatest_of-append (reach m d) (places s (w + a) b) (row_places s (w + a + b) a b (count_rows bs)) in
        let h2 = rw e at h in
        let lb = i.1 in
        let one = reach-in ss s (w + a) d i.3 (rw (← lb) at (all-front here rest h2)) in
        let two = reach-in_rows bs a b s (w + a + b) d i.4 (all-back here rest h2) in
        let first = rw lb at one in
        g ∙ ap₂ max first two

-- ---- the depth of a message

-- the root pointer has the target `found`, for which `may_be_root` is true
record Root (m : List (List ℕ)) : Type 0 where
  found : Target
  is : target m root ≡ Ok found
  kind : may_be_root found ≡ true

root-of : (m : List (List ℕ)) (limits : Bounds) → IsAccepted m limits → (r : Result Target Fault) → target m root ≡ r
    → Root m
root-of m limits a (Ok targets.Nil) e = record { found = targets.Nil; is = e; kind = refl }
root-of m limits a (Ok (targets.Content s start shape pads)) e =
    record { found = targets.Content s start shape pads; is = e; kind = refl }
root-of m limits a (Ok (targets.Cap k)) e =
    let f = rw (wrong-root m (base limits.tariff) limits.depth (targets.Cap k) e refl) at a.within.all in absurd f
root-of m limits a (Err f) e =
    let g = rw (faulty-root m (base limits.tariff) limits.depth f e) at a.within.all in absurd g

one-depth : (m : List (List ℕ)) (limits : Bounds) (a b : ℕ) → IsDepth m limits a → IsDepth m limits b → a ≡ b
one-depth m limits a b i j =
    let f : a < b → ⊥ = λ h. j.least a h i.accepted in
    let g : b < a → ⊥ = λ h. i.least b h j.accepted in
    omega arith

pub depths-heights : DepthsAreHeights
depths-heights m limits v depth is deep =
    let r = root-of m limits is.accepted (target m root) refl in
    let all = rw (from-root m (base limits.tariff) limits.depth r.found r.is r.kind) at is.accepted.within.all in
    one-depth m limits depth (reach m limits.depth root) deep (is-depth m limits r.found r.is r.kind is.accepted)
    ∙ reach-at m (base limits.tariff) v root limits.depth is.is all
