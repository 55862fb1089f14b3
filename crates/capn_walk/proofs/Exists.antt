-- If no visit of a slot and of the slots below it is a fault, the slot has a value. (For `Answering` and
-- `RootSurveys`.)
use Rattle.std.proofs.Common.{◌≡◌, ℕ, zero, suc, ◌+◌, ◌-◌, ◌*◌, ◌≤◌, List, length, take}
use Rattle.std.proofs.Common.{Result, Ok, Err, refl, ap, subst, arith, length-drop}
use Rattle.std.specs.List.{flat_map}
use Rattle.std.proofs.lemmas.List.{length-take-le}
use Rattle.std.proofs.lemmas.Grind.{flat_map-append}
use Rattle.capn_words.specs.Message.{segment_at}
use Rattle.capn_words.specs.declared.space.Place.{Place}
use Rattle.capn_words.specs.declared.pointer.Width.{Width}
use Rattle.capn_words.specs.declared.pointer.Width.TheVariants.{W0, W1, W8, W16, W32, W64, Link, Rows}
use Rattle.capn_value.specs.NumberWidth.{NumberWidth, bit, byte, pair, quad, oct, bits_in, per_word}
use Rattle.capn_value.specs.Tree.{Tree, nil, node, voids, numbers, links, rows, cap, Trees}
use Rattle.capn_value.specs.Tree.{no_trees, tree, Bodies, no_bodies, body, count, count_rows}
use Rattle.capn_target.specs.declared.target.Target.{Target}
use Rattle.capn_target.specs.declared.target.Target.TheVariants as targets
use Rattle.capn_target.specs.declared.target.Shape.{Shape}
use Rattle.capn_target.specs.declared.target.Shape.TheVariants as shapes
use Rattle.capn_target.specs.declared.target.Fault.{Fault}
use Rattle.capn_target.specs.Target.{target, list_width}
use Rattle.capn_walk.specs.Visits.{places, row_places, slots, visits}
use Rattle.capn_walk.specs.Accepted.{AllPay}
use Rattle.capn_walk.specs.ValueAt.{IsAt, AreAt, RowsAt, AreWordsAt, element, words_from}
use Rattle.capn_walk.proofs.shared.Costs.{all-front, all-back}
use Rattle.capn_target.proofs.shared.Inside.{inside}
use Rattle.capn_walk.proofs.shared.Listed.{listed, length-listed, elements-listed}
use Rattle.capn_walk.proofs.shared.Walks.{slot, visits-fault, visits-deep, visits-object}

module _ (m : List (List ℕ)) where
  length-words : (s w n : ℕ) → w + n ≤ length (segment_at m s) → length (take n (words_from m s w)) ≡ n
  length-words s w n h = let l = length-drop w (segment_at m s) in length-take-le n (words_from m s w) (omega arith)

  are-words : (s w n : ℕ) → w + n ≤ length (segment_at m s) → AreWordsAt m s w (take n (words_from m s w))
  are-words s w n h = ap (λ (k : ℕ). take k (words_from m s w)) (length-words s w n h)

  of-numbers : (a : NumberWidth) (at : Place) (s start pads n : ℕ)
      → target m at ≡ Ok (targets.Content s start (shapes.Many (list_width a) n) pads) → (v : Tree) × IsAt m at v
  of-numbers oct at s start pads n e =
      let i = (inside m at s start pads (shapes.Many W64 n) e).0 in (
        numbers oct (take n (words_from m s start)),
        record {
          segment = s;
          start = start;
          pads = pads;
          is = rw (length-words s start n i) e;
          inside = are-words s start n i;
        },
      )
  of-numbers a at s start pads n e = (
    numbers a (listed (element (per_word a) (bits_in a) (words_from m s start)) n),
    record {
      segment = s;
      start = start;
      pads = pads;
      is = rw (length-listed (element (per_word a) (bits_in a) (words_from m s start)) n) e;
      inside = elements-listed (per_word a) (bits_in a) (words_from m s start) n;
    },
  )

  abbrev HasNoSlots : Width → Type 0
  HasNoSlots Link = ⊥
  HasNoSlots _ = Unit {0}

  of-list : (at : Place) (s start pads : ℕ) (width : Width) (n : ℕ)
      → target m at ≡ Ok (targets.Content s start (shapes.Many width n) pads) →
      HasNoSlots width → (v : Tree) × IsAt m at v
  of-list at s start pads W0 n e h = (voids n, record { segment = s; start = start; pads = pads; is = e; inside = tt })
  of-list at s start pads W1 n e h = of-numbers bit at s start pads n e
  of-list at s start pads W8 n e h = of-numbers byte at s start pads n e
  of-list at s start pads W16 n e h = of-numbers pair at s start pads n e
  of-list at s start pads W32 n e h = of-numbers quad at s start pads n e
  of-list at s start pads W64 n e h = of-numbers oct at s start pads n e
  of-list at s start pads Link n e h = absurd h
  of-list at s start pads Rows n e h = absurd (inside m at s start pads (shapes.Many Rows n) e).1

  as-node : (at : Place) (s start pads a b : ℕ) (ws : List ℕ) (ts : Trees)
      → target m at ≡ Ok (targets.Content s start (shapes.Node a b) pads) →
      length ws ≡ a → count ts ≡ b → AreWordsAt m s start ws → AreAt m s (start + a) ts → (v : Tree) × IsAt m at v
  as-node at s start pads a b ws ts e l k words is =
      (node ws ts, record { segment = s; start = start; pads = pads; is = rw (l, k) e; inside = (words, rw l is) })

  as-links : (at : Place) (s start pads n : ℕ) (ts : Trees)
      → target m at ≡ Ok (targets.Content s start (shapes.Many Link n) pads) →
      count ts ≡ n → AreAt m s start ts → (v : Tree) × IsAt m at v
  as-links at s start pads n ts e k is =
      (links ts, record { segment = s; start = start; pads = pads; is = rw k e; inside = is })

  as-rows : (at : Place) (s start pads n a b span : ℕ) (bs : Bodies)
      → target m at ≡ Ok (targets.Content s start (shapes.Rows n a b span) pads) →
      count_rows bs ≡ n → RowsAt m a b s (start + 1) bs → (v : Tree) × IsAt m at v
  as-rows at s start pads n a b span bs e k are =
      let z : suc start ≡ start + 1 = omega arith in
      (rows bs, (a, b, span, record { segment = s; start = start; pads = pads; is = rw k e; inside = rw z are }))

  module _ (base d : ℕ) (below : (at : Place) → AllPay (visits m base d at) → (v : Tree) × IsAt m at v) where
    slots-exist : (s w n : ℕ) → AllPay (flat_map (visits m base d) (places s w n)) → (ts : Trees) × (count ts ≡ n)
        × AreAt m s w ts
    slots-exist s w zero h = (no_trees, refl, tt)
    slots-exist s w (suc n) h =
        let here = visits m base d (slot s w) in
        let rest = flat_map (visits m base d) (places s (w + 1) n) in
        let (v, i) = below (slot s w) (all-front here rest h) in
        let (ts, k, is) = slots-exist s (w + 1) n (all-back here rest h) in
        let e : w + 1 ≡ suc w = omega arith in
        let P : ℕ → Type 0 = λ x. AreAt m s x ts in
        (tree v ts, ap suc k, (i, subst P e is))

    rows-exist : (s w a b n : ℕ) → w + n * (a + b) ≤ length (segment_at m s)
        → AllPay (flat_map (visits m base d) (row_places s w a b n)) →
        (bs : Bodies) × (count_rows bs ≡ n) × RowsAt m a b s w bs
    rows-exist s w a b zero r h = (no_bodies, refl, tt)
    rows-exist s w a b (suc n) r h =
        let here = flat_map (visits m base d) (places s (w + a) b) in
        let rest = flat_map (visits m base d) (row_places s (w + a + b) a b n) in
        let e = flat_map-append (visits m base d) (places s (w + a) b) (row_places s (w + a + b) a b n) in
        let h2 = rw e at h in
        let step : suc n * (a + b) ≡ a + b + n * (a + b) = omega arith in
        let (ss, k, is) = slots-exist s (w + a) b (all-front here rest h2) in
        let (bs, j, are) = rows-exist s (w + a + b) a b n (omega arith) (all-back here rest h2) in
        let ws = take a (words_from m s w) in
        (body ws ss bs, ap suc j, (length-words s w a (omega arith), k, are-words s w a (omega arith), is, are))

    of-shape : (at : Place) (s start pads : ℕ) (shape : Shape) → target m at ≡ Ok (targets.Content s start shape pads) →
        AllPay (flat_map (visits m base d) (slots s start shape)) → (v : Tree) × IsAt m at v
    of-shape at s start pads (shapes.Node a b) e h =
        let i = (inside m at s start pads (shapes.Node a b) e).0 in
        let (ts, k, is) = slots-exist s (start + a) b h in
        let l = length-words s start a (omega arith) in
        as-node at s start pads a b (take a (words_from m s start)) ts e l k (are-words s start a (omega arith)) is
    of-shape at s start pads (shapes.Rows n a b span) e h =
        let i = inside m at s start pads (shapes.Rows n a b span) e in
        let room = i.0 in
        let fit = i.1 in
        let (bs, k, are) = rows-exist s (start + 1) a b n (omega arith) h in
        as-rows at s start pads n a b span bs e k are
    of-shape at s start pads (shapes.Many Link n) e h =
        let (ts, k, is) = slots-exist s start n h in
        as-links at s start pads n ts e k is
    of-shape at s start pads (shapes.Many width n) e h = of-list at s start pads width n e tt

    of-target : (at : Place) (r : Result Target Fault) → target m at ≡ r → AllPay (visits m base (suc d) at)
        → (v : Tree) × IsAt m at v
    of-target at (Ok targets.Nil) e h = (nil, e)
    of-target at (Ok (targets.Cap k)) e h = (cap k, e)
    of-target at (Ok (targets.Content s start shape pads)) e h =
        let o = visits-object m base at s start pads shape e (suc d) (omega arith) in
        let z : suc d - 1 ≡ d = omega arith in
        let k = rw (o, z) at h in
        of-shape at s start pads shape e k
    of-target at (Err f) e h = let no_fault = rw (visits-fault m base at (suc d) f e) at h in absurd no_fault

  of-last : (base : ℕ) (at : Place) (r : Result Target Fault) → target m at ≡ r → AllPay (visits m base 0 at)
      → (v : Tree) × IsAt m at v
  of-last base at (Ok targets.Nil) e h = (nil, e)
  of-last base at (Ok (targets.Cap k)) e h = (cap k, e)
  of-last base at (Ok (targets.Content s start shape pads)) e h = let deep =
      rw (visits-deep m base at s start pads shape e 0 refl) at h in absurd deep
  of-last base at (Err f) e h = let no_fault = rw (visits-fault m base at 0 f e) at h in absurd no_fault

  -- if no visit of the slot at `at` and of the slots below it is a fault, there is a value at `at`
  pub exists-at : (base d : ℕ) (at : Place) → AllPay (visits m base d at) → (v : Tree) × IsAt m at v
  exists-at base zero at h = of-last base at (target m at) refl h
  exists-at base (suc d) at h = of-target base d (exists-at base d) at (target m at) refl h
