-- A walk pays at least the cost of the value that the walk finds, and the depth limit is at least the value's height.
-- (For `CapsMet`, `Depths`, `Exists`, capn_canon and capn_mismatch.)
use Rattle.std.proofs.Common.{◌≡◌, ◌≢◌, ℕ, zero, suc, ◌+◌, ◌-◌, ◌*◌, ◌<◌, ◌≤◌, ◌==◌, List, [], ◌∷◌, ◌++◌, length}
use Rattle.std.proofs.Common.{refl, ap, ◌∙◌, arith, cond, if◌then◌else◌}
use Rattle.std.specs.List.{flat_map}
use Rattle.std.proofs.lemmas.Grind.{flat_map-append}
use Rattle.std.proofs.lemmas.Bool.Decides.{nat_tests}
use Rattle.capn_words.specs.declared.space.Place.{Place}
use Rattle.capn_value.specs.Tree.{Tree, nil, node, voids, numbers, links, rows, cap, Trees}
use Rattle.capn_value.specs.Tree.{no_trees, tree, Bodies, no_bodies, body, count, count_rows, row_words}
use Rattle.capn_value.specs.Cost.{height, greatest, greatest_in_rows, cost, costs, costs_in_rows, rows_price}
use Rattle.capn_target.specs.declared.target.Shape.{Shape}
use Rattle.capn_target.specs.declared.target.Shape.TheVariants as shapes
use Rattle.capn_walk.specs.Visits.{Visit, pays, fails, price, places, row_places, slots, visits}
use Rattle.capn_walk.specs.Accepted.{paid_of, AllPay}
use Rattle.capn_walk.specs.ValueAt.{IsAt, AreAt, RowsAt, NamesObject}
use Rattle.capn_words.proofs.shared.Choices.{pick}
use Rattle.capn_target.proofs.shared.Inside.{inside}
use Rattle.capn_walk.proofs.shared.Numbers.{numbers-paid}
use Rattle.capn_walk.proofs.shared.Walks.{slot, visits-deep, visits-object}

pub all-front : (xs ys : List Visit) → AllPay (xs ++ ys) → AllPay xs
all-front [] ys h = tt
all-front (pays at n ∷ xs) ys h = all-front xs ys h
all-front (fails at e ∷ xs) ys h = absurd h

pub all-back : (xs ys : List Visit) → AllPay (xs ++ ys) → AllPay ys
all-back [] ys h = h
all-back (pays at n ∷ xs) ys h = all-back xs ys h
all-back (fails at e ∷ xs) ys h = absurd h

-- the words paid for `xs ++ ys` are the sum of the words paid for `xs` and for `ys`
pub paid-append : (xs ys : List Visit) → paid_of (xs ++ ys) ≡ paid_of xs + paid_of ys
paid-append [] ys = omega arith
paid-append (pays at n ∷ xs) ys = omega (arith, paid-append xs ys)
paid-append (fails at e ∷ xs) ys = paid-append xs ys

sums : (a b x y z : ℕ) → a ≤ x → b ≤ y → z ≡ x + y → a + b ≤ z
sums a b x y z h k e = omega arith

rows-price : (bs : Bodies) (a b span : ℕ) → row_words bs ≡ count_rows bs * (a + b) → count_rows bs * (a + b) ≤ span →
    rows_price bs ≤ span + (if a + b == 0 then count_rows bs else 0)
unfolding rows_price
rows-price bs a b span e f =
    pick (λ (x : ℕ). rows_price bs ≤ span + x) (a + b == 0) (count_rows bs) 0
    (λ t. let z : a + b ≡ 0 = grind (arith, nat_tests) in let y : row_words bs ≡ 0 = rw (e, z) (omega arith) in
    grind (arith, nat_tests))
    (λ t. let z : a + b ≢ 0 = grind (arith, nat_tests) in priced (row_words bs) (count_rows bs) (a + b) span e f z)
  where
    priced : (r n k span : ℕ) → r ≡ n * k → n * k ≤ span → k ≢ 0 → cond (r == 0) n r ≤ span + 0
    priced r zero k span e f z = grind (arith, nat_tests)
    priced r (suc n) zero span e f z = absurd (z refl)
    priced r (suc n) (suc k) span e f z = let p : suc n * suc k ≡ suc (n * suc k + k) = omega arith in let q : r ≢ 0 =
        omega arith in grind (arith, nat_tests)

module _ (m : List (List ℕ)) (base : ℕ) where
  record Object (at : Place) (d s start pads : ℕ) (shape : Shape) : Type 0 where
    deep : 0 < d
    below : AllPay (flat_map (visits m base (d - 1)) (slots s start shape))
    sum : paid_of (visits m base d at) ≡ price base shape + pads
        + paid_of (flat_map (visits m base (d - 1)) (slots s start shape))

  object : {x : Shape} {Inside : ℕ → ℕ → Type 0} (at : Place) (d : ℕ) (i : NamesObject m at x Inside)
      → AllPay (visits m base d at) → Object at d i.segment i.start i.pads x
  object {x = x} at zero i h =
      absurd (let f = rw (visits-deep m base at i.segment i.start i.pads x i.is 0 refl) at h in f)
  object {x = x} at (suc d) i h =
      let o = visits-object m base at i.segment i.start i.pads x i.is (suc d) (omega arith) in
      record { deep = omega arith; below = rw o at h; sum = ap paid_of o }

  with-slots : {at : Place} {d s start pads c q n : ℕ} {x : Shape} → Object at d s start pads x
      → (q ≤ paid_of (flat_map (visits m base (d - 1)) (slots s start x))) × (n ≤ d - 1) → c ≤ price base x + q
      → (c ≤ paid_of (visits m base d at)) × (1 + n ≤ d)
  with-slots o below cheap = let deep = o.deep in let sum = o.sum in (omega arith, omega arith)

  without-slots : {c : ℕ} {x : Shape} {Inside : ℕ → ℕ → Type 0} (at : Place) (d : ℕ) → NamesObject m at x Inside
      → AllPay (visits m base d at) → c ≤ price base x → (c ≤ paid_of (visits m base d at)) × (1 ≤ d)
  without-slots at d i h cheap = with-slots {q = 0} {n = 0} (object at d i h) (omega arith, omega arith) (omega arith)

  mutual
    pub cost-paid : (v : Tree) (at : Place) (d : ℕ) → IsAt m at v → AllPay (visits m base d at)
        → (cost base v ≤ paid_of (visits m base d at)) × (height v ≤ d)
    cost-paid nil at d i h = (omega arith, omega arith)
    cost-paid (cap k) at d i h = (omega arith, omega arith)
    cost-paid (node ws ss) at d i h =
        let o = object at d i h in
        with-slots o (costs-paid ss i.segment (i.start + length ws) (d - 1) i.inside.1 o.below) (omega arith)
    cost-paid (links ts) at d i h =
        let o = object at d i h in
        with-slots o (costs-paid ts i.segment i.start (d - 1) i.inside o.below) (omega arith)
    cost-paid (rows bs) at d i h =
        let n = i.3 in
        let o = object at d n h in
        let fit = (inside m at n.segment n.start n.pads (shapes.Rows (count_rows bs) i.0 i.1 i.2) n.is).1 in
        let e : suc n.start ≡ n.start + 1 = omega arith in
        let below = costs-rows bs i.0 i.1 n.segment (n.start + 1) (d - 1) (rw e at n.inside) o.below in
        let p = rows-price bs i.0 i.1 i.2 below.2 fit in
        with-slots o (below.0, below.1) (omega arith)
    cost-paid (voids n) at d i h = without-slots at d i h (omega arith)
    cost-paid (numbers a xs) at d i h =
        without-slots at d i h (numbers-paid a base (length xs))

    costs-paid : (ts : Trees) (s w d : ℕ) → AreAt m s w ts → AllPay (flat_map (visits m base d) (places s w (count ts)))
        →
        (costs base ts ≤ paid_of (flat_map (visits m base d) (places s w (count ts)))) × (greatest ts ≤ d)
    costs-paid no_trees s w d i h = (omega arith, omega arith)
    costs-paid (tree t ts) s w d i h =
        let rest = flat_map (visits m base d) (places s (w + 1) (count ts)) in
        let e : suc w ≡ w + 1 = omega arith in
        let one = cost-paid t (slot s w) d i.0 (all-front (visits m base d (slot s w)) rest h) in
        let two = costs-paid ts s (w + 1) d (rw e at i.1) (all-back (visits m base d (slot s w)) rest h) in
        let sum = paid-append (visits m base d (slot s w)) rest in
        let a = one.0 in let b = one.1 in let c = two.0 in let f = two.1 in (
          sums (cost base t) (costs base ts) (paid_of (visits m base d (slot s w))) (paid_of rest) _ a c sum,
          omega arith,
        )

    costs-rows : (bs : Bodies) (a b s w d : ℕ) → RowsAt m a b s w bs
        → AllPay (flat_map (visits m base d) (row_places s w a b (count_rows bs))) →
        (costs_in_rows base bs ≤ paid_of (flat_map (visits m base d) (row_places s w a b (count_rows bs))))
        × (greatest_in_rows bs ≤ d)
        × ((row_words bs ≡ count_rows bs * (a + b)))
    costs-rows no_bodies a b s w d i h = (omega arith, omega arith, omega arith)
    costs-rows (body ws ss bs) a b s w d i h =
        let here = flat_map (visits m base d) (places s (w + a) b) in
        let rest = flat_map (visits m base d) (row_places s (w + a + b) a b (count_rows bs)) in
        let e = flat_map-append (visits m base d) (places s (w + a) b) (row_places s (w + a + b) a b (count_rows bs)) in
        let h2 = rw e at h in
        let lb = i.1 in
        let la = i.0 in
        let one = costs-paid ss s (w + a) d i.3 (rw (← lb) at (all-front here rest h2)) in
        let two = costs-rows bs a b s (w + a + b) d i.4 (all-back here rest h2) in
        let sum = ap paid_of e ∙ paid-append here rest in
        let x = rw lb at one.0 in
        let y = one.1 in let z = two.0 in let v = two.1 in let u = two.2 in
        let k : suc (count_rows bs) * (a + b) ≡ a + b + count_rows bs * (a + b) = omega arith in
        (sums (costs base ss) (costs_in_rows base bs) (paid_of here) (paid_of rest) _ x z sum, omega arith, omega arith)
