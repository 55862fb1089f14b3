-- Values without landing pads and without unused words in lists, and what their visits pay. (For `LaidPointers`,
-- `ReadBack` and `ReadBare`.)
use Rattle.std.proofs.Common.{◌≡◌, ◌≢◌, ℕ, zero, suc, ◌+◌, ◌-◌, ◌*◌, ◌<◌, ◌≤◌, ◌==◌, List, [], ◌∷◌, ◌++◌, length}
use Rattle.std.proofs.Common.{Ok, refl, ap, sym, subst, ◌∙◌, arith, cond, if◌then◌else◌}
use Rattle.std.specs.Bool.{⊤}
use Rattle.std.specs.List.{flat_map}
use Rattle.std.proofs.lemmas.Grind.{flat_map-append}
use Rattle.std.proofs.lemmas.Bool.Decides.{nat_tests}
use Rattle.capn_words.specs.declared.space.Place.{Place}
use Rattle.capn_words.specs.declared.pointer.Width.TheVariants.{W0, Link}
use Rattle.capn_value.specs.Tree.{Tree, nil, node, voids, numbers, links, rows, cap, Trees}
use Rattle.capn_value.specs.Tree.{no_trees, tree, Bodies, no_bodies, body, count, count_rows, row_words}
use Rattle.capn_value.specs.Cost.{height, greatest, greatest_in_rows, cost, costs, costs_in_rows, rows_price}
use Rattle.capn_target.specs.declared.target.Target.TheVariants as targets
use Rattle.capn_target.specs.declared.target.Shape.{Shape}
use Rattle.capn_target.specs.declared.target.Shape.TheVariants as shapes
use Rattle.capn_target.specs.Target.{target, list_width}
use Rattle.capn_walk.specs.Visits.{Visit, pays, fails, price, places, row_places, slots, visits}
use Rattle.capn_walk.specs.Accepted.{paid_of, AllPay}
use Rattle.capn_walk.specs.ValueAt.{IsAt, AreAt, RowsAt, AreWordsAt, AreNumbers, words_from}
use Rattle.capn_words.proofs.shared.Choices.{pick}
use Rattle.capn_walk.proofs.shared.Walks.{slot, visits-null, visits-cap, visits-object}
use Rattle.capn_walk.proofs.shared.Costs.{paid-append}
use Rattle.capn_walk.proofs.shared.Numbers.{no-slots, numbers-price}

module _ (m : List (List ℕ)) where
  -- The target of the pointer at `at` is an object of `shape`, without a landing pad, and `Inside` holds of its
  -- content.
  pub record Close (at : Place) (shape : Shape) (Inside : ℕ → ℕ → Type 0) : Type 0 where
    pub segment : ℕ
    pub start : ℕ
    pub is : target m at ≡ Ok (targets.Content segment start shape 0)
    pub inside : Inside segment start

  -- The given value is at the given place. Neither the pointer at this place nor a pointer in the value has a landing
  -- pad, and each list of structs has exactly the words of its structs.
  abbrev mutual
    pub TightAt : Place → Tree → Type 0
    TightAt at nil = target m at ≡ Ok targets.Nil
    TightAt at (cap k) = target m at ≡ Ok (targets.Cap k)
    TightAt at (node ws ss) =
        Close at (shapes.Node (length ws) (count ss)) (λ s w. AreWordsAt m s w ws × AreTight s (w + length ws) ss)
    TightAt at (voids n) = Close at (shapes.Many W0 n) (λ s w. ⊤)
    TightAt at (numbers a xs) =
        Close at (shapes.Many (list_width a) (length xs)) (λ s w. AreNumbers a (words_from m s w) xs)
    TightAt at (links ts) = Close at (shapes.Many Link (count ts)) (λ s w. AreTight s w ts)
    TightAt at (rows bs) = (a b : ℕ)
        × Close at (shapes.Rows (count_rows bs) a b (count_rows bs * (a + b))) (λ s w. TightRows a b s (suc w) bs)

    pub AreTight : ℕ → ℕ → Trees → Type 0
    AreTight s w no_trees = ⊤
    AreTight s w (tree t ts) = TightAt (record { segment = s; word = w }) t × AreTight s (suc w) ts

    pub TightRows : ℕ → ℕ → ℕ → ℕ → Bodies → Type 0
    TightRows a b s w no_bodies = ⊤
    TightRows a b s w (body ws ss bs) =
        (length ws ≡ a) × (count ss ≡ b) × AreWordsAt m s w ws × AreTight s (w + a) ss × TightRows a b s (w + a + b) bs

  -- A value without landing pads and unused words (`TightAt`) at a place is a value at that place (`IsAt`).
  mutual
    pub loosen : (v : Tree) (at : Place) → TightAt at v → IsAt m at v
    loosen nil at h = h
    loosen (cap k) at h = h
    loosen (node ws ss) at h =
        record {
          segment = h.segment;
          start = h.start;
          pads = 0;
          is = h.is;
          inside =
              (h.inside.0, loosen-slots ss h.segment (h.start + length ws) h.inside.1);
        }
    loosen (voids n) at h = record { segment = h.segment; start = h.start; pads = 0; is = h.is; inside = tt }
    loosen (numbers a xs) at h = record { segment = h.segment; start = h.start; pads = 0; is = h.is; inside = h.inside }
    loosen (links ts) at h =
        record {
          segment = h.segment;
          start = h.start;
          pads = 0;
          is = h.is;
          inside =
              loosen-slots ts h.segment h.start h.inside;
        }
    loosen (rows bs) at h = (
      h.0,
      h.1,
      count_rows bs * (h.0 + h.1),
      record {
        segment = h.2.segment;
        start = h.2.start;
        pads = 0;
        is = h.2.is;
        inside = loosen-rows bs h.0 h.1 h.2.segment (suc h.2.start) h.2.inside;
      },
    )

    loosen-slots : (ts : Trees) (s w : ℕ) → AreTight s w ts → AreAt m s w ts
    loosen-slots no_trees s w h = tt
    loosen-slots (tree t ts) s w h = (loosen t (record { segment = s; word = w }) h.0, loosen-slots ts s (suc w) h.1)

    loosen-rows : (bs : Bodies) (a b s w : ℕ) → TightRows a b s w bs → RowsAt m a b s w bs
    loosen-rows no_bodies a b s w h = tt
    loosen-rows (body ws ss bs) a b s w h =
        (h.0, h.1, h.2, loosen-slots ss s (w + a) h.3, loosen-rows bs a b s (w + a + b) h.4)

both : (xs ys : List Visit) → AllPay xs → AllPay ys → AllPay (xs ++ ys)
both [] ys h k = k
both (pays at n ∷ xs) ys h k = both xs ys h k
both (fails at e ∷ xs) ys h k = absurd h

sums : (a b x y z : ℕ) → x ≡ a → y ≡ b → z ≡ x + y → z ≡ a + b
sums a b x y z h k e = omega arith

rows-price : (bs : Bodies) (a b : ℕ) → row_words bs ≡ count_rows bs * (a + b)
    → count_rows bs * (a + b) + (if a + b == 0 then count_rows bs else 0) ≡ rows_price bs
unfolding rows_price
rows-price bs a b e =
    pick (λ (x : ℕ). count_rows bs * (a + b) + x ≡ rows_price bs) (a + b == 0) (count_rows bs) 0
    (λ t. let z : a + b ≡ 0 = grind (arith, nat_tests) in let y : row_words bs ≡ 0 = rw (e, z) (omega arith) in
    let k : count_rows bs * (a + b) ≡ 0 = rw z (omega arith) in grind (arith, nat_tests))
    (λ t. let z : a + b ≢ 0 = grind (arith, nat_tests) in priced (row_words bs) (count_rows bs) (a + b) e z)
  where
    priced : (r n k : ℕ) → r ≡ n * k → k ≢ 0 → n * k + 0 ≡ cond (r == 0) n r
    priced r zero k e z = grind (arith, nat_tests)
    priced r (suc n) zero e z = absurd (z refl)
    priced r (suc n) (suc k) e z = let p : suc n * suc k ≡ suc (n * suc k + k) = omega arith in let q : r ≢ 0 =
        omega arith in grind (arith, nat_tests)

module _ (m : List (List ℕ)) (base : ℕ) where
  -- The visits `vs` have no fault, and together they pay `n` words.
  pub record Pays (vs : List Visit) (n : ℕ) : Type 0 where
    pub all : AllPay vs
    pub sum : paid_of vs ≡ n

  object : (at : Place) (d s start n : ℕ) (shape : Shape) → target m at ≡ Ok (targets.Content s start shape 0) → 0 < d →
      Pays (flat_map (visits m base (d - 1)) (slots s start shape)) n → Pays (visits m base d at) (price base shape + n)
  object at d s start n shape e deep h =
      let o = visits-object m base at s start 0 shape e d deep in
      let a = h.sum in
      record { all = rw o h.all; sum = ap paid_of o ∙ omega arith }

  none : Pays [] 0
  none = record { all = tt; sum = refl }

  so : (vs : List Visit) (n k : ℕ) → n ≡ k → Pays vs n → Pays vs k
  so vs n k e h = record { all = h.all; sum = h.sum ∙ e }

  alone : (p c : ℕ) → c ≡ p → p + 0 ≡ c
  alone p c e = omega arith

  mutual
    -- If `d` allows the height of a value without landing pads and unused words (`TightAt`), the visits of the value
    -- pay exactly its cost.
    pub exact : (v : Tree) (at : Place) (d : ℕ) → height v ≤ d → TightAt m at v
        → Pays (visits m base d at) (cost base v)
    exact nil at d l h = let e = visits-null m base at d h in record { all = rw e tt; sum = ap paid_of e ∙ omega arith }
    exact (cap k) at d l h = let e = visits-cap m base at d k h in
        record { all = rw e tt; sum = ap paid_of e ∙ omega arith }
    exact (node ws ss) at d l h =
        so _ _ _ (omega arith)
        (object at d h.segment h.start (costs base ss) (shapes.Node (length ws) (count ss)) h.is (omega arith)
        (exact-slots ss h.segment (h.start + length ws) (d - 1) (omega arith) h.inside.1))
    exact (voids n) at d l h =
        so _ _ _ (omega arith) (object at d h.segment h.start 0 (shapes.Many W0 n) h.is (omega arith) none)
    exact (numbers a xs) at d l h =
        so _ _ _ (alone _ _ (numbers-price a base (length xs)))
        (object at d h.segment h.start 0 (shapes.Many (list_width a) (length xs)) h.is (omega arith)
        (subst (λ (ps : List Place). Pays (flat_map (visits m base (d - 1)) ps) 0)
        (sym (no-slots a h.segment h.start (length xs))) none))
    exact (links ts) at d l h =
        so _ _ _ (omega arith)
        (object at d h.segment h.start (costs base ts) (shapes.Many Link (count ts)) h.is (omega arith)
        (exact-slots ts h.segment h.start (d - 1) (omega arith) h.inside))
    exact (rows bs) at d l h =
        let o = h.2 in
        let e : suc o.start ≡ o.start + 1 = omega arith in
        let below = exact-rows bs h.0 h.1 o.segment (o.start + 1) (d - 1) (omega arith) (rw e at o.inside) in
        let p = rows-price bs h.0 h.1 below.1 in
        so _ _ _ (omega arith)
        (object at d o.segment o.start (costs_in_rows base bs)
        (shapes.Rows (count_rows bs) h.0 h.1 (count_rows bs * (h.0 + h.1))) o.is (omega arith) below.0)

    exact-slots : (ts : Trees) (s w d : ℕ) → greatest ts ≤ d → AreTight m s w ts
        → Pays (flat_map (visits m base d) (places s w (count ts))) (costs base ts)
    exact-slots no_trees s w d l h = none
    exact-slots (tree t ts) s w d l h =
        let rest = flat_map (visits m base d) (places s (w + 1) (count ts)) in
        let e : suc w ≡ w + 1 = omega arith in
        let one = exact t (slot s w) d (omega arith) h.0 in
        let two = exact-slots ts s (w + 1) d (omega arith) (rw e at h.1) in
        record {
          all = both (visits m base d (slot s w)) rest one.all two.all;
          sum = sums (cost base t) (costs base ts) _ _ _ one.sum two.sum
              (paid-append (visits m base d (slot s w)) rest);
        }

    exact-rows : (bs : Bodies) (a b s w d : ℕ) → greatest_in_rows bs ≤ d → TightRows m a b s w bs →
        Pays (flat_map (visits m base d) (row_places s w a b (count_rows bs))) (costs_in_rows base bs)
        × (row_words bs ≡ count_rows bs * (a + b))
    exact-rows no_bodies a b s w d l h = (none, omega arith)
    exact-rows (body ws ss bs) a b s w d l h =
        let here = flat_map (visits m base d) (places s (w + a) b) in
        let rest = flat_map (visits m base d) (row_places s (w + a + b) a b (count_rows bs)) in
        let e = flat_map-append (visits m base d) (places s (w + a) b) (row_places s (w + a + b) a b (count_rows bs)) in
        let la = h.0 in
        let lb = h.1 in
        let one = rw lb at (exact-slots ss s (w + a) d (omega arith) h.3) in
        let two = exact-rows bs a b s (w + a + b) d (omega arith) h.4 in
        let u = two.1 in
        let k : suc (count_rows bs) * (a + b) ≡ a + b + count_rows bs * (a + b) = omega arith in (
          record {
            all = rw e (both here rest one.all two.0.all);
            sum = sums (costs base ss) (costs_in_rows base bs) _ _ _ one.sum two.0.sum (ap paid_of e
                ∙ paid-append here rest);
          },
          omega arith,
        )
