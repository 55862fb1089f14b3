-- The value at the root of an accepted message fits, costs at most the number of words paid, and is no higher than the
-- depth limit. (For `Answering`, `RootWalks`, capn_c, capn_canon and capn_mismatch.)
use Rattle.std.proofs.Common.{◌≡◌, inl, inr, ℕ, suc, ◌+◌, ◌*◌, ◌^◌, ◌<◌, ◌≤◌, ◌==◌, ◌&&◌, ◌||◌, Bool, true, false, List}
use Rattle.std.proofs.Common.{[], ◌∷◌, length, refl, ap, arith}
use Rattle.std.proofs.lemmas.Bool.{or_from, and_from, and_parts, eqb-true, eq-eqb, le-ltb, not_from_true}
use Rattle.capn_words.specs.declared.space.Place.{Place}
use Rattle.capn_words.specs.declared.pointer.Width.TheVariants.{W0, Link}
use Rattle.capn_value.specs.Tree.{Tree, nil, node, voids, numbers, links, rows, cap, Trees}
use Rattle.capn_value.specs.Tree.{no_trees, tree, Bodies, no_bodies, body, count, count_rows, row_words}
use Rattle.capn_value.specs.Cost.{cost, costs, costs_in_rows, rows_price, height, most_cost, most_height}
use Rattle.capn_value.specs.Fits.{Fits, anywhere, anywhere_in, anywhere_in_rows, is_wide, is_wide_body, has_wide_row}
use Rattle.capn_value.specs.Fits.{is_long, is_ragged, are_even, is_root, elements, words_in_rows}
use Rattle.capn_value.proofs.shared.Fitting.{fit_from}
use Rattle.capn_value.proofs.shared.Tariffs.{cost-raised}
use Rattle.capn_value.proofs.shared.Trimmed.{words-or_none}
use Rattle.capn_value.proofs.shared.Prices.{rows_price-none}
use Rattle.capn_target.specs.declared.target.Shape.TheVariants as shapes
use Rattle.capn_target.specs.declared.target.Fault.TheVariants as faults
use Rattle.capn_walk.specs.Visits.{fails, visits}
use Rattle.capn_walk.specs.Accepted.{AllPay, IsWithin, paid_of, root, visits_at_root, root_visits}
use Rattle.capn_walk.specs.ValueAt.{IsAt, AreAt, RowsAt}
use Rattle.capn_target.specs.Target.{list_width}
use Rattle.capn_target.proofs.shared.Inside.{inside}
use Rattle.capn_target.proofs.shared.Ranges.{room-of}
use Rattle.capn_walk.proofs.shared.Costs.{cost-paid}

-- ---- the tests for a value that fits

pub not-wide : (ws : List ℕ) (ss : Trees) → length ws < 2 ^ 16 → count ss < 2 ^ 16 → is_wide_body ws ss ≡ false
not-wide ws ss a b = or_from _ _ (le-ltb 65535 (length ws) (omega arith)) (le-ltb 65535 (count ss) (omega arith))

pub not-long : (t : Tree) → elements t < 2 ^ 29 → words_in_rows t < 2 ^ 29 → is_long t ≡ false
not-long t a b =
    or_from _ _ (le-ltb 536870911 (elements t) (omega arith)) (le-ltb 536870911 (words_in_rows t) (omega arith))

-- each row has `a` words and `b` slots, which fit in the fields of a pointer
pub record Rows (a b : ℕ) (bs : Bodies) : Type 0 where
  pub narrow : has_wide_row bs ≡ false
  pub even : are_even a b bs ≡ true
  pub words : row_words bs ≡ count_rows bs * (a + b)

pub not-ragged : (a b : ℕ) (bs : Bodies) → are_even a b bs ≡ true → is_ragged (rows bs) ≡ false
not-ragged a b no_bodies h = refl
not-ragged a b (body ws ss bs) h = not_from_true _ (even-first a b ws ss bs h)
  where
    even-first : (a b : ℕ) (ws : List ℕ) (ss : Trees) (bs : Bodies) → are_even a b (body ws ss bs) ≡ true
        → are_even (length ws) (count ss) bs ≡ true
    even-first a b ws ss bs h =
        let p = and_parts ((length ws == a) && (count ss == b)) (are_even a b bs) h in
        let q = and_parts (length ws == a) (count ss == b) p.0 in
        let x = eqb-true (length ws) a q.0 in
        let y = eqb-true (count ss) b q.1 in
        rw (x, y) p.1

module _ (m : List (List ℕ)) where
  pub rows-of : (bs : Bodies) (a b s w : ℕ) → a < 2 ^ 16 → b < 2 ^ 16 → RowsAt m a b s w bs → Rows a b bs
  rows-of no_bodies a b s w ha hb h = record { narrow = refl; even = refl; words = omega arith }
  rows-of (body ws ss bs) a b s w ha hb h =
      let rest = rows-of bs a b s (w + a + b) ha hb h.4 in
      let la = h.0 in
      let lb = h.1 in
      let n = rest.words in
      let k : suc (count_rows bs) * (a + b) ≡ a + b + count_rows bs * (a + b) = omega arith in
      record {
        narrow = or_from _ _ (not-wide ws ss (omega arith) (omega arith)) rest.narrow;
        even = and_from _ _ (and_from _ _ (eq-eqb _ _ la) (eq-eqb _ _ lb)) rest.even;
        words = omega arith;
      }

  few-rows : (bs : Bodies) → is_ragged (rows bs) ≡ false → row_words bs < 2 ^ 29 → rows_price bs < 2 ^ 29
      → count_rows bs < 2 ^ 29
  few-rows bs e w p =
      elim (words-or_none bs e) as (λ _. count_rows bs < 2 ^ 29)
      [ inl z ↦ omega (arith, rows_price-none bs z) | inr l ↦ omega arith ]

  -- ---- the tests for a value that fits, at every level

  pub record Parts (wide long ragged : Bool) : Type 0 where
    pub narrow : wide ≡ false
    pub short : long ≡ false
    pub even : ragged ≡ false

  pub joined : (a b c d e f : Bool) → a ≡ false → b ≡ false → c ≡ false → Parts d e f → Parts (a || d) (b || e) (c || f)
  joined a b c d e f x y z p =
      record { narrow = or_from _ _ x p.narrow; short = or_from _ _ y p.short; even = or_from _ _ z p.even }

  module _ (base : ℕ) where
    mutual
      parts : (v : Tree) (at : Place) → cost base v < 2 ^ 29 → IsAt m at v
          → Parts (anywhere is_wide v) (anywhere is_long v) (anywhere is_ragged v)
      parts nil at l h = record { narrow = refl; short = refl; even = refl }
      parts (cap k) at l h = record { narrow = refl; short = refl; even = refl }
      parts (node ws ss) at l h =
          let r = room-of m at h.segment h.start h.pads (shapes.Node (length ws) (count ss)) h.is in
          joined _ _ _ _ _ _ (not-wide ws ss r.0 r.1) refl refl
          (parts-slots ss h.segment (h.start + length ws) (omega arith) h.inside.1)
      parts (voids n) at l h =
          let r = room-of m at h.segment h.start h.pads (shapes.Many W0 n) h.is in
          record { narrow = refl; short = not-long (voids n) r (omega arith); even = refl }
      parts (numbers a xs) at l h =
          let r = room-of m at h.segment h.start h.pads (shapes.Many (list_width a) (length xs)) h.is in
          record { narrow = refl; short = not-long (numbers a xs) r (omega arith); even = refl }
      parts (links ts) at l h =
          let r = room-of m at h.segment h.start h.pads (shapes.Many Link (count ts)) h.is in
          joined _ _ _ _ _ _ refl (not-long (links ts) r (omega arith)) refl
          (parts-slots ts h.segment h.start (omega arith) h.inside)
      parts (rows bs) at l h =
          let a = h.0 in
          let b = h.1 in
          let span = h.2 in
          let n = h.3 in
          let r = room-of m at n.segment n.start n.pads (shapes.Rows (count_rows bs) a b span) n.is in
          let fit = (inside m at n.segment n.start n.pads (shapes.Rows (count_rows bs) a b span) n.is).1 in
          let rs = rows-of bs a b n.segment (suc n.start) r.1 r.2 n.inside in
          let e = not-ragged a b bs rs.even in
          let k = rs.words in
          let s = r.3 in
          let w : row_words bs < 2 ^ 29 = omega arith in
          let c : count_rows bs < 2 ^ 29 = few-rows bs e w (omega arith) in
          joined _ _ _ _ _ _ rs.narrow (not-long (rows bs) c w) e
          (parts-rows bs a b n.segment (suc n.start) (omega arith) n.inside)

      parts-slots : (ts : Trees) (s w : ℕ) → costs base ts < 2 ^ 29 → AreAt m s w ts →
          Parts (anywhere_in is_wide ts) (anywhere_in is_long ts) (anywhere_in is_ragged ts)
      parts-slots no_trees s w l h = record { narrow = refl; short = refl; even = refl }
      parts-slots (tree t ts) s w l h =
          let p = parts t (record { segment = s; word = w }) (omega arith) h.0 in
          joined _ _ _ _ _ _ p.narrow p.short p.even (parts-slots ts s (suc w) (omega arith) h.1)

      parts-rows : (bs : Bodies) (a b s w : ℕ) → costs_in_rows base bs < 2 ^ 29 → RowsAt m a b s w bs →
          Parts (anywhere_in_rows is_wide bs) (anywhere_in_rows is_long bs) (anywhere_in_rows is_ragged bs)
      parts-rows no_bodies a b s w l h = record { narrow = refl; short = refl; even = refl }
      parts-rows (body ws ss bs) a b s w l h =
          let p = parts-slots ss s (w + a) (omega arith) h.3 in
          joined _ _ _ _ _ _ p.narrow p.short p.even (parts-rows bs a b s (w + a + b) (omega arith) h.4)

    -- ---- the root

    -- the value `v` is no capability, no visit from the root's slot is a fault, and the walk makes exactly these visits
    pub record Root (depth : ℕ) (v : Tree) : Type 0 where
      pub kind : is_root v ≡ true
      pub all : AllPay (visits m base depth root)
      pub same : root_visits m base depth ≡ visits m base depth root

    module _ (depth : ℕ) where
      as-it-is : (v : Tree) → is_root v ≡ true → root_visits m base depth ≡ visits m base depth root
          → AllPay (root_visits m base depth) → Root depth v
      as-it-is v k e h = record { kind = k; all = rw e at h; same = e }

      refused-root : (v : Tree) → root_visits m base depth ≡ fails root faults.RootKind ∷ []
          → AllPay (root_visits m base depth) → Root depth v
      refused-root v e h = let f = rw e at h in absurd f

      pub root-of : (v : Tree) → IsAt m root v → AllPay (root_visits m base depth) → Root depth v
      unfolding root_visits
      root-of nil h = as-it-is nil refl (ap (λ r. visits_at_root m base r (visits m base depth root)) h)
      root-of (node ws ss) h =
          as-it-is (node ws ss) refl (ap (λ r. visits_at_root m base r (visits m base depth root)) h.is)
      root-of (cap k) h = refused-root (cap k) (ap (λ r. visits_at_root m base r (visits m base depth root)) h)
      root-of (voids n) h = as-it-is (voids n) refl (ap (λ r. visits_at_root m base r (visits m base depth root)) h.is)
      root-of (numbers a xs) h =
          as-it-is (numbers a xs) refl (ap (λ r. visits_at_root m base r (visits m base depth root)) h.is)
      root-of (links ts) h =
          as-it-is (links ts) refl (ap (λ r. visits_at_root m base r (visits m base depth root)) h.is)
      root-of (rows bs) h =
          as-it-is (rows bs) refl (ap (λ r. visits_at_root m base r (visits m base depth root)) h.3.is)

      -- if no visit is a fault, the cost of `v` is at most the sum that the visits pay, and the height of `v` is at
      -- most `depth`
      pub root-costs : (v : Tree) → IsAt m root v → AllPay (root_visits m base depth)
          → (cost base v ≤ paid_of (root_visits m base depth)) × (height v ≤ depth)
      root-costs v h a =
          let r = root-of v h a in
          let c = cost-paid m base v root depth h r.all in
          let e = ap paid_of r.same in
          let x = c.0 in
          let y = c.1 in
          (omega arith, y)

  -- if the budget and the depth limit are in range, the value `v` at the root of an accepted message fits
  pub fits-root : (base budget depth : ℕ) (v : Tree) → budget ≤ most_cost → depth ≤ most_height
      → IsWithin budget (root_visits m base depth) → IsAt m root v → Fits v
  fits-root base budget depth v lb ld w h =
      let r = root-of base depth v h w.all in
      let c = root-costs base depth v h w.all in
      let plain : cost 0 v ≤ cost base v = cost-raised 0 base (omega arith) v in
      let x = c.0 in
      let y = c.1 in
      let z = w.paid in
      let p = parts base v root (omega arith) h in
      fit_from v (record {
        narrow = p.narrow;
        short = p.short;
        even = p.even;
        cheap = omega arith;
        low =
            omega arith;
        root = r.kind;
      })
