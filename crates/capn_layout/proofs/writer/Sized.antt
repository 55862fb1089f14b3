-- The number of words in the contents below slots and rows. (For the cycle `sizes`.)
use Rattle.std.proofs.Common.{◌≡◌, ℕ, zero, suc, ◌+◌, ◌-◌, ◌*◌, ◌^◌, ◌<◌, ◌≤◌, List, length, refl, ap, ◌∙◌, arith}
use Rattle.capn_value.specs.Tree.{Tree, Trees, no_trees, tree, tree_at, count, Bodies, no_bodies, body, count_rows}
use Rattle.capn_value.specs.Tree.{is_null}
use Rattle.capn_value.specs.Trim.{kept_slots, kept_slots_of_rows}
use Rattle.capn_value.specs.Cost.{height}
use Rattle.capn_layout.specs.Layout.{size, sizes, sizes_in_rows}
use Rattle.capn_layout.specs.LayoutSteps.{past, rows_past, slots_at}
use Rattle.capn_layout.specs.Ready.{IsBlock, IsReady, AreReady, RowsReady}
use Rattle.capn_layout.specs.Sound.{AreWide, SoundRows}
use Rattle.capn_layout.proofs.writer.Stepwise.{rows-over}
use Rattle.capn_layout.proofs.writer.Laid.{nothing-below, one-fewer, past-next, row-at, sound-at, height-at}

pub past-kept : (n : ℕ) (ts : Trees) → kept_slots ts ≤ n → sizes (past n ts) ≡ 0
past-kept zero ts h = (nothing-below ts 0 h).1
past-kept (suc n) no_trees h = refl
past-kept (suc n) (tree t ts) h = past-kept n ts (one-fewer (is_null t) (kept_slots ts) n h)

pub kept-at : (i b : ℕ) (bs : Bodies) → kept_slots_of_rows bs ≤ b → i < count_rows bs → kept_slots (slots_at bs i) ≤ b
kept-at i b no_bodies h lt = absurd (omega arith)
kept-at zero b (body ws ss bs) h lt = omega arith
kept-at (suc i) b (body ws ss bs) h lt = kept-at i b bs (omega arith) (omega arith)

pub rows-nothing : (bs : Bodies) → kept_slots_of_rows bs ≤ 0 → sizes_in_rows bs ≡ 0
rows-nothing no_bodies h = refl
rows-nothing (body ws ss bs) h =
    let a = (nothing-below ss 0 (omega arith)).1 in
    let b = rows-nothing bs (omega arith) in
    omega arith

one-sizes : (bs : Bodies) → count_rows bs ≡ 1 → sizes_in_rows bs ≡ sizes (slots_at bs 0)
one-sizes no_bodies e = absurd (omega arith)
one-sizes (body ws ss no_bodies) e = omega arith
one-sizes (body ws ss (body vs ts bs)) e = absurd (omega arith)

module _ (v : Tree) (tag : List ℕ) (a b depth : ℕ) (bs : Bodies) (o : IsBlock v tag a b bs) (room : 0 + size v ≤ 2 ^ 29)
    (low : height v ≤ depth) where
  module _ {S : Type 0} (has : S → ℕ → Tree → Type 0) (source : S) (one : count_rows bs ≡ 1)
      (are : (k : ℕ) → k < count (slots_at bs 0) → has source k (tree_at (slots_at bs 0) k)) where
    pub one-sized-ready : AreReady has source 0 b (depth - 1) 0 (2 ^ 29)
    one-sized-ready =
        let x = row-at a b 0 bs (omega arith) o.wide o.sound in
        record {
          values = slots_at bs 0;
          are = λ k lt. are k (let l = x.long in omega arith);
          count = x.long;
          sound = x.sound;
          low = let r = x.low in let l = o.low in omega arith;
          room = let e = o.size_is in let z = one-sizes bs one in omega arith;
        }

    pub one-sized : (n : ℕ) → ((ts : Trees) → b ≤ count ts → ((k : ℕ) → k < b → has source k (tree_at ts k))
        → n + sizes (past b ts) ≡ sizes ts)
        → length tag + a + b + n ≡ size v
    one-sized n h =
        let x = row-at a b 0 bs (omega arith) o.wide o.sound in
        let e = h (slots_at bs 0) x.long (λ k lt. are k (let l = x.long in omega arith)) in
        let k = past-kept b (slots_at bs 0) (kept-at 0 b bs o.kept (omega arith)) in
        let z = one-sizes bs one in
        let s = o.size_is in
        let m : count_rows bs * (a + b) ≡ a + b = ap (λ (k : ℕ). k * (a + b)) one ∙ omega arith in
        omega arith

  module _ {R : Type 0} (are : R → Bodies → Type 0) (source : R) (n : ℕ) (en : count_rows bs ≡ n)
      (is : are source bs) where
    pub all-sized-ready : RowsReady are source 0 n a b (depth - 1) 0 (2 ^ 29)
    all-sized-ready = record {
      values = bs;
      is = is;
      count = en;
      wide = o.wide;
      kept = o.kept;
      sound = o.sound;
      low = let l = o.low in omega arith;
      room = let e = o.size_is in omega arith;
    }

    pub all-sized : (k : ℕ) → ((bs : Bodies) → are source bs → count_rows bs ≡ n → kept_slots_of_rows bs ≤ b
        → AreWide a b bs → SoundRows bs → k ≡ sizes_in_rows bs)
        → length tag + n * (a + b) + k ≡ size v
    all-sized k h =
        let e = h bs is en o.kept o.wide o.sound in
        let s = o.size_is in
        let m : count_rows bs * (a + b) ≡ n * (a + b) = ap (λ (k : ℕ). k * (a + b)) en in
        omega arith

-- In this block `len` is the size of the first `i` slots, and the size of slot `i` is added to `len`.
module _ {S : Type 0} (has : S → ℕ → Tree → Type 0) (source : S) (n depth i len : ℕ) (lt : i < n)
    (r : AreReady has source 0 n depth 0 (2 ^ 29))
    (rest : (ts : Trees) → n ≤ count ts → ((k : ℕ) → k < n → has source k (tree_at ts k))
    → len + sizes (past i ts) ≡ sizes ts)
  where
    slot-size : len + size (tree_at r.values i) + sizes (past (suc i) r.values) ≡ sizes r.values
    slot-size =
        let e = rest r.values r.count r.are in
        let d = ap sizes (past-next i r.values (let c = r.count in omega arith)) in
        omega arith

    pub slot-sized-ready : IsReady has source i depth 0
    slot-sized-ready = record {
      value = tree_at r.values i;
      is = r.are i lt;
      sound = sound-at i r.values (let c = r.count in omega arith) r.sound;
      low = let h = height-at i r.values in let l = r.low in omega arith;
      room = let e = slot-size in let m = r.room in omega arith;
    }

    module _ (k : ℕ) (h : (v : Tree) → has source i v → k ≡ size v) where
      pub slot-sized-fits : len + k ≤ 2 ^ 29
      slot-sized-fits =
          let e = h (tree_at r.values i) (r.are i lt) in let s = slot-size in let m = r.room in omega arith

      pub slot-sized : (ts : Trees) → n ≤ count ts → ((k : ℕ) → k < n → has source k (tree_at ts k))
          → len + k + sizes (past (i + 1) ts) ≡ sizes ts
      slot-sized ts c are =
          let e = h (tree_at ts i) (are i lt) in
          let d = ap sizes (past-next i ts (omega arith)) in
          let f = rest ts c are in
          let z : i + 1 ≡ suc i = omega arith in
          ap (λ (j : ℕ). len + k + sizes (past j ts)) z ∙ omega arith

pub slots-sized : (n i len : ℕ) (ts : Trees) → i ≤ n → n ≤ i → len + sizes (past i ts) ≡ sizes ts
    → len + sizes (past n ts) ≡ sizes ts
slots-sized n i len ts le ge h =
    let e : n ≡ i = omega arith in
    ap (λ (j : ℕ). len + sizes (past j ts)) e ∙ h

pub rows-sized : (i len : ℕ) (bs : Bodies) → count_rows bs ≤ i → len + sizes_in_rows (rows_past i bs) ≡ sizes_in_rows bs
    → len ≡ sizes_in_rows bs
rows-sized i len bs le h = let e = ap sizes_in_rows (rows-over i bs le) in omega arith

-- In this block `len` is the size below the first `i` rows, and the size below row `i` is added to `len`.
module _ {S R : Type 0} (has : S → ℕ → Tree → Type 0) (are : R → Bodies → Type 0) (rows : R) (source : S)
    (n a b depth i len : ℕ) (lt : i < n) (r : RowsReady are rows 0 n a b depth 0 (2 ^ 29))
    (slots : (bs : Bodies) → are rows bs → (k : ℕ) → k < count (slots_at bs i)
    → has source k (tree_at (slots_at bs i) k))
    (rest : (bs : Bodies) → are rows bs → count_rows bs ≡ n → kept_slots_of_rows bs ≤ b → AreWide a b bs → SoundRows bs
    → len + sizes_in_rows (rows_past i bs) ≡ sizes_in_rows bs)
  where
    row-size : len + sizes (slots_at r.values i) + sizes_in_rows (rows_past (suc i) r.values) ≡ sizes_in_rows r.values
    row-size =
        let x = row-at a b i r.values (let c = r.count in omega arith) r.wide r.sound in
        let e = rest r.values r.is r.count r.kept r.wide r.sound in
        let d = ap sizes_in_rows x.next in
        omega arith

    pub row-sized-ready : AreReady has source 0 b depth 0 (2 ^ 29)
    row-sized-ready =
        let x = row-at a b i r.values (let c = r.count in omega arith) r.wide r.sound in
        record {
          values = slots_at r.values i;
          are = λ k l. slots r.values r.is k (let m = x.long in omega arith);
          count = x.long;
          sound = x.sound;
          low = let l = x.low in let m = r.low in omega arith;
          room = let e = row-size in let m = r.room in omega arith;
        }

    module _ (k : ℕ) (h : (ts : Trees) → b ≤ count ts → ((k : ℕ) → k < b → has source k (tree_at ts k))
        → k + sizes (past b ts) ≡ sizes ts) where
      row-is : (bs : Bodies) → are rows bs → count_rows bs ≡ n → kept_slots_of_rows bs ≤ b → AreWide a b bs
          → SoundRows bs → k ≡ sizes (slots_at bs i)
      row-is bs is c kept w s =
          let x = row-at a b i bs (omega arith) w s in
          let e = h (slots_at bs i) x.long (λ k l. slots bs is k (let m = x.long in omega arith)) in
          let z = past-kept b (slots_at bs i) (kept-at i b bs kept (omega arith)) in
          omega arith

      pub row-sized-fits : len + k ≤ 2 ^ 29
      row-sized-fits =
          let e = row-is r.values r.is r.count r.kept r.wide r.sound in
          let s = row-size in
          let m = r.room in
          omega arith

      pub row-sized : (bs : Bodies) → are rows bs → count_rows bs ≡ n → kept_slots_of_rows bs ≤ b → AreWide a b bs
          → SoundRows bs → len + k + sizes_in_rows (rows_past (i + 1) bs) ≡ sizes_in_rows bs
      row-sized bs is c kept w s =
          let x = row-at a b i bs (omega arith) w s in
          let e = row-is bs is c kept w s in
          let d = ap sizes_in_rows x.next in
          let f = rest bs is c kept w s in
          let z : i + 1 ≡ suc i = omega arith in
          ap (λ (j : ℕ). len + k + sizes_in_rows (rows_past j bs)) z ∙ omega arith
