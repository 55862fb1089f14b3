-- The weight of a value bounds the number of reads for its slots and rows. (For the cycle `objects` and the cycle
-- `sizes`.)
use Rattle.std.proofs.Common.{◌≡◌, ℕ, suc, ◌+◌, ◌*◌, ◌<◌, ◌≤◌, ap, arith}
use Rattle.capn_value.specs.Tree.{Tree, Trees, tree_at, count, Bodies, no_bodies, body, count_rows, row_words}
use Rattle.capn_layout.specs.LayoutSteps.{past, rows_past, slots_at}
use Rattle.capn_layout.specs.Sound.{AreWide, SoundRows}
use Rattle.capn_layout.specs.Weight.{weight, weights, weights_in_rows}
use Rattle.capn_layout.specs.inner.Source.{IsStruct, AreLinks, AreStructs}
use Rattle.capn_layout.proofs.writer.Laid.{past-next, row-at}

pub struct-weighs : (v : Tree) (bs : Bodies) → IsStruct v bs → weight v ≡ row_words bs + weights_in_rows bs
struct-weighs v bs is =
    let a = ap weight is.2 in
    let b = ap row_words is.3 in
    let c = ap weights_in_rows is.3 in
    omega arith

pub links-weigh : (n : ℕ) (v : Tree) (bs : Bodies) → AreLinks n v bs
    → (weight v ≡ row_words bs + weights_in_rows bs) × (row_words bs ≡ n)
links-weigh n v bs is =
    let a = ap weight is.1 in
    let b = ap row_words is.3 in
    let c = ap weights_in_rows is.3 in
    let d = is.2 in
    (omega arith, omega arith)

pub rows-weigh : (n : ℕ) (v : Tree) (bs : Bodies) → AreStructs n v bs
    → (n + weights_in_rows bs ≤ weight v) × (row_words bs + weights_in_rows bs ≤ weight v)
rows-weigh n v bs is = let a = ap weight is.0 in let b = is.1 in (omega arith, omega arith)

pub one-weighed : {S : Type 0} (has : S → ℕ → Tree → Type 0) (source : S) (bs : Bodies) (a b t n : ℕ)
    → count_rows bs ≡ 1 → AreWide a b bs → SoundRows bs
    → ((k : ℕ) → k < count (slots_at bs 0) → has source k (tree_at (slots_at bs 0) k))
    → ((ts : Trees) → b ≤ count ts → ((k : ℕ) → k < b → has source k (tree_at ts k))
    → n + 20 * weights (past b ts) ≤ t + 12 * b + 20 * weights ts)
    → n ≤ t + 12 * row_words bs + 20 * weights_in_rows bs
one-weighed has source no_bodies a b t n e w s are h = absurd (omega arith)
one-weighed has source (body ws ss bs) a b t n e w s are h =
    let x = h ss w.1 (λ k lt. are k (let l = w.1 in omega arith)) in
    let l = w.1 in
    omega arith

pub slot-weighed : {S : Type 0} (has : S → ℕ → Tree → Type 0) (source : S) (n i o l t k : ℕ) → i < n
    → ((ts : Trees) → n ≤ count ts → ((k : ℕ) → k < n → has source k (tree_at ts k))
    → l + 20 * weights (past i ts) ≤ o + 12 * i + 20 * weights ts)
    → t ≤ l + 1 → ((v : Tree) → has source i v → k ≤ t + 11 + 20 * weight v)
    → (ts : Trees) → n ≤ count ts → ((k : ℕ) → k < n → has source k (tree_at ts k))
    → k + 20 * weights (past (i + 1) ts) ≤ o + 12 * (i + 1) + 20 * weights ts
slot-weighed has source n i o l t k lt rest tick h ts c are =
    let e = h (tree_at ts i) (are i lt) in
    let d = ap weights (past-next i ts (omega arith)) in
    let f = rest ts c are in
    let z : i + 1 ≡ suc i = omega arith in
    let y = ap (λ (j : ℕ). weights (past j ts)) z in
    omega arith

pub slots-weighed : (n i o l : ℕ) (ts : Trees) → i ≤ n → n ≤ i
    → l + 20 * weights (past i ts) ≤ o + 12 * i + 20 * weights ts
    → l + 20 * weights (past n ts) ≤ o + 12 * n + 20 * weights ts
slots-weighed n i o l ts le ge h =
    let e : n ≡ i = omega arith in
    let y = ap (λ (j : ℕ). weights (past j ts)) e in
    omega arith

pub row-weighed : {S R : Type 0} (has : S → ℕ → Tree → Type 0) (are : R → Bodies → Type 0) (rows : R) (source : S)
    (a b i o l t n : ℕ)
    → ((bs : Bodies) → are rows bs → (k : ℕ) → k < count (slots_at bs i) → has source k (tree_at (slots_at bs i) k))
    → t ≤ l + 1
    → ((ts : Trees) → b ≤ count ts → ((k : ℕ) → k < b → has source k (tree_at ts k))
    → n + 20 * weights (past b ts) ≤ t + 12 * b + 20 * weights ts)
    → (bs : Bodies) → are rows bs → i < count_rows bs → AreWide a b bs → SoundRows bs
    → l + 12 * row_words (rows_past i bs) + 20 * weights_in_rows (rows_past i bs)
    ≤ o + i + 12 * row_words bs + 20 * weights_in_rows bs
    → n + 12 * row_words (rows_past (i + 1) bs) + 20 * weights_in_rows (rows_past (i + 1) bs)
    ≤ o + (i + 1) + 12 * row_words bs + 20 * weights_in_rows bs
row-weighed has are rows source a b i o l t n slots tick h bs is lt w s rest =
    let x = row-at a b i bs lt w s in
    let e = h (slots_at bs i) x.long (λ k m. slots bs is k (let y = x.long in omega arith)) in
    let y = x.long in
    let c = ap row_words x.next in
    let d = ap weights_in_rows x.next in
    let z : i + 1 ≡ suc i = omega arith in
    let u = ap (λ (j : ℕ). row_words (rows_past j bs)) z in
    let v = ap (λ (j : ℕ). weights_in_rows (rows_past j bs)) z in
    omega arith
