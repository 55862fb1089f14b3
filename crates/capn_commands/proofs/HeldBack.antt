-- Lemmas on the words that are not packed yet. (For the functions of `pack_run.rt`.)
use Rattle.std.proofs.Common.{◌≡◌, ℕ, zero, suc, ◌+◌, ◌-◌, ◌*◌, ◌≤◌, List, [], ◌++◌, length, take, drop, replicate}
use Rattle.std.proofs.Common.{refl, ap, sym, subst, ◌∙◌, arith, append-nil, append_assoc, drop-drop, length-drop}
use Rattle.std.proofs.Common.{length-take, slice_range, take_all}
use Rattle.std.proofs.Math.Seq.{drop-append_seam}
use Rattle.std.proofs.lemmas.List.{drop-append-le, take-append-le}
use Rattle.capn_pack.specs.Chosen.{AllDense, IsDense, zero_count}
use Rattle.capn_commands.specs.PackRun.{AreOpen}

pub open_none : (bs : List ℕ) → bs ≡ [] → AreOpen bs
open_none bs none = record { nulls = 0; count = 0; dense = []; is = none; are = refl }

pub open_zeros : (more : ℕ) (bs : List ℕ) → bs ≡ replicate (8 * (1 + more)) 0 → AreOpen bs
open_zeros more bs is = record {
  nulls = 1 + more;
  count = 0;
  dense = [];
  is = is ∙ sym (append-nil (replicate (8 * (1 + more)) 0));
  are = refl;
}

dense_first : (word more : List ℕ) (count : ℕ) → IsDense word → AllDense count more
    → AllDense (suc count) (word ++ more)
dense_first word more count first dense =
    let long : 8 ≤ length word = omega (arith, first.0) in
    let alone : take 8 (word ++ more) ≡ word = take-append-le 8 word more long
    ∙ take_all 8 word (omega (arith, first.0)) in (
      subst IsDense (sym alone) first,
      subst (λ (k : ℕ). AllDense count (drop k (word ++ more))) first.0
          (subst (AllDense count) (sym (drop-append_seam word more)) dense),
    )

pub open_raw : (word more : List ℕ) (count : ℕ) (bs : List ℕ) → IsDense word → AllDense count more
    → bs ≡ word ++ more → AreOpen bs
open_raw word more count bs first dense is = record {
  nulls = 0;
  count = suc count;
  dense = word ++ more;
  is = is;
  are = dense_first word more count first dense;
}

dense_append : (n m : ℕ) (a b : List ℕ) → AllDense n a → AllDense m b → AllDense (n + m) (a ++ b)
dense_append zero m a b none more =
    let same : m ≡ 0 + m = omega arith in
    subst (λ (k : ℕ). AllDense k (a ++ b)) same (subst (λ (l : List ℕ). AllDense m (l ++ b)) (sym none) more)
dense_append (suc n) m a b (first, rest) more =
    let long : 8 ≤ length a = omega (arith, first.0, length-take 8 a) in
    let next : suc n + m ≡ suc (n + m) = omega arith in
    subst (λ (k : ℕ). AllDense k (a ++ b)) (sym next) (
      subst IsDense (sym (take-append-le 8 a b long)) first,
      subst (AllDense (n + m)) (sym (drop-append-le 8 a b long)) (dense_append n m (drop 8 a) b rest more),
    )

pub open_more : (a b : List ℕ) (n : ℕ) → AreOpen a → AllDense n b → AreOpen (a ++ b)
open_more a b n o more = record {
  nulls = o.nulls;
  count = o.count + n;
  dense = o.dense ++ b;
  is = ap (λ (l : List ℕ). l ++ b) o.is ∙ append_assoc (replicate (8 * o.nulls) 0) o.dense b;
  are = dense_append o.count n o.dense b o.are more;
}

-- ---- the offset `cut` before dense words

-- If the word before `cut` and all words after `cut` are dense, all words after `cut - 8` are dense.
pub dense_before : (words : List ℕ) (cut : ℕ) → 8 ≤ cut → cut ≤ length words
    → zero_count (slice_range words (cut - 8) cut) ≤ 1 → (n : ℕ) × AllDense n (drop cut words)
    → (n : ℕ) × AllDense n (drop (cut - 8) words)
dense_before words cut some inside few (n, dense) =
    let size : cut - (cut - 8) ≡ 8 = omega (arith, some) in
    let next : (cut - 8) + 8 ≡ cut = omega (arith, some) in
    let first : take 8 (drop (cut - 8) words) ≡ slice_range words (cut - 8) cut =
    ap (λ (k : ℕ). take k (drop (cut - 8) words)) (sym size) in
    let rest : drop 8 (drop (cut - 8) words) ≡ drop cut words =
    drop-drop 8 (cut - 8) words ∙ ap (λ (k : ℕ). drop k words) next in (
      suc n,
      (
        (
          omega (arith, length-take 8 (drop (cut - 8) words), length-drop (cut - 8) words, some, inside),
          subst (λ (l : List ℕ). zero_count l ≤ 1) (sym first) few,
        ),
        subst (AllDense n) (sym rest) dense,
      ),
    )
