-- Lemmas for `gather_table.rt`, `lanes.rt`, `pack_block.rt` and others: the tables satisfy their rules. Shuffling by a
-- row gives the word of a group, or the group's text.
use Rattle.std.proofs.Common.{◌≡◌, ℕ, zero, suc, ◌+◌, ◌*◌, ◌/◌, ◌%◌, ◌^◌, ◌<◌, ◌≤◌, Bool, true, false, cond, eqb, ltb}
use Rattle.std.proofs.Common.{leb, ◌&&◌, ◌||◌, T, inl, inr, List, [], ◌∷◌, ◌++◌, map, length, take, drop, get_or}
use Rattle.std.proofs.Common.{replicate, refl, sym, ap, ◌∙◌, subst, arith, append_assoc, take_all, w8}
use Rattle.std.proofs.lemmas.Bool.Decides.{nat_tests}
use Rattle.std.proofs.lemmas.List.{drop_more, length-append, take-append-le, take-take}
use Rattle.std.proofs.Common.{length-take}
use Rattle.std.proofs.lemmas.Bool.{eqb-true, agree_below_at, lt-leb, and_parts}
use Rattle.std.proofs.lemmas.List.FromFn.{get_or-map-range_with_len}
use Rattle.std.proofs.lemmas.Simd.{swz_l, SwzOk, SwzOk-from_Each1, length-swz_l, pick_l_left, pick_l-range_with_len}
use Rattle.std.specs.List.{range_with_len}
use Rattle.std.specs.Prelude.{count_ones}
use Rattle.std.specs.Int.Bits.{bit_or, or_zero_l, or_zero_r}
use Rattle.std.proofs.Math.Seq.{take-append-add}
use lib.Lanes.{Each1, pick_l, zip2}
use mir.Val.{zeroes}
use Rattle.capn_pack.specs.Packed.{named_bytes, IsNamedBy}
use Rattle.capn_pack.specs.inner.ShuffleRows.{spread_places, spread_row, gather_places, gather_row}
use Rattle.capn_pack.specs.declared.spread_table.TheConstants.{SPREADS}
use Rattle.capn_pack.specs.declared.gather_table.TheConstants.{GATHERS}
use Rattle.capn_pack.proofs.shared.SpreadLemmas.{ones_half, no_ones, parity, named_one, named_none}

-- ---- each row of a table is given by the table's rule

spreads_are : SPREADS ≡ map spread_row (range_with_len 0 256)
spreads_are = refl

gathers_are : GATHERS ≡ map gather_row (range_with_len 0 256)
gathers_are = refl

pub spread_entry : (tag : ℕ) (none : List ℕ) → tag < 256 → get_or SPREADS tag none ≡ spread_row tag
spread_entry tag none h = ap (λ t. get_or t tag none) spreads_are
    ∙ get_or-map-range_with_len spread_row 0 256 tag tag none h (omega arith)

pub gather_entry : (tag : ℕ) (none : List ℕ) → tag < 256 → get_or GATHERS tag none ≡ gather_row tag
gather_entry tag none h = ap (λ t. get_or t tag none) gathers_are
    ∙ get_or-map-range_with_len gather_row 0 256 tag tag none h (omega arith)

-- ---- each row may shuffle a vector of 16 lanes

abbrev is_lanes : List ℕ → Bool
is_lanes [] = true
is_lanes (j ∷ js) = (zeroes 16 w8 j || ltb j 16) && is_lanes js

is_true : (b : Bool) → b ≡ true → T b
is_true true e = tt
is_true false e = absurd (subst (λ b. T b) (sym e) tt)

each_lane : (js : List ℕ) → is_lanes js ≡ true → Each1 (λ j. T (zeroes 16 w8 j || ltb j 16)) js
each_lane [] h = tt
each_lane (j ∷ js) h = (is_true _ (and_parts _ _ h).0, each_lane js (and_parts _ _ h).1)

lanes_ok : (js : List ℕ) → is_lanes js ≡ true → length js ≡ 16 → SwzOk w8 16 16 0 js
lanes_ok js h long = SwzOk-from_Each1 w8 16 1 16 0 js refl (omega arith) (each_lane js h)

abbrev is_row : List ℕ → Bool
is_row js = is_lanes js && eqb (length js) 16

abbrev always : ℕ → Bool
always n = true

row_ok : (js : List ℕ) → is_row js ≡ true → SwzOk w8 16 16 0 js
row_ok js h = lanes_ok js (and_parts _ _ h).0 (eqb-true (length js) 16 (and_parts (is_lanes js) _ h).1)

pub spread_ok : (tag : ℕ) → tag < 256 → SwzOk w8 16 16 0 (spread_row tag)
spread_ok tag h = row_ok (spread_row tag) (agree_below_at (λ t. is_row (spread_row t)) always 256 tag refl h)

pub gather_ok : (tag : ℕ) → tag < 256 → SwzOk w8 16 16 0 (gather_row tag)
gather_ok tag h = row_ok (gather_row tag) (agree_below_at (λ t. is_row (gather_row t)) always 256 tag refl h)

-- ---- one lane

lane_is : (xs : List ℕ) (i j : ℕ) → i < 16 → j < 16
    → cond (zeroes 16 w8 j) 0 (get_or xs (16 * (i / 16) + j) 0) ≡ get_or xs j 0
lane_is xs i j a b =
    let low : leb 128 j ≡ false = lt-leb 128 j (omega arith) in
    let first : 16 * (i / 16) + j ≡ j = omega arith in
    rw (low, first) refl

some_ones : (tag : ℕ) → tag % 2 ≡ 1 → count_ones tag ≡ suc (count_ones (tag / 2))
some_ones tag e = omega (arith, ones_half tag, e)

none_ones : (tag : ℕ) → tag % 2 ≡ 0 → count_ones tag ≡ count_ones (tag / 2)
none_ones tag e = omega (arith, ones_half tag, e)

-- ---- the word that has the bytes named by its tag

spread_odd : (n tag next : ℕ) → tag % 2 ≡ 1
    → spread_places (suc n) tag next ≡ next ∷ spread_places n (tag / 2) (next + 1)
spread_odd n tag next e = grind (arith, nat_tests)

spread_even : (n tag next : ℕ) → tag % 2 ≡ 0 → spread_places (suc n) tag next ≡ 128 ∷ spread_places n (tag / 2) next
spread_even n tag next e = grind (arith, nat_tests)

pub record IsSpread (tag : ℕ) (word named : List ℕ) : Type 0 where
  pub by : IsNamedBy tag word
  pub bytes : named_bytes tag word ≡ named

spread_odd_step : (tag b : ℕ) (word named : List ℕ) → tag % 2 ≡ 1 → IsSpread (tag / 2) word named
    → IsSpread tag (b ∷ word) (b ∷ named)
spread_odd_step tag b word named odd s = record {
  by = ((λ e. absurd (omega arith)), s.by);
  bytes = named_one tag b word odd ∙ ap (λ l. b ∷ l) s.bytes;
}

spread_even_step : (tag : ℕ) (word named : List ℕ) → tag % 2 ≡ 0 → IsSpread (tag / 2) word named
    → IsSpread tag (0 ∷ word) named
spread_even_step tag word named even s = record {
  by = ((λ e. refl), s.by);
  bytes = named_none tag 0 word even ∙ s.bytes;
}

spread_lanes : (xs : List ℕ) (n tag next i : ℕ) → length xs ≡ 16 → tag < 2 ^ n → next + n ≤ 16 → i + n ≤ 16
    → IsSpread tag (swz_l w8 16 xs i (spread_places n tag next)) (take (count_ones tag) (drop next xs))
spread_lanes xs zero tag next i long fits a b =
    let none : tag ≡ 0 = omega arith in
    record {
      by = tt;
      bytes =
          sym (ap (λ t. take (count_ones t) (drop next xs)) none ∙ ap (λ k. take k (drop next xs)) no_ones);
    }
spread_lanes xs (suc n) tag next i long fits a b =
    elim (parity tag) [
      | inl even ↦
          let rest = spread_lanes xs n (tag / 2) next (suc i) long (omega arith) (omega arith) (omega arith) in
          rw (spread_even n tag next even, none_ones tag even) (spread_even_step tag _ _ even rest)
      | inr odd ↦
          let rest = spread_lanes xs n (tag / 2) (next + 1) (suc i) long (omega arith) (omega arith) (omega arith) in
          rw (
            spread_odd n tag next odd,
            lane_is xs i next (omega arith) (omega arith),
            some_ones tag odd,
            drop_more xs next 0 (omega arith),
          ) (spread_odd_step tag (get_or xs next 0) _ _ odd rest)
    ]

-- ---- the bytes of a word that its tag names

gather_odd : (n tag at : ℕ) → tag % 2 ≡ 1 → gather_places (suc n) tag at ≡ at ∷ gather_places n (tag / 2) (at + 1)
gather_odd n tag at e = grind (arith, nat_tests)

gather_even : (n tag at : ℕ) → tag % 2 ≡ 0
    → gather_places (suc n) tag at ≡ gather_places n (tag / 2) (at + 1) ++ 128 ∷ []
gather_even n tag at e = grind (arith, nat_tests)

pub gather_lanes : (xs : List ℕ) (n tag at i : ℕ) (more : List ℕ) → length xs ≡ 16 → tag < 2 ^ n → at + n ≤ 16
    → i + n ≤ 16
    → take (count_ones tag) (swz_l w8 16 xs i (gather_places n tag at ++ more)) ≡ named_bytes tag (take n (drop at xs))
gather_lanes xs zero tag at i more long fits a b =
    let none : tag ≡ 0 = omega arith in
    ap (λ t. take (count_ones t) (swz_l w8 16 xs i more)) none ∙ ap (λ k. take k (swz_l w8 16 xs i more)) no_ones
gather_lanes xs (suc n) tag at i more long fits a b =
    let here = drop_more xs at 0 (omega arith) in
    elim (parity tag) [
      | inl even ↦
          let rest = gather_lanes xs n (tag / 2) (at + 1) i (128 ∷ more) long (omega arith) (omega arith)
          (omega arith) in
          rw (gather_even n tag at even, none_ones tag even, append_assoc, here) (rest
          ∙ sym (named_none tag (get_or xs at 0) _ even))
      | inr odd ↦
          let rest = gather_lanes xs n (tag / 2) (at + 1) (suc i) more long (omega arith) (omega arith) (omega arith) in
          rw (gather_odd n tag at odd, some_ones tag odd, lane_is xs i at (omega arith) (omega arith), here)
          (ap (λ l. get_or xs at 0 ∷ l) rest ∙ sym (named_one tag (get_or xs at 0) _ odd))
    ]

-- ---- all lanes of the vector

swz_front : (xs : List ℕ) (i : ℕ) (js more : List ℕ)
    → take (length js) (swz_l w8 16 xs i (js ++ more)) ≡ swz_l w8 16 xs i js
swz_front xs i [] more = refl
swz_front xs i (j ∷ js) more =
    ap (λ l. cond (zeroes 16 w8 j) 0 (get_or xs (16 * (i / 16) + j) 0) ∷ l) (swz_front xs (suc i) js more)

length_spread : (n tag next : ℕ) → length (spread_places n tag next) ≡ n
length_spread zero tag next = refl
length_spread (suc n) tag next =
    elim (parity tag) [
      | inl even ↦ rw (spread_even n tag next even) (ap (λ k. suc k) (length_spread n (tag / 2) next))
      | inr odd ↦ rw (spread_odd n tag next odd) (ap (λ k. suc k) (length_spread n (tag / 2) (next + 1)))
    ]

length_rows : (tag : ℕ) → tag < 256 → length (spread_row tag) ≡ 16
length_rows tag h =
    eqb-true (length (spread_row tag)) 16
    (and_parts (is_lanes (spread_row tag)) _ (agree_below_at (λ t. is_row (spread_row t)) always 256 tag refl h)).1

pub spread_all : (tag : ℕ) (xs row : List ℕ) → tag < 256 → length xs ≡ 16 → row ≡ spread_row tag
    → let v = swz_l w8 16 xs 0 row in IsSpread tag (pick_l 0 (v ++ v) (range_with_len 0 8)) (take (count_ones tag) xs)
spread_all tag xs row h long e =
    let v = swz_l w8 16 xs 0 (spread_row tag) in
    let size : length v ≡ 16 = length-swz_l w8 16 xs 0 (spread_row tag) ∙ length_rows tag h in
    let front : take 8 v ≡ swz_l w8 16 xs 0 (spread_places 8 tag 0) = ap (λ n. take n v) (sym (length_spread 8 tag 0))
    ∙ swz_front xs 0 (spread_places 8 tag 0) (replicate 8 128) in
    let eight : pick_l 0 (v ++ v) (range_with_len 0 8) ≡ take 8 v = pick_l_left 0 v v 16 (range_with_len 0 8) size tt
    ∙ pick_l-range_with_len 0 v 0 8 (omega arith) in
    rw e (subst (λ l. IsSpread tag l (take (count_ones tag) xs)) (sym (eight ∙ front))
    (spread_lanes xs 8 tag 0 0 long (omega arith) (omega arith) (omega arith)))

or_zeros : (xs : List ℕ) (n : ℕ) → length xs ≡ n → zip2 bit_or xs (replicate n 0) ≡ xs
or_zeros [] n h = refl
or_zeros (x ∷ xs) zero h = absurd (omega arith)
or_zeros (x ∷ xs) (suc n) h = λ i. or_zero_r x i ∷ or_zeros xs n (omega arith) i

length_gather : (tag : ℕ) → tag < 256 → length (gather_row tag) ≡ 16
length_gather tag h =
    eqb-true (length (gather_row tag)) 16
    (and_parts (is_lanes (gather_row tag)) _ (agree_below_at (λ t. is_row (gather_row t)) always 256 tag refl h)).1

pub gather_all : (tag : ℕ) (word xs row : List ℕ) → tag < 256 → length word ≡ 8 → xs ≡ word ++ replicate 8 0
    → row ≡ gather_row tag
    → take (1 + count_ones tag) (zip2 bit_or (swz_l w8 16 xs 0 row) (tag ∷ replicate 15 0)) ≡ tag ∷ named_bytes tag word
gather_all tag word xs row h long from e =
    let places = gather_places 8 tag 0 ++ replicate 7 128 in
    let rest = swz_l w8 16 xs 1 places in
    let many : length places ≡ 15 = omega (arith, length_gather tag h) in
    let size : length rest ≡ 15 = length-swz_l w8 16 xs 1 places ∙ many in
    let all : length xs ≡ 16 = ap length from ∙ simp length-append (omega (arith, long)) in
    let back : take 8 xs ≡ word = ap (take 8) from ∙ take-append-le 8 word (replicate 8 0) (omega arith)
    ∙ take_all 8 word (omega arith) in
    let one : 1 + count_ones tag ≡ suc (count_ones tag) = omega arith in
    rw (e, one, or_zero_l tag, or_zeros rest 15 size)
    (ap (λ l. tag ∷ l) (gather_lanes xs 8 tag 0 1 (replicate 7 128) all (omega arith) (omega arith) (omega arith)
    ∙ ap (named_bytes tag) back))

pub pushed : (old lanes all new text : List ℕ) (end count : ℕ) → end ≡ length old + (1 + count) → all ≡ old ++ lanes
    → new ≡ take end all → take (1 + count) lanes ≡ text → new ≡ old ++ text
pushed old lanes all new text end count at grown cut e = cut ∙ (λ i. take (at i) (grown i))
    ∙ take-append-add old lanes (1 + count) ∙ ap (λ l. old ++ l) e

few_ones : (n tag : ℕ) → tag < 2 ^ n → count_ones tag ≤ n
few_ones zero tag h =
    let none : tag ≡ 0 = omega arith in
    omega (arith, ap count_ones none, no_ones)
few_ones (suc n) tag h = omega (arith, ones_half tag, few_ones n (tag / 2) (omega arith))

pub eight_ones : (tag : ℕ) → tag < 256 → count_ones tag ≤ 8
eight_ones tag h = few_ones 8 tag (omega arith)

pub stored : (old add new text : List ℕ) (at all n end : ℕ) → end ≡ at + n → at ≤ length old → n ≤ all
    → take (at + all) new ≡ take at old ++ add → take n add ≡ text → take end new ≡ take at old ++ text
stored old add new text at all n end e inside few written is =
    let front : length (take at old) ≡ at = simp length-take (omega arith) in
    let size : end ≡ length (take at old) + n = omega arith in
    sym (take-take end (at + all) new (omega arith)) ∙ (λ i. take (size i) (written i))
    ∙ take-append-add (take at old) add n
    ∙ ap (λ l. take at old ++ l) is
