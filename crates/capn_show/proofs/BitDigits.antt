-- Lemmas for `push_bits` and `word_bits`: the digits of a list of bits, written a word at a time.
use Rattle.std.proofs.Common.{◌≡◌, ℕ, zero, suc, ◌+◌, ◌*◌, ◌/◌, ◌%◌, ◌^◌, ◌<◌, ◌≤◌, List, [], ◌∷◌, length, take, drop}
use Rattle.std.proofs.Common.{inl, inr, set, get_or, map, refl, ap, ap₂, sym, ◌∙◌, arith, Bool, true, false}
use Rattle.std.specs.Prelude.{slice_index}
use Rattle.std.specs.Int.{from_bool}
use Rattle.std.proofs.Math.Nat.{eq-or-lt_of_le}
use Rattle.std.proofs.lemmas.List.{take_all, get_or-set_other, get_or-take, get_or-drop, get_or-map, length-take-le}
use Rattle.std.proofs.lemmas.List.{length-drop}
use Rattle.std.proofs.lemmas.Grind.{same_number_lists, get_or-set_at}
use Rattle.capn_value.specs.Text.{digit, digits_of}
use Rattle.capn_walk.specs.ValueAt.{element}

digit-number : (b : Bool) → digit b ≡ 48 + from_bool b
digit-number true = refl
digit-number false = refl

length-digits : (xs : List Bool) → length (digits_of xs) ≡ length xs
length-digits [] = refl
length-digits (x ∷ xs) = ap suc (length-digits xs)

digit-at : (xs : List Bool) (k : ℕ) → k < length xs → get_or (digits_of xs) k 0 ≡ digit (get_or xs k false)
digit-at [] k h = absurd (omega arith)
digit-at (x ∷ xs) zero h = refl
digit-at (x ∷ xs) (suc k) h = digit-at xs k (omega arith)

bit-is : (ws : List ℕ) (j k : ℕ) → k < 64 → element 64 1 ws (64 * j + k) ≡ slice_index ws j / (2 ^ 1) ^ k % 2 ^ 1
bit-is ws j k h =
    let q : (64 * j + k) / 64 ≡ j = omega arith in
    let r : (64 * j + k) % 64 ≡ k = omega arith in
    ap₂ (λ (a b : ℕ). slice_index ws a / (2 ^ 1) ^ b % 2 ^ 1) q r

pub bit-set : (digits : List ℕ) (i v : ℕ) (f : ℕ → ℕ) → length digits ≡ 64 → i < 64
    → ((j : ℕ) → j < i → slice_index digits j ≡ f j) → v ≡ f i
    → (j : ℕ) → j < i + 1 → slice_index (set digits i v) j ≡ f j
bit-set digits i v f size below so_far e j h =
    let low : j ≤ i = omega arith in
    elim (eq-or-lt_of_le low) [
      | inl same ↦ get_or-set_at digits i j v 0 same (omega arith) ∙ e ∙ ap f (sym same)
      | inr less ↦ get_or-set_other digits i j v 0 (omega arith) ∙ so_far j less
    ]

-- If word `i` is `w`, the first `left` of its `digits` are the digits of `left` elements, from element `64 * i` on.
pub first-bits : (ws : List ℕ) (xs : List Bool) (i left w : ℕ) (digits : List ℕ)
    → ((k : ℕ) → k < length (map from_bool xs) → element 64 1 ws k ≡ slice_index (map from_bool xs) k)
    → length (map from_bool xs) ≡ length xs
    → ((k : ℕ) → k < 64 → slice_index digits k ≡ 48 + w / (2 ^ 1) ^ k % 2 ^ 1) → length digits ≡ 64
    → w ≡ slice_index ws i → left ≤ 64 → 64 * i + left ≤ length xs
    → take left digits ≡ digits_of (take left (drop (64 * i) xs))
first-bits ws xs i left w digits are size each all e few room =
    let part = take left (drop (64 * i) xs) in
    let some = length-drop (64 * i) xs in
    let low : length (take left digits) ≡ left = length-take-le left digits (omega arith) in
    let lot : length part ≡ left = length-take-le left (drop (64 * i) xs) (omega arith) in
    same_number_lists (take left digits) (digits_of part) (low ∙ sym (length-digits part ∙ lot))
    (λ k h. let below : k < left = omega arith in
    let inside : k < length part = omega arith in
    let there : 64 * i + k < length xs = omega arith in
    let here : get_or part k false ≡ get_or xs (64 * i + k) false =
    get_or-take left (drop (64 * i) xs) k false below ∙ get_or-drop (64 * i) xs k false in
    get_or-take left digits k 0 below ∙ each k (omega arith)
    ∙ ap (λ (x : ℕ). 48 + x) (ap (λ (x : ℕ). x / (2 ^ 1) ^ k % 2 ^ 1) e ∙ sym (bit-is ws i k (omega arith))
    ∙ are (64 * i + k) (omega arith) ∙ get_or-map from_bool xs (64 * i + k) false 0 there)
    ∙ sym (digit-number (get_or xs (64 * i + k) false)) ∙ sym (ap digit here) ∙ sym (digit-at part k inside))

pub whole-bits : (ws : List ℕ) (xs : List Bool) (i w : ℕ) (digits : List ℕ)
    → ((k : ℕ) → k < length (map from_bool xs) → element 64 1 ws k ≡ slice_index (map from_bool xs) k)
    → length (map from_bool xs) ≡ length xs
    → ((k : ℕ) → k < 64 → slice_index digits k ≡ 48 + w / (2 ^ 1) ^ k % 2 ^ 1) → length digits ≡ 64
    → w ≡ slice_index ws i → 64 * i + 64 ≤ length xs
    → digits ≡ digits_of (take 64 (drop (64 * i) xs))
whole-bits ws xs i w digits are size each all e room =
    sym (take_all 64 digits (omega arith)) ∙ first-bits ws xs i 64 w digits are size each all e (omega arith) room
