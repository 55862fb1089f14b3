-- The words into which a list of bits is packed, bit by bit and word by word. (For `extend_bits` and `word_of_bits`.)
use Rattle.std.proofs.Common.{◌≡◌, ℕ, suc, ◌+◌, ◌-◌, ◌*◌, ◌^◌, ◌<◌, ◌≤◌, min, List, ◌∷◌, length, take, drop}
use Rattle.std.proofs.Common.{map, get_or, ap, sym, ◌∙◌, arith, length-drop, Bool, true, false}
use Rattle.std.proofs.Math.Nat.{pow-succ', pow-le-pow_right}
use Rattle.std.proofs.lemmas.List.{drop_more, drop-map, drop-drop, take-map, take_min}
use Rattle.std.specs.Int.{from_bool}
use Rattle.capn_layout.specs.Layout.{number, packed}

pub bits-next : (bits : List Bool) (i : ℕ) → i < length bits
    → number 2 (map from_bool (drop (length bits - (i + 1)) bits)) ≡ from_bool (get_or bits (length bits - 1 - i) false)
    + 2 * number 2 (map from_bool (drop (length bits - i) bits))
bits-next bits i lt =
    let j = length bits - 1 - i in
    let a : length bits - (i + 1) ≡ j = omega arith in
    let b : j + 1 ≡ length bits - i = omega arith in
    ap (λ (k : ℕ). number 2 (map from_bool (drop k bits))) a
    ∙ ap (λ (bs : List Bool). number 2 (map from_bool bs)) (drop_more bits j false (omega arith))
    ∙ ap (λ (k : ℕ). from_bool (get_or bits j false) + 2 * number 2 (map from_bool (drop k bits))) b

pub one-bit : (b : Bool) → from_bool b ≤ 1
one-bit true = omega arith
one-bit false = omega arith

pub bit-below : (w i : ℕ) (b : Bool) → w < 2 ^ i → w * 2 + from_bool b < 2 ^ (i + 1)
bit-below w i b lt =
    let e : 2 ^ (i + 1) ≡ 2 * 2 ^ i = ap (λ (k : ℕ). 2 ^ k) (omega arith) ∙ pow-succ' 2 i in
    let o = one-bit b in
    omega arith

pub fits-word : (w i : ℕ) → w < 2 ^ i → i < 64 → w < 2 ^ 63
fits-word w i lt le = let p = pow-le-pow_right {n = 2} (omega arith) {i = i} {j = 63} (omega arith) in omega arith

pub packed-next : (bits : List Bool) (n i : ℕ) → i < n
    → packed 64 1 (n - i) (map from_bool (drop (64 * i) bits))
    ≡ number 2 (take 64 (map from_bool (drop (64 * i) bits))) ∷ packed 64 1 (n - (i + 1))
    (map from_bool (drop (64 * (i + 1)) bits))
packed-next bits n i lt =
    let a : n - i ≡ suc (n - (i + 1)) = omega arith in
    let b : 64 * i + 64 ≡ 64 * (i + 1) = omega arith in
    ap (λ (k : ℕ). packed 64 1 k (map from_bool (drop (64 * i) bits))) a
    ∙ ap (λ (xs : List ℕ). number 2 (take 64 (map from_bool (drop (64 * i) bits))) ∷ packed 64 1 (n - (i + 1)) xs)
    (drop-map from_bool 64 (drop (64 * i) bits)
    ∙ ap (map from_bool) (drop-drop 64 (64 * i) bits ∙ ap (λ (k : ℕ). drop k bits) b))

pub chunk-is : (bits : List Bool) (start end : ℕ) → end ≡ min (length bits) (start + 64)
    → map from_bool (take (end - start) (drop start bits)) ≡ take 64 (map from_bool (drop start bits))
chunk-is bits start end e =
    let d = length-drop start bits in
    let m : end - start ≡ min 64 (length (drop start bits)) = omega arith in
    ap (λ (k : ℕ). map from_bool (take k (drop start bits))) m
    ∙ ap (map from_bool) (take_min 64 (drop start bits))
    ∙ sym (take-map from_bool 64 (drop start bits))
