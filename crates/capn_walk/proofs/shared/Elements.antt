-- The elements of a list, read from the bytes of the list's words. (For `lists.rt`, `view.rt`, capn_layout and
-- capn_show.)
use Rattle.std.proofs.Common.{◌≡◌, ℕ, zero, suc, ◌+◌, ◌*◌, ◌/◌, ◌%◌, ◌^◌, ◌<◌, ◌≤◌, Bool, List, [], ◌∷◌, ◌++◌, length}
use Rattle.std.proofs.Common.{take, drop, slice_index, map, refl, ap, sym, subst, ◌∙◌, arith, length-drop}
use Rattle.std.proofs.Math.Nat.{div-div-eq-div-mul}
use Rattle.std.proofs.lemmas.Nat.{pow-add}
use Rattle.std.specs.Int.{from_bool}
use Rattle.std.specs.List.{range_with_len}
use Rattle.std.proofs.Math.Seq.{drop-cons}
use Rattle.std.proofs.lemmas.List.{get_or-drop, get_or-take, length-take-le, length-map, map-append, append_assoc}
use Rattle.std.proofs.lemmas.List.FromFn.{length-map-range_with_len, get_or-map-range_with_len}
use Rattle.std.proofs.lemmas.List.FromFn.{map-range_with_len_more}
use Rattle.std.proofs.lemmas.Grind.{same_number_lists, common_steps}
use Rattle.byteorder.specs.Endian.{little_number, IsRead}
use Rattle.capn_words.specs.Message.{segment_at, bytes_at, word_bytes, bytes}
use Rattle.capn_words.specs.declared.space.Place.{Place}
use Rattle.capn_words.proofs.shared.Words.{length-bytes, bytes-drop}
use Rattle.capn_walk.specs.ValueAt.{element, AreElements, words_from}

byte-in_word : (w i : ℕ) (rest : List ℕ) → i < 8 → slice_index (word_bytes w ++ rest) i ≡ w / 256 ^ i % 256
unfolding word_bytes
byte-in_word w zero rest h = let same : w / 1 ≡ w = omega arith in ap (λ (x : ℕ). x % 256) (sym same)
byte-in_word w (suc zero) rest h = refl
byte-in_word w (suc (suc zero)) rest h = refl
byte-in_word w (suc (suc (suc zero))) rest h = refl
byte-in_word w (suc (suc (suc (suc zero)))) rest h = refl
byte-in_word w (suc (suc (suc (suc (suc zero))))) rest h = refl
byte-in_word w (suc (suc (suc (suc (suc (suc zero)))))) rest h = refl
byte-in_word w (suc (suc (suc (suc (suc (suc (suc zero))))))) rest h = refl
byte-in_word w (suc (suc (suc (suc (suc (suc (suc (suc i)))))))) rest h = absurd (omega arith)

byte-of : (ws : List ℕ) (q p : ℕ) → q < length ws → p < 8
    → slice_index (bytes ws) (8 * q + p) ≡ slice_index ws q / 256 ^ p % 256
byte-of ws q p inside below =
    sym (get_or-drop (8 * q) (bytes ws) p 0)
    ∙ ap (λ (bs : List ℕ). slice_index bs p) (bytes-drop q ws ∙ ap bytes (drop-cons ws q 0 inside))
    ∙ byte-in_word (slice_index ws q) p (bytes (drop (suc q) ws)) below

-- ---- elements of several bytes, given the place of an element in a word

two-bytes : (w r : ℕ) → r < 4
    → w / 256 ^ (2 * r) % 256 + 256 * (w / 256 ^ (2 * r + 1) % 256) ≡ w / (2 ^ 16) ^ r % 2 ^ 16
two-bytes w zero h = omega arith
two-bytes w (suc zero) h = omega arith
two-bytes w (suc (suc zero)) h = omega arith
two-bytes w (suc (suc (suc zero))) h = omega arith
two-bytes w (suc (suc (suc (suc r)))) h = absurd (omega arith)

four-bytes : (w r : ℕ) → r < 2 →
    w / 256 ^ (4 * r) % 256
    + 256 * (w / 256 ^ (4 * r + 1) % 256
    + 256 * (w / 256 ^ (4 * r + 2) % 256 + 256 * (w / 256 ^ (4 * r + 3) % 256)))
    ≡ w / (2 ^ 32) ^ r % 2 ^ 32
four-bytes w zero h = omega arith
four-bytes w (suc zero) h = omega arith
four-bytes w (suc (suc r)) h = absurd (omega arith)

-- ---- a bit of a byte of a word

low-bit : (x d : ℕ) → d < 8 → x % 256 / 2 ^ d % 2 ≡ x / 2 ^ d % 2
low-bit x zero h = omega arith
low-bit x (suc zero) h = omega arith
low-bit x (suc (suc zero)) h = omega arith
low-bit x (suc (suc (suc zero))) h = omega arith
low-bit x (suc (suc (suc (suc zero)))) h = omega arith
low-bit x (suc (suc (suc (suc (suc zero))))) h = omega arith
low-bit x (suc (suc (suc (suc (suc (suc zero)))))) h = omega arith
low-bit x (suc (suc (suc (suc (suc (suc (suc zero))))))) h = omega arith
low-bit x (suc (suc (suc (suc (suc (suc (suc (suc d)))))))) h = absurd (omega arith)

bytes-and-bits : (p d : ℕ) → p < 8 → 256 ^ p * 2 ^ d ≡ 2 ^ (8 * p + d)
bytes-and-bits zero d h = sym (pow-add 2 0 d)
bytes-and-bits (suc zero) d h = sym (pow-add 2 8 d)
bytes-and-bits (suc (suc zero)) d h = sym (pow-add 2 16 d)
bytes-and-bits (suc (suc (suc zero))) d h = sym (pow-add 2 24 d)
bytes-and-bits (suc (suc (suc (suc zero)))) d h = sym (pow-add 2 32 d)
bytes-and-bits (suc (suc (suc (suc (suc zero))))) d h = sym (pow-add 2 40 d)
bytes-and-bits (suc (suc (suc (suc (suc (suc zero)))))) d h = sym (pow-add 2 48 d)
bytes-and-bits (suc (suc (suc (suc (suc (suc (suc zero))))))) d h = sym (pow-add 2 56 d)
bytes-and-bits (suc (suc (suc (suc (suc (suc (suc (suc p)))))))) d h = absurd (omega arith)

bit-in_word : (w p d i : ℕ) → p < 8 → d < 8 → i ≡ 8 * p + d → w / 256 ^ p % 256 / 2 ^ d % 2 ≡ w / 2 ^ i % 2
bit-in_word w p d i hp hd e =
    low-bit (w / 256 ^ p) d hd
    ∙ ap (λ (x : ℕ). x % 2) (div-div-eq-div-mul w (256 ^ p) (2 ^ d)
    ∙ ap (λ (x : ℕ). w / x) (bytes-and-bits p d hp ∙ ap (λ (x : ℕ). 2 ^ x) (sym e)))

-- ---- the words that are read from bytes

eight-bytes : (w : ℕ) → w < 2 ^ 64 →
    w / 256 ^ 0 % 256 + 256 * (w / 256 ^ 1 % 256 + 256 * (w / 256 ^ 2 % 256 + 256 * (w / 256 ^ 3 % 256
    + 256 * (w / 256 ^ 4 % 256 + 256 * (w / 256 ^ 5 % 256 + 256 * (w / 256 ^ 6 % 256 + 256 * (w / 256 ^ 7 % 256)))))))
    ≡ w
eight-bytes w h = omega arith

-- the first `count` bits of `x`, the lowest first
abbrev pub first_bits : ℕ → ℕ → List ℕ
first_bits count x = map (λ k. x / 2 ^ k % 2) (range_with_len 0 count)

-- if `xs` is `zs` followed by the first `i` bits of `x`, `b` is bit `i` of `x`, and `ys` is `xs ++ b ∷ []`, then `ys`
-- is `zs` followed by the first `i + 1` bits of `x`
pub first_bits-more : (i x : ℕ) (zs xs ys : List Bool) (b : Bool) → ys ≡ xs ++ b ∷ []
    → map from_bool xs ≡ map from_bool zs ++ first_bits i x → from_bool b ≡ x / 2 ^ i % 2
    → map from_bool ys ≡ map from_bool zs ++ first_bits (i + 1) x
first_bits-more i x zs xs ys b e before is =
    let bit : ℕ → ℕ = λ k. x / 2 ^ k % 2 in
    ap (map from_bool) e
    ∙ map-append from_bool xs (b ∷ [])
    ∙ ap (λ (l : List ℕ). l ++ from_bool b ∷ []) before
    ∙ append_assoc (map from_bool zs) (first_bits i x) (from_bool b ∷ [])
    ∙ ap (λ (l : List ℕ). map from_bool zs ++ l) (ap (λ (y : ℕ). first_bits i x ++ y ∷ []) is
    ∙ sym (map-range_with_len_more bit 0 i i (omega arith)))

elements-joined : (ws xs ys : List ℕ) → AreElements 64 1 ws xs
    → ((k : ℕ) → k < length ys → slice_index ys k ≡ element 64 1 ws (length xs + k)) → AreElements 64 1 ws (xs ++ ys)
elements-joined ws xs ys before next i below = grind (arith, common_steps)

-- ---- the bytes from a place of a message on

module _ (m : List (List ℕ)) (at : Place) where
  -- the words of the segment from the place `at` on
  abbrev ws : List ℕ
  ws = words_from m at.segment at.word

  pub length-bytes_at : (n : ℕ) → 8 * at.word + n ≤ 8 * length (segment_at m at.segment) → length (bytes_at m at n) ≡ n
  length-bytes_at n h =
      let whole = length-bytes (segment_at m at.segment) in
      let rest = length-drop (8 * at.word) (bytes (segment_at m at.segment)) in
      length-take-le n (drop (8 * at.word) (bytes (segment_at m at.segment))) (omega arith)

  module _ (n : ℕ) (bs : List ℕ) (are : bs ≡ bytes_at m at n)
      (inside : 8 * at.word + n ≤ 8 * length (segment_at m at.segment)) where
    pub length-read : length bs ≡ n
    length-read = ap length are ∙ length-bytes_at n inside

    byte-at : (j q p : ℕ) → j ≡ 8 * q + p → p < 8 → j < n → slice_index bs j ≡ slice_index ws q / 256 ^ p % 256
    byte-at j q p e below h =
        let size = length-drop at.word (segment_at m at.segment) in
        ap (λ (cs : List ℕ). slice_index cs j) are
        ∙ get_or-take n (drop (8 * at.word) (bytes (segment_at m at.segment))) j 0 h
        ∙ ap (λ (cs : List ℕ). slice_index cs j) (bytes-drop at.word (segment_at m at.segment))
        ∙ ap (slice_index (bytes ws)) e
        ∙ byte-of ws q p (omega arith) below

    byte-on : (d k q p : ℕ) → d + k ≡ 8 * q + p → p < 8 → d + k < n
        → slice_index (drop d bs) k ≡ slice_index ws q / 256 ^ p % 256
    byte-on d k q p e below h = get_or-drop d bs k 0 ∙ byte-at (d + k) q p e below h

    -- the bytes `bs` are the elements of a list of bytes in the words `ws`
    pub are-bytes : AreElements 8 8 ws bs
    are-bytes i h = byte-at i (i / 8) (i % 8) (omega arith) (omega arith) (omega (arith, length-read))

    bit-at : (q k : ℕ) → q < n → k < 8 → slice_index bs q / 2 ^ k % 2 ≡ element 64 1 ws (8 * q + k)
    bit-at q k h below =
        let i = 8 * q + k in
        ap (λ (x : ℕ). x / 2 ^ k % 2) (byte-at q (i / 64) (q % 8) (omega arith) (omega arith) h)
        ∙ bit-in_word (slice_index ws (i / 64)) (q % 8) k (i % 64) (omega arith) below (omega arith)

    -- `ys` are `xs` and then the first `count` bits of byte `q`. If `xs` are the first `8 * q` elements of a list of
    -- bits in the words `ws`, then `ys` are the first elements of that list.
    pub bits-more : (q count x : ℕ) (xs ys : List Bool) → x ≡ slice_index bs q → q < n → count ≤ 8 → length xs ≡ 8 * q
        → map from_bool ys ≡ map from_bool xs ++ first_bits count x
        → AreElements 64 1 ws (map from_bool xs) → AreElements 64 1 ws (map from_bool ys)
    bits-more q count x xs ys is h most l e before =
        let bit : ℕ → ℕ = λ k. x / 2 ^ k % 2 in
        let so_far = length-map xs from_bool ∙ l in
        let many = length-map-range_with_len bit 0 count in
        subst (AreElements 64 1 ws) (sym e) (elements-joined ws (map from_bool xs) (first_bits count x) before
        (λ k below. get_or-map-range_with_len bit 0 count k k 0 (omega arith) (omega arith)
        ∙ ap (λ (y : ℕ). y / 2 ^ k % 2) is
        ∙ bit-at q k h (omega arith) ∙ ap (λ (i : ℕ). element 64 1 ws (i + k)) (sym so_far)))

    module _ (xs : List ℕ) where
      -- the 16-bit numbers `xs` in the bytes `bs` are the elements of a list of two-byte numbers in the words `ws`
      pub are-pairs : n ≡ 2 * length xs → IsRead little_number 2 bs xs → AreElements 4 16 ws xs
      are-pairs size read i h =
          let q = i / 4 in
          let p = 2 * (i % 4) in
          let a = byte-on (2 * i) 0 q p (omega arith) (omega arith) (omega arith) in
          let b = byte-on (2 * i) 1 q (p + 1) (omega arith) (omega arith) (omega arith) in
          read i h ∙ omega (arith, a, b) ∙ two-bytes (slice_index ws q) (i % 4) (omega arith)

      -- the 32-bit numbers `xs` in the bytes `bs` are the elements of a list of four-byte numbers in the words `ws`
      pub are-quads : n ≡ 4 * length xs → IsRead little_number 4 bs xs → AreElements 2 32 ws xs
      are-quads size read i h =
          let q = i / 2 in
          let p = 4 * (i % 2) in
          let a = byte-on (4 * i) 0 q p (omega arith) (omega arith) (omega arith) in
          let b = byte-on (4 * i) 1 q (p + 1) (omega arith) (omega arith) (omega arith) in
          let c = byte-on (4 * i) 2 q (p + 2) (omega arith) (omega arith) (omega arith) in
          let d = byte-on (4 * i) 3 q (p + 3) (omega arith) (omega arith) (omega arith) in
          read i h ∙ omega (arith, a, b, c, d) ∙ four-bytes (slice_index ws q) (i % 2) (omega arith)

      word-read : ((k : ℕ) → slice_index (segment_at m at.segment) k < 2 ^ 64) → n ≡ 8 * length xs
          → IsRead little_number 8 bs xs →
          (i : ℕ) → i < length xs → slice_index xs i ≡ slice_index ws i
      word-read each size read i h =
          let a = byte-on (8 * i) 0 i 0 (omega arith) (omega arith) (omega arith) in
          let b = byte-on (8 * i) 1 i 1 (omega arith) (omega arith) (omega arith) in
          let c = byte-on (8 * i) 2 i 2 (omega arith) (omega arith) (omega arith) in
          let d = byte-on (8 * i) 3 i 3 (omega arith) (omega arith) (omega arith) in
          let e = byte-on (8 * i) 4 i 4 (omega arith) (omega arith) (omega arith) in
          let f = byte-on (8 * i) 5 i 5 (omega arith) (omega arith) (omega arith) in
          let g = byte-on (8 * i) 6 i 6 (omega arith) (omega arith) (omega arith) in
          let o = byte-on (8 * i) 7 i 7 (omega arith) (omega arith) (omega arith) in
          let whole = get_or-drop at.word (segment_at m at.segment) i 0 in
          let below : slice_index ws i < 2 ^ 64 = omega (arith, whole, each (at.word + i)) in
          read i h ∙ omega (arith, a, b, c, d, e, f, g, o) ∙ eight-bytes (slice_index ws i) below

      -- the 64-bit numbers `xs` in the bytes `bs` are the first of the words `ws`
      pub are-words : ((k : ℕ) → slice_index (segment_at m at.segment) k < 2 ^ 64) → n ≡ 8 * length xs
          → IsRead little_number 8 bs xs → take (length xs) ws ≡ xs
      are-words each size read =
          let room = length-drop at.word (segment_at m at.segment) in
          let fits : length xs ≤ length ws = omega arith in
          let same = length-take-le (length xs) ws fits in
          sym (same_number_lists xs (take (length xs) ws) (sym same) (λ k h. word-read each size read k h
          ∙ sym (get_or-take (length xs) ws k 0 h)))
