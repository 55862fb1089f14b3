-- Lemmas for `push_bytes`: the digits of a list of bytes, written a word at a time.
use Rattle.std.proofs.Common.{◌≡◌, ℕ, zero, suc, ◌+◌, ◌*◌, ◌/◌, ◌%◌, ◌^◌, ◌<◌, ◌≤◌, List, [], ◌∷◌, length}
use Rattle.std.proofs.Common.{take, drop, get_or, refl, ap, ap₂, sym, ◌∙◌, arith}
use Rattle.std.specs.Prelude.{slice_index}
use Rattle.std.specs.Int.{to_le_bytes, bytes_low_first, byte_at, w64}
use Rattle.std.proofs.lemmas.List.{take_all, get_or-take, get_or-drop, length-take-le, length-drop}
use Rattle.std.proofs.lemmas.Grind.{same_number_lists}
use Rattle.hex.specs.Hex.{encode_with, encode_lower, lower_digits}
use Rattle.capn_walk.specs.ValueAt.{element}

-- The first `2 * n` digits of the bytes `bs` are the digits of the first `n` bytes.
pub halves : (n : ℕ) (bs : List ℕ) → take (2 * n) (encode_lower bs) ≡ encode_lower (take n bs)
unfolding encode_with
halves zero bs = refl
halves (suc n) [] =
    let two : 2 * suc n ≡ suc (suc (2 * n)) = omega arith in ap (λ (k : ℕ). take k (encode_lower [])) two
halves (suc n) (b ∷ bs) =
    let two : 2 * suc n ≡ suc (suc (2 * n)) = omega arith in
    ap (λ (k : ℕ). take k (encode_lower (b ∷ bs))) two
    ∙ ap (λ (l : List ℕ). slice_index lower_digits (b / 16) ∷ slice_index lower_digits (b % 16) ∷ l) (halves n bs)

byte-is : (w k : ℕ) → w / 256 ^ k % 256 ≡ byte_at k w
byte-is w zero = let same : w / 1 ≡ w = omega arith in ap (λ (x : ℕ). x % 256) same
byte-is w (suc k) = refl

element-is : (ws : List ℕ) (j k : ℕ) → k < 8 → element 8 8 ws (8 * j + k) ≡ byte_at k (slice_index ws j)
element-is ws j k h =
    let q : (8 * j + k) / 8 ≡ j = omega arith in
    let r : (8 * j + k) % 8 ≡ k = omega arith in
    ap₂ (λ (a b : ℕ). slice_index ws a / 256 ^ b % 256) q r ∙ byte-is (slice_index ws j) k

low-first : (i n w j : ℕ) → j < n → get_or (bytes_low_first i n w) j 0 ≡ byte_at (i + j) w
low-first i zero w j h = absurd (omega arith)
low-first i (suc n) w zero h = let e : i ≡ i + 0 = omega arith in ap (λ (k : ℕ). byte_at k w) e
low-first i (suc n) w (suc j) h =
    let e : suc i + j ≡ i + suc j = omega arith in
    low-first (suc i) n w j (omega arith) ∙ ap (λ (k : ℕ). byte_at k w) e

eight : (w : ℕ) → length (to_le_bytes w64 w) ≡ 8
eight w = refl

module _ (ws xs : List ℕ) (i : ℕ) (are : (k : ℕ) → k < length xs → element 8 8 ws k ≡ slice_index xs k) where
  -- The first `left` bytes of `w`, which is word `i`, are `left` elements of `xs`, from element `8 * i` on.
  same-bytes : (left w : ℕ) → w ≡ slice_index ws i → left ≤ 8 → 8 * i + left ≤ length xs
      → take left (to_le_bytes w64 w) ≡ take left (drop (8 * i) xs)
  same-bytes left w e few room =
      let all = eight w in
      let some = length-drop (8 * i) xs in
      let low : length (take left (to_le_bytes w64 w)) ≡ left = length-take-le left (to_le_bytes w64 w) (omega arith) in
      let lot : length (take left (drop (8 * i) xs)) ≡ left = length-take-le left (drop (8 * i) xs) (omega arith) in
      same_number_lists (take left (to_le_bytes w64 w)) (take left (drop (8 * i) xs)) (low ∙ sym lot)
      (λ k h. let below : k < left = omega arith in
      let zeroth : 0 + k ≡ k = omega arith in
      get_or-take left (to_le_bytes w64 w) k 0 below ∙ low-first 0 8 w k (omega arith)
      ∙ ap (λ (b : ℕ). byte_at b w) zeroth ∙ ap (byte_at k) e
      ∙ sym (element-is ws i k (omega arith)) ∙ are (8 * i + k) (omega arith) ∙ sym (get_or-drop (8 * i) xs k 0)
      ∙ sym (get_or-take left (drop (8 * i) xs) k 0 below))

  pub whole-word : (w : ℕ) (digits : List ℕ) → digits ≡ encode_lower (to_le_bytes w64 w) → w ≡ slice_index ws i
      → 8 * i + 8 ≤ length xs → digits ≡ encode_lower (take 8 (drop (8 * i) xs))
  whole-word w digits d e room =
      let all = eight w in
      d ∙ ap encode_lower (sym (take_all 8 (to_le_bytes w64 w) (omega arith)) ∙ same-bytes 8 w e (omega arith) room)

  pub first-bytes : (left w : ℕ) (digits : List ℕ) → digits ≡ encode_lower (to_le_bytes w64 w) → w ≡ slice_index ws i
      → left ≤ 8 → 8 * i + left ≤ length xs
      → take (2 * left) digits ≡ encode_lower (take left (drop (8 * i) xs))
  first-bytes left w digits d e few room =
      ap (take (2 * left)) d ∙ halves left (to_le_bytes w64 w) ∙ ap encode_lower (same-bytes left w e few room)
