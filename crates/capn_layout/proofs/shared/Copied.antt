-- Bytes of a message that are copied as words. (For `message_slots.rt`, `number_list_words.rt`, `struct_list_words.rt`
-- and capn_canon.)
use Rattle.capn_walk.proofs.shared.Elements.{length-bytes_at}
use Rattle.std.proofs.Common.{◌≡◌, ℕ, zero, suc, ◌+◌, ◌*◌, ◌/◌, ◌%◌, ◌^◌, ◌<◌, ◌≤◌, List, [], ◌∷◌, ◌++◌, length, take}
use Rattle.std.proofs.Common.{drop, slice_index, ap, ap₂, subst, ◌∙◌, arith, ◌-◌, length-append, length-drop}
use Rattle.std.proofs.lemmas.List.{get_or-drop, length-take-le}
use Rattle.capn_words.specs.Message.{IsMessage, segment_at, bytes_at, bytes, words_in}
use Rattle.capn_words.proofs.shared.Words.{bytes-drop, bytes-take, length-bytes, words_of_bytes}
use Rattle.capn_walk.specs.ValueAt.{words_from}
use Rattle.capn_target.specs.Target.{words_for}
use Rattle.capn_layout.specs.FirstBits.{first_bits, last_bits}
use Rattle.capn_layout.specs.inner.Draft.{Appends}
use Rattle.capn_layout.proofs.writer.Drafted.{appends-length}

pub below-take : (n : ℕ) (xs : List ℕ) → ((i : ℕ) → slice_index xs i < 2 ^ 64) → (i : ℕ)
    → slice_index (take n xs) i < 2 ^ 64
below-take zero xs h i = omega arith
below-take (suc n) [] h i = omega arith
below-take (suc n) (x ∷ xs) h zero = h 0
below-take (suc n) (x ∷ xs) h (suc i) = below-take n xs (λ j. h (suc j)) i

pub below-drop : (n : ℕ) (xs : List ℕ) → ((i : ℕ) → slice_index xs i < 2 ^ 64) → (i : ℕ)
    → slice_index (drop n xs) i < 2 ^ 64
below-drop n xs h i = let e = get_or-drop n xs i 0 in let k = h (n + i) in omega arith

-- The bytes of the `n` words from word `w` of segment `s` on, read as words, are these `n` words.
pub copied-words : (m : List (List ℕ)) (s w n : ℕ) → IsMessage m → w + n ≤ length (segment_at m s)
    → words_in (length (bytes_at m (record { segment = s; word = w }) (8 * n)) / 8)
    (bytes_at m (record { segment = s; word = w }) (8 * n)) ≡ take n (words_from m s w)
copied-words m s w n is h =
    let seg = segment_at m s in
    let ws = take n (drop w seg) in
    let e : bytes_at m (record { segment = s; word = w }) (8 * n) ≡ bytes ws =
    ap (take (8 * n)) (bytes-drop w seg) ∙ bytes-take n (drop w seg) in
    let l = ap length e ∙ length-bytes ws in
    let k : length (bytes_at m (record { segment = s; word = w }) (8 * n)) / 8 ≡ length ws = omega arith in
    ap₂ words_in k e ∙ words_of_bytes ws (below-take n (drop w seg) (below-drop w seg (is.each s)))

-- Each word of segment `s` from word `w` on is below 2^64.
pub part-below : (m : List (List ℕ)) (s w : ℕ) → IsMessage m → (i : ℕ) → slice_index (words_from m s w) i < 2 ^ 64
part-below m s w is = below-drop w (segment_at m s) (is.each s)

-- If `bs` are the bytes of `n` words of a segment, the length of `bs` is a multiple of 8.
pub whole-bytes : (m : List (List ℕ)) (s w n : ℕ) (bs : List ℕ) → w + n ≤ length (segment_at m s)
    → bs ≡ bytes_at m (record { segment = s; word = w }) (8 * n) → length bs % 8 ≡ 0
whole-bytes m s w n bs h e =
    let l = ap length e ∙ length-bytes_at m (record { segment = s; word = w }) (8 * n) (omega arith) in
    omega arith

-- If `bs` are the bytes of `n` words of a segment, the length of `bs` is `8 * n`.
pub length-copied : (m : List (List ℕ)) (s w n : ℕ) (bs : List ℕ) → w + n ≤ length (segment_at m s)
    → bs ≡ bytes_at m (record { segment = s; word = w }) (8 * n) → length bs ≡ 8 * n
length-copied m s w n bs h e = ap length e ∙ length-bytes_at m (record { segment = s; word = w }) (8 * n) (omega arith)

pub length-part : (m : List (List ℕ)) (s w n : ℕ) → w + n ≤ length (segment_at m s)
    → length (take n (words_from m s w)) ≡ n
length-part m s w n h =
    let d = length-drop w (segment_at m s) in length-take-le n (words_from m s w) (omega arith)

-- Let `bs` be the bytes of `n` words of `m`. If the words of `bs` are appended, these `n` words are appended.
module _ (m : List (List ℕ)) (s w n len end : ℕ) (p q bs : List ℕ) (is : IsMessage m)
    (h : w + n ≤ length (segment_at m s)) (e : bs ≡ bytes_at m (record { segment = s; word = w }) (8 * n))
    (a : Appends len end (words_in (length bs / 8) bs) p q) where
  pub copied : Appends len end (take n (words_from m s w)) p q
  copied = subst (λ (ws : List ℕ). Appends len end ws p q)
      (ap (λ (xs : List ℕ). words_in (length xs / 8) xs) e ∙ copied-words m s w n is h) a

  pub copied-end : end ≡ len + n
  copied-end =
      appends-length len end (take n (words_from m s w)) p q copied
      ∙ ap (λ (j : ℕ). len + j) (length-part m s w n h)

-- The `a` words from word `w` on and the `b` words from word `x` on are `a + b` words, if the segment has them.
pub length-parts : (m : List (List ℕ)) (s w x a b : ℕ) → w + a ≤ length (segment_at m s)
    → x + b ≤ length (segment_at m s)
    → length (take a (words_from m s w) ++ take b (words_from m s x)) ≡ a + b
length-parts m s w x a b h k =
    let l = length-append (take a (words_from m s w)) (take b (words_from m s x)) in
    let u = length-part m s w a h in
    let v = length-part m s x b k in
    omega arith

-- If `i < n`, row `i` of `n` rows of `k` words each ends at or before word `n * k`.
pub row-room : (n i k : ℕ) → i < n → i * k + k ≤ n * k
row-room n i k lt =
    let z : n ≡ suc i + (n - suc i) = omega arith in
    let e : n * k ≡ (suc i + (n - suc i)) * k = ap (λ (j : ℕ). j * k) z in
    let d : (suc i + (n - suc i)) * k ≡ i * k + k + (n - suc i) * k = omega arith in
    omega arith

length-last : (r : ℕ) (ws : List ℕ) → r < 64 → length (last_bits r ws) ≡ (r + 63) / 64
length-last zero ws h = omega arith
length-last (suc r) ws h = omega arith

-- The first `n` bits from word `w` on take `words_for n` words, if the segment has these words.
pub length-first-bits : (m : List (List ℕ)) (s w n : ℕ) → w + words_for n ≤ length (segment_at m s)
    → length (first_bits n (words_from m s w)) ≡ words_for n
length-first-bits m s w n h =
    let ws = words_from m s w in
    let l = length-append (take (n / 64) ws) (last_bits (n % 64) (drop (n / 64) ws)) in
    let u = length-part m s w (n / 64) (omega arith) in
    let v = length-last (n % 64) (drop (n / 64) ws) (omega arith) in
    omega arith
