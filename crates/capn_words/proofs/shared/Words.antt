-- Lemmas for `OneSegment`, capn_c, capn_canon and other crates: words and their bytes determine each other.
use Rattle.std.proofs.Common.{◌≡◌, ℕ, zero, suc, ◌+◌, ◌*◌, ◌/◌, ◌%◌, ◌^◌, ◌<◌, ◌≤◌, List, [], ◌∷◌, ◌++◌, length, take}
use Rattle.std.proofs.Common.{drop, slice_index, refl, ap, sym, ◌∙◌, arith, length-append, length-drop}
use Rattle.std.proofs.Math.Seq.{take-append-add}
use Rattle.std.proofs.Math.Nat.{div-div-eq-div-mul, pow-succ'}
use Rattle.std.specs.Int.{byte_at, bytes_low_first}
use Rattle.std.proofs.lemmas.List.{drop-drop, get_or-drop, drop_at, take-append-drop, nil_from_length}
use Rattle.byteorder.specs.Endian.{little_from}
use Rattle.byteorder.specs.Numbers.{little_from-cons, little_from-lt, little_number-reads_back}
use Rattle.capn_words.specs.Message.{word_bytes, word_number, words_in, bytes, AreBytes, AreWords}

byte_at-suc : (i x : ℕ) → byte_at (suc i) x ≡ byte_at i (x / 256)
byte_at-suc zero x = refl
byte_at-suc (suc i) x =
    ap (λ (y : ℕ). y % 256) (ap (λ (p : ℕ). x / p) (pow-succ' 256 (suc i))
    ∙ sym (div-div-eq-div-mul x 256 (256 ^ suc i)))

bytes_low_first-suc : (i k x : ℕ) → bytes_low_first (suc i) k x ≡ bytes_low_first i k (x / 256)
bytes_low_first-suc i zero x = refl
bytes_low_first-suc i (suc k) x = rw (byte_at-suc i x, bytes_low_first-suc (suc i) k x) refl

bytes_of_number : (n : ℕ) (bs : List ℕ) → AreBytes bs → n ≤ length bs
    → bytes_low_first 0 n (little_from 0 n bs) ≡ take n bs
bytes_of_number zero bs h l = refl
bytes_of_number (suc n) [] h l = absurd (omega arith)
bytes_of_number (suc n) (b ∷ bs) h l =
    let moved = little_from-cons 0 n b bs in
    let below = h 0 in
    let ih = bytes_of_number n bs (λ i. h (suc i)) (omega arith) in
    let low : (b + 256 * little_from 0 n bs) % 256 ≡ b = omega arith in
    let high : (b + 256 * little_from 0 n bs) / 256 ≡ little_from 0 n bs = omega arith in
    rw (moved, bytes_low_first-suc 0 n (b + 256 * little_from 0 n bs), low, high, ih) refl

-- ---- one word

pub AreBytes-drop : (n : ℕ) (bs : List ℕ) → AreBytes bs → AreBytes (drop n bs)
AreBytes-drop n bs h i = rw (get_or-drop n bs i 0) (h (n + i))

pub AreBytes-append : (cs bs : List ℕ) → AreBytes cs → AreBytes bs → AreBytes (cs ++ bs)
AreBytes-append [] bs h l i = l i
AreBytes-append (c ∷ cs) bs h l zero = h zero
AreBytes-append (c ∷ cs) bs h l (suc i) = AreBytes-append cs bs (λ j. h (suc j)) l i

-- the word that is read from the bytes `bs` is below 2^64
pub word_number-lt : (bs : List ℕ) → AreBytes bs → word_number bs < 2 ^ 64
unfolding word_number
word_number-lt bs h = little_from-lt 0 8 bs h

-- if `bs` has at least 8 bytes, the word that is read from `bs` has the first 8 bytes of `bs`
pub word_bytes-number : (bs : List ℕ) → AreBytes bs → 8 ≤ length bs → word_bytes (word_number bs) ≡ take 8 bs
unfolding word_number word_bytes
word_bytes-number bs h l = bytes_of_number 8 bs h l

-- if `w` is below 2^64, the word that is read from the bytes of `w`, followed by any `rest`, is `w`
pub number-word_bytes : (w : ℕ) (rest : List ℕ) → w < 2 ^ 64 → word_number (word_bytes w ++ rest) ≡ w
unfolding word_number word_bytes
number-word_bytes w rest h = little_number-reads_back 8 w rest h

-- a word has 8 bytes
pub length-word_bytes : (w : ℕ) → length (word_bytes w) ≡ 8
unfolding word_bytes
length-word_bytes w = refl

-- ---- the words in bytes

-- `words_in n bs` has `n` words
pub length-words_in : (n : ℕ) (bs : List ℕ) → length (words_in n bs) ≡ n
unfolding words_in
length-words_in zero bs = refl
length-words_in (suc n) bs = let e = length-words_in n (drop 8 bs) in omega (arith, e)

-- each word `k` of `words_in n bs` is read from the 8 bytes of `bs` at `8 * k`
pub word_in : (n k : ℕ) (bs : List ℕ) → k < n → slice_index (words_in n bs) k ≡ word_number (drop (8 * k) bs)
unfolding words_in
word_in zero k bs h = absurd (omega arith)
word_in (suc n) zero bs h = refl
word_in (suc n) (suc k) bs h =
    let e : 8 + 8 * k ≡ 8 * suc k = omega arith in
    word_in n k (drop 8 bs) (omega arith) ∙ ap word_number (drop-drop (8 * k) 8 bs ∙ ap (λ (j : ℕ). drop j bs) e)

-- each of the `n` words that are read from the bytes `bs` is below 2^64
pub words_below : (n : ℕ) (bs : List ℕ) → AreBytes bs → AreWords (words_in n bs)
unfolding words_in
words_below zero bs h k = omega arith
words_below (suc n) bs h zero = word_number-lt bs h
words_below (suc n) bs h (suc k) = words_below n (drop 8 bs) (AreBytes-drop 8 bs h) k

-- if `bs` has `8 * n` bytes, the `n` words that are read from `bs` have the bytes `bs`
pub bytes_of_words : (n : ℕ) (bs : List ℕ) → AreBytes bs → length bs ≡ 8 * n → bytes (words_in n bs) ≡ bs
unfolding words_in
bytes_of_words zero bs h l = sym (nil_from_length bs (omega arith))
bytes_of_words (suc n) bs h l =
    let first = word_bytes-number bs h (omega arith) in
    let ih = bytes_of_words n (drop 8 bs) (AreBytes-drop 8 bs h) (omega (arith, length-drop 8 bs)) in
    rw (first, ih) (take-append-drop 8 bs)

-- ---- the bytes of words

pub length-bytes : (ws : List ℕ) → length (bytes ws) ≡ 8 * length ws
length-bytes [] = refl
length-bytes (w ∷ ws) = omega (arith, length-bytes ws, length-append (word_bytes w) (bytes ws), length-word_bytes w)

-- the words that are read from the bytes of the words `ws` are `ws`
pub words_of_bytes : (ws : List ℕ) → AreWords ws → words_in (length ws) (bytes ws) ≡ ws
unfolding words_in
words_of_bytes [] h = refl
words_of_bytes (w ∷ ws) h =
    let first = number-word_bytes w (bytes ws) (h 0) in
    let rest = drop_at (word_bytes w) (bytes ws) 8 (length-word_bytes w) in
    let ih = words_of_bytes ws (λ k. h (suc k)) in
    rw (first, rest, ih) refl

-- two lists of words that have equal bytes are equal
pub bytes-injective : (vs ws : List ℕ) → AreWords vs → AreWords ws → bytes vs ≡ bytes ws → vs ≡ ws
bytes-injective vs ws hv hw e =
    let same : length vs ≡ length ws = omega (arith, length-bytes vs, length-bytes ws, ap length e) in
    sym (words_of_bytes vs hv) ∙ ap (λ (n : ℕ). words_in n (bytes vs)) same
    ∙ ap (λ (bs : List ℕ). words_in (length ws) bs) e ∙ words_of_bytes ws hw

-- the bytes of `ws` without the first `8 * n` bytes are the bytes of the words of `ws` after the first `n` words
pub bytes-drop : (n : ℕ) (ws : List ℕ) → drop (8 * n) (bytes ws) ≡ bytes (drop n ws)
bytes-drop zero ws = refl
bytes-drop (suc n) [] = let e : 8 * suc n ≡ suc (7 + 8 * n) = omega arith in rw e refl
bytes-drop (suc n) (w ∷ ws) =
    let e : 8 * suc n ≡ 8 + 8 * n = omega arith in
    rw e (sym (drop-drop (8 * n) 8 (word_bytes w ++ bytes ws))
    ∙ ap (λ (bs : List ℕ). drop (8 * n) bs) (drop_at (word_bytes w) (bytes ws) 8 (length-word_bytes w))
    ∙ bytes-drop n ws)

-- the first `8 * n` bytes of `ws` are the bytes of the first `n` words of `ws`
pub bytes-take : (n : ℕ) (ws : List ℕ) → take (8 * n) (bytes ws) ≡ bytes (take n ws)
bytes-take zero ws = refl
bytes-take (suc n) [] = let e : 8 * suc n ≡ suc (7 + 8 * n) = omega arith in rw e refl
bytes-take (suc n) (w ∷ ws) =
    let e : 8 * suc n ≡ length (word_bytes w) + 8 * n = omega (arith, length-word_bytes w) in
    rw e (take-append-add (word_bytes w) (bytes ws) (8 * n)
    ∙ ap (λ (bs : List ℕ). word_bytes w ++ bs) (bytes-take n ws))
