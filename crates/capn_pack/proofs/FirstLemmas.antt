-- Lemmas for `first_dense` and `first_zeros` in `signs.rt`: the place of the lowest set bit of a number tells how many
-- words come before the first whose byte in the number is not zero.
use Rattle.std.proofs.Common.{◌≡◌, ℕ, zero, suc, ◌+◌, ◌-◌, ◌*◌, ◌/◌, ◌%◌, ◌^◌, ◌<◌, ◌≤◌, List, [], ◌∷◌, ◌++◌, length}
use Rattle.std.proofs.Common.{take, drop, replicate, refl, sym, ap, ◌∙◌, subst, arith, length-take, length-drop, bit_or}
use Rattle.std.proofs.Common.{bit_and, true, not, inl, inr, eqb, ltb, ◌&&◌, take-add, drop-drop}
use Rattle.std.specs.Prelude.{⊤, count_ones}
use Rattle.std.specs.Int.Count.{count_trailing_zeros, trailing_of_zero}
use Rattle.std.proofs.lemmas.Bool.{agree_below_at, eq-eqb, ltb-true, cases_eq, cases_lt, ne_eqb}
use Rattle.std.proofs.lemmas.Nat.{and_le_r, and_mod, or_mod, and_shr, or_shr}
use Rattle.std.proofs.lemmas.List.{take-take, drop-take, replicate-append-replicate}
use Rattle.capn_pack.specs.Packed.{tag_of}
use Rattle.capn_pack.specs.Chosen.{IsDense, AllDense}
use Rattle.capn_pack.proofs.RunLemmas.{ones_tag, not_dense, tag_zero}
use Rattle.capn_pack.proofs.TagLemmas.{tag_lt, tag_split}

-- ---- the lowest set bit of a number

trailing_even : (k n : ℕ) → n % 2 ≡ 0 → count_trailing_zeros (suc k) n ≡ suc (count_trailing_zeros k (n / 2))
unfolding count_trailing_zeros
trailing_even k n even = rw even refl

trailing_odd : (k n : ℕ) → n % 2 ≡ 1 → count_trailing_zeros (suc k) n ≡ 0
unfolding count_trailing_zeros
trailing_odd k n odd = rw odd refl

-- the `j` lowest bits of `n` are 0
abbrev AreEven : ℕ → ℕ → Type 0
AreEven zero n = ⊤
AreEven (suc j) n = (n % 2 ≡ 0) × AreEven j (n / 2)

abbrev halved : ℕ → ℕ → ℕ
halved zero n = n
halved (suc j) n = halved j (n / 2)

trailing_more : (j k n : ℕ) → AreEven j n → count_trailing_zeros (j + k) n ≡ j + count_trailing_zeros k (halved j n)
trailing_more zero k n h =
    let size : 0 + k ≡ k = omega arith in
    omega (arith, ap (λ m. count_trailing_zeros m n) size)
trailing_more (suc j) k n h =
    let size : suc j + k ≡ suc (j + k) = omega arith in
    omega (
      arith,
      ap (λ m. count_trailing_zeros m n) size,
      trailing_even (j + k) n h.0,
      trailing_more j k (n / 2) h.1,
    )

trailing_bits : (j k n : ℕ) → j ≤ count_trailing_zeros (j + k) n → AreEven j n
trailing_bits zero k n h = tt
trailing_bits (suc j) k n h =
    let size : suc j + k ≡ suc (j + k) = omega arith in
    let all = ap (λ m. count_trailing_zeros m n) size in
    elim (cases_eq (n % 2) 0) [
      | inl even ↦ (even, trailing_bits j k (n / 2) (omega (arith, h, all, trailing_even (j + k) n even)))
      | inr odd ↦ absurd (omega (arith, h, all, trailing_odd (j + k) n (omega arith)))
    ]

byte_even : (n : ℕ) → n % 256 ≡ 0 → AreEven 8 n
byte_even n h = (
  omega arith,
  (omega arith, (omega arith, (omega arith, (omega arith, (omega arith, (omega arith, (omega arith, tt))))))),
)

even_byte : (n : ℕ) → AreEven 8 n → n % 256 ≡ 0
even_byte n h =
    let four = h.1.1.1.1 in
    omega (arith, h.0, h.1.0, h.1.1.0, h.1.1.1.0, four.0, four.1.0, four.1.1.0, four.1.1.1.0)

-- the number of bytes of 0 at the low end of `n`, up to `m`
abbrev zero_bytes : ℕ → ℕ → ℕ
zero_bytes m n = count_trailing_zeros (8 * m) n / 8

bits_more : (m n : ℕ) → count_trailing_zeros (8 * suc m) n ≡ count_trailing_zeros (8 + 8 * m) n
bits_more m n =
    let size : 8 * suc m ≡ 8 + 8 * m = omega arith in
    ap (λ k. count_trailing_zeros k n) size

byte_more : (m n : ℕ) → n % 256 ≡ 0 → zero_bytes (suc m) n ≡ 1 + zero_bytes m (n / 256)
byte_more m n h =
    let eight : halved 8 n ≡ n / 256 = omega arith in
    let more = trailing_more 8 (8 * m) n (byte_even n h) in
    omega (arith, bits_more m n, more, ap (count_trailing_zeros (8 * m)) eight)

byte_none : (m n : ℕ) → (n % 256 ≡ 0 → ⊥) → zero_bytes (suc m) n ≡ 0
byte_none m n h =
    elim (cases_lt (count_trailing_zeros (8 + 8 * m) n) 8) [
      | inl few ↦ omega (arith, bits_more m n, few)
      | inr many ↦ absurd (h (even_byte n (trailing_bits 8 (8 * m) n many)))
    ]

-- ---- the words before the first whose byte is not zero

-- byte i of `n` is 0 if and only if `P` holds of word i, for the `m` words of `xs`
abbrev pub Tells : (List ℕ → Type 0) → ℕ → ℕ → List ℕ → Type 0
Tells P zero n xs = ⊤
Tells P (suc m) n xs = (n % 256 ≡ 0 → P (take 8 xs)) × ((n % 256 ≡ 0 → ⊥) → P (take 8 xs) → ⊥)
    × Tells P m (n / 256) (drop 8 xs)

-- `P` holds of the first `c` words of `xs`
abbrev pub Each : (List ℕ → Type 0) → ℕ → List ℕ → Type 0
Each P zero xs = ⊤
Each P (suc c) xs = P (take 8 xs) × Each P c (drop 8 xs)

-- `P` holds of the first `c` of `m` words of `xs`, and not of the next word
abbrev pub IsFirst : (List ℕ → Type 0) → ℕ → ℕ → List ℕ → Type 0
IsFirst P m c xs = (c ≤ m) × Each P c xs × (c < m → P (take 8 (drop (8 * c) xs)) → ⊥)

pub first_words : (P : List ℕ → Type 0) (m n c : ℕ) (xs : List ℕ) → Tells P m n xs → c ≡ zero_bytes m n
    → IsFirst P m c xs
unfolding count_trailing_zeros
first_words P zero n zero xs tells e = (omega arith, tt, λ less. absurd (omega arith))
first_words P zero n (suc c) xs tells e = absurd (omega arith)
first_words P (suc m) n zero xs tells e =
    elim (cases_eq (n % 256) 0) [
      | inl none ↦ absurd (omega (arith, e, byte_more m n none))
      | inr some ↦ (omega arith, tt, λ less. tells.1 some)
    ]
first_words P (suc m) n (suc c) xs tells e =
    elim (cases_eq (n % 256) 0) [
      | inl none ↦
          let rest = first_words P m (n / 256) c (drop 8 xs) tells.2 (omega (arith, e, byte_more m n none)) in
          let size : 8 + 8 * c ≡ 8 * suc c = omega arith in
          let there : drop (8 * c) (drop 8 xs) ≡ drop (8 * suc c) xs = drop-drop (8 * c) 8 xs
          ∙ ap (λ k. drop k xs) size in (
            omega (arith, rest.0),
            (tells.0 none, rest.1),
            λ less p. rest.2 (omega arith) (subst (λ l. P (take 8 l)) (sym there) p),
          )
      | inr some ↦ absurd (omega (arith, e, byte_none m n some))
    ]

-- ---- zero words

abbrev pub IsZeroWord : List ℕ → Type 0
IsZeroWord word = word ≡ replicate 8 0

no_tag : (k : ℕ) → tag_of (replicate k 0) ≡ 0
no_tag zero = refl
no_tag (suc k) = omega (arith, no_tag k)

-- the tag of a word, and the tags of the words after it
word_tag : (m : ℕ) (xs : List ℕ) → length xs ≡ 8 * suc m
    → (length (take 8 xs) ≡ 8) × (length (drop 8 xs) ≡ 8 * m) × (tag_of xs % 256 ≡ tag_of (take 8 xs))
    × (tag_of xs / 256 ≡ tag_of (drop 8 xs))
word_tag m xs long =
    let first : length (take 8 xs) ≡ 8 = simp length-take (omega arith) in
    let rest : length (drop 8 xs) ≡ 8 * m = length-drop 8 xs ∙ omega arith in
    let small = tag_lt (take 8 xs) first in
    let split = tag_split 8 xs (omega arith) in
    (first, rest, omega (arith, small, split), omega (arith, small, split))

pub tells_zeros : (m n : ℕ) (xs : List ℕ) → length xs ≡ 8 * m → n ≡ tag_of xs → Tells IsZeroWord m n xs
tells_zeros zero n xs long e = tt
tells_zeros (suc m) n xs long e =
    let w = word_tag m xs long in
    let low : n % 256 ≡ tag_of (take 8 xs) = ap (λ k. k % 256) e ∙ w.2 in
    let high : n / 256 ≡ tag_of (drop 8 xs) = ap (λ k. k / 256) e ∙ w.3 in (
      (λ none. tag_zero (take 8 xs) (sym low ∙ none) ∙ ap (λ k. replicate k 0) w.0),
      (λ some z. some (low ∙ ap tag_of z ∙ no_tag 8)),
      tells_zeros m (n / 256) (drop 8 xs) w.1 high,
    )

pub each_zeros : (c : ℕ) (xs : List ℕ) → Each IsZeroWord c xs → take (8 * c) xs ≡ replicate (8 * c) 0
each_zeros zero xs h = refl
each_zeros (suc c) xs h =
    let size : 8 * suc c ≡ 8 + 8 * c = omega arith in
    ap (λ k. take k xs) size ∙ take-add 8 (8 * c) xs ∙ (λ i. h.0 i ++ each_zeros c (drop 8 xs) h.1 i)
    ∙ replicate-append-replicate 8 (8 * c) 0
    ∙ ap (λ k. replicate k 0) (sym size)

-- ---- dense words

-- `t` with its lowest 0 set, in eight bits
abbrev fill : ℕ → ℕ
fill t = bit_or t (bit_and t 127 + 1)

always_fits : (t : ℕ) → t < 256 → fill t < 256
always_fits t less = ltb-true (fill t) 256 (agree_below_at (λ t. ltb (fill t) 256) (λ _. true) 256 t refl less)

full_ones : (t : ℕ) → t < 256 → fill t ≡ 255 → 6 < count_ones t
unfolding lib.Count.ones
full_ones t less e =
    let same = agree_below_at (λ t. eqb (fill t) 255) (λ t. eqb (fill t) 255 && ltb 6 (count_ones t)) 256 t refl less in
    let full : true ≡ (true && ltb 6 (count_ones t)) = rw (eq-eqb (fill t) 255 e) at same in
    ltb-true 6 (count_ones t) (sym full)

few_ones : (t : ℕ) → t < 256 → (fill t ≡ 255 → ⊥) → count_ones t < 7
unfolding lib.Count.ones
few_ones t less e =
    let same = agree_below_at (λ t. ltb (count_ones t) 7) (λ t. not (eqb (fill t) 255)) 256 t refl less in
    ltb-true (count_ones t) 7 (same ∙ ap not (ne_eqb (fill t) 255 e))

-- the numbers whose bytes are all 127, all 1 and all 255
abbrev sevens : ℕ → ℕ
sevens zero = 0
sevens (suc m) = 127 + 256 * sevens m

abbrev units : ℕ → ℕ
units zero = 0
units (suc m) = 1 + 256 * units m

abbrev tops : ℕ → ℕ
tops zero = 0
tops (suc m) = 255 + 256 * tops m

abbrev filled : ℕ → ℕ → ℕ
filled m t = bit_or t (bit_and t (sevens m) + units m)

filled_parts : (m t : ℕ) → (filled (suc m) t % 256 ≡ fill (t % 256)) × (filled (suc m) t / 256 ≡ filled m (t / 256))
filled_parts m t =
    let a = bit_and t (sevens (suc m)) in
    let mask : sevens (suc m) % 2 ^ 8 ≡ 127 = omega arith in
    let rest : sevens (suc m) / 2 ^ 8 ≡ sevens m = omega arith in
    let low : a % 256 ≡ bit_and (t % 256) 127 = and_mod t (sevens (suc m)) 8 ∙ ap (bit_and (t % 256)) mask in
    let high : a / 256 ≡ bit_and (t / 256) (sevens m) = and_shr t (sevens (suc m)) 8 ∙ ap (bit_and (t / 256)) rest in
    let few = and_le_r (t % 256) 127 in
    let b = a + units (suc m) in
    let first : b % 256 ≡ bit_and (t % 256) 127 + 1 = omega (arith, low, few) in
    let others : b / 256 ≡ bit_and (t / 256) (sevens m) + units m = omega (arith, low, high, few) in
    (or_mod t b 8 ∙ ap (bit_or (t % 256)) first, or_shr t b 8 ∙ ap (bit_or (t / 256)) others)

filled_most : (m t : ℕ) → t ≤ tops m → filled m t ≤ tops m
filled_most zero zero le = omega arith
filled_most zero (suc t) le = absurd (omega arith)
filled_most (suc m) t le =
    let parts = filled_parts m t in
    omega (arith, parts.0, parts.1, always_fits (t % 256) (omega arith), filled_most m (t / 256) (omega arith))

-- a number whose byte i is 0 if and only if byte i of `t` has at most one 0 among its bits
abbrev pub gaps : ℕ → ℕ → ℕ
gaps m t = tops m - filled m t

tag_most : (m : ℕ) (xs : List ℕ) → length xs ≡ 8 * m → tag_of xs ≤ tops m
tag_most zero [] long = omega arith
tag_most zero (x ∷ xs) long = absurd (omega arith)
tag_most (suc m) xs long =
    let w = word_tag m xs long in
    omega (arith, w.2, w.3, tag_lt (take 8 xs) w.0, tag_most m (drop 8 xs) w.1)

pub tells_dense : (m n : ℕ) (xs : List ℕ) → length xs ≡ 8 * m → n ≡ gaps m (tag_of xs) → Tells IsDense m n xs
tells_dense zero n xs long e = tt
tells_dense (suc m) n xs long e =
    let w = word_tag m xs long in
    let word = take 8 xs in
    let small = tag_lt word w.0 in
    let parts = filled_parts m (tag_of xs) in
    let same : fill (tag_of xs % 256) ≡ fill (tag_of word) = ap fill w.2 in
    let other : filled m (tag_of xs / 256) ≡ filled m (tag_of (drop 8 xs)) = ap (filled m) w.3 in
    let most = filled_most m (tag_of (drop 8 xs)) (tag_most m (drop 8 xs) w.1) in
    let fits = always_fits (tag_of word) small in
    let low : n % 256 ≡ 255 - fill (tag_of word) = omega (arith, e, parts.0, parts.1, same, other, most, fits) in
    let high : n / 256 ≡ gaps m (tag_of (drop 8 xs)) = omega (arith, e, parts.0, parts.1, same, other, most, fits) in (
      (λ none. (w.0, omega (arith, ones_tag word, full_ones (tag_of word) small (omega (arith, low, none, fits))))),
      (λ some. not_dense word (few_ones (tag_of word) small (λ f. some (omega (arith, low, f))))),
      tells_dense m (n / 256) (drop 8 xs) w.1 high,
    )

pub each_dense : (c : ℕ) (xs : List ℕ) → Each IsDense c xs → AllDense c (take (8 * c) xs)
each_dense zero xs h = refl
each_dense (suc c) xs h =
    let size : 8 * suc c ≡ 8 + 8 * c = omega arith in
    let first : take 8 (take (8 * suc c) xs) ≡ take 8 xs = take-take 8 (8 * suc c) xs (omega arith) in
    let rest : drop 8 (take (8 * suc c) xs) ≡ take (8 * c) (drop 8 xs) = ap (λ k. drop 8 (take k xs)) size
    ∙ drop-take 8 (8 * c) xs in
    (subst IsDense (sym first) h.0, subst (AllDense c) (sym rest) (each_dense c (drop 8 xs) h.1))

-- ---- eight words

-- eight words of which no byte of the number is set
pub all_eight : (n : ℕ) → n ≡ 0 → 8 ≡ count_trailing_zeros 64 n / 8
all_eight n e = sym (ap (λ k. count_trailing_zeros 64 k / 8) e ∙ ap (λ k. k / 8) (trailing_of_zero 64))

pub zeros_first : (xs : List ℕ) (n c : ℕ) → length xs ≡ 64 → n ≡ tag_of xs → c ≡ count_trailing_zeros 64 n / 8
    → IsFirst IsZeroWord 8 c xs
zeros_first xs n c long e k = first_words IsZeroWord 8 n c xs (tells_zeros 8 n xs long e) k

pub dense_first : (xs : List ℕ) (n c : ℕ) → length xs ≡ 64 → n ≡ gaps 8 (tag_of xs)
    → c ≡ count_trailing_zeros 64 n / 8
    → IsFirst IsDense 8 c xs
dense_first xs n c long e k = first_words IsDense 8 n c xs (tells_dense 8 n xs long e) k
