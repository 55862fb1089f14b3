-- Lemmas for `bytes_of`: the joined bytes of 8-byte words.
use Rattle.std.proofs.Common.{◌≡◌, ℕ, zero, suc, ◌*◌, ◌<◌, List, [], ◌∷◌, ◌++◌, length}
use Rattle.std.proofs.Common.{slice_index_or, All, refl, arith, length-append}
use Rattle.capn_words.specs.Message.{AreBytes}
use Rattle.capn_stream.specs.Segments.{IsWord, joined}

-- each of `words` has 8 bytes
abbrev pub HaveEight : List (List ℕ) → Type 0
HaveEight words = (i : ℕ) → i < length words → length (slice_index_or words i []) ≡ 8

pub length-joined : (words : List (List ℕ)) → HaveEight words → 8 * length words ≡ length (joined words)
length-joined [] h = refl
length-joined (w ∷ ws) h =
    let first = h 0 (omega arith) in
    let rest = length-joined ws (λ i l. h (suc i) (omega (arith, l))) in
    omega (arith, first, rest, length-append w (joined ws))

AreBytes-front : (xs ys : List ℕ) → AreBytes (xs ++ ys) → AreBytes xs
AreBytes-front [] ys h i = omega arith
AreBytes-front (x ∷ xs) ys h zero = h 0
AreBytes-front (x ∷ xs) ys h (suc i) = AreBytes-front xs ys (λ j. h (suc j)) i

AreBytes-back : (xs ys : List ℕ) → AreBytes (xs ++ ys) → AreBytes ys
AreBytes-back [] ys h = h
AreBytes-back (x ∷ xs) ys h = AreBytes-back xs ys (λ j. h (suc j))

-- if each of `words` has 8 numbers, and all numbers are bytes, `IsWord` holds of each of `words`
pub all_words : (words : List (List ℕ)) → HaveEight words → AreBytes (joined words) → All IsWord words
all_words [] h bs k d l = absurd (omega (arith, l))
all_words (w ∷ ws) h bs zero d l = (h 0 (omega arith), AreBytes-front w (joined ws) bs)
all_words (w ∷ ws) h bs (suc k) d l =
    all_words ws (λ i m. h (suc i) (omega (arith, m))) (AreBytes-back w (joined ws) bs) k d (omega (arith, l))
