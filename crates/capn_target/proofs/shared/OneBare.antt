-- Lemmas for `only_segment`, capn_c, capn_canon and capn_mismatch: if a message has one segment, the words that are
-- read from the bytes of this segment are the segment.
use Rattle.std.proofs.Common.{◌≡◌, ℕ, ◌*◌, List, [], ◌∷◌, length, refl, ap, sym, ◌∙◌, arith, Option}
use Rattle.std.proofs.Common.{Some, None}
use Rattle.std.specs.Option.{unwrap_or}
use Rattle.std.proofs.lemmas.List.{take_all}
use Rattle.capn_words.specs.Message.{IsMessage, segment_at, bytes_at, words_of, bytes, IsBare}
use Rattle.capn_words.proofs.shared.Words.{bytes-injective, length-bytes}
use Rattle.capn_words.specs.declared.space.Place.{Place}
use Rattle.capn_target.proofs.shared.Segments.{length_of_none, length_of_some}

-- the place where the bytes of the first segment begin
abbrev pub start : Place
start = record { segment = 0; word = 0 }

-- a message `m` of one segment is the list of only segment 0
pub only-segment : (m : List (List ℕ)) → length m ≡ 1 → m ≡ segment_at m 0 ∷ []
only-segment [] e = absurd (omega arith)
only-segment (ws ∷ []) e = refl
only-segment (ws ∷ (vs ∷ m)) e = absurd (omega arith)

pub one-bare : (m : List (List ℕ)) (bs ws : List ℕ) → IsMessage m → length m ≡ 1
    → bs ≡ bytes_at m start (8 * length (segment_at m 0)) → IsBare bs ws → m ≡ ws ∷ []
one-bare m bs ws is e eb b =
    let seg = segment_at m 0 in
    let l = length-bytes seg in
    let all : bytes_at m start (8 * length seg) ≡ bytes seg = take_all (8 * length seg) (bytes seg) (omega arith) in
    only-segment m e
    ∙ ap (λ (xs : List ℕ). xs ∷ []) (bytes-injective seg ws (is.each 0) b.each (sym all ∙ sym eb ∙ b.same))

-- if `n` is the number that `words_of` gives for segment 0, or 0 for `None`, segment 0 has `n` words
pub first-words : (m : List (List ℕ)) (r : Option ℕ) (n : ℕ) → r ≡ words_of m 0 → n ≡ unwrap_or r 0
    → n ≡ length (segment_at m 0)
first-words m None n e f = f ∙ sym (length_of_none m 0 (sym e))
first-words m (Some k) n e f = f ∙ sym (length_of_some m 0 k (sym e))

-- if the message `k` has one segment, that segment is the words `ws` that are read from the segment's bytes
pub read-alone : (m k : List (List ℕ)) (r : Option ℕ) (n : ℕ) (bs ws : List ℕ) → k ≡ m → IsMessage m → length k ≡ 1
    → r ≡ words_of k 0 → n ≡ unwrap_or r 0 → bs ≡ bytes_at m start (8 * n) → IsBare bs ws → k ≡ ws ∷ []
read-alone m k r n bs ws same is e er en eb b =
    let z = ap (length {A = List ℕ}) same in
    let h = first-words m r n (er ∙ ap (λ (x : List (List ℕ)). words_of x 0) same) en in
    same ∙ one-bare m bs ws is (omega arith) (eb ∙ ap (λ (j : ℕ). bytes_at m start (8 * j)) h) b
