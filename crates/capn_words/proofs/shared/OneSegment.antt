-- Lemmas for `bare.rt`, `laws.rt`, capn_canon, capn_commands and other crates: bytes are read as a message of one
-- segment in one way, or refused for one reason.
use Rattle.std.proofs.Common.{◌≡◌, ℕ, zero, suc, ◌*◌, ◌/◌, ◌%◌, ◌^◌, ◌<◌, ◌≤◌, List, [], ◌∷◌, length, drop, slice_index}
use Rattle.std.proofs.Common.{Err, refl, ap, sym, subst, ◌∙◌, arith}
use Rattle.capn_words.specs.Message.{most_words, word_number, words_in, bytes, AreBytes, AreWords, IsBare, ReadsBare}
use Rattle.capn_words.specs.Message.{IsMessage, segment_at}
use Rattle.capn_words.specs.declared.bare.BareFault.{BareFault}
use Rattle.capn_words.specs.declared.bare.BareFault.TheVariants.{NotWhole, TooLong}
use Rattle.capn_words.proofs.shared.Words.{length-words_in, word_in, words_below, bytes_of_words, length-bytes}
use Rattle.capn_words.proofs.shared.Words.{words_of_bytes}

pub bare_is : (bs : List ℕ) → AreBytes bs → length bs % 8 ≡ 0 → length bs / 8 ≤ most_words
    → IsBare bs (words_in (length bs / 8) bs)
bare_is bs h whole room = record {
  same = sym (bytes_of_words (length bs / 8) bs h (omega arith));
  each = words_below (length bs / 8) bs h;
  room = rw (length-words_in (length bs / 8) bs) room;
}

pub bare_length : (bs ws : List ℕ) → IsBare bs ws → length bs ≡ 8 * length ws
bare_length bs ws h = ap length h.same ∙ length-bytes ws

-- if `bs` are the bytes of the words `ws`, the words that are read from `bs` are `ws`
pub bare_only : (bs ws : List ℕ) → IsBare bs ws → words_in (length bs / 8) bs ≡ ws
bare_only bs ws h =
    let n : length bs / 8 ≡ length ws = omega (arith, bare_length bs ws h) in
    rw (n, h.same) (words_of_bytes ws h.each)

-- `bs` are the bytes of at most one list of words
pub one_bare : (bs vs ws : List ℕ) → IsBare bs vs → IsBare bs ws → vs ≡ ws
one_bare bs vs ws h k = sym (bare_only bs vs h) ∙ bare_only bs ws k

-- `bs` are refused for at most one reason
pub one_bare_fault : (bs : List ℕ) (e f : BareFault) → ReadsBare bs (Err e) → ReadsBare bs (Err f) → e ≡ f
one_bare_fault bs (NotWhole m) (NotWhole n) r s = ap (λ (k : ℕ). NotWhole k) (r.0 ∙ sym s.0)
one_bare_fault bs (NotWhole m) (TooLong n) r s = let l = s.0 in absurd (r.1 (omega arith))
one_bare_fault bs (TooLong m) (NotWhole n) r s = let l = r.0 in absurd (s.1 (omega arith))
one_bare_fault bs (TooLong m) (TooLong n) r s =
    let l = r.0 in
    let k = s.0 in
    let same : m ≡ n = omega arith in
    ap (λ (k : ℕ). TooLong k) same

-- if `bs` are the bytes of the words `ws` by `IsBare`, `bs` are not refused
pub bare_not_refused : (bs ws : List ℕ) (e : BareFault) → IsBare bs ws → ReadsBare bs (Err e) → ⊥
bare_not_refused bs ws (NotWhole n) h r = let l = bare_length bs ws h in r.1 (omega arith)
bare_not_refused bs ws (TooLong n) h r =
    let l = bare_length bs ws h in
    let m = h.room in
    let a = r.0 in
    let b = r.1 in
    absurd (omega arith)

only_segment : (ws : List ℕ) → AreWords ws → (s k : ℕ) → slice_index (segment_at (ws ∷ []) s) k < 2 ^ 64
only_segment ws each zero k = each k
only_segment ws each (suc s) k = omega arith

-- if `ws` are at most `most_words` words, the list of the one segment `ws` is a message
pub bare_message : (ws : List ℕ) → AreWords ws → length ws ≤ most_words → IsMessage (ws ∷ [])
bare_message ws each room = record {
  some = omega arith;
  few = omega arith;
  room = omega arith;
  each = only_segment ws each;
}

-- if segment `s` of a message whose only segment is `ws` has a word `k`, `s` is 0 and `ws` has a word `k`
pub only_place : (ws : List ℕ) (s k : ℕ) → k < length (segment_at (ws ∷ []) s) → (s ≡ 0) × (k < length ws)
only_place ws zero k h = (refl, h)
only_place ws (suc s) k h = absurd (omega arith)

-- in a message of one segment, each segment number in range is 0
pub one_segment : (ws : List ℕ) (s : ℕ) → s < length (ws ∷ []) → s ≡ 0
one_segment ws s h = omega arith

-- each lemma of this block is about `ws`, the words that are read from the bytes `bs`
module _ (bs ws : List ℕ) (is : words_in (length bs / 8) bs ≡ ws) where
  -- `ws` has as many words as `bs` has complete groups of 8 bytes
  pub seen_length : length ws ≡ length bs / 8
  seen_length = ap length (sym is) ∙ length-words_in (length bs / 8) bs

  -- each word `k` of `ws` is read from the 8 bytes of `bs` at `8 * k`
  pub seen_word : (k : ℕ) → k < length ws → slice_index ws k ≡ word_number (drop (8 * k) bs)
  seen_word k h = ap (λ (xs : List ℕ). slice_index xs k) (sym is)
      ∙ word_in (length bs / 8) k bs (omega (arith, seen_length))

  -- if `bs` has at most `most_words` complete groups of 8 bytes, the list of the one segment `ws` is a message
  pub seen_message : AreBytes bs → length bs / 8 ≤ most_words → IsMessage (ws ∷ [])
  seen_message h room =
      bare_message ws (subst AreWords is (words_below (length bs / 8) bs h)) (omega (arith, seen_length))

  -- if the length of `bs` is a multiple of 8, the bytes of `ws` are `bs`
  pub seen_bytes : AreBytes bs → length bs % 8 ≡ 0 → bytes ws ≡ bs
  seen_bytes h whole = ap bytes (sym is) ∙ bytes_of_words (length bs / 8) bs h (omega arith)
