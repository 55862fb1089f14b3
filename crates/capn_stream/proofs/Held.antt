-- Lemmas for `segments.rt`: the words, the bytes and the size of a message in segments that lie apart in memory.
use Rattle.std.proofs.Common.{◌≡◌, ℕ, zero, suc, ◌+◌, ◌-◌, ◌*◌, ◌^◌, ◌<◌, ◌≤◌, List, [], ◌∷◌, length, take, drop, map}
use Rattle.std.proofs.Common.{slice_index, slice_index_or, All, Bor, Some, None, min, refl, ap, sym, ◌∙◌, arith}
use Rattle.std.proofs.lemmas.Bool.{lt-ltb, le-ltb}
use Rattle.std.specs.List.{sum_by}
use Rattle.std.proofs.lemmas.List.{length-map, get_or-map, take_all}
use Rattle.std.proofs.lemmas.List.Sums.{sum_by-cons, sum_by_more, sum_by_more_le}
use Rattle.capn_words.specs.Message.{AreWords, IsMessage, bytes, segment_at, total}
use Rattle.capn_words.specs.Message.{word_number, words_of, most_words}
use Rattle.capn_words.proofs.shared.Words.{word_bytes-number, word_number-lt}
use Rattle.capn_stream.specs.Segments.{IsHeld, IsWord, joined, message_of}

-- the type of segments, as contracts see them
abbrev pub Held : Type 0
Held = List (Bor (List (List ℕ)))

-- the default value for a segment that does not exist
abbrev pub none : Bor (List (List ℕ))
none = record { ref_ptr = (0, 0); now = [] }

-- each word of the segments has 8 bytes
abbrev pub AreHeld : Held → Type 0
AreHeld segments = All (λ segment. All IsWord segment.now) segments

numbers : (words : List (List ℕ)) → All IsWord words → AreWords (map word_number words)
numbers [] h k = omega arith
numbers (w ∷ ws) h zero = word_number-lt w (h 0 [] (omega arith)).1
numbers (w ∷ ws) h (suc k) = numbers ws (λ i d l. h (suc i) d (omega (arith, l))) k

-- if words of 8 bytes are read as numbers, the bytes of these numbers are the joined words
pub bytes_of_numbers : (words : List (List ℕ)) → All IsWord words → bytes (map word_number words) ≡ joined words
bytes_of_numbers [] h = refl
bytes_of_numbers (w ∷ ws) h =
    let first = h 0 [] (omega arith) in
    let long : length w ≤ 8 = omega (arith, first.0) in
    let same = word_bytes-number w first.1 (omega (arith, first.0)) ∙ take_all 8 w long in
    let rest = bytes_of_numbers ws (λ i d l. h (suc i) d (omega (arith, l))) in
    rw (same, rest) refl

-- the number of words of the message is the sum of the lengths of `segments`
pub total_of : (segments : Held) → total (message_of segments) ≡ sum_by (λ segment. length segment.now) segments
total_of [] = refl
total_of (s ∷ segments) =
    sum_by-cons length (map word_number s.now) (message_of segments)
    ∙ ap (λ (n : ℕ). n + total (message_of segments)) (length-map s.now word_number)
    ∙ ap (λ (n : ℕ). length s.now + n) (total_of segments)
    ∙ sym (sum_by-cons (λ segment. length segment.now) s segments)

pub count_of : (segments : Held) → length (message_of segments) ≡ length segments
count_of segments = length-map segments (λ segment. map word_number segment.now)

-- segment `i` of the message has the words of item `i` of `segments`
pub segment_of : (segments : Held) (i : ℕ) (d : Bor (List (List ℕ))) → i < length segments
    → segment_at (message_of segments) i ≡ map word_number (slice_index_or segments i d).now
segment_of segments i d h = get_or-map (λ segment. map word_number segment.now) segments i d [] h

pub words_of-none : (message : List (List ℕ)) (s : ℕ) → length message ≤ s → words_of message s ≡ None
words_of-none message s h = rw (le-ltb s (length message) h) refl

pub words_of-some : (message : List (List ℕ)) (s : ℕ) → s < length message
    → words_of message s ≡ Some (length (segment_at message s))
words_of-some message s h = rw (lt-ltb s (length message) h) refl

place_segment : (message : List (List ℕ)) (s k : ℕ) → k < length (segment_at message s) → s < length message
place_segment [] s k h = absurd (omega arith)
place_segment (ws ∷ message) zero k h = omega arith
place_segment (ws ∷ message) (suc s) k h = let e = place_segment message s k h in omega (arith, e)

below : (segments : Held) → AreHeld segments → (s k : ℕ) → slice_index (segment_at (message_of segments) s) k < 2 ^ 64
below [] h s k = omega arith
below (x ∷ xs) h zero k = numbers x.now (h 0 x (omega arith)) k
below (x ∷ xs) h (suc s) k = below xs (λ i d l. h (suc i) d (omega (arith, l))) s k

-- if `segments` are within the limits, `IsMessage` holds of their message
pub held_message : (segments : Held) → IsHeld (message_of segments) most_words → AreHeld segments
    → IsMessage (message_of segments)
held_message segments h w = record { some = h.some; few = h.few; room = h.room; each = below segments w }

-- each lemma of this block is about segment `i` of `message`, in terms of the words of 8 bytes in `segments`
module _ (segments : Held) (message : List (List ℕ)) (is : message_of segments ≡ message) (i : ℕ)
    (d : Bor (List (List ℕ))) where
  abbrev words : List (List ℕ)
  words = (slice_index_or segments i d).now

  pub seen_segment : i < length segments → segment_at message i ≡ map word_number words
  seen_segment h = ap (λ (m : List (List ℕ)). segment_at m i) (sym is) ∙ segment_of segments i d h

  pub seen_here : (k : ℕ) → k < length (segment_at message i) → i < length segments
  seen_here k h =
      let e = place_segment message i k h in omega (arith, e, ap length is, count_of segments)

  pub seen_count : i < length message → i < length segments
  seen_count h = omega (arith, h, ap length is, count_of segments)

  pub seen_length : i < length segments → length (segment_at message i) ≡ length words
  seen_length h = ap length (seen_segment h) ∙ length-map words word_number

  pub seen_words : i < length segments → Some (length words) ≡ words_of message i
  seen_words h =
      let here : i < length message = omega (arith, h, ap length is, count_of segments) in
      ap Some (sym (seen_length h)) ∙ sym (words_of-some message i here)

  -- if `segments` are within the limits, segment `i` has fewer than 2^32 words
  pub seen_room : IsHeld (message_of segments) most_words → i < length segments → length words < 2 ^ 32
  seen_room h here =
      let there : i < length (message_of segments) = omega (arith, here, count_of segments) in
      let part = sum_by_more_le length (message_of segments) i [] there in
      let long = ap length (segment_of segments i d here) ∙ length-map words word_number in
      omega (arith, part, long, h.room)

  -- word `k` of segment `i` of `message` is the number of the 8 bytes of word `k` in `segments`
  pub seen_word : (k : ℕ) → k < length (segment_at message i)
      → word_number (slice_index_or words k []) ≡ slice_index (segment_at message i) k
  seen_word k h =
      let here = seen_here k h in
      let inside : k < length words = omega (arith, h, seen_length here) in
      sym (get_or-map word_number words k [] 0 inside)
      ∙ ap (λ (ws : List ℕ). slice_index ws k) (sym (seen_segment here))

  -- if `AreHeld` holds of `segments`, each range of the bytes of segment `i` of `message` is the same range of
  -- `joined words`
  pub seen_bytes : AreHeld segments → (start len : ℕ) → i < length message
      → take len (drop (8 * start) (joined words)) ≡ take len (drop (8 * start) (bytes (segment_at message i)))
  seen_bytes h start len there =
      let here = seen_count there in
      let same = ap bytes (seen_segment here) ∙ bytes_of_numbers words (h i d here) in
      ap (λ (bs : List ℕ). take len (drop (8 * start) bs)) (sym same)

min_again : (a b m : ℕ) → min (min a m + b) m ≡ min (a + b) m
min_again a b m = omega arith

-- The sum of the lengths is capped at 2^64 - 1. Adding the length of segment `i` to the capped sum of the segments
-- before `i` gives the capped sum of the first `i + 1` segments.
pub counted_more : (segments : Held) (i : ℕ) (d : Bor (List (List ℕ))) → i < length segments → (old one new : ℕ)
    → old ≡ min (sum_by (λ segment. length segment.now) (take i segments)) (2 ^ 64 - 1)
    → one ≡ length (slice_index_or segments i d).now → new ≡ min (old + one) (2 ^ 64 - 1)
    → new ≡ min (sum_by (λ segment. length segment.now) (take (i + 1) segments)) (2 ^ 64 - 1)
counted_more segments i d h old one new o n e =
    let more = sum_by_more (λ segment. length segment.now) segments i d h in
    let sofar : ℕ = sum_by (λ segment. length segment.now) (take i segments) in
    e ∙ ap (λ (x : ℕ). min (x + one) (2 ^ 64 - 1)) o ∙ ap (λ (x : ℕ). min (min sofar (2 ^ 64 - 1) + x) (2 ^ 64 - 1)) n
    ∙ min_again sofar (length (slice_index_or segments i d).now) (2 ^ 64 - 1)
    ∙ ap (λ (x : ℕ). min x (2 ^ 64 - 1)) (sym more)
