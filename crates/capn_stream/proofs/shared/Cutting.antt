-- Lemmas for `frame_bytes.rt`, `frame_output.rt`, `framed.rt` and `stored.rt`: words that are cut into segments at
-- given ends.
use Rattle.std.proofs.Common.{◌≡◌, ℕ, zero, suc, ◌+◌, ◌-◌, ◌*◌, ◌^◌, ◌<◌, ◌≤◌, List, [], ◌∷◌, ◌++◌, length, take, drop}
use Rattle.std.proofs.Common.{slice_index, Some, None, refl, ap, sym, subst, inl, inr, ◌∙◌, arith, length-drop}
use Rattle.std.proofs.Common.{length-take}
use Rattle.std.proofs.lemmas.List.{get_or-drop, get_or-take, length-take-le, take_rest}
use Rattle.std.proofs.lemmas.List.Sums.{sum_by-cons}
use Rattle.capn_words.specs.Message.{bytes, segment_at, total, words_of, IsMessage, AreWords}
use Rattle.std.proofs.lemmas.Bool.{cases_lt, lt-ltb, le-ltb}
use Rattle.capn_stream.specs.Cuts.{AreEnds, AreRising, cut}
use Rattle.capn_stream.proofs.shared.Entries.{below-drop, below-take}
use Rattle.capn_stream.proofs.shared.SegmentBytes.{bytes_of_part}

-- ---- one segment of the message that words are cut into

pub length-cut : (from : ℕ) (ends ws : List ℕ) → length (cut from ends ws) ≡ length ends + 1
length-cut from [] ws = refl
length-cut from (end ∷ ends) ws = let e = length-cut end ends ws in omega (arith, e)

-- segment `s` of the words `ws`, cut at `ends`, has the words from its start to its end
pub segment-cut : (from : ℕ) (ends ws : List ℕ) (s : ℕ) → s ≤ length ends
    → segment_at (cut from ends ws) s
    ≡ take (slice_index (ends ++ length ws ∷ []) s - slice_index (from ∷ ends) s)
    (drop (slice_index (from ∷ ends) s) ws)
segment-cut from [] ws zero h = sym (take_rest ws from)
segment-cut from [] ws (suc s) h = absurd (omega arith)
segment-cut from (end ∷ ends) ws zero h = refl
segment-cut from (end ∷ ends) ws (suc s) h = segment-cut end ends ws s (omega arith)

rising-le : (from : ℕ) (ends : List ℕ) (len : ℕ) → AreRising from ends len → from ≤ len
rising-le from [] len r = r
rising-le from (end ∷ ends) len r = omega (arith, r.0, rising-le end ends len r.1)

-- if `ends` are rising, segment `s` does not end before it begins, and ends at `len` at the latest
pub rising : (from : ℕ) (ends : List ℕ) (len s : ℕ) → s ≤ length ends → AreRising from ends len
    → (slice_index (from ∷ ends) s ≤ slice_index (ends ++ len ∷ []) s) × (slice_index (ends ++ len ∷ []) s ≤ len)
rising from [] len zero h r = (r, omega arith)
rising from [] len (suc s) h r = absurd (omega arith)
rising from (end ∷ ends) len zero h r = (r.0, rising-le end ends len r.1)
rising from (end ∷ ends) len (suc s) h r = rising end ends len s (omega arith) r.1

-- ---- the message that words are cut into

each-cut : (from : ℕ) (ends ws : List ℕ) → AreWords ws → (s k : ℕ)
    → slice_index (segment_at (cut from ends ws) s) k < 2 ^ 64
each-cut from [] ws each zero k = below-drop (2 ^ 64) from ws each k
each-cut from [] ws each (suc s) k = omega arith
each-cut from (end ∷ ends) ws each zero k =
    below-take (2 ^ 64) (end - from) (drop from ws) (omega arith) (below-drop (2 ^ 64) from ws each) k
each-cut from (end ∷ ends) ws each (suc s) k = each-cut end ends ws each s k

-- if `ends` are rising, the segments have all words of `ws` from index `from` on
pub total-cut : (from : ℕ) (ends ws : List ℕ) → AreRising from ends (length ws)
    → total (cut from ends ws) + from ≡ length ws
total-cut from [] ws r = omega (arith, length-drop from ws)
total-cut from (end ∷ ends) ws r =
    let cons = sum_by-cons length (take (end - from) (drop from ws)) (cut end ends ws) in
    let size = length-take (end - from) (drop from ws) in
    omega (arith, cons, size, length-drop from ws, total-cut end ends ws r.1, rising-le end ends (length ws) r.1, r.0)

pub message-cut : (ends ws : List ℕ) → AreEnds ends ws → IsMessage (cut 0 ends ws)
message-cut ends ws h = record {
  some = omega (arith, length-cut 0 ends ws);
  few = omega (arith, length-cut 0 ends ws, h.few);
  room = omega (arith, total-cut 0 ends ws h.rising, h.room);
  each = each-cut 0 ends ws h.each;
}

-- ---- what the calls on the message read

-- if segment `s` of `message` has a word `k`, the segment exists
pub place_segment : (message : List (List ℕ)) (s k : ℕ) → k < length (segment_at message s) → s < length message
place_segment [] s k h = absurd (omega arith)
place_segment (ws ∷ message) zero k h = omega arith
place_segment (ws ∷ message) (suc s) k h = let e = place_segment message s k h in omega (arith, e)

pub words_of-none : (message : List (List ℕ)) (s : ℕ) → length message ≤ s → words_of message s ≡ None
words_of-none message s h = rw (le-ltb s (length message) h) refl

pub words_of-some : (message : List (List ℕ)) (s : ℕ) → s < length message
    → words_of message s ≡ Some (length (segment_at message s))
words_of-some message s h = rw (lt-ltb s (length message) h) refl

pub words_of_is : (message : List (List ℕ)) (s n : ℕ) → words_of message s ≡ Some n → n ≡ length (segment_at message s)
words_of_is message s n h =
    elim (cases_lt s (length message)) [
      | inl below ↦ (let e = words_of-some message s below in cc)
      | inr past ↦ (let e = words_of-none message s past in
          cc)
    ]

module _ (ends ws : List ℕ) (is : AreEnds ends ws) (s : ℕ) (here : s < length (cut 0 ends ws)) where
  within : s ≤ length ends
  within = omega (arith, length-cut 0 ends ws)

  size_of : length (segment_at (cut 0 ends ws) s) ≡ slice_index (ends ++ length ws ∷ []) s - slice_index (0 ∷ ends) s
  size_of =
      let r = rising 0 ends (length ws) s within is.rising in
      ap length (segment-cut 0 ends ws s within)
      ∙ length-take-le (slice_index (ends ++ length ws ∷ []) s - slice_index (0 ∷ ends) s)
      (drop (slice_index (0 ∷ ends) s) ws) (omega (arith, r.0, r.1, length-drop (slice_index (0 ∷ ends) s) ws))

  inside : slice_index (0 ∷ ends) s + length (segment_at (cut 0 ends ws) s) ≤ length ws
  inside = let r = rising 0 ends (length ws) s within is.rising in omega (arith, size_of, r.0, r.1)

  word_in : (k : ℕ) → k < length (segment_at (cut 0 ends ws) s)
      → slice_index ws (slice_index (0 ∷ ends) s + k) ≡ slice_index (segment_at (cut 0 ends ws) s) k
  word_in k h =
      let start : ℕ = slice_index (0 ∷ ends) s in
      let size : ℕ = slice_index (ends ++ length ws ∷ []) s - start in
      let small : k < size = omega (arith, size_of) in
      sym (ap (λ (xs : List ℕ). slice_index xs k) (segment-cut 0 ends ws s within)
      ∙ get_or-take size (drop start ws) k 0 small ∙ get_or-drop start ws k 0)

  bytes_in : (k len : ℕ) → 8 * k + len ≤ 8 * length (segment_at (cut 0 ends ws) s)
      → take len (drop (8 * (slice_index (0 ∷ ends) s + k)) (bytes ws))
      ≡ take len (drop (8 * k) (bytes (segment_at (cut 0 ends ws) s)))
  bytes_in k len h =
      let start : ℕ = slice_index (0 ∷ ends) s in
      let size : ℕ = slice_index (ends ++ length ws ∷ []) s - start in
      let room : 8 * k + len ≤ 8 * size = omega (arith, size_of) in
      sym (ap (λ (xs : List ℕ). take len (drop (8 * k) (bytes xs))) (segment-cut 0 ends ws s within)
      ∙ bytes_of_part start size k len ws room)

-- each lemma of this block is about `message`, which is the words `ws`, cut at `ends`
module _ (ends ws : List ℕ) (message : List (List ℕ)) (seen : cut 0 ends ws ≡ message) (is : AreEnds ends ws) where
  pub seen_message : IsMessage message
  seen_message = subst IsMessage seen (message-cut ends ws is)

  pub seen_count : length message ≡ length ends + 1
  seen_count = ap length (sym seen) ∙ length-cut 0 ends ws

  pub seen_order : (s : ℕ) → s < length message → slice_index (0 ∷ ends) s ≤ slice_index (ends ++ length ws ∷ []) s
  seen_order s h = (rising 0 ends (length ws) s (omega (arith, seen_count)) is.rising).0

  pub seen_size : (s : ℕ) → s < length message
      → length (segment_at message s) ≡ slice_index (ends ++ length ws ∷ []) s - slice_index (0 ∷ ends) s
  seen_size s h =
      let P : List (List ℕ) → Type 0 = λ m. s < length m
      → length (segment_at m s) ≡ slice_index (ends ++ length ws ∷ []) s - slice_index (0 ∷ ends) s in
      subst P seen (size_of ends ws is s) h

  pub seen_inside : (s : ℕ) → s < length message → slice_index (0 ∷ ends) s + length (segment_at message s) ≤ length ws
  seen_inside s h =
      let P : List (List ℕ) → Type 0 = λ m. s < length m
      → slice_index (0 ∷ ends) s + length (segment_at m s) ≤ length ws in
      subst P seen (inside ends ws is s) h

  pub seen_word : (s k : ℕ) → s < length message → k < length (segment_at message s)
      → slice_index ws (slice_index (0 ∷ ends) s + k) ≡ slice_index (segment_at message s) k
  seen_word s k h =
      let P : List (List ℕ) → Type 0 = λ m. s < length m → k < length (segment_at m s)
      → slice_index ws (slice_index (0 ∷ ends) s + k) ≡ slice_index (segment_at m s) k in
      subst P seen (λ here. word_in ends ws is s here k) h

  pub seen_bytes : (s k len : ℕ) → s < length message → 8 * k + len ≤ 8 * length (segment_at message s)
      → take len (drop (8 * (slice_index (0 ∷ ends) s + k)) (bytes ws))
      ≡ take len (drop (8 * k) (bytes (segment_at message s)))
  seen_bytes s k len h =
      let P : List (List ℕ) → Type 0 = λ m. s < length m → 8 * k + len ≤ 8 * length (segment_at m s)
      → take len (drop (8 * (slice_index (0 ∷ ends) s + k)) (bytes ws))
      ≡ take len (drop (8 * k) (bytes (segment_at m s))) in
      subst P seen (λ here. bytes_in ends ws is s here k len) h
