-- Lemmas for `first`, `first_bare`, `framing`, capn_c, capn_canon and other crates: frames and the numbers that their
-- tables announce.
use Rattle.std.proofs.Common.{◌≡◌, ℕ, zero, suc, ◌+◌, ◌-◌, ◌*◌, ◌^◌, ◌<◌, ◌≤◌, List, [], ◌∷◌, ◌++◌, length, take, drop}
use Rattle.std.proofs.Common.{sum, map, slice_index, refl, ap, sym, subst, ◌∙◌, arith, append_assoc, length-append}
use Rattle.std.specs.List.{flat_map}
use Rattle.std.proofs.lemmas.Grind.{flat_map-append}
use Rattle.std.proofs.lemmas.List.{drop_at, length-map, length-take-le, take-append-drop, take_all, take_at}
use Rattle.std.proofs.lemmas.List.Sums.{sum-map, sum_by-cons}
use Rattle.capn_words.specs.Message.{bytes, segment_at, total, IsMessage, word_bytes, AreWords}
use Rattle.capn_words.proofs.shared.Words.{bytes-injective, length-bytes}
use Rattle.capn_stream.specs.Cuts.{cut, ends_from}
use Rattle.capn_stream.specs.Frames.{FitsTable, Frames, StandsFirst, segment_bytes, entry, padding}
use Rattle.capn_stream.specs.FrameRefusal.{IsFrameRefused, IsWhole, announced_segments, announced_words, entries}
use Rattle.capn_stream.specs.FrameRefusal.{entry_number, frame_length, head_length}
use Rattle.capn_stream.specs.declared.fault.FrameFault.{FrameFault}
use Rattle.capn_stream.specs.declared.fault.FrameFault.TheVariants.{Memory, Empty, TooManySegments, TooManyWords, Cut}
use Rattle.capn_stream.specs.declared.fault.FrameFault.TheVariants.{Failed}
use Rattle.capn_stream.proofs.shared.Ends.{cut-joined, joined}
use Rattle.capn_stream.proofs.shared.Entries.{entries-entry, entries_more, entry_number-entry, length-entry}
use Rattle.capn_stream.proofs.shared.Entries.{length-entry_all}

-- ---- the parts of a frame

-- the sizes in the table are the entries of the segments' lengths
pub table_sizes : (message : List (List ℕ))
    → flat_map (λ ws. entry (length ws)) message ≡ flat_map entry (map length message)
table_sizes [] = refl
table_sizes (ws ∷ message) = ap (λ (bs : List ℕ). entry (length ws) ++ bs) (table_sizes message)

sizes_below : (message : List (List ℕ)) → ((s : ℕ) → length (segment_at message s) < 2 ^ 32) → (k : ℕ)
    → slice_index (map length message) k < 2 ^ 32
sizes_below [] h k = omega arith
sizes_below (ws ∷ message) h zero = h 0
sizes_below (ws ∷ message) h (suc k) = sizes_below message (λ s. h (suc s)) k

length-contents : (message : List (List ℕ)) → length (segment_bytes message) ≡ 8 * total message
length-contents [] = refl
length-contents (ws ∷ message) =
    omega (
      arith,
      length-contents message,
      length-append (bytes ws) (segment_bytes message),
      length-bytes ws,
      sum_by-cons length ws message,
    )

bytes-joined : (message : List (List ℕ)) → bytes (joined message) ≡ segment_bytes message
bytes-joined [] = refl
bytes-joined (ws ∷ message) = flat_map-append word_bytes ws (joined message)
    ∙ ap (λ (bs : List ℕ). bytes ws ++ bs) (bytes-joined message)

below-append : (xs ys : List ℕ) → AreWords xs → AreWords ys → AreWords (xs ++ ys)
below-append [] ys f g k = g k
below-append (x ∷ xs) ys f g zero = f 0
below-append (x ∷ xs) ys f g (suc k) = below-append xs ys (λ i. f (suc i)) g k

AreWords-joined : (message : List (List ℕ)) → ((s k : ℕ) → slice_index (segment_at message s) k < 2 ^ 64)
    → AreWords (joined message)
AreWords-joined [] h k = omega arith
AreWords-joined (ws ∷ message) h k = below-append ws (joined message) (h 0) (AreWords-joined message (λ s. h (suc s))) k

size_le : (message : List (List ℕ)) (s : ℕ) → length (segment_at message s) ≤ total message
size_le [] s = omega arith
size_le (ws ∷ message) zero = omega (arith, sum_by-cons length ws message)
size_le (ws ∷ message) (suc s) = omega (arith, size_le message s, sum_by-cons length ws message)

-- if `message` satisfies `IsMessage`, a table can announce it
pub FitsTable-message : (message : List (List ℕ)) → IsMessage message → FitsTable message
FitsTable-message message h = record {
  some = h.some;
  few = h.few;
  sizes = λ s. omega (arith, size_le message s, h.room);
  each = h.each;
}

-- ---- the numbers that the table of a frame announces

-- `bs` announce the segments, sizes and words of `message`, and the contents of `message` follow the table
pub record Announces (bs : List ℕ) (message : List (List ℕ)) (taken : ℕ) : Type 0 where
  pub count : announced_segments bs ≡ length message
  pub sizes : entries (announced_segments bs) (drop 4 bs) ≡ map length message
  pub words : announced_words bs ≡ total message
  pub length_is : taken ≡ frame_length bs
  pub contents_are : take (8 * announced_words bs) (drop (head_length (announced_segments bs)) bs)
      ≡ segment_bytes message

announces_parts : (message : List (List ℕ)) (gap rest bs : List ℕ) → FitsTable message
    → length gap ≡ padding (length message)
    → bs ≡ entry (length message - 1)
    ++ (flat_map entry (map length message) ++ (gap ++ (segment_bytes message ++ rest)))
    → Announces bs message (4 + 4 * length message + length gap + 8 * total message)
announces_parts message gap rest bs fits room e =
    let all : List ℕ = flat_map entry (map length message) in
    let number : entry_number bs ≡ length message - 1 =
    ap entry_number e
    ∙ entry_number-entry (length message - 1) (all ++ (gap ++ (segment_bytes message ++ rest)))
    (omega (arith, fits.few)) in
    let count : announced_segments bs ≡ length message = omega (arith, number, fits.some) in
    let behind : drop 4 bs ≡ all ++ (gap ++ (segment_bytes message ++ rest)) =
    ap (λ (xs : List ℕ). drop 4 xs) e
    ∙ drop_at (entry (length message - 1)) (all ++ (gap ++ (segment_bytes message ++ rest))) 4
    (length-entry (length message - 1)) in
    let many : length (map length message) ≡ length message = length-map message length in
    let sizes : entries (announced_segments bs) (drop 4 bs) ≡ map length message =
    ap (λ (n : ℕ). entries n (drop 4 bs)) (count ∙ sym many)
    ∙ ap (λ (xs : List ℕ). entries (length (map length message)) xs) behind
    ∙ entries-entry (map length message) (gap ++ (segment_bytes message ++ rest)) (sizes_below message fits.sizes) in
    let words : announced_words bs ≡ total message = ap sum sizes ∙ sum-map length message in
    let pad : padding (announced_segments bs) ≡ length gap = ap padding count ∙ sym room in
    let front : List ℕ = entry (length message - 1) ++ (all ++ gap) in
    let split : bs ≡ front ++ (segment_bytes message ++ rest) = e ∙ simp append_assoc in
    let head : length front ≡ head_length (announced_segments bs) =
    omega (
      arith,
      length-append (entry (length message - 1)) (all ++ gap),
      length-append all gap,
      length-entry (length message - 1),
      length-entry_all (map length message),
      many,
      count,
      pad,
    ) in
    let after : drop (head_length (announced_segments bs)) bs ≡ segment_bytes message ++ rest =
    ap (λ (xs : List ℕ). drop (head_length (announced_segments bs)) xs) split
    ∙ drop_at front (segment_bytes message ++ rest) (head_length (announced_segments bs)) head in
    let size : length (segment_bytes message)
    ≡ 8 * announced_words bs = omega (arith, length-contents message, words) in
    record {
      count = count;
      sizes = sizes;
      words = words;
      length_is = omega (arith, count, pad, words);
      contents_are = ap (λ (xs : List ℕ). take (8 * announced_words bs) xs) after
          ∙ take_at (segment_bytes message) rest (8 * announced_words bs) size;
    }

-- bytes that begin with a frame of `message` announce `message`
pub announces : (bs : List ℕ) (most : ℕ) (message : List (List ℕ)) (taken : ℕ) → StandsFirst bs most message taken
    → Announces bs message taken
announces bs most message taken h =
    let f = h.frame in
    let rest : List ℕ = drop taken bs in
    let split : bs ≡ entry (length message - 1)
    ++ (flat_map entry (map length message) ++ (f.gap ++ (segment_bytes message ++ rest))) =
    sym (take-append-drop taken bs)
    ∙ ap (λ (xs : List ℕ). xs ++ rest) (f.text
    ∙ ap (λ (xs : List ℕ). (entry (length message - 1) ++ xs) ++ (f.gap ++ segment_bytes message))
    (table_sizes message))
    ∙ simp append_assoc in
    let size : taken ≡ 4 + 4 * length message + length f.gap + 8 * total message =
    sym (length-take-le taken bs h.inside)
    ∙ ap length (f.text
    ∙ ap (λ (xs : List ℕ). (entry (length message - 1) ++ xs) ++ (f.gap ++ segment_bytes message))
    (table_sizes message))
    ∙ omega (
      arith,
      length-append (entry (length message - 1) ++ flat_map entry (map length message))
          (f.gap ++ segment_bytes message),
      length-append (entry (length message - 1)) (flat_map entry (map length message)),
      length-append f.gap (segment_bytes message),
      length-entry (length message - 1),
      length-entry_all (map length message),
      length-map message length,
      length-contents message,
    ) in
    let P : ℕ → Type 0 = λ n. Announces bs message n in
    subst P (sym size) (announces_parts message f.gap rest bs f.fits f.gap_length split)

-- bytes that begin with a frame have the complete frame that they announce
pub whole_of : (bs : List ℕ) (most : ℕ) (message : List (List ℕ)) (taken : ℕ) → StandsFirst bs most message taken
    → IsWhole bs most
whole_of bs most message taken h =
    let a = announces bs most message taken h in (
      (
        (omega (arith, a.length_is, h.inside), omega (arith, a.count, h.frame.fits.few)),
        omega (arith, a.length_is, h.inside),
      ),
      omega (arith, a.words, h.room),
      omega (arith, a.length_is, h.inside),
    )

-- bytes that have a complete frame of at most `most` words are refused only for `Memory`
pub refused_whole : (bs : List ℕ) (most : ℕ) (e : FrameFault) → IsWhole bs most → IsFrameRefused bs most e → e ≡ Memory
refused_whole bs most Memory w r = refl
refused_whole bs most Empty w r = absurd (omega arith)
refused_whole bs most (TooManySegments n) w r = absurd (omega arith)
refused_whole bs most (TooManyWords n) w r = absurd (omega arith)
refused_whole bs most Cut w r = absurd (grind (arith, r, w))
refused_whole bs most Failed w r = absurd r

-- ---- one refusal

-- for a given `most`, the bytes `bs` are refused for at most one reason other than `Memory`
pub one_refusal : (bs : List ℕ) (most : ℕ) (e f : FrameFault) → IsFrameRefused bs most e → IsFrameRefused bs most f
    → (e ≡ Memory → ⊥) → (f ≡ Memory → ⊥) → e ≡ f
one_refusal bs most Memory f r s other also = absurd (other refl)
one_refusal bs most Failed f r s other also = absurd r
one_refusal bs most Empty Memory r s other also = absurd (also refl)
one_refusal bs most Empty Failed r s other also = absurd s
one_refusal bs most Empty Empty r s other also = refl
one_refusal bs most Empty (TooManySegments m) r s other also = absurd (omega arith)
one_refusal bs most Empty (TooManyWords m) r s other also = absurd (omega arith)
one_refusal bs most Empty Cut r s other also = absurd (grind (arith, r, s))
one_refusal bs most (TooManySegments n) Memory r s other also = absurd (also refl)
one_refusal bs most (TooManySegments n) Failed r s other also = absurd s
one_refusal bs most (TooManySegments n) Empty r s other also = absurd (omega arith)
one_refusal bs most (TooManySegments n) (TooManySegments m) r s other also = ap TooManySegments (r.1 ∙ sym s.1)
one_refusal bs most (TooManySegments n) (TooManyWords m) r s other also = absurd (omega arith)
one_refusal bs most (TooManySegments n) Cut r s other also = absurd (grind (arith, r, s))
one_refusal bs most (TooManyWords n) Memory r s other also = absurd (also refl)
one_refusal bs most (TooManyWords n) Failed r s other also = absurd s
one_refusal bs most (TooManyWords n) Empty r s other also = absurd (omega arith)
one_refusal bs most (TooManyWords n) (TooManySegments m) r s other also = absurd (omega arith)
one_refusal bs most (TooManyWords n) (TooManyWords m) r s other also = ap TooManyWords (r.1 ∙ sym s.1)
one_refusal bs most (TooManyWords n) Cut r s other also = absurd (grind (arith, r, s))
one_refusal bs most Cut Memory r s other also = absurd (also refl)
one_refusal bs most Cut Failed r s other also = absurd s
one_refusal bs most Cut Empty r s other also = absurd (grind (arith, r, s))
one_refusal bs most Cut (TooManySegments m) r s other also = absurd (grind (arith, r, s))
one_refusal bs most Cut (TooManyWords m) r s other also = absurd (grind (arith, r, s))
one_refusal bs most Cut Cut r s other also = refl

-- ---- one frame

-- two frames at the front of the bytes `bs` have the same message and the same length
pub one_frame : (bs : List ℕ) (most limit : ℕ) (m n : List (List ℕ)) (taken length : ℕ) → StandsFirst bs most m taken
    → StandsFirst bs limit n length → (m ≡ n) × (taken ≡ length)
one_frame bs most limit m n taken length f g =
    let a = announces bs most m taken f in
    let b = announces bs limit n length g in
    let sizes : List ℕ = entries (entry_number bs) (drop 4 bs) in
    let last : ℕ = entry_number (drop (4 * entry_number bs) (drop 4 bs)) in
    let all = entries_more (entry_number bs) (drop 4 bs) in
    let same = bytes-joined m ∙ sym a.contents_are ∙ b.contents_are ∙ sym (bytes-joined n) in
    let words = bytes-injective (joined m) (joined n) (AreWords-joined m f.frame.fits.each)
    (AreWords-joined n g.frame.fits.each) same in (
      sym (cut-joined m sizes last 0 [] (sym a.sizes ∙ all) refl)
          ∙ ap (λ (ws : List ℕ). cut 0 (ends_from 0 sizes) ws) words
          ∙ cut-joined n sizes last 0 [] (sym b.sizes ∙ all) refl,
      a.length_is ∙ sym b.length_is,
    )

-- ---- the frames that are written

-- if `bs` are a frame of at most `most` words, they begin with that frame
pub stands_alone : (bs : List ℕ) (most : ℕ) (message : List (List ℕ)) → Frames bs message → total message ≤ most
    → StandsFirst bs most message (length bs)
stands_alone bs most message h room = record {
  inside = omega arith;
  frame = (let P : List ℕ → Type 0 = λ xs. Frames xs message in
      subst P (sym (take_all (length bs) bs (omega arith))) h);
  room = room;
}

-- if the first frame in `bs` is all of `bs`, then `bs` are a frame of its message
pub frames_all : (bs : List ℕ) (most : ℕ) (message : List (List ℕ)) → StandsFirst bs most message (length bs)
    → Frames bs message
frames_all bs most message h = let P : List ℕ → Type 0 = λ xs. Frames xs message in
    subst P (take_all (length bs) bs (omega arith)) h.frame
