-- Lemmas for `put_head` and `write_message`: the bytes that have been written.
use Rattle.std.proofs.Common.{◌≡◌, ℕ, ◌+◌, ◌<◌, inl, inr, min, List, [], ◌++◌, length, take, drop}
use Rattle.std.proofs.Common.{Option, ap, sym, subst, ◌∙◌, arith}
use Rattle.std.specs.List.{flat_map}
use Rattle.std.proofs.lemmas.Grind.{flat_map-append}
use Rattle.capn_words.specs.Message.{bytes, segment_at}
use Rattle.capn_stream.specs.Frames.{segment_bytes, entry}
use Rattle.capn_words.specs.Watched.{HasBegun}
use Rattle.std.proofs.Math.Seq.{take-append-add, take-length}
use Rattle.std.proofs.lemmas.List.{flat_map_more, take-append-drop, take-append-le, take_all, take_more}
use Rattle.std.proofs.lemmas.Bool.{cases_lt}
use Rattle.std.specs.Io.KnownBytes.{Appends}
use Rattle.std.proofs.KnownBytes.{Appends-trans}

pub begun_all : (a b : Option (List ℕ)) (text : List ℕ) → Appends a b text → HasBegun a b text
begun_all a b text wrote = (length text, subst (Appends a b) (sym (take-length text)) wrote)

-- if `text` begins with `front` and a prefix of `front` was written, a prefix of `text` was written
pub begun_front : (a b : Option (List ℕ)) (front rest text : List ℕ) → text ≡ front ++ rest → HasBegun a b front
    → HasBegun a b text
begun_front a b front rest text is (count, wrote) =
    let n : ℕ = min count (length front) in
    let same : take n text ≡ take count front = ap (λ (xs : List ℕ). take n xs) is
    ∙ take-append-le n front rest (omega arith) ∙ take_min count front in
    (n, subst (Appends a b) (sym same) wrote)
  where
    take_min : (k : ℕ) (xs : List ℕ) → take (min k (length xs)) xs ≡ take k xs
    take_min k xs = elim (cases_lt k (length xs)) [
      | inl below ↦ (let e : min k (length xs) ≡ k = omega (arith, below) in ap (λ (n : ℕ). take n xs) e)
      | inr past ↦ (let e : min k (length xs) ≡ length xs = omega (arith, past) in ap (λ (n : ℕ). take n xs) e
          ∙ take-length xs ∙ sym (take_all k xs past))
    ]

-- if `front` was written and then a prefix of `more`, a prefix of `front ++ more` was written
pub begun_more : (a b c : Option (List ℕ)) (front more : List ℕ) → Appends a b front → HasBegun b c more
    → HasBegun a c (front ++ more)
begun_more a b c front more first (count, wrote) = (
  length front + count,
  subst (Appends a c) (sym (take-append-add front more count))
      (Appends-trans a b c front (take count more) first wrote),
)

-- the entries of the first `s + 1` sizes are the entries of the first `s` sizes and then one more entry
pub sizes_more : (message : List (List ℕ)) (s size : ℕ) → s < length message → size ≡ length (segment_at message s)
    → flat_map (λ ws. entry (length ws)) (take (s + 1) message) ≡ flat_map (λ ws. entry (length ws)) (take s message)
    ++ entry size
sizes_more message s size here is =
    ap (λ (m : List (List ℕ)). flat_map (λ ws. entry (length ws)) m) (take_more message s [] here)
    ∙ sym (flat_map_more (λ ws. entry (length ws)) [] (take s message) (segment_at message s))
    ∙ ap (λ (n : ℕ). flat_map (λ ws. entry (length ws)) (take s message) ++ entry n) (sym is)

-- the bytes of the first `s + 1` segments are the bytes of the first `s` segments and then the bytes of segment `s`
pub contents_more : (message : List (List ℕ)) (s : ℕ) → s < length message
    → segment_bytes (take (s + 1) message) ≡ segment_bytes (take s message) ++ bytes (segment_at message s)
contents_more message s here = ap segment_bytes (take_more message s [] here)
    ∙ sym (flat_map_more bytes [] (take s message) (segment_at message s))

pub contents_split : (message : List (List ℕ)) (s : ℕ)
    → segment_bytes message ≡ segment_bytes (take s message) ++ segment_bytes (drop s message)
contents_split message s = ap segment_bytes (sym (take-append-drop s message))
    ∙ flat_map-append bytes (take s message) (drop s message)
