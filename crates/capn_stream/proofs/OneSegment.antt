-- Lemmas for `first_bare`: frames of one segment.
use Rattle.std.proofs.Common.{◌≡◌, ℕ, ◌+◌, ◌-◌, ◌*◌, ◌^◌, ◌≤◌, List, [], ◌∷◌, length, take, drop, sum, refl, ap, arith}
use Rattle.capn_words.specs.Message.{AreBytes, IsBare}
use Rattle.capn_stream.specs.Frames.{StandsFirst}
use Rattle.capn_stream.specs.FrameRefusal.{IsWhole, announced_words, entries, entry_number, head_length}
use Rattle.capn_stream.proofs.shared.FrameLaws.{announces, whole_of}
use Rattle.capn_stream.proofs.shared.WholeFrames.{read_stands}

-- if the count in `bs` is 0, the announced number of words is the first size after the count
one_size : (bs : List ℕ) → entry_number bs ≡ 0 → announced_words bs ≡ entry_number (drop 4 bs)
one_size bs one =
    let P : ℕ → ℕ = λ n. sum (entries (n + 1) (drop 4 bs)) in
    omega (arith, ap P one)

-- `bs` have the complete frame of one segment of `n` words, and `n` is at most `most`
pub record HasOne (bs : List ℕ) (most n : ℕ) : Type 0 where
  pub table : 8 ≤ length bs
  pub one : entry_number bs ≡ 0
  pub size : n ≡ entry_number (drop 4 bs)
  pub room : n ≤ most
  pub contents : 8 + 8 * n ≤ length bs

-- bytes that begin with a message of one segment have the complete frame of the message
pub has_one : (bs : List ℕ) (most : ℕ) (ws : List ℕ) (taken : ℕ) → StandsFirst bs most (ws ∷ []) taken
    → HasOne bs most (entry_number (drop 4 bs))
has_one bs most ws taken h =
    let count = (announces bs most (ws ∷ []) taken h).count in
    let one : entry_number bs ≡ 0 = omega (arith, count) in
    let whole = whole_of bs most (ws ∷ []) taken h in
    let size = one_size bs one in
    let head = ap (λ (n : ℕ). head_length (n + 1)) one in
    record {
      table = omega (arith, whole.0.1, head);
      one = one;
      size = refl;
      room = omega (arith, whole.1, size);
      contents = omega (arith, whole.2, size, head);
    }

-- bytes that have the complete frame of one segment begin with the message of that segment
pub one_stands : (bs : List ℕ) (most n : ℕ) (ws : List ℕ) → most ≤ 2 ^ 28 → AreBytes bs → HasOne bs most n
    → IsBare (take (8 + 8 * n - 8) (drop 8 bs)) ws → StandsFirst bs most (ws ∷ []) (8 + 8 * n)
one_stands bs most n ws small below h bare =
    let size = one_size bs h.one in
    let head = ap (λ (n : ℕ). head_length (n + 1)) h.one in
    let whole : IsWhole bs most = (
      ((omega (arith, h.table), omega (arith, h.one)), omega (arith, h.table, head)),
      omega (arith, h.room, h.size, size),
      omega (arith, h.contents, h.size, size, head),
    ) in
    read_stands bs most 1 n 8 [] ws small below whole (omega (arith, h.one)) (omega (arith, h.size, size)) refl refl
    bare
