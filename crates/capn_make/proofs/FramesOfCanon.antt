-- Lemmas for the law `framing`: `framed` of canonical bytes is the frame of one message.
use Rattle.std.proofs.Common.{◌≡◌, ℕ, zero, suc, ◌/◌, ◌^◌, ◌<◌, List, [], ◌∷◌, ◌++◌, length, replicate}
use Rattle.std.proofs.Common.{slice_index, refl, sym, ap, ap₂, ◌∙◌, arith}
use Rattle.std.proofs.lemmas.List.{append-nil}
use Rattle.std.specs.Int.{to_le_bytes, w32}
use Rattle.capn_words.specs.Message.{segment_at, IsBare, AreBytes, bytes as joined}
use Rattle.capn_words.proofs.shared.Words.{length-bytes}
use Rattle.capn_stream.specs.Frames.{Frames, entry, table, segment_bytes}
use Rattle.capn_canon.specs.Layout.{canon}
use Rattle.capn_canon.specs.Laws.{CanonIsForm}
use Rattle.capn_make.specs.Laws.{FramedAreFrames}
use Rattle.capn_make.specs.WrittenValue.{framed}
use Rattle.capn_make.proofs.CanonBytes.{canon_bare}

module _ (bytes ws : List ℕ) (bare : IsBare bytes ws) where
  sizes : (s : ℕ) → length (segment_at (ws ∷ []) s) < 2 ^ 32
  sizes zero = let room = bare.room in omega arith
  sizes (suc s) = omega arith

  each : (s k : ℕ) → slice_index (segment_at (ws ∷ []) s) k < 2 ^ 64
  each zero k = bare.each k
  each (suc s) k = omega arith

  text : framed bytes ≡ table (ws ∷ []) ++ ([] ++ segment_bytes (ws ∷ []))
  unfolding entry
  text =
      let e = ap length bare.same in
      let k = length-bytes ws in
      let n : length bytes / 8 ≡ length ws = omega arith in
      ap₂ (λ m b. replicate 4 0 ++ (to_le_bytes w32 m ++ b)) n (bare.same ∙ sym (append-nil (joined ws)))

  none_bytes : AreBytes []
  none_bytes i = omega arith

  frames : Frames (framed bytes) (ws ∷ [])
  frames = record {
    fits = record { some = omega arith; few = omega arith; sizes = sizes; each = each };
    gap = [];
    gap_bytes = none_bytes;
    gap_length = refl;
    text = text;
  }

pub framed_are_frames : CanonIsForm → FramedAreFrames
framed_are_frames law v fits range =
    let bare = canon_bare law v fits range in
    (bare.0, bare.1, frames (canon v) bare.0 bare.1)
