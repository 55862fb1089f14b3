-- The lines of a message whose frame, packing or length is refused. (Our own.)
use Rattle.std.specs.Prelude.{◌≡◌, ℕ, ◌-◌, ◌*◌, ◌^◌, min, List, [], ◌∷◌, Option, None, codes, refl}
use Rattle.std.specs.Fmt.{digits}
use Rattle.capn_words.specs.Message.{most_segments}
use Rattle.capn_words.specs.declared.bare.BareFault.{BareFault}
use Rattle.capn_words.specs.declared.bare.BareFault.TheVariants as bares
use Rattle.capn_pack.specs.declared.fault.UnpackFault.{UnpackFault}
use Rattle.capn_pack.specs.declared.fault.UnpackFault.TheVariants as packings
use Rattle.capn_stream.specs.FrameRefusal.{entry_number}
use Rattle.capn_stream.specs.declared.fault.FrameFault.{FrameFault}
use Rattle.capn_stream.specs.declared.fault.FrameFault.TheVariants as frames
use Rattle.capn_value.specs.declared.tariff.Tariff.TheVariants as tariffs
use Rattle.capn_walk.specs.Limits.{Bounds}
use Rattle.capn_canon.specs.Display.{refusal_text}
use Rattle.capn_canon.specs.declared.refusal.Refusal.{Refusal}
use Rattle.capn_canon.specs.declared.refusal.Refusal.TheVariants as refusals
use Rattle.capn_serve.specs.declared.position.Position.{Position}
use Rattle.capn_diagnostics.specs.MessageTexts.{frame_lines}
use Rattle.capn_diagnostics.specs.declared.frame_text.FrameKey.{FrameKey}
use Rattle.capn_diagnostics.specs.declared.frame_text.FrameKey.TheVariants as keys
use Rattle.capn_diagnostics.specs.declared.message_text.MessageHead.{MessageHead}
use Rattle.capn_diagnostics.specs.declared.segments_text.SegmentsText.{SegmentsText}
use Rattle.capn_explain.specs.WhatCame.{group, segments, there}

-- The figures of a refused frame. For too many segments or words, the figures are their number and the limit. For `Cut`
-- they are `there rest`, and any other fault has none.
abbrev pub frame_key : FrameFault → ℕ → List ℕ → FrameKey
frame_key (frames.TooManySegments count) most_words rest = keys.Announced count most_segments
frame_key (frames.TooManyWords count) most_words rest = keys.Announced count most_words
frame_key frames.Cut most_words rest = there rest
frame_key frames.Memory most_words rest = keys.Nothing
frame_key frames.Empty most_words rest = keys.Nothing
frame_key frames.Failed most_words rest = keys.Nothing

-- The figures of the group at offset `at`, which is cut off after the bytes `came`. Any other fault has no figures.
abbrev pub packed_key : UnpackFault → List ℕ → FrameKey
packed_key (packings.Cut at) came = group at came
packed_key packings.Memory came = keys.Nothing
packed_key (packings.TooLong at) came = keys.Nothing
packed_key packings.Failed came = keys.Nothing

-- The number of bytes of a bare input that is refused, at most 2^64 - 1.
abbrev pub bare_key : BareFault → FrameKey
bare_key (bares.NotWhole bytes) = keys.There bytes
bare_key (bares.TooLong words) = keys.There (min (8 * words) (2 ^ 64 - 1))

-- The figures that follow the name of a refusal. `rest` is the bytes of the message that were read and kept, and
-- `came` is the bytes of a group that were read and kept.
abbrev pub key_of : Refusal → ℕ → List ℕ → List ℕ → FrameKey
key_of (refusals.Frame fault) most_words rest came = frame_key fault most_words rest
key_of (refusals.Packed fault) most_words rest came = packed_key fault came
key_of (refusals.Bare fault) most_words rest came = bare_key fault
key_of _ most_words rest came = keys.Nothing

-- The segments that `segments rest` gives for a message whose frame is refused, or `None` if the fault is
-- `TooManySegments`.
abbrev pub frame_segments : FrameFault → List ℕ → Option SegmentsText
frame_segments (frames.TooManySegments count) rest = None
frame_segments _ rest = segments rest

-- The segments of a message that is refused for its frame (`frame_segments`) or its packing (`segments rest`). For any
-- other refusal the result is `None`.
abbrev pub segments_at : Refusal → List ℕ → Option SegmentsText
segments_at (refusals.Frame fault) rest = frame_segments fault rest
segments_at (refusals.Packed fault) rest = segments rest
segments_at _ rest = None

-- The position `at` of a refused message, and its segments, if `segments_at` gives them.
abbrev pub head_at : Position → Refusal → List ℕ → MessageHead
head_at at refusal rest = record { index = at.index; offset = at.offset; segments = segments_at refusal rest }

-- All lines of the message at `at`, which is refused with `refusal`. `rest` is the bytes of the message that were read
-- and kept, and `came` is the bytes of a group that were read and kept.
abbrev pub fault_lines : Bounds → Position → Refusal → List ℕ → List ℕ → List ℕ
fault_lines limits at refusal rest came =
    frame_lines (head_at at refusal rest) (refusal_text refusal) (key_of refusal limits.message_words rest came)

-- Examples of refused frames, groups and bare inputs.

-- Example: a frame of two segments, of 3 and 4 words, with a limit of 6 words.
too_many_words : fault_lines (record { message_words = 6; budget = 0; depth = 1; tariff = tariffs.Strict })
    (record { index = 2; offset = 40 }) (refusals.Frame (frames.TooManyWords 7))
    (1 ∷ 0 ∷ 0 ∷ 0 ∷ 3 ∷ 0 ∷ 0 ∷ 0 ∷ 4 ∷ 0 ∷ 0 ∷ 0 ∷ 0 ∷ 0 ∷ 0 ∷ 0 ∷ []) []
    ≡ codes "message: 3 at 40\nsegments: 2 of 7 words: 3, 4\nrefused: frame: TooManyWords(7)\nannounced: 7, at most 6\n"
unfolding digits entry_number
too_many_words = refl

cut : fault_lines (record { message_words = 100; budget = 0; depth = 1; tariff = tariffs.Strict })
    (record { index = 1; offset = 24 }) (refusals.Frame frames.Cut)
    (1 ∷ 0 ∷ 0 ∷ 0 ∷ 3 ∷ 0 ∷ 0 ∷ 0 ∷ 4 ∷ []) []
    ≡ codes "message: 2 at 24\nrefused: frame: Cut\nthere: 9 bytes of at least 72\n"
unfolding digits entry_number
cut = refl

cut_in_a_group : key_of (refusals.Packed (packings.Cut 4)) 100 [] (255 ∷ 1 ∷ 2 ∷ []) ≡ keys.Group 4 255 10 3
cut_in_a_group = refl

not_whole : fault_lines (record { message_words = 100; budget = 0; depth = 1; tariff = tariffs.Strict })
    (record { index = 0; offset = 0 }) (refusals.Bare (bares.NotWhole 9)) [] []
    ≡ codes "message: 1 at 0\nrefused: bare: NotWhole(9)\nthere: 9 bytes\n"
unfolding digits
not_whole = refl

too_long : bare_key (bares.TooLong 268435458) ≡ keys.There 2147483664
too_long = refl
