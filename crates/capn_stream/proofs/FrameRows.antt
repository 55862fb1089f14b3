-- Worked examples of frames as bytes: the definitions agree with the layout of the encoding page.
use Rattle.std.proofs.Common.{◌≡◌, ℕ, List, [], ◌∷◌, refl}
use Rattle.capn_words.specs.Message.{word_bytes}
use Rattle.capn_stream.specs.Frames.{entry, frame_text}
use Rattle.capn_stream.specs.FrameRefusal.{announced_segments, announced_words, entry_number, frame_length, head_length}

-- the message of a struct of one word with the value 5
struct_of_one_word : List (List ℕ)
struct_of_one_word = (4294967296 ∷ 5 ∷ []) ∷ []

-- the frame of one segment of two words, which has no padding
one_segment : List ℕ
one_segment =
    0 ∷ 0 ∷ 0 ∷ 0 ∷ 2 ∷ 0 ∷ 0 ∷ 0 ∷ 0 ∷ 0 ∷ 0 ∷ 0 ∷ 1 ∷ 0 ∷ 0 ∷ 0 ∷ 5 ∷ 0 ∷ 0 ∷ 0 ∷ 0 ∷ 0 ∷ 0 ∷ 0 ∷ []

one_segment_framed : frame_text struct_of_one_word ≡ one_segment
unfolding struct_of_one_word one_segment entry word_bytes
one_segment_framed = refl

one_segment_announced : (announced_segments one_segment ≡ 1) × (announced_words one_segment ≡ 2)
    × (frame_length one_segment ≡ 24)
unfolding one_segment entry_number
one_segment_announced = (refl, refl, refl)

-- the frame of a far pointer and its struct: two segments, of one word and of two, and 4 bytes of padding
two_segments : frame_text ((4294967298 ∷ []) ∷ (4294967296 ∷ 5 ∷ []) ∷ [])
    ≡ 1 ∷ 0 ∷ 0 ∷ 0 ∷ 1 ∷ 0 ∷ 0 ∷ 0 ∷ 2 ∷ 0 ∷ 0 ∷ 0 ∷ 0 ∷ 0 ∷ 0 ∷ 0 ∷ 2 ∷ 0 ∷ 0 ∷ 0 ∷ 1 ∷ 0 ∷ 0 ∷ 0
    ∷ 0 ∷ 0 ∷ 0 ∷ 0 ∷ 1 ∷ 0 ∷ 0 ∷ 0 ∷ 5 ∷ 0 ∷ 0 ∷ 0 ∷ 0 ∷ 0 ∷ 0 ∷ 0 ∷ []
unfolding entry word_bytes
two_segments = refl

-- the lengths in bytes of the tables of 1, 2, 3 and 4,096 segments, each with its padding, are multiples of 8
heads : (head_length 1 ≡ 8) × (head_length 2 ≡ 16) × (head_length 3 ≡ 16) × (head_length 4096 ≡ 16392)
heads = (refl, refl, refl, refl)
