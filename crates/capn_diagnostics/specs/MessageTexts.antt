-- The lines that explain a message.
use Rattle.std.specs.Prelude.{◌≡◌, ℕ, ◌+◌, nat_lt, min, List, [], ◌∷◌, ◌++◌, take, length, Option, Some, None, codes}
use Rattle.std.specs.Prelude.{refl, if◌then◌else◌}
use Rattle.std.specs.Fmt.{decimal, digits}
use Rattle.hex.specs.Hex.{encode_lower, encode_with}
use Rattle.capn_words.specs.Message.{segment_at, total}
use Rattle.capn_words.specs.Pointers.{pointer_of}
use Rattle.capn_walk.specs.Display.{stopped_text}
use Rattle.capn_walk.specs.declared.walk_answer.Stopped.{Stopped}
use Rattle.capn_diagnostics.specs.Texts.{pointer_text, path_text, word_text}
use Rattle.capn_diagnostics.specs.SlotTexts.{line, slot_lines}
use Rattle.capn_diagnostics.specs.declared.segments_text.SegmentsText.{SegmentsText}
use Rattle.capn_diagnostics.specs.declared.message_text.MessageHead.{MessageHead}
use Rattle.capn_diagnostics.specs.declared.examined_text.SlotLines.{SlotLines}
use Rattle.capn_diagnostics.specs.declared.frame_text.FrameKey.{FrameKey}
use Rattle.capn_diagnostics.specs.declared.frame_text.FrameKey.TheVariants as keys
use Rattle.capn_diagnostics.specs.declared.canonical_text.CanonicalText.{CanonicalText}
use Rattle.capn_diagnostics.specs.declared.canonical_text.CanonicalText.TheVariants as forms
use Rattle.capn_diagnostics.specs.declared.count_text.CountText.{CountText}
use Rattle.capn_diagnostics.specs.declared.count_text.CountText.TheVariants as counts

-- ---- `message` and `segments`

-- The numbers, each after a comma and a space.
abbrev pub behind_commas : List ℕ → List ℕ
behind_commas [] = []
behind_commas (n ∷ ns) = codes ", " ++ (decimal n ++ behind_commas ns)

-- The numbers with commas between them.
abbrev pub listed : List ℕ → List ℕ
listed [] = codes ""
listed (n ∷ ns) = decimal n ++ behind_commas ns

-- The text of the sizes in `first`, of at most eight segments. The text is empty if `count`, the number of segments, is
-- less than 2.
abbrev pub sizes_text : ℕ → List ℕ → List ℕ
sizes_text count first =
    if nat_lt count 2 then codes ""
    else codes ": " ++ (listed (take (min count 8) first) ++ (if nat_lt 8 count then codes ", .." else codes ""))

-- The number of segments of `message`, the number of its words, and the sizes of its first eight segments. The size of
-- a segment that does not exist is 0.
abbrev pub segments_of : List (List ℕ) → SegmentsText
segments_of message = record {
  count = length message;
  words = total message;
  first = length (segment_at message 0) ∷ length (segment_at message 1) ∷ length (segment_at message 2)
      ∷ length (segment_at message 3) ∷ length (segment_at message 4) ∷ length (segment_at message 5)
      ∷ length (segment_at message 6) ∷ length (segment_at message 7) ∷ [];
}

-- The text of `s`: the number of segments, the number of words of all segments, and the sizes of the first segments.
abbrev pub segments_text : SegmentsText → List ℕ
segments_text s =
    decimal s.count ++ (codes " of " ++ (decimal s.words ++ (codes " words" ++ sizes_text s.count s.first)))

-- The line `segments:`, with the text of `segments`. `None` stands for sizes that are not known, and has no line.
abbrev pub segments_line : Option SegmentsText → List ℕ
segments_line (Some segments) = line (codes "segments: ") (segments_text segments)
segments_line None = codes ""

-- The lines of `head`: the number of a message, counted from 1, its offset, and its segments.
abbrev pub head_lines : MessageHead → List ℕ
head_lines head =
    codes "message: " ++ (decimal (head.index + 1) ++ (codes " at " ++ (decimal head.offset ++ (codes "\n"
    ++ segments_line head.segments))))

-- ---- a message that is refused in its walk

-- The lines of `slot`. `None` stands for a message without a root, and has no lines.
abbrev pub some_slot : Option SlotLines → List ℕ
some_slot (Some slot) = slot_lines slot.path.now slot.holder slot.examined
some_slot None = codes ""

-- All lines of a message that is refused in its walk: its head, the line `refused:`, and the lines of `slot`.
abbrev pub refused_lines : MessageHead → Stopped → Option SlotLines → List ℕ
refused_lines head stopped slot =
    head_lines head ++ (codes "refused: " ++ (stopped_text stopped ++ (codes "\n" ++ some_slot slot)))

-- ---- a message whose frame, packing or length is refused

-- The line of the sizes that explain why a frame, a packing or a length is refused. The line is empty for `Nothing`.
abbrev pub key_line : FrameKey → List ℕ
key_line keys.Nothing = codes ""
key_line (keys.There came) = codes "there: " ++ (decimal came ++ codes " bytes\n")
key_line (keys.AtLeast came least) =
    codes "there: " ++ (decimal came ++ (codes " bytes of at least " ++ (decimal least ++ codes "\n")))
key_line (keys.Announced announced most) =
    codes "announced: " ++ (decimal announced ++ (codes ", at most " ++ (decimal most ++ codes "\n")))
key_line (keys.Group byte tag needs came) =
    codes "group: byte " ++ (decimal byte ++ (codes " of the packed input, tag " ++ (encode_lower (tag ∷ [])
    ++ (codes ": needs " ++ (decimal needs ++ (codes " bytes, " ++ (decimal came ++ codes " came\n")))))))

-- All lines of a message whose frame, packing or length is refused with the text `fault`.
abbrev pub frame_lines : MessageHead → List ℕ → FrameKey → List ℕ
frame_lines head fault key =
    head_lines head ++ (codes "refused: " ++ (fault ++ (codes "\n" ++ key_line key)))

-- ---- a message that is accepted

-- The bytes of `word`, and then the text of the pointer that they encode.
abbrev pub word_says : ℕ → List ℕ
word_says word = word_text word ++ (codes " (" ++ (pointer_text (pointer_of word) ++ codes ")"))

-- The text `yes` for `Yes`. Otherwise the text `no`, and the reason why the message is not canonical.
abbrev pub canonical_text : CanonicalText → List ℕ
canonical_text forms.Yes = codes "yes"
canonical_text (forms.Segments count) = codes "no: " ++ (decimal count ++ codes " segments")
canonical_text (forms.Capability index path) =
    codes "no: capability " ++ (decimal index ++ (codes " at " ++ path_text path.now))
canonical_text (forms.Pointer byte word canonical path) =
    codes "no: at byte " ++ (decimal byte ++ (codes ": " ++ (word_says word ++ (codes ", canonical "
    ++ (word_says canonical ++ (codes ", the pointer at " ++ path_text path.now))))))
canonical_text (forms.Tag byte word canonical path) =
    codes "no: at byte " ++ (decimal byte ++ (codes ": " ++ (word_text word ++ (codes ", canonical "
    ++ (word_text canonical ++ (codes ", the tag of " ++ path_text path.now))))))
canonical_text (forms.LastWord byte word canonical path) =
    codes "no: at byte " ++ (decimal byte ++ (codes ": " ++ (word_text word ++ (codes ", canonical "
    ++ (word_text canonical ++ (codes ", the last word of " ++ path_text path.now))))))
canonical_text (forms.After byte word) =
    codes "no: at byte " ++ (decimal byte ++ (codes ": " ++ (word_text word
    ++ codes ", canonical nothing, after the value")))

-- The line `lengths:`, with the length of a message's contents and the length of its canonical bytes. The line is empty
-- for `None`.
abbrev pub lengths_line : Option (ℕ × ℕ) → List ℕ
lengths_line (Some lengths) =
    codes "lengths: " ++ (decimal lengths.0 ++ (codes " bytes, canonical " ++ (decimal lengths.1 ++ codes "\n")))
lengths_line None = codes ""

-- ---- no message

-- The text that says why no message is explained.
abbrev pub count_text : CountText → List ℕ
count_text (counts.NoneRefused count) = decimal count ++ codes " messages, none refused"
count_text (counts.Fewer count) = decimal count ++ codes " messages"

-- ---- one text of each kind

two_segments : segments_text (record { count = 2; words = 7; first = 3 ∷ 4 ∷ 0 ∷ 0 ∷ 0 ∷ 0 ∷ 0 ∷ 0 ∷ [] })
    ≡ codes "2 of 7 words: 3, 4"
unfolding digits
two_segments = refl

one_segment : segments_text (record { count = 1; words = 3; first = 3 ∷ 0 ∷ 0 ∷ 0 ∷ 0 ∷ 0 ∷ 0 ∷ 0 ∷ [] })
    ≡ codes "1 of 3 words"
unfolding digits
one_segment = refl

nine_segments : segments_text (record { count = 9; words = 12; first = 1 ∷ 1 ∷ 1 ∷ 1 ∷ 1 ∷ 1 ∷ 1 ∷ 1 ∷ [] })
    ≡ codes "9 of 12 words: 1, 1, 1, 1, 1, 1, 1, 1, .."
unfolding digits
nine_segments = refl

bytes_of_at_least : key_line (keys.AtLeast 20 32) ≡ codes "there: 20 bytes of at least 32\n"
unfolding digits
bytes_of_at_least = refl

a_group : key_line (keys.Group 5 63 7 2) ≡ codes "group: byte 5 of the packed input, tag 3f: needs 7 bytes, 2 came\n"
unfolding digits encode_with
a_group = refl

several_segments : canonical_text (forms.Segments 2) ≡ codes "no: 2 segments"
unfolding digits
several_segments = refl
