-- The lines that say whether an accepted message is canonical, and how long the message and the canonical bytes are.
-- (Our own.)
use Rattle.std.specs.Prelude.{◌≡◌, ◌≢◌, ◌⊎◌, ℕ, ◌+◌, ◌*◌, List, ◌++◌, length, Option, Some, None, codes, refl}
use Rattle.std.specs.Fmt.{decimal, digits}
use Rattle.capn_words.specs.Message.{total}
use Rattle.capn_value.specs.Tree.{Tree}
use Rattle.capn_value.specs.FirstCap.{first_cap}
use Rattle.capn_walk.specs.Limits.{Bounds}
use Rattle.capn_walk.specs.Accepted.{IsValueOf}
use Rattle.capn_diagnostics.specs.Texts.{path_text, word_text}
use Rattle.capn_diagnostics.specs.MessageTexts.{word_says, lengths_line}
use Rattle.capn_layout.specs.Layout.{canon}
use Rattle.capn_canon.specs.Measure.{IsCanonicalOf}
use Rattle.capn_mismatch.specs.declared.answer.Mismatch.{Mismatch}
use Rattle.capn_mismatch.specs.declared.answer.Mismatch.TheVariants.{Canonical, Segments, Capability, Word, After}
use Rattle.capn_mismatch.specs.declared.whose.Whose.TheVariants.{Pointer, Tag, LastWord}
use Rattle.capn_mismatch.specs.declared.canonical_lines.CanonicalLines.{CanonicalLines}
use Rattle.capn_mismatch.specs.Mismatches.{IsMismatch}

-- The byte of a stream at which `word` of a message's first segment begins. The message begins at byte `offset`, and
-- its segment table has `table` words.
abbrev pub byte_of : ℕ → ℕ → ℕ → ℕ
byte_of offset table word = offset + 8 * (table + word)

-- The text that names `byte`, the `word` at that byte, and the `canonical` word.
abbrev pub differs_text : ℕ → List ℕ → List ℕ → List ℕ
differs_text byte word canonical =
    codes "no: at byte " ++ (decimal byte ++ (codes ": " ++ (word ++ (codes ", canonical " ++ canonical))))

module _ {A : Type 0} where
  -- The text `yes` if the mismatch is `Canonical`, else `no` with the reason.
  abbrev pub mismatch_text : ℕ → ℕ → Mismatch A → List ℕ
  mismatch_text offset table Canonical = codes "yes"
  mismatch_text offset table (Segments count) = codes "no: " ++ (decimal count ++ codes " segments")
  mismatch_text offset table (Capability index path) =
      codes "no: capability " ++ (decimal index ++ (codes " at " ++ path_text path.items))
  mismatch_text offset table (Word word is canonical (Pointer path)) =
      differs_text (byte_of offset table word) (word_says is)
      (word_says canonical ++ (codes ", the pointer at " ++ path_text path.items))
  mismatch_text offset table (Word word is canonical (Tag path)) =
      differs_text (byte_of offset table word) (word_text is)
      (word_text canonical ++ (codes ", the tag of " ++ path_text path.items))
  mismatch_text offset table (Word word is canonical (LastWord path)) =
      differs_text (byte_of offset table word) (word_text is)
      (word_text canonical ++ (codes ", the last word of " ++ path_text path.items))
  mismatch_text offset table (After word is) =
      differs_text (byte_of offset table word) (word_text is) (codes "nothing, after the value")

  -- The lines `canonical` and `lengths` of `lines`.
  abbrev pub canonical_lines : CanonicalLines A → List ℕ
  canonical_lines lines =
      codes "canonical: " ++ (mismatch_text lines.offset lines.table lines.mismatch ++ (codes "\n"
      ++ lengths_line lines.lengths))

-- `Some lengths` gives the number of bytes of `message` and the number of its canonical bytes, which differ. The
-- message is then not canonical, and `v` has no capability. `None` holds in exactly these cases: the message is
-- canonical, `v` has a capability, or both numbers are equal.
abbrev pub AreLengths : List (List ℕ) → Tree → Option (ℕ × ℕ) → Type 0
AreLengths message v (Some lengths) =
    (IsCanonicalOf message v → ⊥) × (first_cap v ≡ None) × (lengths.0 ≡ 8 * total message)
    × (lengths.1 ≡ length (canon v)) × (lengths.0 ≢ lengths.1)
AreLengths message v None = IsCanonicalOf message v ⊎ (first_cap v ≢ None) ⊎ (8 * total message ≡ length (canon v))

-- The message is accepted within `limits`, and `lines` are the lines about it. Their fields `offset` and `table` have
-- the given values.
pub record AreLinesOf {A : Type 0} (message : List (List ℕ)) (limits : Bounds) (offset table : ℕ)
    (lines : CanonicalLines A) : Type 0 where
  pub value : Tree
  pub is : IsValueOf message limits value
  pub mismatch : IsMismatch message limits lines.mismatch
  pub lengths : AreLengths message value lines.lengths
  pub offset_is : lines.offset ≡ offset
  pub table_is : lines.table ≡ table

-- ---- examples: the byte of the third word after a table of one word, and the text for two segments

the_third_word : byte_of 16 1 2 ≡ 40
the_third_word = refl

two_segments : mismatch_text {A = ℕ} 0 0 (Segments 2) ≡ codes "no: 2 segments"
unfolding digits
two_segments = refl
