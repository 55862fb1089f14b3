-- Packing a stream: the packed text of its complete words, and the result if bytes are left after these words. (Page:
-- packing; the rest is our own.)
use Rattle.std.specs.Prelude.{◌≡◌, ◌⊎◌, ℕ, ◌+◌, ◌-◌, ◌*◌, ◌/◌, ◌%◌, ◌<◌, ◌≤◌, ◌==◌, if◌then◌else◌, List, ◌++◌, length}
use Rattle.std.specs.Prelude.{take, drop, replicate, refl, Bool, true, false, Option, Ok, Err}
use Rattle.std.specs.Io.KnownBytes.{Appends}
use Rattle.capn_pack.specs.Chosen.{AllDense, Chosen}
use Rattle.capn_commands.specs.declared.flow_fault.FlowFault.TheVariants as faults
use Rattle.capn_commands.specs.Flow.{Ending, Flow, Stops}

-- The complete words at the front of `bytes`.
abbrev pub whole_of : List ℕ → List ℕ
whole_of bytes = take (length bytes / 8 * 8) bytes

-- The result of packing `count` bytes. It is `InputTooLong` if the first argument is true. Otherwise it is `NotWhole`
-- if `count` is no multiple of eight, and else `Ok`.
abbrev pub ending_of : Bool → ℕ → Ending
ending_of true count = Err faults.InputTooLong
ending_of false count = if count % 8 == 0 then Ok tt else Err (faults.NotWhole count)

-- Example: 19 bytes have two complete words, and end the run with `NotWhole`.
two_words : length (whole_of (replicate 19 7)) ≡ 16
two_words = refl

three_bytes_left : ending_of false 19 ≡ Err (faults.NotWhole 19)
three_bytes_left = refl

no_bytes_left : ending_of false 16 ≡ Ok tt
no_bytes_left = refl

-- `text` is a packed text of the complete words of `bytes` (`Chosen`), and `ending` is the result of packing `count`
-- bytes.
pub record IsPacked (count : ℕ) (bytes : List ℕ) (is_longer : Bool) (text : List ℕ) (ending : Ending) : Type 0 where
  pub chosen : Chosen text (whole_of bytes)
  pub ends : ending ≡ ending_of is_longer count

-- For all bytes `more`: if `t` is a packed text of `rest ++ more`, `text ++ t` is a packed text of `bytes ++ more`.
-- Only complete words are packed.
pub record Settles (bytes text rest : List ℕ) : Type 0 where
  pub settled : (more t : List ℕ) → Chosen t (whole_of (rest ++ more)) → Chosen (text ++ t) (whole_of (bytes ++ more))

-- Between two reads, the number of bytes that have been read and are not packed yet is below this number.
abbrev pub most_held : ℕ
most_held = 4096

-- `bytes` are `nulls` zero words, and then `count` dense words, which have at most one zero byte each.
pub record AreOpen (bytes : List ℕ) : Type 0 where
  pub nulls : ℕ
  pub count : ℕ
  pub dense : List ℕ
  pub is : bytes ≡ replicate (8 * nulls) 0 ++ dense
  pub are : AllDense count dense

-- `rest` is `words` and then `tail`, which has fewer than eight bytes. `words` are zero words and then dense words
-- (`AreOpen`).
pub record MayGoOn (rest : List ℕ) : Type 0 where
  pub words : List ℕ
  pub tail : List ℕ
  pub is : rest ≡ words ++ tail
  pub open_words : AreOpen words
  pub short : length tail < 8

-- `Settles` holds for `bytes`, `text` and some `rest` of fewer than `most_held` bytes. `MayGoOn` holds for `rest`.
abbrev pub SettlesMost : List ℕ → List ℕ → Type 0
SettlesMost bytes text = (rest : List ℕ) × Settles bytes text rest × (length rest < most_held) × MayGoOn rest

-- `Settles` holds for `bytes`, `text` and some `rest`, or `text` is a packed text of the complete words of `bytes`.
abbrev pub IsFront : List ℕ → List ℕ → Type 0
IsFront bytes text = ((rest : List ℕ) × Settles bytes text rest) ⊎ Chosen text (whole_of bytes)

-- Packing as a `Flow`. Before each read, the text that no later byte can change is written (`Settles`). At the end all
-- text is written.
abbrev pub packing : Flow
packing = record { gives = λ bytes. IsPacked (length bytes) bytes; settles = SettlesMost; begins = IsFront }

-- ---- the progress of packing

-- Packing as a `Flow`, for the last bytes of a stream of `count` bytes.
abbrev pub packing_last : ℕ → Flow
packing_last count = record { gives = IsPacked count; settles = SettlesMost; begins = IsFront }

-- The number of bytes of 255 words. A longer run cannot continue with a further word.
abbrev pub most_open : ℕ
most_open = 2040

-- `take first text` packs the bytes of `words` before the offset `at`, whatever bytes follow `words`. From `at` on,
-- `words` has at most `most_open` bytes, and `AreOpen` holds for them.
pub record IsSettled (text words : List ℕ) (first at : ℕ) : Type 0 where
  pub inside : at ≤ length words
  pub settled : (more : List ℕ) → Settles (words ++ more) (take first text) (drop at words ++ more)
  pub short : length words ≤ at + most_open
  pub open_words : AreOpen (drop at words)

-- The last eight bytes of `bytes`.
abbrev pub last_word : List ℕ → List ℕ
last_word bytes = drop (length bytes - 8) bytes

-- After `Ok`, a `text` was written. `Settles` holds for `before ++ bytes`, `text` and `after`, and `MayGoOn` for
-- `after`, which is shorter than `most_held` and no longer than `before ++ bytes`. After `Err`, `Stops` holds.
abbrev pub PacksPart : List ℕ → List ℕ → Option (List ℕ) → Option (List ℕ) → Bool → Ending → List ℕ → Type 0
PacksPart before bytes c d failed (Ok u) after =
    (text : List ℕ) × Settles (before ++ bytes) text after × (length after < most_held) × Appends c d text
    × (failed ≡ false) × (length after ≤ length before + length bytes) × MayGoOn after
PacksPart before bytes c d failed (Err fault) after = Stops packing (before ++ bytes) c d failed fault
