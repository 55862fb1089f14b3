-- The lines of a message that bytes encode in a form. (Our own.)
use Rattle.std.specs.Prelude.{◌≡◌, ◌⊎◌, ℕ, List, ◌++◌, length, map, drop}
use Rattle.capn_walk.specs.Accepted.{IsAccepted}
use Rattle.capn_walk.specs.Limits.{Bounds}
use Rattle.capn_canon.specs.MemoryNeed.{MayNeedMemory}
use Rattle.capn_canon.specs.Reads.{Reads}
use Rattle.capn_canon.specs.declared.form.Form.{Form}
use Rattle.capn_cover.specs.declared.covered.Covered.{Covered}
use Rattle.capn_cover.specs.Cover.{IsCover}
use Rattle.capn_lines.specs.Lines.{lines_of}
use Rattle.capn_answers.specs.LineRecords.{c_line, table_bytes}
use Rattle.capn_answers.specs.declared.line_record.CapnLine.{CapnLine}

-- the lines of a message in the layout that C reads, by the cover of its words; the message comes after a table of
-- `table` bytes
abbrev pub c_lines : (table : ℕ) → List (List ℕ) → List Covered → List CapnLine
c_lines table message words = map (c_line table message) (lines_of message words)

-- `bs` are read as an accepted message, which has `count` lines
pub record HasLinesIn (form : Form) (bs : List ℕ) (limits : Bounds) (count : ℕ) : Type 0 where
  pub message : List (List ℕ)
  pub reads : Reads form bs limits.message_words message
  pub words : List Covered
  pub cover : IsCover message limits words
  pub each : count ≡ length (lines_of message words)

-- `bs` are read as an accepted message. `new` begins with the lines of that message. The items after the lines are the
-- same as in `old`.
pub record AnnotatedIn (form : Form) (bs : List ℕ) (limits : Bounds) (old new : List CapnLine) : Type 0 where
  pub message : List (List ℕ)
  pub reads : Reads form bs limits.message_words message
  pub words : List Covered
  pub cover : IsCover message limits words
  pub lines : new ≡ c_lines (table_bytes form message) message words ++ drop (length (lines_of message words)) old

-- `bs` are read as an accepted message
pub record IsAcceptedIn (form : Form) (bs : List ℕ) (limits : Bounds) : Type 0 where
  pub message : List (List ℕ)
  pub reads : Reads form bs limits.message_words message
  pub accepted : IsAccepted message limits

-- finding the lines of `bs` may need memory: to read `bs`, or for the words of an accepted message
abbrev pub MayNeedLines : Form → List ℕ → Bounds → Type 0
MayNeedLines form bs limits = MayNeedMemory form bs limits ⊎ IsAcceptedIn form bs limits
