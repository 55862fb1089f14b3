-- The mismatch of a message with its canonical bytes, for bytes in a form. (Our own.)
use Rattle.std.specs.Prelude.{◌⊎◌, ℕ, List, []}
use Rattle.capn_walk.specs.Limits.{Bounds}
use Rattle.capn_canon.specs.MemoryNeed.{MayNeedMemory}
use Rattle.capn_canon.specs.Reads.{Reads}
use Rattle.capn_canon.specs.declared.form.Form.{Form}
use Rattle.capn_mismatch.specs.Mismatches.{HasMismatch, IsMismatch}
use Rattle.capn_mismatch.specs.declared.answer.Mismatch.{Mismatch}
use Rattle.capn_mismatch.specs.declared.answer.Mismatch.TheVariants.{Canonical, Segments, Capability, Word, After}
use Rattle.capn_mismatch.specs.declared.whose.Whose.{Whose}
use Rattle.capn_mismatch.specs.declared.whose.Whose.TheVariants.{Pointer, Tag, LastWord}

-- `bs` are read as a message, and `d` is the mismatch of that message with its canonical bytes.
pub record IsMismatchIn {A : Type 0} (form : Form) (bs : List ℕ) (limits : Bounds) (d : Mismatch A) : Type 0 where
  pub message : List (List ℕ)
  pub reads : Reads form bs limits.message_words message
  pub is : IsMismatch message limits d

-- `bs` are read as a message of one segment that is accepted and isn't canonical.
pub record HasMismatchIn (form : Form) (bs : List ℕ) (limits : Bounds) : Type 0 where
  pub message : List (List ℕ)
  pub reads : Reads form bs limits.message_words message
  pub mismatched : HasMismatch message limits

-- Finding the mismatch of `bs` may need memory, to read `bs` or for a message of one segment that isn't canonical.
abbrev pub MayNeedMismatch : Form → List ℕ → Bounds → Type 0
MayNeedMismatch form bs limits = MayNeedMemory form bs limits ⊎ HasMismatchIn form bs limits

module _ {A : Type 0} where
  -- The path in the given `Whose`, to the slot whose pointer or list the word belongs to.
  abbrev pub owner_path : Whose A → List ℕ
  owner_path (Pointer path) = path.items
  owner_path (Tag path) = path.items
  owner_path (LastWord path) = path.items

  -- The path in a mismatch, or no numbers if that kind of mismatch has no path.
  abbrev pub path_of : Mismatch A → List ℕ
  path_of Canonical = []
  path_of (Segments n) = []
  path_of (Capability k path) = path.items
  path_of (Word w is c whose) = owner_path whose
  path_of (After w is) = []
