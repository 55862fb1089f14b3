-- Messages that aren't canonical, so that a digest needs memory for the canonical bytes. (Our own.)
use Rattle.std.specs.Prelude.{◌≡◌, ◌⊎◌, ℕ, List, None}
use Rattle.capn_value.specs.Tree.{Tree}
use Rattle.capn_value.specs.FirstCap.{first_cap}
use Rattle.capn_walk.specs.Accepted.{IsValueOf}
use Rattle.capn_walk.specs.Limits.{Bounds}
use Rattle.capn_canon.specs.Measure.{IsCanonicalOf}
use Rattle.capn_canon.specs.MemoryNeed.{MayNeedMemory}
use Rattle.capn_canon.specs.Reads.{Reads}
use Rattle.capn_canon.specs.declared.form.Form.{Form}

-- `bs` are read as an accepted message that has canonical bytes, but isn't canonical.
pub record MustMake (form : Form) (bs : List ℕ) (limits : Bounds) : Type 0 where
  pub message : List (List ℕ)
  pub reads : Reads form bs limits.message_words message
  pub value : Tree
  pub is : IsValueOf message limits value
  pub free : first_cap value ≡ None
  pub not : IsCanonicalOf message value → ⊥

-- Finding the digest of `bs` may need memory, to read `bs` or to make canonical bytes (`MustMake`).
abbrev pub MayNeedToMake : Form → List ℕ → Bounds → Type 0
MayNeedToMake form bs limits = MayNeedMemory form bs limits ⊎ MustMake form bs limits
