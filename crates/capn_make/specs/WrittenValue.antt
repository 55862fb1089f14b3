-- The bytes that are written for one value. (Page: serialization over a stream, packing, canonicalization.)
use Rattle.std.specs.Prelude.{◌≡◌, ℕ, ◌/◌, List, [], ◌∷◌, ◌++◌, length, replicate, None}
use Rattle.std.specs.Int.{to_le_bytes, w32}
use Rattle.capn_pack.specs.Chosen.{Chosen}
use Rattle.capn_value.specs.Tree.{Tree}
use Rattle.capn_value.specs.FirstCap.{first_cap}
use Rattle.capn_value.specs.Fits.{Fits}
use Rattle.capn_value.specs.InRange.{InRange}
use Rattle.capn_canon.specs.Layout.{canon}
use Rattle.capn_canon.specs.declared.form.Form.{Form}
use Rattle.capn_canon.specs.declared.form.Form.TheVariants as forms

-- The value `v` fits into a message, its numbers are in range, and it has no capability.
pub record IsMakeable (v : Tree) : Type 0 where
  pub fits : Fits v
  pub in_range : InRange v
  pub free : first_cap v ≡ None

-- The frame of one segment of `bytes`: four zero bytes, the number of words in four bytes, and `bytes`.
abbrev pub framed : List ℕ → List ℕ
framed bytes = replicate 4 0 ++ (to_le_bytes w32 (length bytes / 8) ++ bytes)

-- `piece` is what the form writes for the canonical `bytes`. `Stream` writes their frame, `Packed` a packed text of
-- that frame, and `Bare` the bytes as they are.
abbrev pub IsInForm : Form → List ℕ → List ℕ → Type 0
IsInForm forms.Stream bytes piece = piece ≡ framed bytes
IsInForm forms.Packed bytes piece = Chosen piece (framed bytes)
IsInForm forms.Bare bytes piece = piece ≡ bytes

-- `piece` is what the form writes for the value `v`.
abbrev pub IsWrittenValue : Form → Tree → List ℕ → Type 0
IsWrittenValue form v piece = IsInForm form (canon v) piece

-- `text` is what the form writes for a list of values, one after the other.
abbrev pub AreMade : Form → List Tree → List ℕ → Type 0
AreMade form [] text = text ≡ []
AreMade form (v ∷ vs) text = (piece : List ℕ) × (rest : List ℕ) × IsWrittenValue form v piece × AreMade form vs rest
    × (text ≡ piece ++ rest)
