-- The theorem of `canonical_into_form`. (Our own.)
use Rattle.std.specs.Prelude.{◌≡◌, ◌↔◌, ℕ, ◌≤◌, List, length, None, Result, IsOk}
use Rattle.capn_value.specs.Tree.{Tree}
use Rattle.capn_value.specs.FirstCap.{first_cap}
use Rattle.capn_walk.specs.Limits.{Bounds}
use Rattle.capn_layout.specs.Layout.{canon}
use Rattle.capn_canon.specs.declared.form.Form.{Form}
use Rattle.capn_canon.specs.declared.length.CanonicalLength.{CanonicalLength}
use Rattle.capn_canon.specs.Denotes.{Denotes}
use Rattle.capn_canon.specs.Reads.{Reads}
use Rattle.capn_canon.specs.Theorem.{WrittenInto}
use Rattle.capn_scratch.specs.Needs.{HasScratch}
use Rattle.capn_scratch.specs.declared.refusal.FormRefusal.{FormRefusal}

-- `r` is `Ok` if and only if three conditions hold. `bs` denote a value without capabilities within `limits`, and need
-- at most `scratch` words of scratch. That value has at most `room` canonical bytes.
abbrev pub AnsweredForm : Form → List ℕ → Bounds → ℕ → ℕ → Result CanonicalLength FormRefusal → Type 0
AnsweredForm form bs limits scratch room r =
    IsOk r ↔ ((v : Tree) × Denotes form bs limits v × (first_cap v ≡ None) × HasScratch form bs scratch
    × (length (canon v) ≤ room))

-- `bs` are read as a message, and need at most `scratch` words of scratch. `new` is `old` with its first bytes replaced
-- by the canonical bytes of that message, and `c` has their number (`WrittenInto`).
pub record WrittenForm (form : Form) (bs : List ℕ) (limits : Bounds) (scratch : ℕ) (old new : List ℕ)
    (c : CanonicalLength) : Type 0 where
  pub message : List (List ℕ)
  pub reads : Reads form bs limits.message_words message
  pub has : HasScratch form bs scratch
  pub written : WrittenInto message limits old new c
