-- The comparison of two messages that bytes encode in a form. (Our own.)
use Rattle.std.specs.Prelude.{IsTrue, ◌≡◌, ◌↔◌, ℕ, zero, suc, Bool, List, None}
use Rattle.capn_value.specs.Tree.{Tree}
use Rattle.capn_value.specs.FirstCap.{first_cap}
use Rattle.capn_value.specs.Same.{Same}
use Rattle.capn_walk.specs.Limits.{Bounds}
use Rattle.capn_canon.specs.Denotes.{Denotes}
use Rattle.capn_canon.specs.Layout.{canon}
use Rattle.capn_canon.specs.declared.form.Form.{Form}

-- `first` denotes the value `v`, `second` denotes the value `w`, and neither value has capabilities.
pub record DenoteBoth (form : Form) (first second : List ℕ) (limits : Bounds) (v w : Tree) : Type 0 where
  pub one : Denotes form first limits v
  pub one_free : first_cap v ≡ None
  pub other : Denotes form second limits w
  pub other_free : first_cap w ≡ None

-- `first` and `second` denote values without capabilities. `told` is true exactly if the values are the same. `told` is
-- also true exactly if their canonical bytes are equal.
pub record ComparesIn (form : Form) (first second : List ℕ) (limits : Bounds) (told : Bool) : Type 0 where
  pub value : Tree
  pub other : Tree
  pub denoted : DenoteBoth form first second limits value other
  pub same : IsTrue told ↔ Same value other
  pub equal : IsTrue told ↔ (canon value ≡ canon other)

-- The bytes that a number names: `first` if the number is 0, else `second`.
abbrev pub named : ℕ → List ℕ → List ℕ → List ℕ
named zero first second = first
named (suc n) first second = second
