-- The number of canonical bytes of a message.
use Rattle.std.specs.Prelude.{◌≡◌, ℕ, List, length}
use Rattle.capn_value.specs.Tree.{Tree}
use Rattle.capn_walk.specs.Limits.{Bounds}
use Rattle.capn_walk.specs.Accepted.{IsValueOf}
use Rattle.capn_layout.specs.Layout.{canon}

-- If `message` is accepted within `limits`, `n` is the number of its canonical bytes. (Our own.)
abbrev pub HasCanonicalLength : List (List ℕ) → Bounds → ℕ → Type 0
HasCanonicalLength message limits n = (v : Tree) → IsValueOf message limits v → n ≡ length (canon v)
