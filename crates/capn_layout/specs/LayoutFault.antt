-- The reason why a tree has no layout.
use Rattle.std.specs.Prelude.{◌≡◌, Some, ⊤}
use Rattle.capn_value.specs.Tree.{Tree}
use Rattle.capn_value.specs.FirstCap.{first_cap}
use Rattle.capn_layout.specs.declared.tree_layout.LayoutFault.{LayoutFault}
use Rattle.capn_layout.specs.declared.tree_layout.LayoutFault.TheVariants.{Memory, Capability}

-- The fault is `Memory`, or `Capability k` where `k` is the index of the first capability of tree `t` in preorder.
-- (Our own.)
abbrev pub IsLayoutFault : Tree → LayoutFault → Type 0
IsLayoutFault t Memory = ⊤
IsLayoutFault t (Capability k) = first_cap t ≡ Some k
