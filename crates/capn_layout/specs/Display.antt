-- The text that displays a `LayoutFault`. (Our own.)
use Rattle.std.specs.Prelude.{ℕ, List, ◌++◌, codes}
use Rattle.std.specs.Fmt.{decimal}
use Rattle.capn_layout.specs.declared.tree_layout.LayoutFault.{LayoutFault}
use Rattle.capn_layout.specs.declared.tree_layout.LayoutFault.TheVariants as layouts

-- The code points of the text that displays a `LayoutFault`.
abbrev pub layout_text : LayoutFault → List ℕ
layout_text layouts.Memory = codes "out of memory"
layout_text (layouts.Capability index) = codes "capability " ++ decimal index
