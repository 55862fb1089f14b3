-- The displayed text of a fault. (Our own.)
use Rattle.std.specs.Prelude.{ℕ, List, codes}
use Rattle.capn_target.specs.declared.target.Fault.{Fault}
use Rattle.capn_target.specs.declared.target.Fault.TheVariants as walks

-- the displayed text of a fault, which is the name of its variant
abbrev pub fault_name : Fault → List ℕ
fault_name walks.NoRoot = codes "NoRoot"
fault_name walks.RootKind = codes "RootKind"
fault_name walks.Reserved = codes "Reserved"
fault_name walks.NoSegment = codes "NoSegment"
fault_name walks.PadRange = codes "PadRange"
fault_name walks.BadPad = codes "BadPad"
fault_name walks.Range = codes "Range"
fault_name walks.BadTag = codes "BadTag"
fault_name walks.TagOverrun = codes "TagOverrun"
fault_name walks.TooDeep = codes "TooDeep"
fault_name walks.OverBudget = codes "OverBudget"
fault_name walks.Memory = codes "Memory"
