-- The displayed texts of faults. (Our own.)
use Rattle.std.specs.Prelude.{ℕ, List, ◌++◌, codes}
use Rattle.std.specs.Fmt.{decimal}
use Rattle.capn_pack.specs.declared.fault.PackFault.{PackFault}
use Rattle.capn_pack.specs.declared.fault.PackFault.TheVariants as pack
use Rattle.capn_pack.specs.declared.fault.UnpackFault.{UnpackFault}
use Rattle.capn_pack.specs.declared.fault.UnpackFault.TheVariants as unpack

-- the displayed text of the reason why bytes are not packed
abbrev pub pack_text : PackFault → List ℕ
pack_text pack.Memory = codes "out of memory"
pack_text (pack.NotWhole n) = codes "NotWhole(" ++ decimal n ++ codes ")"

-- the displayed text of a fault of unpacking, for `Cut` and `TooLong` with the offset of the group's tag
abbrev pub unpack_text : UnpackFault → List ℕ
unpack_text unpack.Memory = codes "out of memory"
unpack_text (unpack.Cut at) = codes "Cut at " ++ decimal at
unpack_text (unpack.TooLong at) = codes "TooLong at " ++ decimal at
unpack_text unpack.Failed = codes "Failed"
