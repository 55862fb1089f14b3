-- The displayed text of a fault. (Our own.)
use Rattle.std.specs.Prelude.{ℕ, List, ◌++◌, codes}
use Rattle.std.specs.Fmt.{decimal}
use Rattle.capn_words.specs.declared.bare.BareFault.{BareFault}
use Rattle.capn_words.specs.declared.bare.BareFault.TheVariants.{NotWhole, TooLong}

-- the displayed text of the reason why bytes are not one segment
abbrev pub bare_text : BareFault → List ℕ
bare_text (NotWhole n) = codes "NotWhole(" ++ decimal n ++ codes ")"
bare_text (TooLong n) = codes "TooLong(" ++ decimal n ++ codes ")"
