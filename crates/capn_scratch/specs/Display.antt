-- The text that displays a `FormRefusal`. (Our own.)
use Rattle.std.specs.Prelude.{ℕ, List, ◌++◌, codes}
use Rattle.std.specs.Fmt.{decimal}
use Rattle.capn_words.specs.Display.{bare_text}
use Rattle.capn_pack.specs.Display.{unpack_text}
use Rattle.capn_stream.specs.Display.{frame_text}
use Rattle.capn_walk.specs.Display.{stopped_text}
use Rattle.capn_scratch.specs.declared.refusal.FormRefusal.{FormRefusal}
use Rattle.capn_scratch.specs.declared.refusal.FormRefusal.TheVariants as told

-- The text that displays the given `FormRefusal`.
abbrev pub form_refusal_text : FormRefusal → List ℕ
form_refusal_text (told.Bare fault) = codes "bare: " ++ bare_text fault
form_refusal_text (told.Packed fault) = codes "packed: " ++ unpack_text fault
form_refusal_text (told.Frame fault) = codes "frame: " ++ frame_text fault
form_refusal_text (told.Trailing at) = codes "trailing bytes at " ++ decimal at
form_refusal_text (told.NoScratch needed) = codes "no scratch for " ++ (decimal needed ++ codes " words")
form_refusal_text (told.Walk stopped) = stopped_text stopped
form_refusal_text (told.Capability index) = codes "capability " ++ decimal index
form_refusal_text (told.NoRoom needed paid) = codes "no room for " ++ (decimal needed ++ codes " bytes")
