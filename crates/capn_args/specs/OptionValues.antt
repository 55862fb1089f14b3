-- The values of options, given or default. (Our own.)
use Rattle.std.specs.Prelude.{ℕ, ◌≡◌, ◌+◌, ◌≤◌, List, Bool, true, false, cond, Option, Some, None, codes, find}
use Rattle.std.specs.Prelude.{option_and_then}
use Rattle.std.specs.Str.{bytes_eq}
use Rattle.std.specs.Str.Parse.{IsNumeral, digits_value, without_leading_plus}
use Rattle.clap.specs.Words.{Row, Text, first_of, one_of}
use Rattle.clap.specs.declared.parser.matches.ValueSource.{ValueSource}
use Rattle.clap.specs.declared.parser.matches.ValueSource.TheVariants as sources
use Rattle.capn_value.specs.declared.tariff.Tariff.{Tariff}
use Rattle.capn_value.specs.declared.tariff.Tariff.TheVariants as tariffs
use Rattle.capn_walk.specs.Limits.{Bounds, AreLimits}
use Rattle.capn_words.specs.Message.{most_message_words}
use Rattle.capn_stream.specs.Frames.{most_table_words}
use Rattle.capn_canon.specs.declared.form.Form.{Form}
use Rattle.capn_canon.specs.declared.form.Form.TheVariants as forms

-- The name of a form on the command line.
abbrev pub form_name : Form → Text
form_name forms.Stream = codes "stream"
form_name forms.Packed = codes "packed"
form_name forms.Bare = codes "bare"

-- The value of `--form`, given or default, is the name of `form`.
abbrev pub FormIs : List Row → Form → Type 0
FormIs rows form = first_of (codes "form") rows ≡ Some (form_name form)

-- The name of a tariff on the command line.
abbrev pub tariff_name : Tariff → Text
tariff_name tariffs.Strict = codes "strict"
tariff_name tariffs.Plain = codes "plain"

-- The value of `--tariff`, given or default, is the name of `tariff`.
abbrev pub TariffIs : List Row → Tariff → Type 0
TariffIs rows tariff = first_of (codes "tariff") rows ≡ Some (tariff_name tariff)

-- The value of `option`, given or default, is `n` in decimal digits, possibly after a plus sign.
abbrev pub NumberIs : List Row → Text → ℕ → Type 0
NumberIs rows option n = (text : Text) × (one_of option rows ≡ Some text)
    × IsNumeral 10 (without_leading_plus text) × (n ≡ digits_value 10 (without_leading_plus text))

-- `--message-words`, `--budget` and `--depth` have the numbers in `limits`, each in its range, and `--tariff` names the
-- tariff of `limits`.
abbrev pub LimitsAre : List Row → Bounds → Type 0
LimitsAre rows limits =
    NumberIs rows (codes "message-words") limits.message_words
    × NumberIs rows (codes "budget") limits.budget
    × NumberIs rows (codes "depth") limits.depth
    × TariffIs rows limits.tariff
    × AreLimits limits.message_words limits.budget limits.depth

-- `most` is the value of `--message-words`, which is at most `most_message_words`, plus the number of words of the
-- longest segment table.
abbrev pub UnpackedIs : List Row → ℕ → Type 0
UnpackedIs rows most = (n : ℕ) × NumberIs rows (codes "message-words") n × (n ≤ most_message_words)
    × (most ≡ n + most_table_words)

-- The value of `option` is the number `n`, which is from `least` to `most`.
abbrev pub NumberIn : List Row → Text → ℕ → ℕ → ℕ → Type 0
NumberIn rows option least most n = NumberIs rows option n × (least ≤ n) × (n ≤ most)

-- The value of a flag as a text: `true` if the flag is given, and `false` if it is not.
abbrev pub flag_text : Bool → Text
flag_text true = codes "true"
flag_text false = codes "false"

-- The flag that a text stands for, if it stands for one.
abbrev pub flag_value : Text → Option Bool
flag_value text =
    cond (bytes_eq text (flag_text true)) (Some true) (cond (bytes_eq text (flag_text false)) (Some false) None)

-- True if the flag `option` is given, false if it is not, and `None` if the command has no such flag.
abbrev pub flag_in : List Row → Text → Option Bool
flag_in rows option = option_and_then flag_value (one_of option rows)

-- The flag `option` is given if and only if `given` is true.
abbrev pub FlagIs : List Row → Text → Bool → Type 0
FlagIs rows option given = one_of option rows ≡ Some (flag_text given)

-- The source of the value of `option`: the command line or the default.
abbrev pub source_of : List Row → Text → Option ValueSource
source_of rows option = option_and_then (λ row. row.source) (find (λ row. bytes_eq row.id option) rows)

-- `option` is not given on the command line, and has a default.
abbrev pub IsUsual : List Row → Text → Type 0
IsUsual rows option = source_of rows option ≡ Some sources.DefaultValue

-- `option` is given on the command line.
abbrev pub IsGiven : List Row → Text → Type 0
IsGiven rows option = source_of rows option ≡ Some sources.CommandLine
