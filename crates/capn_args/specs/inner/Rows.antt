-- The options of the parser for the rows of the table.
use Rattle.std.specs.Prelude.{List, [], ◌∷◌, Bool, cond, map}
use Rattle.std.specs.List.{list_any}
use Rattle.std.specs.Borrow.{Bor}
use Rattle.std.specs.Str.{bytes_eq}
use Rattle.clap.specs.Words.{App, Rule, Text, with_rule}
use Rattle.capn_args.specs.CommandLine.{asked_rule, flag_rule, number_rule, place_rule, usual_rule}
use Rattle.capn_args.specs.declared.option_row.OptionRow.{OptionRow}
use Rattle.capn_args.specs.declared.option_row.Taken.{Taken}
use Rattle.capn_args.specs.declared.option_row.Taken.TheVariants as taken

-- The option `name`, which takes the given kind of value. `Flag` takes none.
abbrev pub rule_for : Text → Taken → Rule
rule_for name taken.Flag = flag_rule name
rule_for name (taken.Asked value) = asked_rule name
rule_for name (taken.Usual value usual) = usual_rule name usual.now
rule_for name (taken.Number usual least most) = number_rule name usual.now least most
rule_for name (taken.Place usual) = place_rule name usual.now

-- The parser's option for `row`.
abbrev pub rule_of_row : OptionRow → Rule
rule_of_row row = rule_for row.name.now row.taken

-- True if the command `name` takes the option of `row`.
abbrev pub is_taken : Text → OptionRow → Bool
is_taken name row = list_any (λ command. bytes_eq command.now name) row.commands.now

-- The parser `line` with those options of the rows that the command `name` takes.
abbrev pub with_rows : Text → App → List OptionRow → App
with_rows name line [] = line
with_rows name line (row ∷ rest) =
    with_rows name (cond (is_taken name row) (with_rule line (rule_of_row row)) line) rest

-- The text of each of `names`.
abbrev pub texts_of : List (Bor Text) → List Text
texts_of names = map (λ name. name.now) names
