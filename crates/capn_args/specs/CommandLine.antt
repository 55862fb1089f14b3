-- The command line, with the options of each subcommand, their ranges and their defaults. (Our own.)
use Rattle.std.specs.Prelude.{ℕ, ◌≡◌, ◌-◌, ◌^◌, ℤ, pos, List, [], ◌∷◌, Some, codes, cond, true, false}
use Rattle.std.specs.List.{list_any}
use Rattle.std.specs.Str.{bytes_eq}
use Rattle.capn_words.specs.Message.{most_message_words}
use Rattle.capn_value.specs.Cost.{most_cost, most_height}
use Rattle.clap.specs.Words.{App, Rule, Text, app_of, new_app, new_rule, with_rule, with_subcommand}
use Rattle.clap.specs.declared.builder.action.ArgAction.TheVariants as actions
use Rattle.clap.specs.declared.builder.command.Command.{Command}
use Rattle.clap.specs.declared.builder.command.Command.TheViews.{out-Command}
use Rattle.clap.specs.declared.builder.value_parser.ValueParser.TheVariants as parsers

-- The option `name` that takes a value, with the default `usual`.
abbrev pub usual_rule : Text → Text → Rule
usual_rule name usual = record (new_rule name) { long = Some name; value_names = 1; defaults = usual ∷ [] }

-- The option `name` that takes a number from `least` to `most`, with the default `usual`.
abbrev pub number_rule : Text → Text → ℤ → ℤ → Rule
number_rule name usual least most = record (usual_rule name usual) { parser = Some (parsers.Signed least most) }

-- The option for the limit on the words of a message.
abbrev pub words_rule : Rule
words_rule = number_rule (codes "message-words") (codes "8388608") (pos 1) (pos most_message_words)

-- The option for the budget in words.
abbrev pub budget_rule : Rule
budget_rule = number_rule (codes "budget") (codes "8388608") (pos 0) (pos most_cost)

-- The option for the limit on depth.
abbrev pub depth_rule : Rule
depth_rule = number_rule (codes "depth") (codes "64") (pos 1) (pos most_height)

-- The option for the form of the input, with the default `stream`.
abbrev pub form_rule : Rule
form_rule = usual_rule (codes "form") (codes "stream")

-- The option for the tariff, with the default `strict`.
abbrev pub tariff_rule : Rule
tariff_rule = usual_rule (codes "tariff") (codes "strict")

-- The option `name`, which takes a value and has no default.
abbrev pub asked_rule : Text → Rule
asked_rule name = record (new_rule name) { long = Some name; value_names = 1 }

-- The option `name` that takes no value.
abbrev pub flag_rule : Text → Rule
flag_rule name = record (new_rule name) { long = Some name; action = Some actions.SetTrue }

-- The greatest message number.
abbrev pub most_number : ℕ
most_number = 2 ^ 64 - 1

-- The option `name` that takes a message number, with the default `usual`.
abbrev pub place_rule : Text → Text → Rule
place_rule name usual = record (usual_rule name usual) { parser = Some (parsers.Unsigned 1 most_number) }

-- `line` is the parser of `command`, and `command` has no global options.
abbrev pub HasLine : Command → App → Type 0
HasLine command line = (app_of command ≡ line) × ((out-Command command).has_globals ≡ false)

-- The commands that take `--budget`, `--depth` and `--tariff`.
abbrev pub limited : List Text
limited = codes "show" ∷ codes "check" ∷ codes "explain" ∷ codes "annotate" ∷ codes "list" ∷ codes "limits"
    ∷ codes "canonical" ∷ codes "hash" ∷ codes "uniq" ∷ codes "filter" ∷ codes "cmp" ∷ []

-- The commands over messages that take limits and the form `bare`.
abbrev pub unframed : List Text
unframed = codes "show" ∷ codes "check" ∷ codes "explain" ∷ codes "annotate" ∷ codes "list" ∷ codes "limits"
    ∷ codes "canonical" ∷ codes "hash" ∷ codes "uniq" ∷ codes "filter" ∷ []

-- The options, each listed with the commands that take it. An option that is listed several times has several texts in
-- the help.
abbrev pub options : List (Rule × List Text)
options = (
  form_rule,
  codes "show" ∷ codes "check" ∷ codes "explain" ∷ codes "annotate" ∷ codes "list" ∷ codes "limits"
      ∷ codes "hash" ∷ codes "uniq" ∷ codes "filter" ∷ [],
)
    ∷ (form_rule, codes "canonical" ∷ [])
    ∷ (form_rule, codes "cmp" ∷ codes "pick" ∷ [])
    ∷ (form_rule, codes "make" ∷ [])
    ∷ (words_rule, unframed)
    ∷ (words_rule, codes "cmp" ∷ codes "pick" ∷ [])
    ∷ (words_rule, codes "unpack" ∷ [])
    ∷ (budget_rule, limited)
    ∷ (depth_rule, limited)
    ∷ (tariff_rule, limited)
    ∷ (asked_rule (codes "at"), codes "show" ∷ [])
    ∷ (flag_rule (codes "text"), codes "show" ∷ [])
    ∷ (flag_rule (codes "json"), codes "show" ∷ [])
    ∷ (flag_rule (codes "offsets"), codes "show" ∷ [])
    ∷ (flag_rule (codes "ways"), codes "show" ∷ [])
    ∷ (flag_rule (codes "one"), codes "show" ∷ codes "check" ∷ codes "hash" ∷ [])
    ∷ (asked_rule (codes "number"), codes "explain" ∷ [])
    ∷ (flag_rule (codes "summary"), codes "annotate" ∷ [])
    ∷ (flag_rule (codes "framed"), codes "canonical" ∷ [])
    ∷ (flag_rule (codes "keep-going"), codes "list" ∷ codes "limits" ∷ codes "uniq" ∷ codes "filter" ∷ [])
    ∷ (flag_rule (codes "keep-going"), codes "canonical" ∷ [])
    ∷ (flag_rule (codes "keep-going"), codes "explain" ∷ [])
    ∷ (flag_rule (codes "digest"), codes "list" ∷ [])
    ∷ (flag_rule (codes "count"), codes "uniq" ∷ [])
    ∷ (flag_rule (codes "canonical"), codes "filter" ∷ [])
    ∷ (place_rule (codes "from") (codes "1"), codes "pick" ∷ [])
    ∷ (place_rule (codes "to") (codes "18446744073709551615"), codes "pick" ∷ [])
    ∷ (asked_rule (codes "only"), codes "pick" ∷ [])
    ∷ (flag_rule (codes "text"), codes "make" ∷ [])
    ∷ (flag_rule (codes "streaming"), codes "pack" ∷ [])
    ∷ (flag_rule (codes "streaming"), codes "unpack" ∷ [])
    ∷ []

-- The commands.
abbrev pub commands : List Text
commands = codes "show" ∷ codes "check" ∷ codes "explain" ∷ codes "annotate" ∷ codes "list" ∷ codes "limits"
    ∷ codes "canonical" ∷ codes "hash" ∷ codes "uniq" ∷ codes "filter" ∷ codes "cmp" ∷ codes "pick" ∷ codes "pack"
    ∷ codes "unpack" ∷ codes "make" ∷ []

-- The parser `line` with those options of the list that the command `name` takes.
abbrev pub with_options : Text → App → List (Rule × List Text) → App
with_options name line [] = line
with_options name line (option ∷ rest) =
    with_options name (cond (list_any (λ command. bytes_eq command name) option.1) (with_rule line option.0) line) rest

-- The parser of the command `name`.
abbrev pub line_of : Text → App
line_of name = with_options name (new_app name) options

-- The parser of the program `capn` before any subcommand is added. It requires a subcommand, and has a version.
abbrev pub top_line : App
top_line =
    let a = new_app (codes "capn") in
    record a { top = record a.top { subcommand_required = true; has_version = true } }

-- The parser `top`, with the parsers of the commands in the list added as subcommands.
abbrev pub with_commands : App → List Text → App
with_commands top [] = top
with_commands top (name ∷ rest) = with_commands (with_subcommand top (line_of name).top) rest

-- The parser of the complete command line.
abbrev pub program_line : App
program_line = with_commands top_line commands
