-- The meaning of a command line, which is the invocation that a subcommand and the values of its options stand for.
-- (Our own.)
use Rattle.std.specs.Prelude.{ℕ, ◌≡◌, ◌&&◌, ◌||◌, not, List, Bool, true, false, Option, Some, None, codes, ⊤, IsSome}
use Rattle.std.specs.Prelude.{option_and_then, option_map}
use Rattle.std.specs.Borrow.{Bor}
use Rattle.clap.specs.Words.{Row, Text, first_of}
use Rattle.capn_words.specs.Message.{most_message_words}
use Rattle.capn_value.specs.declared.tariff.Tariff.TheVariants as tariffs
use Rattle.capn_walk.specs.Limits.{Bounds}
use Rattle.capn_canon.specs.declared.form.Form.{Form}
use Rattle.capn_commands.specs.declared.command.Command.{Command}
use Rattle.capn_commands.specs.declared.command.Command.TheVariants as commands
use Rattle.capn_annotate.specs.declared.annotate_order.AnnotateOrder.{AnnotateOrder}
use Rattle.capn_archive.specs.declared.filter_order.FilterOrder.{FilterOrder}
use Rattle.capn_cmp.specs.declared.cmp_order.CmpOrder.{CmpOrder}
use Rattle.capn_commands.specs.declared.plan.MessageText.{MessageText}
use Rattle.capn_commands.specs.declared.plan.MessageText.TheVariants as pieces
use Rattle.capn_commands.specs.Plan.{form_of}
use Rattle.capn_archive.specs.declared.task.ArchiveOrder.{ArchiveOrder}
use Rattle.capn_archive.specs.declared.task.Task.{Task}
use Rattle.capn_archive.specs.declared.task.Task.TheVariants as tasks
use Rattle.capn_archive.specs.declared.uniq_order.UniqOrder.{UniqOrder}
use Rattle.capn_show.specs.Style.{has_lines, is_quoted}
use Rattle.capn_show.specs.declared.style.Style.{Style}
use Rattle.capn_show.specs.declared.style.Style.TheVariants as styles
use Rattle.capn_serve.specs.declared.pick.Pick.{Pick}
use Rattle.capn_explain.specs.declared.explain.Explain.{Explain}
use Rattle.capn_explain.specs.declared.explain_refused.ExplainRefused.{ExplainRefused}
use Rattle.capn_args.specs.CommandLine.{most_number}
use Rattle.capn_args.specs.OptionValues.{FlagIs, FormIs, IsUsual, LimitsAre, NumberIn, UnpackedIs, flag_in}
use Rattle.capn_args.specs.MessageNumber.{number_of}
use Rattle.capn_args.specs.RangeList.{ranges_in}
use Rattle.capn_args.specs.Path.{path_of}
use Rattle.capn_args.specs.declared.invocation.Explanation.{Explanation}
use Rattle.capn_args.specs.declared.invocation.Explanation.TheVariants as explanations
use Rattle.capn_args.specs.declared.invocation.Flow.{Flow}
use Rattle.capn_args.specs.declared.invocation.Flow.TheVariants as flows
use Rattle.capn_args.specs.declared.invocation.Make.{Make}
use Rattle.capn_args.specs.declared.invocation.Only.{Only}
use Rattle.capn_args.specs.declared.invocation.Show.{Show}
use Rattle.capn_args.specs.declared.invocation.Invocation.{Invocation}
use Rattle.capn_args.specs.declared.invocation.Invocation.TheVariants as invocations

-- In `rows`, `--form`, the limits and `--keep-going` have the values in `archive`.
abbrev pub AreOptions : List Row → ArchiveOrder → Type 0
AreOptions rows archive = FormIs rows archive.form × LimitsAre rows archive.limits
    × FlagIs rows (codes "keep-going") archive.keep_going

-- In `rows`, the options of `annotate` have the values in `annotate`.
abbrev pub AnnotateIs : List Row → AnnotateOrder → Type 0
AnnotateIs rows annotate = FormIs rows annotate.form × LimitsAre rows annotate.limits
    × FlagIs rows (codes "summary") annotate.summary

-- In `rows`, the options of `uniq` have the values in `uniq`.
abbrev pub UniqIs : List Row → UniqOrder → Type 0
UniqIs rows uniq = FormIs rows uniq.form × LimitsAre rows uniq.limits
    × FlagIs rows (codes "keep-going") uniq.keep_going × FlagIs rows (codes "count") uniq.count

-- In `rows`, the options of `filter` have the values in `filter`.
abbrev pub FilterIs : List Row → FilterOrder → Type 0
FilterIs rows filter = FormIs rows filter.form × LimitsAre rows filter.limits
    × FlagIs rows (codes "keep-going") filter.keep_going × FlagIs rows (codes "canonical") filter.canonical

-- In `rows`, the options of `cmp` have the values in `cmp`, whose form is not `bare`.
abbrev pub CmpIs : List Row → CmpOrder → Type 0
CmpIs rows cmp = FormIs rows (form_of cmp.form) × LimitsAre rows cmp.limits

-- The default limits, but with `words` as the limit on the words of a message.
abbrev pub usual_with : ℕ → Bounds
usual_with words = record { message_words = words; budget = 8388608; depth = 64; tariff = tariffs.Strict }

-- In `rows`, the options of `pick` have the values in `pick`, whose form is not `bare`. `--only` is not given, and all
-- limits but `--message-words` are the defaults.
abbrev pub PickIs : List Row → Pick → Type 0
PickIs rows pick = FormIs rows (form_of pick.form)
    × NumberIn rows (codes "message-words") 1 most_message_words pick.limits.message_words
    × (pick.limits ≡ usual_with pick.limits.message_words)
    × NumberIn rows (codes "from") 1 most_number pick.from
    × NumberIn rows (codes "to") 1 most_number pick.to
    × (first_of (codes "only") rows ≡ None)

-- The name of the subcommand for a task.
abbrev pub task_name : Task → Text
task_name tasks.List = codes "list"
task_name tasks.Digests = codes "list"
task_name tasks.Limits = codes "limits"
task_name tasks.Canonical = codes "canonical"

-- In `rows`, `--digest` is given for `Digests` and not given for `List`, and `--framed` is given for `Canonical`.
-- `Limits` depends on no flag.
abbrev pub TaskIs : List Row → Task → Type 0
TaskIs rows tasks.List = FlagIs rows (codes "digest") false
TaskIs rows tasks.Digests = FlagIs rows (codes "digest") true
TaskIs rows tasks.Limits = ⊤
TaskIs rows tasks.Canonical = FlagIs rows (codes "framed") true

-- In `rows`, `--only` has the value `list`, which is a list of ascending numbers and ranges. Neither `--from` nor
-- `--to` is given.
abbrev pub ListIs : List Row → Text → Type 0
ListIs rows list = (first_of (codes "only") rows ≡ Some list) × IsSome (ranges_in list)
    × IsUsual rows (codes "from") × IsUsual rows (codes "to")

-- In `rows`, the options of `pick` have the values in `only`, and `--only` is given. All limits but `--message-words`
-- are the defaults.
abbrev pub OnlyIs : List Row → Only → Type 0
OnlyIs rows only = FormIs rows (form_of only.form)
    × NumberIn rows (codes "message-words") 1 most_message_words only.limits.message_words
    × (only.limits ≡ usual_with only.limits.message_words)
    × ListIs rows only.list.now

-- The message number is the value of `--number`, or `None` if `--number` is not given.
abbrev pub IsNumbered : List Row → Option ℕ → Type 0
IsNumbered rows None = first_of (codes "number") rows ≡ None
IsNumbered rows (Some n) = (text : Text) × (first_of (codes "number") rows ≡ Some text) × (number_of text ≡ Some n)

-- In `rows`, the options of `explain` have the values in `explain`.
abbrev pub ExplainIs : List Row → Explain → Type 0
ExplainIs rows explain = FormIs rows explain.form × LimitsAre rows explain.limits × IsNumbered rows explain.number

-- In `rows`, `--form` and the limits have the values in `refused`, and `--number` is not given.
abbrev pub RefusedIs : List Row → ExplainRefused → Type 0
RefusedIs rows refused =
    FormIs rows refused.form × LimitsAre rows refused.limits × (first_of (codes "number") rows ≡ None)

-- In `rows`, the options of `explain` have the values in the explanation. `--keep-going` is given for `Refused`, and
-- not given for `One`.
abbrev pub ExplanationIs : List Row → Explanation → Type 0
ExplanationIs rows (explanations.One explain) = ExplainIs rows explain × FlagIs rows (codes "keep-going") false
ExplanationIs rows (explanations.Refused refused) = RefusedIs rows refused × FlagIs rows (codes "keep-going") true

-- In `rows`, the options of `make` have the values in `make`.
abbrev pub MakeIs : List Row → Make → Type 0
MakeIs rows make = FormIs rows make.form × FlagIs rows (codes "text") make.quoted

-- The name of the subcommand for a flow.
abbrev pub flow_name : Flow → Text
flow_name flows.Pack = codes "pack"
flow_name flows.Unpack = codes "unpack"

-- In `rows`, `--streaming` is given. For `Unpack`, `--message-words` is not given.
abbrev pub FlowIs : List Row → Flow → Type 0
FlowIs rows flows.Pack = FlagIs rows (codes "streaming") true
FlowIs rows flows.Unpack = FlagIs rows (codes "streaming") true × IsUsual rows (codes "message-words")

-- The style for the flags `--text` and `--json`.
abbrev pub style_for : Bool → Bool → Style
style_for false false = styles.Lines
style_for true false = styles.Quoted
style_for false true = styles.Json
style_for true true = styles.JsonText

-- The style that the flags `--text` and `--json` in `rows` mean, if the command has these flags.
abbrev pub style_in : List Row → Option Style
style_in rows =
    option_and_then (λ text. option_map (style_for text) (flag_in rows (codes "json"))) (flag_in rows (codes "text"))

-- `style` is the style that the flags in `rows` mean.
abbrev pub StyleIs : List Row → Style → Type 0
StyleIs rows style = style_in rows ≡ Some style

-- `offsets` and `ways` say whether the flags of these names are given in `rows`. If `style` has no lines, neither is
-- given.
abbrev pub MarksAre : List Row → Style → Bool → Bool → Type 0
MarksAre rows style offsets ways = FlagIs rows (codes "offsets") offsets × FlagIs rows (codes "ways") ways
    × (has_lines style || not (offsets || ways) ≡ true)

-- True if `style` has lines and no quotes, and neither `offsets` nor `ways` is true.
abbrev pub is_plain : Style → Bool → Bool → Bool
is_plain style offsets ways = has_lines style && (not (is_quoted style) && not (offsets || ways))

-- If the last argument is `Some path`, `path` is the value of `--at` in `rows`, and `path_of` gives its numbers. If the
-- last argument is `None`, `--at` is not given, and `plain` is false.
abbrev pub PathIs : List Row → Bool → Option (Bor Text) → Type 0
PathIs rows plain None = (first_of (codes "at") rows ≡ None) × (plain ≡ false)
PathIs rows plain (Some path) = (first_of (codes "at") rows ≡ Some path.now) × IsSome (path_of path.now)

-- In `rows`, the options of `show` have the values in `show`, and at least one of `--at`, `--text`, `--json`,
-- `--offsets` and `--ways` is given.
abbrev pub ShowIs : List Row → Show → Type 0
ShowIs rows show = FormIs rows show.form × LimitsAre rows show.limits × StyleIs rows show.style
    × MarksAre rows show.style show.offsets show.ways
    × PathIs rows (is_plain show.style show.offsets show.ways) show.path
    × FlagIs rows (codes "one") show.one

-- The name of the subcommand that writes the given kind of text for a message.
abbrev pub text_name : MessageText → Text
text_name pieces.Text = codes "show"
text_name pieces.Price = codes "check"
text_name pieces.Digest = codes "hash"

-- The name of the subcommand of a command over messages or bytes.
abbrev pub command_name : Command → Text
command_name (commands.Show form limits) = codes "show"
command_name (commands.Check form limits) = codes "check"
command_name commands.Pack = codes "pack"
command_name (commands.Unpack most) = codes "unpack"
command_name (commands.Canonical form limits) = codes "canonical"
command_name (commands.Hash form limits) = codes "hash"
command_name (commands.One piece form limits) = text_name piece

-- In `rows`, the form and the limits are `form` and `limits`, and `one` says whether `--one` is given.
abbrev pub InputIs : List Row → Form → Bounds → Bool → Type 0
InputIs rows form limits one = FormIs rows form × LimitsAre rows limits × FlagIs rows (codes "one") one

-- In `rows`, the form, the limits and `--one` have the values in the command, as far as the command has them.
abbrev pub CommandIs : List Row → Command → Type 0
CommandIs rows (commands.Show form limits) = InputIs rows form limits false
CommandIs rows (commands.Check form limits) = InputIs rows form limits false
CommandIs rows commands.Pack = ⊤
CommandIs rows (commands.Unpack most) = UnpackedIs rows most
CommandIs rows (commands.Canonical form limits) = FormIs rows form × LimitsAre rows limits
CommandIs rows (commands.Hash form limits) = InputIs rows form limits false
CommandIs rows (commands.One piece form limits) = InputIs rows form limits true

-- The subcommand is that of `command`, and `CommandIs` holds for the options.
abbrev pub Means : Option (Text × List Row) → Command → Type 0
Means None command = ⊥
Means (Some s) command = (s.0 ≡ command_name command) × CommandIs s.1 command

-- No option in `rows` turns the command into another invocation. The options that do are `--at` and each flag but
-- `--one` for `show`, `--streaming` for `pack` and `unpack`, and `--framed` and `--keep-going` for `canonical`.
abbrev pub HasNoFlag : List Row → Command → Type 0
HasNoFlag rows (commands.Show form limits) = (first_of (codes "at") rows ≡ None) × StyleIs rows styles.Lines
    × MarksAre rows styles.Lines false false
HasNoFlag rows (commands.Check form limits) = ⊤
HasNoFlag rows commands.Pack = FlagIs rows (codes "streaming") false
HasNoFlag rows (commands.Unpack most) = FlagIs rows (codes "streaming") false
HasNoFlag rows (commands.Canonical form limits) =
    FlagIs rows (codes "framed") false × FlagIs rows (codes "keep-going") false
HasNoFlag rows (commands.Hash form limits) = ⊤
HasNoFlag rows (commands.One pieces.Text form limits) = (first_of (codes "at") rows ≡ None)
    × StyleIs rows styles.Lines × MarksAre rows styles.Lines false false
HasNoFlag rows (commands.One pieces.Price form limits) = ⊤
HasNoFlag rows (commands.One pieces.Digest form limits) = ⊤

-- The name of the subcommand of an invocation.
abbrev pub name_of : Invocation → Text
name_of (invocations.Message command) = command_name command
name_of (invocations.Show show) = codes "show"
name_of (invocations.Explain explain) = codes "explain"
name_of (invocations.Annotate annotate) = codes "annotate"
name_of (invocations.Archive archive) = task_name archive.task
name_of (invocations.Uniq uniq) = codes "uniq"
name_of (invocations.Filter filter) = codes "filter"
name_of (invocations.Cmp cmp) = codes "cmp"
name_of (invocations.Pick pick) = codes "pick"
name_of (invocations.Only only) = codes "pick"
name_of (invocations.Flow flow) = flow_name flow
name_of (invocations.Make make) = codes "make"

-- In `rows`, the options of the subcommand have the values in the invocation.
abbrev pub HasOptions : List Row → Invocation → Type 0
HasOptions rows (invocations.Message command) = CommandIs rows command × HasNoFlag rows command
HasOptions rows (invocations.Show show) = ShowIs rows show
HasOptions rows (invocations.Explain explain) = ExplanationIs rows explain
HasOptions rows (invocations.Annotate annotate) = AnnotateIs rows annotate
HasOptions rows (invocations.Archive archive) = TaskIs rows archive.task × AreOptions rows archive
HasOptions rows (invocations.Uniq uniq) = UniqIs rows uniq
HasOptions rows (invocations.Filter filter) = FilterIs rows filter
HasOptions rows (invocations.Cmp cmp) = CmpIs rows cmp
HasOptions rows (invocations.Pick pick) = PickIs rows pick
HasOptions rows (invocations.Only only) = OnlyIs rows only
HasOptions rows (invocations.Flow flow) = FlowIs rows flow
HasOptions rows (invocations.Make make) = MakeIs rows make

-- The subcommand is that of `invocation`, and `HasOptions` holds for the options.
abbrev pub MeansInvocation : Option (Text × List Row) → Invocation → Type 0
MeansInvocation None invocation = ⊥
MeansInvocation (Some s) invocation = (s.0 ≡ name_of invocation) × HasOptions s.1 invocation

-- If a subcommand and its options mean the command `c` and also mean `d`, then `c` is `d`.
abbrev pub MeansOne : Type 0
MeansOne = (said : Option (Text × List Row)) (c d : Command) → Means said c → Means said d → c ≡ d

-- Both arguments are `None`, or both are paths with equal texts.
abbrev pub IsSamePath : Option (Bor Text) → Option (Bor Text) → Type 0
IsSamePath None None = ⊤
IsSamePath None (Some path) = ⊥
IsSamePath (Some path) None = ⊥
IsSamePath (Some path) (Some other) = path.now ≡ other.now

-- Two invocations are equal. Paths of `show` and lists of `pick --only` are compared only by their texts.
abbrev pub AreSame : Invocation → Invocation → Type 0
AreSame (invocations.Show s) (invocations.Show t) =
    (s.form ≡ t.form) × (s.limits ≡ t.limits) × (s.style ≡ t.style) × (s.offsets ≡ t.offsets) × (s.ways ≡ t.ways)
    × IsSamePath s.path t.path × (s.one ≡ t.one)
AreSame (invocations.Only s) (invocations.Only t) =
    (s.form ≡ t.form) × (s.limits ≡ t.limits) × (s.list.now ≡ t.list.now)
AreSame o p = o ≡ p

-- If a subcommand and its options mean the invocation `o` and also mean `p`, then `AreSame o p` holds.
abbrev pub MeansOneInvocation : Type 0
MeansOneInvocation =
    (said : Option (Text × List Row)) (o p : Invocation) → MeansInvocation said o → MeansInvocation said p → AreSame o p
