-- Lemmas for `command_line.rt`, `explain_options.rt` and `show_options.rt`: which options have valid values in rows
-- that mean an invocation of `list`, `check`, `hash`, `pack`, `show` or `explain`.
use Rattle.std.proofs.Common.{◌≡◌, ◌⊎◌, inl, inr, Bor, List, Bool, true, false, Option, Some, None, IsSome, codes, refl}
use Rattle.clap.specs.Words.{Row, Text, first_of}
use Rattle.capn_walk.specs.Limits.{Bounds}
use Rattle.capn_canon.specs.declared.form.Form.{Form}
use Rattle.capn_args.specs.OptionValues.{FlagIs, FormIs, LimitsAre}
use Rattle.capn_args.specs.Meaning.{AreOptions, ExplanationIs, InputIs, MarksAre, MeansInvocation, PathIs, StyleIs}
use Rattle.capn_args.specs.Meaning.{TaskIs, is_plain, task_name}
use Rattle.capn_archive.specs.declared.task.ArchiveOrder.{ArchiveOrder}
use Rattle.capn_archive.specs.declared.task.Task.{Task}
use Rattle.capn_archive.specs.declared.task.Task.TheVariants as tasks
use Rattle.capn_show.specs.declared.style.Style.{Style}
use Rattle.capn_show.specs.declared.style.Style.TheVariants as styles
use Rattle.capn_args.specs.Path.{path_of}
use Rattle.capn_args.specs.declared.invocation.Explanation.{Explanation}
use Rattle.capn_args.specs.declared.invocation.Explanation.TheVariants as explanations
use Rattle.capn_args.specs.declared.invocation.Invocation.{Invocation}
use Rattle.capn_args.proofs.ByName.{differ}
use Rattle.capn_args.proofs.OneInvocation.{by_name}

digest_given : (rows : List Row) (t : Task) → task_name t ≡ codes "list" → TaskIs rows t
    → (given : Bool) × FlagIs rows (codes "digest") given
digest_given rows tasks.List e is = (false, is)
digest_given rows tasks.Digests e is = (true, is)
digest_given rows t e is = absurd (differ e refl)

-- `rows` have the options of a run over an archive, and a value of `--digest`.
abbrev pub ListMeans : List Row → Type 0
ListMeans rows = (a : ArchiveOrder) × ((digest : Bool) × FlagIs rows (codes "digest") digest) × AreOptions rows a

pub list_means : (rows : List Row) (o : Invocation) → MeansInvocation (Some (codes "list", rows)) o → ListMeans rows
list_means rows o m =
    let (a, is, are, named, also) = by_name (codes "list") rows o m in (a, digest_given rows a.task named is, are)

-- `rows` have a form, limits and a value of `--one`.
abbrev pub SurveyMeans : List Row → Type 0
SurveyMeans rows = (form : Form) × (limits : Bounds) × (one : Bool) × InputIs rows form limits one

pub check_means : (rows : List Row) (o : Invocation) → MeansInvocation (Some (codes "check", rows)) o → SurveyMeans rows
check_means rows o m =
    let (c, (form, limits, one, are, is), any, also) = by_name (codes "check") rows o m in (form, limits, one, are)

pub hash_means : (rows : List Row) (o : Invocation) → MeansInvocation (Some (codes "hash", rows)) o → SurveyMeans rows
hash_means rows o m =
    let (c, (form, limits, one, are, is), any, also) = by_name (codes "hash") rows o m in (form, limits, one, are)

pub pack_means : (rows : List Row) (o : Invocation) → MeansInvocation (Some (codes "pack", rows)) o
    → (given : Bool) × FlagIs rows (codes "streaming") given
pack_means rows o m = elim (by_name (codes "pack") rows o m) [
  | inl (c, are, whole, is) ↦ (false, whole)
  | inr (x, streaming, is) ↦ (true, streaming)
]

-- `rows` have a form, limits, a style, marks, a value of `--one`, and a path or none.
pub record ShowMeans (rows : List Row) : Type 0 where
  pub form : Form
  pub limits : Bounds
  pub style : Style
  pub offsets : Bool
  pub ways : Bool
  pub one : Bool
  pub form_is : FormIs rows form
  pub limits_are : LimitsAre rows limits
  pub style_is : StyleIs rows style
  pub marks_are : MarksAre rows style offsets ways
  pub one_is : FlagIs rows (codes "one") one
  pub path : (first_of (codes "at") rows ≡ None)
      ⊎ ((text : Text) × (first_of (codes "at") rows ≡ Some text) × IsSome (path_of text))

path_means : (rows : List Row) (plain : Bool) (path : Option (Bor Text)) → PathIs rows plain path
    → (first_of (codes "at") rows ≡ None)
    ⊎ ((text : Text) × (first_of (codes "at") rows ≡ Some text) × IsSome (path_of text))
path_means rows plain None is = inl is.0
path_means rows plain (Some path) is = inr (path.now, is.0, is.1)

pub show_means : (rows : List Row) (o : Invocation) → MeansInvocation (Some (codes "show", rows)) o → ShowMeans rows
show_means rows o m = elim (by_name (codes "show") rows o m) [
  | inl (c, (form, limits, one, (named, are, given), is), (none, lines, marks), also) ↦ (record {
    form = form;
    limits = limits;
    style = styles.Lines;
    offsets = false;
    ways = false;
    one = one;
    form_is = named;
    limits_are = are;
    style_is = lines;
    marks_are = marks;
    one_is = given;
    path = inl none;
  })
  | inr (s, (form, limits, style, marks, path, one), is) ↦ (record {
    form = s.form;
    limits = s.limits;
    style = s.style;
    offsets = s.offsets;
    ways = s.ways;
    one = s.one;
    form_is = form;
    limits_are = limits;
    style_is = style;
    marks_are = marks;
    one_is = one;
    path = path_means rows (is_plain s.style s.offsets s.ways) s.path path;
  })
]

pub explained_flag : (rows : List Row) (x : Explanation) → ExplanationIs rows x
    → (given : Bool) × FlagIs rows (codes "keep-going") given
explained_flag rows (explanations.One x) is = (false, is.1)
explained_flag rows (explanations.Refused x) is = (true, is.1)
