-- The effect of a run that shows messages or parts of them, in a style or with marks. (Our own.)
use Rattle.std.specs.Prelude.{◌≡◌, ◌⊎◌, ℕ, List, Bool, true, false, Option, Some, None, Result, Ok, Err, is_some}
use Rattle.capn_canon.specs.declared.form.Form.{Form}
use Rattle.capn_canon.specs.declared.form.Form.TheVariants as forms
use Rattle.capn_serve.specs.declared.fault.RunFault.{RunFault}
use Rattle.capn_serve.specs.declared.pick.StreamForm.{StreamForm}
use Rattle.capn_serve.specs.declared.pick.StreamForm.TheVariants as streams
use Rattle.capn_commands.specs.PartTexts.{refuses, serves}
use Rattle.capn_commands.specs.ShowRun.{Shown}
use Rattle.capn_commands.specs.declared.part_texts.PartTexts.{PartTexts}
use Rattle.capn_commands.specs.CommandRun.{unplaced}
use Rattle.capn_commands.specs.OneMessage.{RefusesOne, WritesOne}
use Rattle.capn_commands.specs.WholeRun.{RunsWhole}
use Rattle.capn_commands.specs.declared.fault.ToolFault.{ToolFault}
use Rattle.capn_commands.specs.declared.fault.ToolFault.TheVariants as faults
use Rattle.capn_args.specs.Path.{numbers_of}
use Rattle.capn_args.specs.declared.invocation.Show.{Show}

-- The result of a run over messages, without the position of a refused message.
abbrev pub unplaced_end : Result (Unit {0}) RunFault → Result (Unit {0}) ToolFault
unplaced_end (Ok u) = Ok u
unplaced_end (Err fault) = Err (unplaced fault)

-- `service` has the path `path`, and its other options are those of `show`.
pub record Follows (show : Show) (path : List ℕ) (service : PartTexts) : Type 0 where
  pub numbers : service.path.now ≡ path
  pub form : service.form ≡ show.form
  pub limits : service.limits ≡ show.limits
  pub style : service.style ≡ show.style
  pub offsets : service.offsets ≡ show.offsets
  pub ways : service.ways ≡ show.ways

-- A service with the path `path` and the options of `show` showed the messages of an input. `r` is the result of that
-- run, without the position of a refused message.
pub record Served (show : Show) (path : List ℕ) (a b c d : Option (List ℕ)) (reader_failed writer_failed : Bool)
    (r : Result (Unit {0}) ToolFault) : Type 0 where
  pub service : PartTexts
  pub follows : Follows show path service
  pub ending : Result (Unit {0}) RunFault
  pub shown : Shown service a b c d reader_failed writer_failed ending
  pub is : r ≡ unplaced_end ending

-- A service with the path `path` and the options of `show` showed the one message of an input, with the result `r`. The
-- frame of the message has to be the complete input.
pub record ServedOne (show : Show) (frame : StreamForm) (path : List ℕ) (a b c d : Option (List ℕ))
    (reader_failed writer_failed : Bool) (r : Result (Unit {0}) ToolFault) : Type 0 where
  pub service : PartTexts
  pub follows : Follows show path service
  pub shown : RunsWhole (WritesOne serves refuses service show.limits.message_words frame)
      (RefusesOne serves refuses service show.limits.message_words frame) a b c d reader_failed writer_failed r

-- If the first argument is `true`, exactly one message is to be shown. Then the result is the encoding of its frame, or
-- `None` for the form `Bare`. If the first argument is `false`, the result is `None`.
abbrev pub one_frame : Bool → Form → Option StreamForm
one_frame false form = None
one_frame true forms.Stream = Some streams.Stream
one_frame true forms.Packed = Some streams.Packed
one_frame true forms.Bare = None

-- For `None`, a service showed the messages of the input. For `Some frame`, a service showed the one message of the
-- input.
abbrev pub ServedBy : Option StreamForm → Show → List ℕ → Option (List ℕ) → Option (List ℕ) → Option (List ℕ)
    → Option (List ℕ) → Bool → Bool → Result (Unit {0}) ToolFault → Type 0
ServedBy None show path a b c d reader_failed writer_failed r = Served show path a b c d reader_failed writer_failed r
ServedBy (Some frame) show path a b c d reader_failed writer_failed r =
    ServedOne show frame path a b c d reader_failed writer_failed r

-- A path is given, memory was refused for the numbers of that path, and nothing was read or written.
abbrev pub NeedsMemory : Show → Option (List ℕ) → Option (List ℕ) → Option (List ℕ) → Option (List ℕ) → Bool → Bool
    → Result (Unit {0}) ToolFault → Type 0
NeedsMemory show a b c d reader_failed writer_failed r = (is_some show.path ≡ true) × (r ≡ Err faults.Memory)
    × (b ≡ a) × (d ≡ c) × (reader_failed ≡ false) × (writer_failed ≡ false)

-- The effect of a run of `show` with the result `r`, if `show.path` is a path or `None`. Memory was refused for the
-- numbers of the path, or the values at the path were shown.
abbrev pub PartsShown : Show → Option (List ℕ) → Option (List ℕ) → Option (List ℕ) → Option (List ℕ) → Bool → Bool
    → Result (Unit {0}) ToolFault → Type 0
PartsShown show a b c d reader_failed writer_failed r = (path : List ℕ) → numbers_of show.path ≡ Some path
    → NeedsMemory show a b c d reader_failed writer_failed r
    ⊎ ServedBy (one_frame show.one show.form) show path a b c d reader_failed writer_failed r
