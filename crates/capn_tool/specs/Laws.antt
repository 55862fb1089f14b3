-- Laws of the definitions, without any function. (Our own.)
use Rattle.std.specs.Prelude.{◌≡◌, ℕ, List, Bool, Result}
use Rattle.capn_serve.specs.FormRun.{AreMessages}
use Rattle.capn_serve.specs.StreamRun.{first_run}
use Rattle.capn_serve.specs.declared.service.Run.{Run}
use Rattle.capn_serve.specs.declared.fault.RunFault.{RunFault}
use Rattle.capn_serve.specs.declared.pick.StreamForm.{StreamForm}
use Rattle.capn_commands.specs.OneMessage.{RefusesOne, WritesOne}
use Rattle.capn_commands.specs.Text.{IsDueOf}
use Rattle.capn_commands.specs.declared.fault.ToolFault.{ToolFault}
use Rattle.capn_commands.specs.PartTexts.{refuses, serves}
use Rattle.capn_commands.specs.ShowRun.{part_fold}
use Rattle.capn_commands.specs.declared.part_texts.PartTexts.{PartTexts}
use Rattle.capn_tool.specs.PartRun.{Follows}
use Rattle.capn_args.specs.declared.invocation.Show.{Show}

-- The options `show`, the `path` and the `input` determine the text that `show` writes and the result of the run.
abbrev pub OneShown : Type 0
OneShown = (show : Show) (path : List ℕ) (p q : PartTexts) → Follows show path p → Follows show path q
    → (input t u : List ℕ) (r s : Result (Unit {0}) RunFault) (y z : Run PartTexts)
    → AreMessages (part_fold show.limits.message_words) (first_run p) show.form input t r y
    → AreMessages (part_fold show.limits.message_words) (first_run q) show.form input u s z → (t ≡ u) × (r ≡ s)

-- A run of the service `p` over `input` writes `text` and ends with `ending`. `input` has to be exactly one message in
-- a frame.
abbrev pub IsShownAlone : PartTexts → ℕ → StreamForm → List ℕ → Bool → List ℕ → Result (Unit {0}) ToolFault → Type 0
IsShownAlone p most frame input is_longer text ending =
    IsDueOf (WritesOne serves refuses p most frame) (RefusesOne serves refuses p most frame) input is_longer text ending

-- The options `show`, the `path` and an `input` of exactly one message determine the text that `show` writes and the
-- result of the run.
abbrev pub OneShownAlone : Type 0
OneShownAlone = (show : Show) (path : List ℕ) (p q : PartTexts) → Follows show path p → Follows show path q
    → (frame : StreamForm) (input : List ℕ) (is_longer : Bool) (t u : List ℕ) (r s : Result (Unit {0}) ToolFault)
    → IsShownAlone p show.limits.message_words frame input is_longer t r
    → IsShownAlone q show.limits.message_words frame input is_longer u s → (t ≡ u) × (r ≡ s)
