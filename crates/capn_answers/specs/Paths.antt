-- The path to the slot at which the walk of a message in any form stopped. (Our own.)
use Rattle.std.specs.Prelude.{◌≢◌, ℕ, List}
use Rattle.capn_walk.specs.Limits.{Bounds}
use Rattle.capn_walk.specs.declared.walk_answer.Stopped.{Stopped}
use Rattle.capn_path.specs.Paths.{IsRefusedAt}
use Rattle.capn_canon.specs.Reads.{Reads}
use Rattle.capn_canon.specs.Refusal.{IsMisread}
use Rattle.capn_canon.specs.declared.form.Form.{Form}
use Rattle.capn_canon.specs.declared.refusal.Refusal.{Refusal}
use Rattle.capn_canon.specs.declared.refusal.Refusal.TheVariants as refusals

-- `bs` are read as a message whose walk stops as `stopped` says. `path` leads to the slot at which the walk stops.
pub record IsStoppedIn (form : Form) (bs : List ℕ) (limits : Bounds) (stopped : Stopped) (path : List ℕ)
    : Type 0 where
  pub message : List (List ℕ)
  pub reads : Reads form bs limits.message_words message
  pub at : IsRefusedAt message limits stopped path

-- If `e` is not `Memory`, it says why `bs` are not read as a message.
abbrev pub IsUnread : Form → List ℕ → Bounds → Refusal → Type 0
IsUnread form bs limits e = e ≢ refusals.Memory → IsMisread form bs limits.message_words e
