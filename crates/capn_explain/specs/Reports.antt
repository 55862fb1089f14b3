-- The state of a run that explains messages, and the text about each message. (Our own.)
use Rattle.std.specs.Prelude.{◌≡◌, ◌⊎◌, ℕ, ◌+◌, ◌<◌, nat_lt, List, [], ◌++◌, codes, Bool, true, false}
use Rattle.std.specs.Prelude.{Option, Some, None, Result, Ok, Err, refl, ⊤}
use Rattle.capn_words.specs.declared.memory.Memory.{Memory}
use Rattle.capn_walk.specs.Limits.{Bounds}
use Rattle.capn_walk.specs.Accepted.{IsAccepted, IsWalkRefused}
use Rattle.capn_walk.specs.declared.walk_answer.Stopped.{Stopped}
use Rattle.capn_canon.specs.declared.form.Form.{Form}
use Rattle.capn_canon.specs.declared.refusal.Refusal.{Refusal}
use Rattle.capn_serve.specs.declared.position.Position.{Position}
use Rattle.capn_serve.specs.declared.fault.ServeFault.{ServeFault}
use Rattle.capn_serve.specs.declared.fault.ServeFault.TheVariants as faults
use Rattle.capn_serve.specs.declared.skipped.SkippedSoFar.{SkippedSoFar}
use Rattle.capn_serve.specs.Skipped.{one_more}
use Rattle.capn_diagnostics.specs.Refusal.{IsRefusalTold}
use Rattle.capn_mismatch.specs.Mismatches.{HasMismatch}
use Rattle.capn_serve.specs.Table.{table_words}
use Rattle.capn_explain.specs.Accounts.{IsAccountText, account_text}
use Rattle.capn_explain.specs.declared.account.Account.{Account}
use Rattle.capn_explain.specs.declared.explain.Explain.{Explain}
use Rattle.capn_explain.specs.declared.explain_refused.ExplainRefused.{ExplainRefused}
use Rattle.capn_explain.specs.declared.order.Order.{Order}
use Rattle.capn_explain.specs.declared.order.Wanted.{Wanted}
use Rattle.capn_explain.specs.declared.order.Wanted.TheVariants as wants
use Rattle.capn_explain.specs.declared.outcome.Outcome.{Outcome}
use Rattle.capn_explain.specs.declared.outcome.Outcome.TheVariants as outcomes

-- ---- the options

-- The message that a run explains: the one with the `number`, if a number is given, and otherwise the first refused
-- one.
abbrev pub wanted_of : Option ℕ → Wanted
wanted_of (Some number) = wants.Number number
wanted_of None = wants.First

-- The options of a run that explains one message.
abbrev pub order_of : Explain → Order
order_of explain = record { form = explain.form; limits = explain.limits; wanted = wanted_of explain.number }

-- The options of a run that explains every refused message.
abbrev pub each_of : ExplainRefused → Order
each_of refused = record { form = refused.form; limits = refused.limits; wanted = wants.Each }

-- ---- the state

-- The lines of the account of the first message, or `Memory` if an allocation was refused for the account.
abbrev pub First : Type 0
First = Result (List ℕ) Memory

-- The state of a reporter: its options, the outcome and the lines that are kept of an explained message, and the
-- account of the first message.
pub record Reporting : Type 0 where
  pub order : Order
  pub outcome : Outcome
  pub lines : List ℕ
  pub first : Option First

-- The state of a reporter before the first message.
abbrev pub first_reporting : Order → Reporting
first_reporting order = record { order = order; outcome = outcomes.Nothing; lines = []; first = None }

-- The account of the first message, if there is one, replaced by its lines. `Err memory` is unchanged.
abbrev pub lines_first : {A : Type 0} → Option (Result (Account A) Memory) → Option First
lines_first (Some (Ok account)) = Some (Ok (account_text account))
lines_first (Some (Err memory)) = Some (Err memory)
lines_first None = None

-- ---- one message

-- True if a `number` is given, and the message at `at` is before the message with that number, counted from 1.
abbrev pub is_before : Position → Wanted → Bool
is_before at (wants.Number number) = nat_lt (at.index + 1) number
is_before at wants.First = false
is_before at wants.Each = false

-- The walk of `message` stops with `stopped`, and `text` is the lines that explain this refused message.
abbrev pub IsTold : Order → Position → List (List ℕ) → Stopped → List ℕ → Type 0
IsTold order at message stopped text =
    IsRefusalTold message order.limits at.index at.offset (table_words order.form message) stopped text

-- If `message` is the first of the input, the last argument is the lines of its account, or `Memory`. `Memory` is
-- possible only if `message` differs from its canonical bytes. For a later message the last argument is `None`.
abbrev pub IsFirst : Form → Position → List (List ℕ) → Bounds → Option First → Type 0
IsFirst form at message limits (Some (Ok text)) = (at.index ≡ 0) × IsAccountText form at message limits text
IsFirst form at message limits (Some (Err memory)) = (at.index ≡ 0) × HasMismatch message limits
IsFirst form at message limits None = 0 < at.index

-- `lines`, and then an empty line if every refused message is explained.
abbrev pub apart : Wanted → List ℕ → List ℕ
apart wants.Each lines = lines ++ codes "\n"
apart wants.First lines = lines
apart (wants.Number number) lines = lines

-- The text that is written during the loop for a refused message that `lines` explain. It is empty if the lines are
-- kept until the end.
abbrev pub refused_text : Wanted → List ℕ → List ℕ
refused_text wants.Each lines = lines ++ codes "\n"
refused_text wants.First lines = []
refused_text (wants.Number number) lines = []

-- ---- from one state to the next

-- The count of the explained messages, if every refused message is explained and there are any so far.
abbrev pub skipped_in : Outcome → Option SkippedSoFar
skipped_in (outcomes.Skipped skipped) = Some skipped
skipped_in outcomes.Nothing = None
skipped_in (outcomes.Refused at stopped) = None
skipped_in outcomes.Accepted = None

-- The state `s` with `outcome` and `lines` for the message that was explained.
abbrev pub with_outcome : Reporting → Outcome → List ℕ → Reporting
with_outcome s outcome lines = record { order = s.order; outcome = outcome; lines = lines; first = s.first }

-- The state `s` with the message at `at` counted as explained, and with no `first`.
abbrev pub with_one_more : Reporting → Position → Reporting
with_one_more s at = record {
  order = s.order;
  outcome = outcomes.Skipped (one_more (skipped_in s.outcome) at);
  lines = s.lines;
  first = None;
}

-- The state `s` with `first` as the account of the first message.
abbrev pub with_first : Reporting → Option First → Reporting
with_first s first = record { order = s.order; outcome = s.outcome; lines = s.lines; first = first }

-- The state after the message at `at`, whose walk stopped with `stopped`, and which `lines` explain. If every refused
-- message is explained, the message is counted. Otherwise its lines are kept, with the outcome `Refused at stopped`.
abbrev pub after_refused : Wanted → Reporting → Position → Stopped → List ℕ → Reporting
after_refused wants.Each s at stopped lines = with_one_more s at
after_refused wants.First s at stopped lines = with_outcome s (outcomes.Refused at stopped) lines
after_refused (wants.Number number) s at stopped lines = with_outcome s (outcomes.Refused at stopped) lines

-- `message` is refused, and `lines` explain it. `text` and the state `t` are the ones that `refused_text` and
-- `after_refused` give for the options in `s`.
abbrev pub TellsRefused : Reporting → Position → List (List ℕ) → List ℕ → Reporting → Type 0
TellsRefused s at message text t =
    (stopped : Stopped) × (lines : List ℕ) × IsTold s.order at message stopped lines
    × (text ≡ refused_text s.order.wanted lines) × (t ≡ after_refused s.order.wanted s at stopped lines)

-- `message` is accepted, and `text` is empty. The state `t` is `s` with the outcome `Accepted` and the `lines` of the
-- account.
abbrev pub TellsAccount : Reporting → Position → List (List ℕ) → List ℕ → Reporting → Type 0
TellsAccount s at message text t =
    (lines : List ℕ) × IsAccountText s.order.form at message s.order.limits lines × (text ≡ [])
    × (t ≡ with_outcome s outcomes.Accepted lines)

-- `message` is accepted, and `text` is empty. The state `t` is `s` with the `first` that `IsFirst` gives for `message`.
abbrev pub TellsFirst : Reporting → Position → List (List ℕ) → List ℕ → Reporting → Type 0
TellsFirst s at message text t =
    (first : Option First) × IsAccepted message s.order.limits
    × IsFirst s.order.form at message s.order.limits first × (text ≡ []) × (t ≡ with_first s first)

-- `message` is accepted. If a number is given, `TellsAccount` holds, and otherwise `TellsFirst`.
abbrev pub TellsAcceptedBy : Wanted → Reporting → Position → List (List ℕ) → List ℕ → Reporting → Type 0
TellsAcceptedBy (wants.Number number) s at message text t = TellsAccount s at message text t
TellsAcceptedBy wants.First s at message text t = TellsFirst s at message text t
TellsAcceptedBy wants.Each s at message text t = TellsFirst s at message text t

-- `message` is accepted, as `TellsAcceptedBy` states for the options in `s`.
abbrev pub TellsAccepted : Reporting → Position → List (List ℕ) → List ℕ → Reporting → Type 0
TellsAccepted s at message text t = TellsAcceptedBy s.order.wanted s at message text t

-- If the first argument is `true`, `text` is empty, and `t` is `s`. If it is `false`, `message` is refused
-- (`TellsRefused`) or accepted (`TellsAccepted`).
abbrev pub ServesBy : Bool → Reporting → Position → List (List ℕ) → List ℕ → Reporting → Type 0
ServesBy true s at message text t = (text ≡ []) × (t ≡ s)
ServesBy false s at message text t = TellsRefused s at message text t ⊎ TellsAccepted s at message text t

-- `message` at `at` takes the state `s` to `t` and writes `text`. If `s.order` has a number, and `message` comes before
-- the message with that number, nothing changes (`ServesBy`).
abbrev pub serves : Reporting → Position → List ℕ → List (List ℕ) → List ℕ → Reporting → Type 0
serves s at frame message text t = ServesBy (is_before at s.order.wanted) s at message text t

-- Always false: no refused message ends the loop, because a refused message is explained.
abbrev pub refuses : Reporting → Position → List ℕ → List (List ℕ) → Refusal → Type 0
refuses s at frame message r = ⊥

-- True if the outcome is that the one message to explain has been explained.
abbrev pub is_explained : Outcome → Bool
is_explained outcomes.Nothing = false
is_explained (outcomes.Skipped skipped) = false
is_explained (outcomes.Refused at stopped) = true
is_explained outcomes.Accepted = true

-- True if the one message to explain has been explained, so that no further message is served.
abbrev pub done : Reporting → Position → Bool
done s at = is_explained s.outcome

-- ---- the results of calls

-- The walk of `message` within `limits` is refused.
abbrev pub IsStopped : List (List ℕ) → Bounds → Type 0
IsStopped message limits =
    (stopped : Stopped) × IsWalkRefused message limits stopped.fault stopped.place stopped.paid stopped.visits

-- A number is given, so that the message with that number is explained also if it is accepted.
abbrev pub HasNumber : Wanted → Type 0
HasNumber (wants.Number number) = ⊤
HasNumber wants.First = ⊥
HasNumber wants.Each = ⊥

-- Memory may be needed for the lines of `message`: a number is given, or the walk of `message` is refused.
abbrev pub MayNeedLines : Order → List (List ℕ) → Type 0
MayNeedLines order message = HasNumber order.wanted ⊎ IsStopped message order.limits

-- If the result is `Ok`, `tells` holds for the empty text and the state `t`. If it is a fault, the fault is `Memory`,
-- and `needs` holds.
abbrev pub Keeps : {S : Type 0} → (List ℕ → S → Type 0) → Type 0 → Result (Unit {0}) ServeFault → S → Type 0
Keeps tells needs (Ok u) t = tells [] t
Keeps tells needs (Err fault) t = (fault ≡ faults.Memory) × needs

-- If the result is `Ok`, `new` is `old` and then `text`. If it is a fault, the fault is `Memory`, and `new` is `old`.
abbrev pub PutsText : List ℕ → List ℕ → List ℕ → Result (Unit {0}) ServeFault → Type 0
PutsText text old new (Ok u) = new ≡ old ++ text
PutsText text old new (Err fault) = (fault ≡ faults.Memory) × (new ≡ old)

-- If the result is `Ok`, `new` is `old` and then the lines of the account of `message`. If it is a fault, the fault is
-- `Memory`, and `new` is `old`.
abbrev pub PutsAccount : Order → Position → List (List ℕ) → List ℕ → List ℕ → Result (Unit {0}) ServeFault → Type 0
PutsAccount order at message old new (Ok u) =
    (text : List ℕ) × IsAccountText order.form at message order.limits text × (new ≡ old ++ text)
PutsAccount order at message old new (Err fault) = (fault ≡ faults.Memory) × (new ≡ old)

-- If the result is `Ok`, `new` is `old` and then a `text`, and `tells` holds for `text` and the state `t`. If it is a
-- fault, the fault is `Memory`, `needs` holds, and `new` is `old`.
abbrev pub Puts : {S : Type 0} → (List ℕ → S → Type 0) → Type 0 → List ℕ → List ℕ → Result (Unit {0}) ServeFault → S
    → Type 0
Puts tells needs old new (Ok u) t = (text : List ℕ) × tells text t × (new ≡ old ++ text)
Puts tells needs old new (Err fault) t = (fault ≡ faults.Memory) × needs × (new ≡ old)

-- Examples of `is_before`.

second_before_third : is_before (record { index = 1; offset = 24 }) (wants.Number 3) ≡ true
second_before_third = refl

third_not_before : is_before (record { index = 2; offset = 48 }) (wants.Number 3) ≡ false
third_not_before = refl
