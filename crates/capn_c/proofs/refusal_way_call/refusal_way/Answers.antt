-- The three cases of `refusal_way`: a message is accepted, or its walk is refused, or the bytes are not read.
use Rattle.std.proofs.Common.{ℕ, List, length, inr, ap, sym, subst, ◌∙◌, arith, Err}
use Rattle.std.specs.Bool.{IsTrue}
use Rattle.capn_walk.specs.Accepted.{IsBounded}
use Rattle.capn_answers.proofs.shared.Reading.{unread_unaccepted, unread_within}
use Rattle.capn_abi.specs.StatusCodes.{code, is_status}
use Rattle.capn_c.specs.PathNumbers.{TellsPath}
use Rattle.capn_abi.specs.declared.report.CapnReport.{CapnReport}
use Rattle.capn_c.proofs.Listed.{refused_listed}
use Rattle.capn_c.proofs.OutOfMemory.{unaccepted_memory, unaccepted_refused}
use Rattle.capn_c.proofs.PathTold.{stop_status, unread_status}
use Rattle.capn_c.proofs.Reported.{refusal_bounded}
use Rattle.capn_c.proofs.refusal_way_call.refusal_way.Goals as goal

-- ---- a message that is accepted

pub returns-in-Accepted-clause-found : goal.returns-in-Accepted-clause-found
returns-in-Accepted-clause-found g c e =
    (c.in-Accepted.surveyed, (rw c.in-Accepted.is at c.in-Ok.ensures.found), c.answer_of.ensures)

pub returns-in-Accepted-clause-bounded : goal.returns-in-Accepted-clause-bounded
returns-in-Accepted-clause-bounded g c =
    subst (λ (r : CapnReport). IsBounded c.args.limits.budget r.paid r.visits) (sym c.answer_of.ensures)
    (rw c.in-Accepted.is at c.in-Ok.ensures.bounded)

-- ---- a message whose walk stopped

pub tell_path-requires : goal.tell_path-requires
tell_path-requires g c =
    let few = (rw c.in-Refused.is at c.in-Ok.ensures.short) in
    omega (arith, few, ap length c.as_slice.ensures.value)

pub returns-in-Refused-clause-possible : goal.returns-in-Refused-clause-possible
returns-in-Refused-clause-possible g c =
    let f = c.in-Refused.refused in
    let much = stop_status c.args.form (g.B.AskedInput.bytes c.args.bytes) c.args.limits f.stopped f.path.items
    (rw c.in-Refused.is at c.in-Ok.ensures.found) in
    inr (omega (arith, much, c.tell_path.ensures.told.reports.status_is))

pub returns-in-Refused-clause-found : goal.returns-in-Refused-clause-found
returns-in-Refused-clause-found g c h =
    let f = c.in-Refused.refused in
    let much = stop_status c.args.form (g.B.AskedInput.bytes c.args.bytes) c.args.limits f.stopped f.path.items
    (rw c.in-Refused.is at c.in-Ok.ensures.found) in
    absurd (omega (arith, h, much, c.tell_path.ensures.told.reports.status_is))

pub returns-in-Refused-clause-only : goal.returns-in-Refused-clause-only
returns-in-Refused-clause-only g c v d =
    absurd (rw c.in-Refused.is at (c.in-Ok.ensures.only v d))

pub returns-in-Refused-clause-refused : goal.returns-in-Refused-clause-refused
returns-in-Refused-clause-refused g c e h =
    let f = c.in-Refused.refused in
    let much = stop_status c.args.form (g.B.AskedInput.bytes c.args.bytes) c.args.limits f.stopped f.path.items
    (rw c.in-Refused.is at c.in-Ok.ensures.found) in
    absurd (omega (arith, h, much, c.tell_path.ensures.told.reports.status_is))

pub returns-in-Refused-clause-told : goal.returns-in-Refused-clause-told
returns-in-Refused-clause-told g c h = (
  c.in-Refused.refused.stopped,
  c.in-Refused.refused.path.items,
  (rw c.in-Refused.is at c.in-Ok.ensures.found),
  subst (λ (x : List ℕ). TellsPath c.tell_path.result c.tell_path.new.report c.in-Refused.refused.stopped x
      c.args.way.now c.tell_path.new.room) c.as_slice.ensures.value c.tell_path.ensures.told,
)

pub returns-in-Refused-clause-short : goal.returns-in-Refused-clause-short
returns-in-Refused-clause-short g c h =
    let few = (rw c.in-Refused.is at c.in-Ok.ensures.short) in
    omega (arith, few, ap length c.as_slice.ensures.value, c.tell_path.ensures.told.long)

pub returns-in-Refused-clause-memory : goal.returns-in-Refused-clause-memory
returns-in-Refused-clause-memory g c h =
    let f = c.in-Refused.refused in
    let much = stop_status c.args.form (g.B.AskedInput.bytes c.args.bytes) c.args.limits f.stopped f.path.items
    (rw c.in-Refused.is at c.in-Ok.ensures.found) in
    absurd (omega (arith, h, much, c.tell_path.ensures.told.reports.status_is))

pub returns-in-Refused-clause-bounded : goal.returns-in-Refused-clause-bounded
returns-in-Refused-clause-bounded g c =
    let within = (rw c.in-Refused.is at c.in-Ok.ensures.bounded) in
    subst (λ (n : ℕ). IsBounded c.args.limits.budget n c.tell_path.new.report.visits) (sym c.tell_path.ensures.paid)
    (subst (λ (n : ℕ). IsBounded c.args.limits.budget c.in-Refused.refused.stopped.paid n)
    (sym c.tell_path.ensures.visits) within)

pub returns-in-Refused-clause-kept : goal.returns-in-Refused-clause-kept
returns-in-Refused-clause-kept g c h =
    let f = c.in-Refused.refused in
    let much = stop_status c.args.form (g.B.AskedInput.bytes c.args.bytes) c.args.limits f.stopped f.path.items
    (rw c.in-Refused.is at c.in-Ok.ensures.found) in
    absurd (omega (arith, h, much, c.tell_path.ensures.told.reports.status_is))

-- ---- bytes that are not read

pub returns-in-Err-clause-only : goal.returns-in-Err-clause-only
returns-in-Err-clause-only g c v d = inr (c.refuse.ensures.status_is ∙ ap code (c.in-Err.ensures.only v d))

pub returns-in-Err-clause-listed : goal.returns-in-Err-clause-listed
returns-in-Err-clause-listed g c =
    let unaccepted = unread_unaccepted c.args.form (g.B.AskedInput.bytes c.args.bytes) c.args.limits c.in-Err.refusal
    c.in-Err.ensures.refused in
    subst (λ (n : ℕ). IsTrue (is_status n)) (sym c.refuse.ensures.status_is)
    (refused_listed c.args.form (g.B.AskedInput.bytes c.args.bytes) c.args.limits c.in-Err.refusal
    (unaccepted_refused c.args.form (g.B.AskedInput.bytes c.args.bytes) c.args.limits c.in-Err.refusal unaccepted))

pub returns-in-Err-clause-refused : goal.returns-in-Err-clause-refused
returns-in-Err-clause-refused g c e h = (
  c.in-Err.refusal,
  c.refuse.ensures,
  unread_unaccepted c.args.form (g.B.AskedInput.bytes c.args.bytes) c.args.limits c.in-Err.refusal
      c.in-Err.ensures.refused,
)

pub returns-in-Err-clause-told : goal.returns-in-Err-clause-told
returns-in-Err-clause-told g c h =
    let less = unread_status c.args.form (g.B.AskedInput.bytes c.args.bytes) c.args.limits c.in-Err.refusal
    c.in-Err.ensures.refused in
    absurd (omega (arith, h, less, c.refuse.ensures.status_is))

pub returns-in-Err-clause-short : goal.returns-in-Err-clause-short
returns-in-Err-clause-short g c h =
    let less = unread_status c.args.form (g.B.AskedInput.bytes c.args.bytes) c.args.limits c.in-Err.refusal
    c.in-Err.ensures.refused in
    absurd (omega (arith, h, less, c.refuse.ensures.status_is))

pub returns-in-Err-clause-memory : goal.returns-in-Err-clause-memory
returns-in-Err-clause-memory g c e =
    let unaccepted = unread_unaccepted c.args.form (g.B.AskedInput.bytes c.args.bytes) c.args.limits c.in-Err.refusal
    c.in-Err.ensures.refused in
    c.in-Err.ensures.memory
    (ap Err
    (unaccepted_memory c.args.form (g.B.AskedInput.bytes c.args.bytes) c.args.limits c.in-Err.refusal unaccepted
    (sym c.refuse.ensures.status_is ∙ e)))

pub returns-in-Err-clause-bounded : goal.returns-in-Err-clause-bounded
returns-in-Err-clause-bounded g c =
    subst (λ (r : CapnReport). IsBounded c.args.limits.budget r.paid r.visits) (sym c.refuse.ensures.report_is)
    (refusal_bounded c.args.limits.budget c.in-Err.refusal
    (unread_within c.args.form (g.B.AskedInput.bytes c.args.bytes) c.args.limits c.in-Err.refusal
    c.in-Err.ensures.refused))
