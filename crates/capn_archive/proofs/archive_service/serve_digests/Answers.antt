use Rattle.std.proofs.Common.{◌≡◌, ℕ, List, IsErrAnd, false, Some, Result, Ok, Err, refl, sym, subst}
use Rattle.capn_walk.specs.Limits.{Bounds}
use Rattle.capn_canon.specs.Measure.{IsMeasure}
use Rattle.capn_canon.specs.MemoryNeed.{MayNeedBytes}
use Rattle.capn_canon.specs.Refusal.{IsUnaccepted}
use Rattle.capn_canon.specs.declared.surveyed_bare.MeasuredBare.{MeasuredBare}
use Rattle.capn_serve.specs.Outgoing.{Outgoing, outgoing}
use Rattle.capn_serve.specs.declared.fault.ServeFault.{ServeFault}
use Rattle.capn_serve.specs.declared.fault.ServeFault.TheVariants as faults
use Rattle.capn_serve.specs.declared.position.Position.{Position}
use Rattle.capn_serve.proofs.shared.Adding.{added_none}
use Rattle.capn_archive.specs.Digest.{IsDigestIfAny}
use Rattle.capn_archive.specs.Lines.{digests_line}
use Rattle.capn_archive.specs.MessageHead.{head_of}
use Rattle.capn_archive.specs.Tasks.{AddsServed, Finds}
use Rattle.capn_archive.specs.declared.message_head.MessageHead.{MessageHead}
use Rattle.capn_archive.specs.declared.tally.Tally.{Tally}
use Rattle.capn_archive.specs.declared.task.Task.TheVariants as tasks
use Rattle.capn_archive.proofs.FramesAdded.{line_added, some_digest}
use Rattle.capn_archive.proofs.archive_service.serve_digests.Goals as goal

module _ (limits : Bounds) (tally : Tally) (at : Position) (frame : List ℕ) (message : List (List ℕ))
    (measured : MeasuredBare) (measure : IsMeasure message limits measured) (a : Outgoing) where
  abbrev HasNone : ServeFault → Type 0
  HasNone fault =
      Finds (IsDigestIfAny message limits) (IsUnaccepted message limits) (MayNeedBytes message limits) (Err fault)

  -- Case: if the call for the digest failed, and nothing was added, `AddsServed` holds.
  none_found : (fault : ServeFault) → HasNone fault → (r : Result (Unit {0}) ServeFault) → IsErrAnd r (λ e. e ≡ fault)
      → AddsServed tasks.Digests limits tally at frame message a a false r tally
  none_found fault none (Ok u) is = absurd is
  none_found fault none (Err faults.Memory) is =
      let made = some_digest message limits (subst HasNone (sym is) none) in (
        (
          digests_line (head_of at frame message) measured (Some made.0),
          tally,
          0,
          (measured, Some made.0, measure, made.1, refl, refl),
          added_none a,
        ),
        refl,
      )
  none_found fault none (Err faults.Io) is = absurd (subst HasNone (sym is) none)
  none_found fault none (Err (faults.Refused r)) is = (subst HasNone (sym is) none, refl, refl, refl)

pub returns-in_err-digest : goal.returns-in_err-digest
returns-in_err-digest g c tally taken =
    none_found c.args.limits tally c.args.at c.args.frame.now (g.S.Space.message c.args.message.now)
    c.in_ok-measured.measured c.in_ok-measured.ensures (outgoing taken c.args.text.now.items)
    c.in_err-digest.field-0.0 c.in_err-digest.ensures
    c.from_residual-in_err-digest.result c.from_residual-in_err-digest.ensures.1

pub returns : goal.returns
returns g c tally taken =
    let measured = c.in_ok-measured.measured in
    let digest = c.in_ok-digest.digest in
    line_added c.args.limits tally c.args.at c.args.frame.now (g.S.Space.message c.args.message.now) tasks.Digests
    (λ (head : MessageHead). digests_line head measured digest) c.head_of.result c.head_of.ensures
    (measured, digest, c.in_ok-measured.ensures, c.in_ok-digest.ensures, refl, refl) taken c.args.text.now.items
    c.put_digests_line.new.text.items c.put_digests_line.result c.put_digests_line.ensures
