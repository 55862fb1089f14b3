-- A refusal has the status 8 only if memory ran out. The digest is the SHA-256 of the canonical bytes of the only value
-- that the segments denote.
use Rattle.std.proofs.Common.{inl, inr, refl, ap, ◌∙◌, Err}
use Rattle.sha2.specs.Sha256.{sha256}
use Rattle.capn_stream.specs.Segments.{message_of}
use Rattle.capn_walk.specs.Accepted.{root}
use Rattle.capn_walk.proofs.shared.Unique.{unique}
use Rattle.capn_canon.specs.Layout.{canon}
use Rattle.capn_abi.specs.StatusCodes.{code}
use Rattle.capn_c.proofs.HeldRuns.{held_not_refused}
use Rattle.capn_c.proofs.Listed.{held_listed}
use Rattle.capn_c.proofs.OutOfMemory.{held_memory}
use Rattle.capn_c.proofs.Reported.{reported}
use Rattle.capn_c.proofs.hash_segments_call.hash_held.Goals as goal

pub returns-in-Err-clause-reported : goal.returns-in-Err-clause-reported
returns-in-Err-clause-reported c =
    let m = message_of c.args.segments.now in
    let l = c.args.limits in
    let e = c.in-Err.refusal in
    let h = c.in-Err.ensures in
    reported l.budget c.refuse.result c.refuse.new.report e c.refuse.ensures h.refused (held_listed m l e h.refused)
    (λ k. h.memory (ap Err (held_memory m l e h.refused k))) h.bounded

pub returns-in-Err-clause-only : goal.returns-in-Err-clause-only
returns-in-Err-clause-only c v d free =
    let m = message_of c.args.segments.now in
    inl (c.refuse.ensures.status_is ∙ ap code
    (held_not_refused m c.args.limits v c.in-Err.refusal d free c.in-Err.ensures.refused))

pub returns-in-Ok-clause-only : goal.returns-in-Ok-clause-only
returns-in-Ok-clause-only c v d free =
    let m = message_of c.args.segments.now in
    let (text, h, is) = c.in-Ok.ensures.found in
    let same = unique m h.answer.value v root h.answer.is.is d.value.is in
    inr (refl, is ∙ ap sha256 (h.answer.canonical ∙ ap canon same))
