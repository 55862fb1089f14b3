-- The digest is the SHA-256 of the canonical bytes of the only value that the bytes denote. If that value has no
-- capability, the only refusal is `Memory`.
use Rattle.std.proofs.Common.{inl, inr, refl, ap, ◌∙◌, Err}
use Rattle.sha2.specs.Sha256.{sha256}
use Rattle.capn_canon.proofs.shared.NotRefused.{not_refused}
use Rattle.capn_canon.proofs.shared.OneReading.{answers_only}
use Rattle.capn_abi.specs.StatusCodes.{code}
use Rattle.capn_c.proofs.Reported.{refused_bytes}
use Rattle.capn_c.proofs.hash_call.hash.Goals as goal

pub returns-in-Err-clause-reported : goal.returns-in-Err-clause-reported
returns-in-Err-clause-reported c =
    let h = c.in-Err.ensures in
    refused_bytes c.args.form c.args.bytes.now c.args.limits c.refuse.result c.refuse.new.report c.in-Err.refusal
    c.refuse.ensures h.bounded (λ k. h.memory (ap Err k)) h.refused

pub returns-in-Err-clause-only : goal.returns-in-Err-clause-only
returns-in-Err-clause-only c v d free =
    inl (c.refuse.ensures.status_is ∙ ap code
    (not_refused c.args.form c.args.bytes.now c.args.limits v c.in-Err.refusal d free c.in-Err.ensures.refused))

pub returns-in-Ok-clause-only : goal.returns-in-Ok-clause-only
returns-in-Ok-clause-only c v d free =
    let (text, answers, is) = c.in-Ok.ensures.found in
    let same =
    answers_only c.args.form c.args.bytes.now c.args.limits text c.in-Ok.found.paid answers v d in
    inr (refl, is ∙ ap sha256 same)
