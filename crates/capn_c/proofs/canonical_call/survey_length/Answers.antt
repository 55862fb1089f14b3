-- A survey gives a length that is enough for the canonical bytes. For a value without capabilities, the only error is
-- `Memory`.
use Rattle.std.proofs.Common.{inl, ap, sym, refl, ◌∙◌, arith, Err}
use Rattle.capn_canon.specs.Layout.{canon}
use Rattle.capn_abi.specs.declared.report.CapnReport.{CapnReport}
use Rattle.capn_abi.specs.StatusCodes.{code}
use Rattle.capn_c.proofs.OutOfMemory.{unaccepted_refused}
use Rattle.capn_c.proofs.Reported.{refused_bytes}
use Rattle.capn_c.proofs.canonical_call.survey_length.Goals as goal

pub returns-in-None-clause-found : goal.returns-in-None-clause-found
returns-in-None-clause-found g c t =
    let h = c.in-Ok.ensures.found in
    let v = h.survey.value in
    let told = c.answer_of.ensures in
    let short = c.in-Ok.ensures.short v (record { message = h.message; reads = h.reads; value = h.survey.is }) in
    let length_is = ap (λ (r : CapnReport). r.length) told in
    let paid_is = ap (λ (r : CapnReport). r.paid) told in (
      canon v,
      record {
        message = h.message;
        reads = h.reads;
        answer = record {
          value = v;
          is = h.survey.is;
          free = sym h.survey.capability ∙ c.in-None.is;
          canonical = refl;
          priced = paid_is ∙ h.survey.pays;
        };
      },
      omega (arith, short, length_is),
    )

pub returns-in-Err-clause-only : goal.returns-in-Err-clause-only
returns-in-Err-clause-only g c v d n = inl (c.refuse-in-Err.ensures.status_is ∙ ap code (c.in-Err.ensures.only v d))

pub returns-in-Err-clause-reported : goal.returns-in-Err-clause-reported
returns-in-Err-clause-reported g c =
    let bs = g.B.AskedInput.bytes c.args.bytes in
    let h = c.in-Err.ensures in
    refused_bytes c.args.form bs c.args.limits c.refuse-in-Err.result c.refuse-in-Err.new.report c.in-Err.refusal
    c.refuse-in-Err.ensures h.bounded (λ k. h.memory (ap Err k))
    (unaccepted_refused c.args.form bs c.args.limits c.in-Err.refusal h.refused)
