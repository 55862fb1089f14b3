-- A survey gives the price, and a length that is enough for the canonical bytes. No refusal has the status 8, since no
-- memory is needed.
use Rattle.std.proofs.Common.{ap, sym, refl, ◌∙◌, arith}
use Rattle.capn_canon.specs.Layout.{canon}
use Rattle.capn_stream.specs.Segments.{message_of}
use Rattle.capn_abi.specs.declared.report.CapnReport.{CapnReport}
use Rattle.capn_c.proofs.Listed.{held_listed}
use Rattle.capn_c.proofs.OutOfMemory.{unaccepted_held_memory, unaccepted_held_refused}
use Rattle.capn_c.proofs.Reported.{reported}
use Rattle.capn_c.proofs.canonical_segments_call.held_length.Goals as goal

pub returns-in-None-clause-found : goal.returns-in-None-clause-found
returns-in-None-clause-found c t =
    let h = c.in-Ok.ensures.found in
    let v = h.survey.value in
    let told = c.answer_of.ensures in
    let short = c.in-Ok.ensures.short v (record { held = h.held; value = h.survey.is }) in
    let length_is = ap (λ (r : CapnReport). r.length) told in
    let paid_is = ap (λ (r : CapnReport). r.paid) told in (
      canon v,
      record {
        held = h.held;
        answer = record {
          value = v;
          is = h.survey.is;
          free = sym h.survey.capability ∙ c.in-None.is;
          canonical = refl;
          priced = paid_is ∙ h.survey.pays;
        };
      },
      omega (arith, short, length_is),
    )

pub returns-in-None-clause-only : goal.returns-in-None-clause-only
returns-in-None-clause-only c v d n =
    let short = c.in-Ok.ensures.short v d in
    let length_is = ap (λ (r : CapnReport). r.length) c.answer_of.ensures in
    (refl, omega (arith, short, length_is))

pub returns-in-Err-clause-only : goal.returns-in-Err-clause-only
returns-in-Err-clause-only c v d n = absurd (c.in-Err.ensures.no_memory (c.in-Err.ensures.only v d))

pub returns-in-Err-clause-reported : goal.returns-in-Err-clause-reported
returns-in-Err-clause-reported c =
    let m = message_of c.args.segments.now in
    let l = c.args.limits in
    let e = c.in-Err.refusal in
    let f = c.in-Err.ensures in
    let h = unaccepted_held_refused m l e f.refused in
    reported l.budget c.refuse-in-Err.result c.refuse-in-Err.new.report e c.refuse-in-Err.ensures h
    (held_listed m l e h) (λ k. f.no_memory (unaccepted_held_memory m l e f.refused k)) f.bounded
