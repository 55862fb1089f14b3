-- The clauses of `capn_canonical_with_scratch` allow only the status and the report of a result of
-- `canonical_into_form`.
use Rattle.std.proofs.Common.{◌≡◌, ℕ, List, length, refl, ap, sym, subst, ◌∙◌, arith}
use Rattle.capn_abi.specs.Calls.{IsWritten, bounds_of, form_named}
use Rattle.capn_abi.specs.declared.report.CapnReport.{CapnReport}
use Rattle.capn_c.specs.Agreement.{IsResultTold}
use Rattle.capn_c.specs.inner.Lent.{IsLent}
use Rattle.capn_c.proofs.Agreed.{as_named, same_buffers, told_as, written_by}
use Rattle.capn_c.proofs.DecidedRoom.{delivers_room}
use Rattle.capn_c.proofs.DecidedScratch.{scratch_agree}
use Rattle.capn_c.proofs.agreement.with_scratch.Goals as goal

pub returns-in-Ok-clause-agree : goal.returns-in-Ok-clause-agree
returns-in-Ok-clause-agree c same =
    let form = form_named c.args.form in
    let bs = c.args.bytes.now in
    let limits = bounds_of c.args.limits.now in
    let n = length c.args.out.now in
    let words = length c.args.scratch.now in
    let a = c.capn_canonical_with_scratch-status in
    let b = c.told_form-told in
    let s = b.result.0 in
    let also : length c.args.also.now ≡ n = ap length (sym same) in
    let lent =
    subst (λ (x : ℕ). IsLent form bs limits x c.args.also.now b.new.out s b.new.report) a.auto.scratch
    (as_named c.args.form c.in-Some.form bs c.args.limits.now c.in-Ok.limits (length a.new.scratch) c.args.also.now
    b.new.out s b.new.report c.in-Some.ensures.value c.in-Ok.ensures.value b.ensures.lent) in
    let both =
    scratch_agree _ _ _ form bs limits words n c.decision.ensures a.result s a.new.report b.new.report
    (record {
      of_form = a.ensures.form;
      of_limits = a.ensures.limits;
      of_tariff = a.ensures.tariff;
      blank = a.ensures.blank;
      found = (λ e.
          let h = a.ensures.found e in (
            (h.0, h.1, h.3.length_is, delivers_room n h.0 a.result a.new.report.length _ _ refl a.auto.out h.3),
            a.ensures.rest e,
          ));
      listed = a.ensures.listed;
      lacking = a.ensures.lacking;
      lacked = a.ensures.lacked;
      refused = a.ensures.refused;
    })
    (told_as (c.in-Some.ensures.some.0 refl) c.in-Ok.ensures.ok.0 c.in-Ok.ensures.ok.1 form bs limits words n
    c.args.also.now b.new.out s b.new.report also (b.auto.out ∙ also) lent) in
    record {
      is_told =
          subst (λ (x : CapnReport). IsResultTold b.result.1 a.result x) (sym both.1)
          (subst (λ (x : ℕ). IsResultTold b.result.1 x b.new.report) (sym both.0) b.ensures.told);
      written =
          same_buffers form bs limits s a.result b.new.report.paid a.new.report.paid c.args.also.now b.new.out a.new.out
          (sym both.0)
          (λ e.
          let h = lent.found (omega (arith, e)) in
          (h.0, h.1, written_by h.0 s b.new.report.length c.args.also.now b.new.out h.3 e))
          (λ e.
          let h = a.ensures.found (omega (arith, e)) in (
            h.0,
            h.1,
            subst (λ (x : List ℕ). IsWritten h.0 x a.new.out) same
                (written_by h.0 a.result a.new.report.length c.args.out.now a.new.out h.3 e),
          ))
          lent.kept (λ k. a.ensures.kept k ∙ same);
    }
