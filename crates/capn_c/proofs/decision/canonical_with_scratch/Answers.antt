-- The clauses of `capn_canonical_with_scratch` allow one status and one report for a number of words of scratch and a
-- length of the buffer.
use Rattle.std.proofs.Common.{ℕ, length, refl, sym, subst, ◌∙◌}
use Rattle.capn_abi.specs.Calls.{bounds_of, form_named}
use Rattle.capn_c.specs.Lent.{LacksScratch}
use Rattle.capn_c.proofs.DecidedRoom.{delivers_room}
use Rattle.capn_c.proofs.DecidedScratch.{scratch_agree}
use Rattle.capn_c.proofs.decision.canonical_with_scratch.Goals as goal

pub returns : goal.returns
returns c =
    let form = form_named c.args.form in
    let bs = c.args.bytes.now in
    let limits = bounds_of c.args.limits.now in
    let n = length c.args.out.now in
    let words = length c.args.scratch.now in
    let a = c.capn_canonical_with_scratch-one in
    let b = c.capn_canonical_with_scratch-other in
    let both =
    scratch_agree _ _ _ form bs limits words n c.decision.ensures a.result b.result a.new.report b.new.report
    (record {
      of_form = a.ensures.form;
      of_limits = a.ensures.limits;
      of_tariff = a.ensures.tariff;
      blank = a.ensures.blank;
      found = (λ e.
          let h = a.ensures.found e in (
            (h.0, h.1, h.3.length_is, delivers_room n h.0 a.result a.new.report.length _ _ refl a.auto.out h.3),
            a.ensures.rest e,
          ));
      listed = a.ensures.listed;
      lacking = a.ensures.lacking;
      lacked = a.ensures.lacked;
      refused = a.ensures.refused;
    })
    (record {
      of_form = b.ensures.form;
      of_limits = b.ensures.limits;
      of_tariff = b.ensures.tariff;
      blank = b.ensures.blank;
      found = (λ e.
          let h = b.ensures.found e in (
            (
              h.0,
              h.1,
              h.3.length_is,
              delivers_room n h.0 b.result b.new.report.length _ _ a.auto.out (b.auto.out ∙ a.auto.out) h.3,
            ),
            b.ensures.rest e,
          ));
      listed = b.ensures.listed;
      lacking = (λ e.
          let h = b.ensures.lacking e in (
            h.0,
            subst (λ (x : ℕ). LacksScratch form bs limits.message_words x b.new.report.at) a.auto.scratch h.1,
          ));
      lacked = (λ f l t k h.
          b.ensures.lacked f l t k
          (subst (λ (x : ℕ). LacksScratch form bs limits.message_words x k) (sym a.auto.scratch) h));
      refused = b.ensures.refused;
    }) in
    record { status = both.0; report = both.1 }
