-- The clauses of `capn_hash` and of `capn_canonical_with_scratch` allow one refusal, and one text for the digest.
use Rattle.std.proofs.Common.{◌≤◌, inl, inr, length, refl, arith}
use Rattle.capn_canon.specs.Refusal.{IsRefused}
use Rattle.capn_abi.specs.Calls.{bounds_of, form_named}
use Rattle.capn_c.proofs.Agreed.{written_by}
use Rattle.capn_c.proofs.AgreedDigest.{digests_agree}
use Rattle.capn_c.proofs.DecidedAnswers.{price_clauses}
use Rattle.capn_c.proofs.DecidedRoom.{delivers_room, room_clauses}
use Rattle.capn_c.proofs.DecidedScratch.{IsLentTold, above}
use Rattle.capn_c.proofs.agreement.hash.Goals as goal

pub returns : goal.returns
returns c not_eight not_nine =
    let form = form_named c.args.form in
    let bs = c.args.bytes.now in
    let limits = bounds_of c.args.limits.now in
    let n = length c.args.out.now in
    let a = c.capn_hash-one in
    let b = c.capn_canonical_with_scratch-other in
    let found : b.result ≤ 1 → IsLentTold form bs limits n b.result b.new.report = λ e.
    let h = b.ensures.found e in (
      (h.0, h.1, h.3.length_is, delivers_room n h.0 b.result b.new.report.length _ _ refl b.auto.out h.3),
      b.ensures.rest e,
    ) in
    digests_agree _ _ _ form bs limits n b.result b.new.report
    (room_clauses b.result b.new.report b.ensures.form b.ensures.limits b.ensures.tariff b.ensures.blank
    (IsLentTold form bs limits n) (IsRefused form bs limits) found
    (λ k. elim (above b.result b.ensures.listed k) [ inl e ↦ absurd (not_nine e) | inr l ↦ b.ensures.refused l ]))
    a.result a.new.report a.new.digest b.new.out c.args.out.now
    (price_clauses form bs limits a.result a.new.report a.ensures.form a.ensures.limits a.ensures.tariff
    a.ensures.blank a.ensures.possible a.new.digest a.ensures.found a.ensures.rest a.ensures.refused)
    a.ensures.found found
    (λ e.
    let h = b.ensures.found (omega (arith, e)) in
    (h.0, h.1, h.3.length_is, written_by h.0 b.result b.new.report.length c.args.out.now b.new.out h.3 e))
    not_eight b.ensures.no_memory
