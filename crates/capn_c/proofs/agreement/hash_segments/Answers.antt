-- The clauses of `capn_hash_segments` and of `capn_canonical_with_scratch` allow one refusal, and one text for the
-- digest, for segments and a frame of them.
use Rattle.std.proofs.Common.{◌≤◌, inl, inr, length, refl, arith}
use Rattle.capn_stream.specs.Segments.{message_of}
use Rattle.capn_canon.specs.Refusal.{IsRefused}
use Rattle.capn_canon.specs.declared.form.Form.TheVariants as forms
use Rattle.capn_abi.specs.Calls.{IsForm, bounds_of}
use Rattle.capn_c.proofs.Agreed.{written_by}
use Rattle.capn_c.proofs.AgreedDigest.{digests_agree}
use Rattle.capn_c.proofs.AgreedFrames.{answer, priced_framed}
use Rattle.capn_c.proofs.DecidedHeld.{price_held_clauses}
use Rattle.capn_c.proofs.DecidedRoom.{delivers_room, room_clauses}
use Rattle.capn_c.proofs.DecidedScratch.{IsLentTold, above}
use Rattle.capn_c.proofs.agreement.hash_segments.Goals as goal

pub returns : goal.returns
returns c frame not_eight not_nine =
    let m = message_of c.args.segments.now in
    let bs = c.args.bytes.now in
    let limits = bounds_of c.args.limits.now in
    let n = length c.args.out.now in
    let stream : IsForm 0 = omega arith in
    let a = c.capn_hash_segments-one in
    let b = c.capn_canonical_with_scratch-other in
    let found : b.result ≤ 1 → IsLentTold forms.Stream bs limits n b.result b.new.report = λ e.
    let h = b.ensures.found e in (
      (h.0, h.1, h.3.length_is, delivers_room n h.0 b.result b.new.report.length _ _ refl b.auto.out h.3),
      b.ensures.rest e,
    ) in
    digests_agree _ _ _ forms.Stream bs limits n b.result b.new.report
    (room_clauses b.result b.new.report b.ensures.form b.ensures.limits b.ensures.tariff b.ensures.blank
    (IsLentTold forms.Stream bs limits n) (IsRefused forms.Stream bs limits) found
    (λ k. elim (above b.result b.ensures.listed k) [ inl e ↦ absurd (not_nine e) | inr l ↦ b.ensures.refused l ]))
    a.result a.new.report a.new.digest b.new.out c.args.out.now
    (priced_framed (IsForm 0) _ _ stream bs m limits frame a.result a.new.report
    (price_held_clauses m limits a.result a.new.report a.ensures.limits a.ensures.tariff a.ensures.blank
    a.ensures.possible a.new.digest a.ensures.found a.ensures.rest a.ensures.refused))
    (λ e.
    let h = a.ensures.found e in
    (h.0, answer bs m limits frame h.0 a.new.report.paid h.1, h.2)) found
    (λ e.
    let h = b.ensures.found (omega (arith, e)) in
    (h.0, h.1, h.3.length_is, written_by h.0 b.result b.new.report.length c.args.out.now b.new.out h.3 e))
    not_eight b.ensures.no_memory
