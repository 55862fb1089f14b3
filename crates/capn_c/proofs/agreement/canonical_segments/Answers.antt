-- The clauses of `capn_canonical_segments` and of `capn_canonical_with_scratch` allow one status and one report, for
-- segments and a frame of them.
use Rattle.std.proofs.Common.{◌≡◌, ℕ, inl, inr, List, length, refl, ap, sym, subst, ◌∙◌, arith}
use Rattle.capn_stream.specs.Segments.{message_of}
use Rattle.capn_canon.specs.Denotes.{Answers}
use Rattle.capn_canon.specs.Refusal.{IsRefused}
use Rattle.capn_canon.specs.declared.form.Form.TheVariants as forms
use Rattle.capn_abi.specs.Calls.{IsForm, IsWritten, bounds_of}
use Rattle.capn_c.specs.Held.{AnswersHeld, IsRefusedHeld}
use Rattle.capn_c.proofs.Agreed.{same_buffers, written_by}
use Rattle.capn_c.proofs.AgreedFrames.{answer, served_framed}
use Rattle.capn_c.proofs.DecidedRoom.{IsServedTold, delivers_room, room_clauses, room_limits_clauses, served_agree}
use Rattle.capn_c.proofs.DecidedRoom.{text_room}
use Rattle.capn_c.proofs.DecidedScratch.{above}
use Rattle.capn_c.proofs.agreement.canonical_segments.Goals as goal

pub returns : goal.returns
returns c frame same some not_nine =
    let m = message_of c.args.segments.now in
    let bs = c.args.bytes.now in
    let limits = bounds_of c.args.limits.now in
    let n = length c.args.out.now in
    let also : length c.args.also.now ≡ n = ap length (sym same) in
    let stream : IsForm 0 = omega arith in
    let a = c.capn_canonical_segments-one in
    let b = c.capn_canonical_with_scratch-other in
    let both = served_agree forms.Stream bs limits n _ a.result b.result a.new.report b.new.report
    (served_framed (IsForm 0) _ _ stream bs m limits frame n a.result a.new.report
    (room_limits_clauses a.result a.new.report a.ensures.limits a.ensures.tariff a.ensures.blank
    (IsServedTold (AnswersHeld m limits) n) (IsRefusedHeld m limits) a.ensures.possible
    (λ e.
    let h = a.ensures.found e in
    let room = text_room h.0 a.result a.new.report n _ _ refl a.auto.out h.2 in
    ((h.0, h.1, room), a.ensures.rest e)) a.ensures.refused))
    (room_clauses b.result b.new.report b.ensures.form b.ensures.limits b.ensures.tariff b.ensures.blank
    (IsServedTold (Answers forms.Stream bs limits) n) (IsRefused forms.Stream bs limits)
    (λ e.
    let h = b.ensures.found e in
    let room = delivers_room n h.0 b.result b.new.report.length _ _ also (b.auto.out ∙ also) h.3 in
    ((h.0, h.1, inr (some, h.3.length_is, room)), b.ensures.rest e))
    (λ k. elim (above b.result b.ensures.listed k) [ inl e ↦ absurd (not_nine e) | inr l ↦ b.ensures.refused l ]))
    a.ensures.no_memory b.ensures.no_memory in (
      both.0,
      both.1,
      same_buffers forms.Stream bs limits a.result b.result a.new.report.paid b.new.report.paid c.args.out.now
          a.new.out b.new.out both.0
          (λ e.
          let h = a.ensures.found (omega (arith, e)) in (
            h.0,
            answer bs m limits frame h.0 a.new.report.paid h.1,
            written_by h.0 a.result a.new.report.length _ _ (h.2.delivered some) e,
          ))
          (λ e.
          let h = b.ensures.found (omega (arith, e)) in (
            h.0,
            h.1,
            subst (λ (x : List ℕ). IsWritten h.0 x b.new.out) (sym same)
                (written_by h.0 b.result b.new.report.length c.args.also.now b.new.out h.3 e),
          ))
          a.ensures.kept (λ k. b.ensures.kept k ∙ sym same),
    )
