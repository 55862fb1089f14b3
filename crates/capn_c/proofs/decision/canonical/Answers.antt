-- The clauses of `capn_canonical` allow one status and one report for a length of the buffer, and status 8.
use Rattle.std.proofs.Common.{length, refl, ◌∙◌}
use Rattle.capn_canon.specs.Denotes.{Answers}
use Rattle.capn_canon.specs.Refusal.{IsRefused}
use Rattle.capn_abi.specs.Calls.{form_named, bounds_of}
use Rattle.capn_c.proofs.DecidedRoom.{IsServedTold, room_clauses, served_agree, text_room}
use Rattle.capn_c.proofs.decision.canonical.Goals as goal

pub returns : goal.returns
returns c =
    let form = form_named c.args.form in
    let bs = c.args.bytes.now in
    let limits = bounds_of c.args.limits.now in
    let n = length c.args.out.now in
    let a = c.capn_canonical-one in
    let b = c.capn_canonical-other in
    served_agree form bs limits n _ a.result b.result a.new.report b.new.report
    (room_clauses a.result a.new.report a.ensures.form a.ensures.limits a.ensures.tariff a.ensures.blank
    (IsServedTold (Answers form bs limits) n) (IsRefused form bs limits)
    (λ e.
    let h = a.ensures.found e in
    let room = text_room h.0 a.result a.new.report n _ _ refl a.auto.out h.2 in
    ((h.0, h.1, room), a.ensures.rest e)) a.ensures.refused)
    (room_clauses b.result b.new.report b.ensures.form b.ensures.limits b.ensures.tariff b.ensures.blank
    (IsServedTold (Answers form bs limits) n) (IsRefused form bs limits)
    (λ e.
    let h = b.ensures.found e in
    let room = text_room h.0 b.result b.new.report n _ _ a.auto.out (b.auto.out ∙ a.auto.out) h.2 in
    ((h.0, h.1, room), b.ensures.rest e)) b.ensures.refused)
