-- The clauses of `capn_canonical_segments` allow one status and one report for a length of the buffer.
use Rattle.std.proofs.Common.{length, refl, ◌∙◌}
use Rattle.capn_stream.specs.Segments.{message_of}
use Rattle.capn_abi.specs.Calls.{bounds_of}
use Rattle.capn_c.specs.Held.{AnswersHeld, IsRefusedHeld}
use Rattle.capn_c.proofs.DecidedRoom.{IsServedTold, held_served_agree, room_limits_clauses, text_room}
use Rattle.capn_c.proofs.decision.canonical_segments.Goals as goal

pub returns : goal.returns
returns c =
    let m = message_of c.args.segments.now in
    let limits = bounds_of c.args.limits.now in
    let n = length c.args.out.now in
    let a = c.capn_canonical_segments-one in
    let b = c.capn_canonical_segments-other in
    held_served_agree m limits n _ a.result b.result a.new.report b.new.report
    (room_limits_clauses a.result a.new.report a.ensures.limits a.ensures.tariff a.ensures.blank
    (IsServedTold (AnswersHeld m limits) n) (IsRefusedHeld m limits) a.ensures.possible
    (λ e.
    let h = a.ensures.found e in
    let room = text_room h.0 a.result a.new.report n _ _ refl a.auto.out h.2 in
    ((h.0, h.1, room), a.ensures.rest e)) a.ensures.refused)
    (room_limits_clauses b.result b.new.report b.ensures.limits b.ensures.tariff b.ensures.blank
    (IsServedTold (AnswersHeld m limits) n) (IsRefusedHeld m limits) b.ensures.possible
    (λ e.
    let h = b.ensures.found e in
    let room = text_room h.0 b.result b.new.report n _ _ a.auto.out (b.auto.out ∙ a.auto.out) h.2 in
    ((h.0, h.1, room), b.ensures.rest e)) b.ensures.refused)
