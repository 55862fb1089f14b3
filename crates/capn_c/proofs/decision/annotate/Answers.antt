-- The clauses of `capn_annotate` allow one status and one report for a length of the array, and status 8.
use Rattle.std.proofs.Common.{◌*◌, length, arith}
use Rattle.capn_canon.specs.Refusal.{IsUnacceptedIn}
use Rattle.capn_abi.specs.Calls.{form_named, bounds_of}
use Rattle.capn_c.proofs.DecidedLines.{IsLinesTold, lines_agree}
use Rattle.capn_c.proofs.DecidedRoom.{index_room, room_clauses}
use Rattle.capn_c.proofs.decision.annotate.Goals as goal

pub returns : goal.returns
returns c =
    let form = form_named c.args.form in
    let bs = c.args.bytes.now in
    let limits = bounds_of c.args.limits.now in
    let n = length c.args.out.now in
    let a = c.capn_annotate-one in
    let b = c.capn_annotate-other in
    lines_agree form bs limits n _ a.result b.result a.new.report b.new.report
    (room_clauses a.result a.new.report a.ensures.form a.ensures.limits a.ensures.tariff a.ensures.blank
    (IsLinesTold form bs limits n) (IsUnacceptedIn form bs limits)
    (λ e. (
      index_room (48 * n) a.result a.new.report.length (λ z. (a.ensures.written z).0) a.ensures.no_room e,
      a.ensures.lines e,
      a.ensures.rest e,
    )) a.ensures.refused)
    (room_clauses b.result b.new.report b.ensures.form b.ensures.limits b.ensures.tariff b.ensures.blank
    (IsLinesTold form bs limits n) (IsUnacceptedIn form bs limits)
    (λ e. (
      index_room (48 * n) b.result b.new.report.length (λ z. omega (arith, (b.ensures.written z).0, a.auto.out))
          (λ z. omega (arith, b.ensures.no_room z, a.auto.out)) e,
      b.ensures.lines e,
      b.ensures.rest e,
    )) b.ensures.refused)
