-- The clauses of `capn_index` allow one status and one report for a length of the buffer, and status 8.
use Rattle.std.proofs.Common.{length, arith}
use Rattle.capn_canon.specs.Refusal.{IsUnacceptedIn}
use Rattle.capn_abi.specs.Calls.{form_named, bounds_of}
use Rattle.capn_c.proofs.DecidedRoom.{IsIndexTold, index_room, indexes_agree, room_clauses}
use Rattle.capn_c.proofs.decision.index.Goals as goal

pub returns : goal.returns
returns c =
    let form = form_named c.args.form in
    let bs = c.args.bytes.now in
    let limits = bounds_of c.args.limits.now in
    let n = length c.args.out.now in
    let a = c.capn_index-one in
    let b = c.capn_index-other in
    indexes_agree form bs limits n _ a.result b.result a.new.report b.new.report
    (room_clauses a.result a.new.report a.ensures.form a.ensures.limits a.ensures.tariff a.ensures.blank
    (IsIndexTold form bs limits n) (IsUnacceptedIn form bs limits)
    (λ e. (
      index_room n a.result a.new.report.visits (λ z. (a.ensures.written z).0) a.ensures.no_room e,
      a.ensures.counted e,
    )) a.ensures.refused)
    (room_clauses b.result b.new.report b.ensures.form b.ensures.limits b.ensures.tariff b.ensures.blank
    (IsIndexTold form bs limits n) (IsUnacceptedIn form bs limits)
    (λ e. (
      index_room n b.result b.new.report.visits (λ z. omega (arith, (b.ensures.written z).0, a.auto.out))
          (λ z. omega (arith, b.ensures.no_room z, a.auto.out)) e,
      b.ensures.counted e,
    )) b.ensures.refused)
