use Rattle.std.proofs.Common.{arith, length-take}
use Rattle.capn_commands.proofs.Unpending.{ends_whole}
use Rattle.capn_commands.proofs.pending.end_pending.Goals as goal

pub returns : goal.returns
returns g c most seen p =
    let pending = c.args.pending.now in
    ends_whole most seen _ c.args.words _ _ _ c.if-pending.false (omega (arith, length-take pending.len pending.text)) p
