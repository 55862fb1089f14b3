use Rattle.std.proofs.Common.{◌*◌, ◌/◌, length, arith, length-take}
use Rattle.capn_commands.proofs.Packed.{last_memory}
use Rattle.capn_commands.proofs.pack_run.pack_last.Goals as goal

pub returns-in-Err : goal.returns-in-Err
returns-in-Err g c =
    let held = c.args.held.now in
    let size = length-take (length held / 8 * 8) held in
    let refused = c.in-Err.ensures.whole (omega (arith, size)) in
    let some = c.in-Err.ensures.memory refused in
    last_memory held c.args.count c.args.is_longer _ _ c.requires.fine (omega (arith, some, size))
