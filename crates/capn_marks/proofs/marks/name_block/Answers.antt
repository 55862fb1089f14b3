use Rattle.std.proofs.Common.{◌+◌, ◌-◌, length, arith}
use Rattle.capn_marks.proofs.NameBlocks.{in-block}
use Rattle.capn_marks.proofs.marks.name_block.Goals as goal

pub returns-clause-name : goal.returns-clause-name
returns-clause-name c =
    in-block c.args.name.now c.copy_from_slice.new.self (21 + length c.args.name.now - 21) c.requires.short
    c.copy_from_slice.ensures.after (omega arith)
