use Rattle.capn_pack.proofs.unpack_block.fill_last.Goals as goal

pub returns-in-1-to-254-clause-gives : goal.returns-in-1-to-254-clause-gives
returns-in-1-to-254-clause-gives c = (1, c.fill_named.ensures.fills)
