use Rattle.std.proofs.Common.{◌++◌}
use Rattle.std.proofs.lemmas.Result.{err_from_is_err_and}
use Rattle.capn_commands.proofs.Packed.{packs_memory}
use Rattle.capn_commands.proofs.pack_run.pack_chunk.Goals as goal

pub returns-in_err-extend_from_slice : goal.returns-in_err-extend_from_slice
returns-in_err-extend_from_slice g c =
    let p = err_from_is_err_and c.from_residual.result c.from_residual.ensures.1 in
    rw (p.1, p.2) (packs_memory (c.args.held.now.items ++ c.args.bytes.now) _ _ c.requires.fine)

pub returns-in_err-settlement : goal.returns-in_err-settlement
returns-in_err-settlement g c =
    let p = err_from_is_err_and c.from_residual-in_err-settlement.result c.from_residual-in_err-settlement.ensures.1 in
    rw (p.1, p.2) (packs_memory (c.args.held.now.items ++ c.args.bytes.now) _ _ c.requires.fine)
