use Rattle.std.proofs.Common.{◌+◌, refl}
use Rattle.capn_layout.proofs.writer.Drafted.{zeros-appended}
use Rattle.capn_layout.proofs.draft.extend_zeros.Goals as goal

pub returns-clause-words : goal.returns-clause-words
returns-clause-words c =
    zeros-appended c.args.len c.args.n (c.args.len + c.args.n) c.args.out.now c.write_zeros.new.out c.requires refl
    c.write_zeros.ensures
