use Rattle.std.proofs.Common.{◌+◌, ◌/◌, length, arith}
use Rattle.capn_layout.proofs.writer.Drafted.{appended}
use Rattle.capn_layout.proofs.draft.extend.Goals as goal

pub returns : goal.returns
returns c =
    let xs = c.args.xs in
    let h = c.requires.whole in
    let n = c.len-words.ensures in
    appended c.args.len (length xs / 8) (c.args.len + c.len-words.result / 8) xs c.args.out.now c.write_paid.new.out
    c.requires.room (omega arith) (omega arith) c.write_paid.ensures
