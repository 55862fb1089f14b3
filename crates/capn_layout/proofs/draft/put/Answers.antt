use Rattle.std.proofs.Common.{arith}
use Rattle.capn_layout.proofs.writer.Drafted.{put-is}
use Rattle.capn_layout.proofs.draft.put.Goals as goal

pub returns : goal.returns
returns c n lt room =
    put-is n c.args.at c.args.word c.args.out.now c.write_word.new.out lt room (omega arith) c.write_word.ensures
