use Rattle.std.proofs.Common.{arith, ◌++◌, replicate}
use Rattle.std.proofs.lemmas.Simd.{pick_l_whole}
use Rattle.std.proofs.lemmas.List.{length-append}
use Rattle.capn_pack.proofs.lanes.widened.Goals as goal

pub returns : goal.returns
returns c = pick_l_whole 0 (c.args.word ++ replicate 8 0) 16 (simp length-append (omega arith))
