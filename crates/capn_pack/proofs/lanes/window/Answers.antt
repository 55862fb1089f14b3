use Rattle.std.proofs.lemmas.List.{take-take}
use Rattle.capn_pack.proofs.lanes.window.Goals as goal

pub returns-then-bytes-ge16 : goal.returns-then-bytes-ge16
returns-then-bytes-ge16 c = λ n a b. take-take n 16 c.args.bytes.now a
