use Rattle.std.proofs.Common.{◌*◌, arith}
use Rattle.capn_explain.proofs.Zeros.{entry-bytes}
use Rattle.capn_explain.proofs.what_came.entry_at.Goals as goal

pub returns : goal.returns
returns c = omega (arith, entry-bytes (4 * c.args.index) c.args.bytes.now)
