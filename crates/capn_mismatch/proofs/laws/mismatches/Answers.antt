use Rattle.capn_mismatch.proofs.OneMismatch.{one-mismatch}
use Rattle.capn_mismatch.proofs.laws.mismatches.Goals as goal

pub returns : goal.returns
returns g c message limits d e is are f h =
    one-mismatch c.page.ensures.only c.paths.ensures message limits is are d e f h
