use Rattle.capn_diagnostics.proofs.WordDigits.{are-digits}
use Rattle.capn_diagnostics.proofs.frame_text.ByteTextDisplay.fmt.Goals as goal

pub unreachable-requires : goal.unreachable-requires
unreachable-requires g c = c.in_default.ensures.cases.0 (rw c.digits_of-digits.ensures (are-digits _))
