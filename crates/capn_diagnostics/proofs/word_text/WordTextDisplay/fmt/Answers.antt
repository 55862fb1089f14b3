use Rattle.std.proofs.Common.{◌∙◌}
use Rattle.std.proofs.Output.{has_written_of_eq}
use Rattle.capn_diagnostics.proofs.WordDigits.{word-digits, are-text}
use Rattle.capn_diagnostics.proofs.word_text.WordTextDisplay.fmt.Goals as goal

pub returns-clause-writes : goal.returns-clause-writes
returns-clause-writes g c = λ plain ok.
    has_written_of_eq _ _ _ _ _ (c.in-Ok.ensures.cases.0 ∙ c.digits_of-digits.ensures ∙ word-digits c.args.self.now.0)
    (c.write_str.ensures.writes plain ok)

pub unreachable-requires : goal.unreachable-requires
unreachable-requires g c = c.in_default.ensures.cases.0 (rw c.digits_of-digits.ensures (are-text c.args.self.now.0))
