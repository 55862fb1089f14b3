use Rattle.std.proofs.Common.{refl}
use Rattle.std.proofs.lemmas.Fmt.{decimal_digit}
use Rattle.capn_commands.proofs.message_text.short_line.Goals as goal

pub returns : goal.returns
returns c = rw (decimal_digit c.args.paid c.requires.paid, decimal_digit c.args.visits c.requires.visits) refl
