use Rattle.std.proofs.Common.{sym}
use Rattle.capn_words.proofs.shared.Pointers.{Fields-only}
use Rattle.capn_words.proofs.pointer.split.Goals as goal

pub returns-clause-read : goal.returns-clause-read
returns-clause-read c = sym (Fields-only c.args.word _ c.fields_of.ensures)
