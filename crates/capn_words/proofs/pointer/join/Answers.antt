use Rattle.std.proofs.Common.{ap, ◌∙◌}
use Rattle.capn_words.specs.Pointers.{pointer_of}
use Rattle.capn_words.proofs.shared.Pointers.{pointer_of-word_of}
use Rattle.capn_words.proofs.pointer.join.Goals as goal

pub returns-clause-split : goal.returns-clause-split
returns-clause-split c = ap pointer_of c.sum_of.ensures ∙ pointer_of-word_of c.args.pointer c.requires
