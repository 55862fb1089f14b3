use Rattle.std.proofs.Common.{sym, ap, ◌∙◌}
use Rattle.capn_value.specs.Tree.{is_null}
use Rattle.capn_value.specs.TreeOf.{tree_of}
use Rattle.capn_value.specs.Views.{tree_of-Nil}
use Rattle.capn_value.proofs.Apart.{not_null}
use Rattle.capn_value.proofs.sameness.is_null.Goals as goal

pub returns-in-Nil : goal.returns-in-Nil
returns-in-Nil g c = sym (ap is_null (ap tree_of c.in-Nil.is ∙ tree_of-Nil _))

pub returns-in_default : goal.returns-in_default
returns-in_default g c = sym (not_null _ c.in_default.not-Nil)
