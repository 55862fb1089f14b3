use Rattle.std.proofs.Common.{sym, ◌∙◌}
use Rattle.capn_value.specs.Views.{tree_of-Nil}
use Rattle.capn_value.proofs.Nulls.{null-is}
use Rattle.capn_value.proofs.value_copy.copy_value.Goals as goal

pub returns-then-is_null-clause-value : goal.returns-then-is_null-clause-value
returns-then-is_null-clause-value g c = tree_of-Nil _ ∙ sym (null-is _ (sym c.is_null.ensures ∙ c.if-is_null.true))
