use Rattle.std.proofs.lemmas.Result.{err_from_is_err_and}
use Rattle.capn_commands.specs.declared.plan.Whole.TheVariants as wholes
use Rattle.capn_commands.proofs.Makings.{made_held, unread}
use Rattle.capn_commands.proofs.whole_input.make_text.Goals as goal

pub returns-in_err-input : goal.returns-in_err-input
returns-in_err-input g c =
    let p = err_from_is_err_and c.from_residual.result c.from_residual.ensures.1 in
    rw (p.1, p.2) (unread _ _ _ c.in_err-input.field-0.0 wholes.Packed c.in_err-input.ensures)

pub returns : goal.returns
returns g c =
    made_held _ _ _ wholes.Packed c.in_ok-input.input _ c.packed.result c.in_ok-input.ensures c.deref.ensures.value
    c.packed.ensures
