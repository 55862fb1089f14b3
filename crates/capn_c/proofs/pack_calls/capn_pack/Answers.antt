-- The text that is delivered is the one that the packer chooses.
use Rattle.std.proofs.Common.{inr, subst, rules, arith}
use Rattle.capn_abi.specs.Calls.{Delivers}
use Rattle.capn_c.proofs.pack_calls.capn_pack.Goals as goal

pub returns-in-Ok-clause-only : goal.returns-in-Ok-clause-only
returns-in-Ok-clause-only c text h =
    let d : Delivers c.in-Ok.text.items c.deliver.result c.answer_of.result.length c.args.out.now c.deliver.new.out =
    search rules in
    inr (subst (λ t. Delivers t c.deliver.result c.answer_of.result.length c.args.out.now c.deliver.new.out)
    (c.in-Ok.ensures.only text h) d)

pub returns-in-Err-NotWhole-clause-only : goal.returns-in-Err-NotWhole-clause-only
returns-in-Err-NotWhole-clause-only c text h =
    let e = c.in-Err-NotWhole.ensures.only text h in grind (arith, e)
