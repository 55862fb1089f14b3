use Rattle.capn_words.specs.Watched.{inner_of}
use Rattle.capn_commands.specs.Plan.{plan_of}
use Rattle.capn_commands.proofs.RunLaw.{ends_planned}
use Rattle.capn_commands.proofs.OneText.{run_only}
use Rattle.capn_commands.proofs.command_run.run.Goals as goal

pub returns-clause-only : goal.returns-clause-only
returns-clause-only g c =
    let known = g.R.Read.remaining (inner_of c.args.reader.now) in
    let old = g.W.Write.contents (inner_of c.args.writer.now) in
    let new = g.W.Write.contents (inner_of c.perform.new.writer) in
    run_only c.args.command known old new c.perform.result
    (ends_planned c.plan_of.result (plan_of c.args.command) known old new c.perform.result c.plan_of.ensures
    c.perform.ensures.exact)
