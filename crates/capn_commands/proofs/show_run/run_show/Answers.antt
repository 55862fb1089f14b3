use Rattle.capn_serve.specs.StreamRun.{first_run}
use Rattle.capn_serve.proofs.shared.PlainEnds.{plain_run}
use Rattle.capn_commands.specs.ShowRun.{part_fold}
use Rattle.capn_commands.proofs.show_run.run_show.Goals as goal

pub returns : goal.returns
returns g c =
    let texts = c.args.texts.now in
    plain_run (part_fold texts.limits.message_words) (first_run texts) texts.form _ _ _ _ _ _ c.run_messages.result
    c.run_messages.ensures
