use Rattle.capn_commands.proofs.OnePiece.{framed_run}
use Rattle.capn_commands.proofs.one_message.run_framed.Goals as goal

pub returns : goal.returns
returns g c =
    framed_run c.args.piece c.args.form c.args.limits _ _ _ _ _ _ _ c.serve_one.result
    c.message_words-most.ensures.value c.serve_one.ensures
