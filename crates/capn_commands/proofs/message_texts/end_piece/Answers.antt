use Rattle.capn_serve.proofs.shared.Appending.{does_flush, does_nothing}
use Rattle.capn_commands.specs.inner.MessageTexts.{refuses, serves}
use Rattle.capn_commands.proofs.message_texts.end_piece.Goals as goal

pub returns-in_err-served : goal.returns-in_err-served
returns-in_err-served g c s at frame message before put =
    does_nothing serves refuses s s at frame message _ before c.args.text.now.items _
    c.in_err-served.field-0.0 c.from_residual.result c.from_residual.ensures.1 c.requires.fine
    (c.in_err-served.ensures s at frame message before c.args.text.now.items put)

pub returns : goal.returns
returns g c s at frame message before put =
    does_flush serves refuses s s at frame message _ before c.args.text.now.items _
    c.flush_long.new.text.items _ c.flush_long.result
    (c.in_ok-served.ensures s at frame message before c.args.text.now.items put) c.flush_long.ensures
