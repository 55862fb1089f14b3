use Rattle.capn_serve.specs.StreamRun.{first_run}
use Rattle.capn_serve.proofs.shared.PlainEnds.{plain_run}
use Rattle.capn_annotate.specs.AnnotateRun.{annotate_fold}
use Rattle.capn_annotate.proofs.annotate_run.run_annotate.Goals as goal

pub returns : goal.returns
returns g c =
    plain_run (annotate_fold c.args.order.limits.message_words) (first_run c.args.order) c.args.order.form _ _ _ _ _ _
    c.run_messages.result c.run_messages.ensures
