use Rattle.std.proofs.Common.{◌∙◌, ap, subst}
use Rattle.capn_words.specs.Watched.{inner_of, has_failed}
use Rattle.capn_serve.specs.Finish.{Ends}
use Rattle.capn_serve.specs.StreamRun as runs
use Rattle.capn_explain.specs.ExplainRun.{explain_finish, explain_fold}
use Rattle.capn_explain.specs.Reports.{Reporting, first_reporting, order_of}
use Rattle.capn_explain.proofs.NothingWritten.{explained}
use Rattle.capn_explain.proofs.explain_run.run_explain.Goals as goal

pub returns : goal.returns
returns g c =
    let explain = c.args.order in
    explained explain _ _ _ _ _ _ c.run_messages.result
    (subst (λ (s : Reporting). Ends (explain_fold (order_of explain)) (runs.first_run s) explain_finish explain.form
    (g.R.Read.remaining (inner_of c.args.reader.now)) (g.R.Read.remaining (inner_of c.run_messages.new.reader))
    (g.W.Write.contents (inner_of c.args.writer.now)) (g.W.Write.contents (inner_of c.run_messages.new.writer))
    (has_failed c.run_messages.new.reader) (has_failed c.run_messages.new.writer) c.run_messages.result)
    (c.new-reporter.ensures ∙ ap first_reporting c.order_of.ensures) c.run_messages.ensures)
