use Rattle.std.proofs.Common.{◌∙◌, ap, subst}
use Rattle.capn_words.specs.Watched.{inner_of, has_failed}
use Rattle.capn_serve.specs.Finish.{Ends}
use Rattle.capn_serve.specs.StreamRun as runs
use Rattle.capn_serve.proofs.shared.Finishes.{finished}
use Rattle.capn_explain.specs.ExplainRun.{explain_fold, first_run}
use Rattle.capn_explain.specs.RefusedRun.{refused_finish}
use Rattle.capn_explain.specs.Reports.{Reporting, each_of, first_reporting}
use Rattle.capn_explain.proofs.Faithful.{refused_faithful}
use Rattle.capn_explain.proofs.refused_run.run_explain_refused.Goals as goal

pub returns : goal.returns
returns g c =
    let refused = c.args.order in
    let order = each_of refused in
    finished (explain_fold order) (first_run order) refused_finish (refused_faithful order) refused.form _ _ _ _ _ _
    c.run_messages.result
    (subst (λ (s : Reporting). Ends (explain_fold order) (runs.first_run s) refused_finish refused.form
    (g.R.Read.remaining (inner_of c.args.reader.now)) (g.R.Read.remaining (inner_of c.run_messages.new.reader))
    (g.W.Write.contents (inner_of c.args.writer.now)) (g.W.Write.contents (inner_of c.run_messages.new.writer))
    (has_failed c.run_messages.new.reader) (has_failed c.run_messages.new.writer) c.run_messages.result)
    (c.new-reporter.ensures ∙ ap first_reporting c.each_of.ensures) c.run_messages.ensures)
