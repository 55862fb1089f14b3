use Rattle.std.proofs.Common.{subst}
use Rattle.capn_words.specs.Watched.{inner_of, has_failed}
use Rattle.capn_serve.specs.Finish.{Ends}
use Rattle.capn_serve.specs.StreamRun.{first_run}
use Rattle.capn_serve.proofs.shared.Finishes.{finished}
use Rattle.capn_archive.specs.UniqMessages.{UniqState}
use Rattle.capn_archive.specs.UniqRun as uniqs
use Rattle.capn_archive.proofs.Faithful.{uniq_faithful}
use Rattle.capn_archive.proofs.uniq_run.run_uniq.Goals as goal

pub returns : goal.returns
returns g c =
    let order = c.args.order in
    finished (uniqs.uniq_fold order) (uniqs.first_run order) uniqs.uniq_finish (uniq_faithful order) order.form
    _ _ _ _ _ _ c.run_messages.result
    (subst (λ (s : UniqState). Ends (uniqs.uniq_fold order) (first_run s) uniqs.uniq_finish order.form
    (g.R.Read.remaining (inner_of c.args.reader.now)) (g.R.Read.remaining (inner_of c.run_messages.new.reader))
    (g.W.Write.contents (inner_of c.args.writer.now)) (g.W.Write.contents (inner_of c.run_messages.new.writer))
    (has_failed c.run_messages.new.reader) (has_failed c.run_messages.new.writer) c.run_messages.result)
    c.new-service.ensures c.run_messages.ensures)
