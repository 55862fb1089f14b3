use Rattle.std.proofs.Common.{subst}
use Rattle.capn_words.specs.Watched.{inner_of, has_failed}
use Rattle.capn_serve.specs.Finish.{Ends}
use Rattle.capn_serve.specs.StreamRun.{first_run}
use Rattle.capn_serve.proofs.shared.Finishes.{finished}
use Rattle.capn_archive.specs.FilterRun as filters
use Rattle.capn_archive.specs.declared.filter_service.FilterService.{FilterService}
use Rattle.capn_archive.proofs.Faithful.{filter_faithful}
use Rattle.capn_archive.proofs.filter_run.run_filter.Goals as goal

pub returns : goal.returns
returns g c =
    let order = c.args.order in
    finished (filters.filter_fold order) (filters.first_run order) filters.filter_finish (filter_faithful order)
    order.form _ _ _ _ _ _ c.run_messages.result
    (subst (λ (s : FilterService). Ends (filters.filter_fold order) (first_run s) filters.filter_finish order.form
    (g.R.Read.remaining (inner_of c.args.reader.now)) (g.R.Read.remaining (inner_of c.run_messages.new.reader))
    (g.W.Write.contents (inner_of c.args.writer.now)) (g.W.Write.contents (inner_of c.run_messages.new.writer))
    (has_failed c.run_messages.new.reader) (has_failed c.run_messages.new.writer) c.run_messages.result)
    c.new-service.ensures c.run_messages.ensures)
