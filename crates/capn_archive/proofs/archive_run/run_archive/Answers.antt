use Rattle.std.proofs.Common.{subst}
use Rattle.capn_words.specs.Watched.{inner_of, has_failed}
use Rattle.capn_serve.specs.Finish.{Ends}
use Rattle.capn_serve.specs.StreamRun.{first_run}
use Rattle.capn_serve.proofs.shared.Finishes.{finished}
use Rattle.capn_archive.specs.ArchiveRun as archives
use Rattle.capn_archive.specs.declared.archive_service.ArchiveService.{ArchiveService}
use Rattle.capn_archive.proofs.Faithful.{archive_faithful}
use Rattle.capn_archive.proofs.archive_run.run_archive.Goals as goal

pub returns : goal.returns
returns g c =
    let order = c.args.order in
    finished (archives.archive_fold order) (archives.first_run order) archives.archive_finish (archive_faithful order)
    order.form _ _ _ _ _ _ c.run_messages.result
    (subst (λ (s : ArchiveService). Ends (archives.archive_fold order) (first_run s) archives.archive_finish order.form
    (g.R.Read.remaining (inner_of c.args.reader.now)) (g.R.Read.remaining (inner_of c.run_messages.new.reader))
    (g.W.Write.contents (inner_of c.args.writer.now)) (g.W.Write.contents (inner_of c.run_messages.new.writer))
    (has_failed c.run_messages.new.reader) (has_failed c.run_messages.new.writer) c.run_messages.result)
    c.first_state-service.ensures c.run_messages.ensures)
