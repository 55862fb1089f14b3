use Rattle.std.proofs.Common.{sym, subst}
use Rattle.capn_words.specs.Watched.{inner_of, has_failed}
use Rattle.capn_serve.specs.Finish.{PutsText}
use Rattle.capn_archive.specs.ArchiveRun.{closing_by, needs_of}
use Rattle.capn_archive.specs.declared.limits_report.Needs.{Needs}
use Rattle.capn_archive.specs.declared.task.Task.{Task}
use Rattle.capn_archive.specs.declared.task.Task.TheVariants as tasks
use Rattle.capn_archive.proofs.archive_run.ArchiveServiceFinish.write_closing.Goals as goal

pub returns-in-Limits : goal.returns-in-Limits
returns-in-Limits g c =
    subst (λ (t : Task). PutsText (closing_by t (needs_of c.args.self.now c.args.at))
    (g.W.Write.contents (inner_of c.args.writer.now)) (g.W.Write.contents (inner_of c.write_limits.new.writer))
    (has_failed c.write_limits.new.writer) c.write_limits.result) (sym c.in-Limits.is)
    (subst (λ (n : Needs). PutsText (closing_by tasks.Limits n) (g.W.Write.contents (inner_of c.args.writer.now))
    (g.W.Write.contents (inner_of c.write_limits.new.writer)) (has_failed c.write_limits.new.writer)
    c.write_limits.result) c.needs_of.ensures c.write_limits.ensures)
