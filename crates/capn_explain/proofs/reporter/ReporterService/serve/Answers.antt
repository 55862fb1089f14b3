use Rattle.std.proofs.Common.{Err, Ok}
use Rattle.capn_words.specs.Watched.{inner_of, has_failed}
use Rattle.capn_explain.specs.Reports.{refuses, serves}
use Rattle.capn_serve.proofs.shared.Appending.{does_flush, does_nothing}
use Rattle.capn_explain.proofs.Reporters.{puts_message}
use Rattle.capn_explain.proofs.reporter.ReporterService.serve.Goals as goal

pub returns : goal.returns
returns g c =
    let message = g.S.Space.message c.args.message.now in
    does_flush serves refuses c.args.self.now c.report.new.self c.args.at c.args._frame.now message
    (g.W.Write.contents (inner_of c.args.writer.now)) c.args.text.now.items c.report.new.text.items
    (g.W.Write.contents (inner_of c.flush_long.new.writer)) c.flush_long.new.text.items
    (has_failed c.flush_long.new.writer) c.flush_long.result
    (puts_message c.args.self.now c.report.new.self c.args.at message c.args._frame.now c.args.text.now.items
    c.report.new.text.items (Ok tt) c.in_ok-report.ensures) c.flush_long.ensures

pub returns-in_err-report : goal.returns-in_err-report
returns-in_err-report g c =
    let message = g.S.Space.message c.args.message.now in
    does_nothing serves refuses c.args.self.now c.report.new.self c.args.at c.args._frame.now message
    (g.W.Write.contents (inner_of c.args.writer.now)) c.args.text.now.items c.report.new.text.items
    (has_failed c.args.writer.now) c.in_err-report.field-0.0 c.from_residual.result c.from_residual.ensures.1
    c.requires.fine
    (puts_message c.args.self.now c.report.new.self c.args.at message c.args._frame.now c.args.text.now.items
    c.report.new.text.items (Err c.in_err-report.field-0.0) c.in_err-report.ensures)
