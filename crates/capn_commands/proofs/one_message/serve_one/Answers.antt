use Rattle.std.proofs.lemmas.Result.{err_from_is_err_and}
use Rattle.capn_commands.proofs.OneRun.{one_served, one_unread}
use Rattle.capn_commands.proofs.one_message.serve_one.Goals as goal

pub returns-in_err-frame : goal.returns-in_err-frame
returns-in_err-frame g c =
    let p = err_from_is_err_and c.from_residual.result c.from_residual.ensures.1 in
    rw (p.1, p.2)
    (one_unread g.S.Service.serves g.S.Service.refuses c.args.service c.args.most g.row.A.Denot _ _ _ _ _ c.args.form
    c.in_err-frame.field-0.0 c.requires.writer_fine c.in_err-frame.ensures)

pub returns : goal.returns
returns g c =
    one_served g.S.Service.serves g.S.Service.refuses c.args.service c.args.most _ _ _ _ _ c.args.form _
    c.in_ok-frame.frame _ c.serve_frame.result c.in_ok-frame.ensures c.deref.ensures.value c.serve_frame.ensures
