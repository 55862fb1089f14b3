use Rattle.std.proofs.Common.{subst}
use Rattle.capn_words.specs.Watched.{inner_of, has_failed}
use Rattle.capn_canon.specs.declared.form.Form.{Form}
use Rattle.capn_serve.specs.Finish.{Ends}
use Rattle.capn_serve.specs.FormRun.{form_of}
use Rattle.capn_serve.specs.StreamRun as runs
use Rattle.capn_serve.proofs.shared.Finishes.{finished}
use Rattle.capn_cmp.specs.CmpMessages.{CmpState}
use Rattle.capn_cmp.specs.CmpRun.{cmp_finish, cmp_fold, first_run}
use Rattle.capn_cmp.proofs.Faithful.{cmp_faithful}
use Rattle.capn_cmp.proofs.cmp_run.run_cmp.Goals as goal

pub returns : goal.returns
returns g c =
    let order = c.args.order in
    finished (cmp_fold order) (first_run order) cmp_finish (cmp_faithful order) (form_of order.form) _ _ _ _ _ _
    c.run_messages.result
    (subst (λ (f : Form). Ends (cmp_fold order) (first_run order) cmp_finish f
    (g.R.Read.remaining (inner_of c.args.reader.now)) (g.R.Read.remaining (inner_of c.run_messages.new.reader))
    (g.W.Write.contents (inner_of c.args.writer.now)) (g.W.Write.contents (inner_of c.run_messages.new.writer))
    (has_failed c.run_messages.new.reader) (has_failed c.run_messages.new.writer) c.run_messages.result)
    c.form-form.ensures
    (subst (λ (s : CmpState). Ends (cmp_fold order) (runs.first_run s) cmp_finish c.form-form.result
    (g.R.Read.remaining (inner_of c.args.reader.now)) (g.R.Read.remaining (inner_of c.run_messages.new.reader))
    (g.W.Write.contents (inner_of c.args.writer.now)) (g.W.Write.contents (inner_of c.run_messages.new.writer))
    (has_failed c.run_messages.new.reader) (has_failed c.run_messages.new.writer) c.run_messages.result)
    c.new-service.ensures c.run_messages.ensures))
