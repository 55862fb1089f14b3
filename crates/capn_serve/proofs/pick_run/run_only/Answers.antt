use Rattle.std.proofs.Common.{refl, subst}
use Rattle.capn_words.specs.Watched.{inner_of, has_failed}
use Rattle.capn_canon.specs.declared.form.Form.{Form}
use Rattle.capn_serve.specs.declared.picker.Picker.{Picker}
use Rattle.capn_serve.specs.Finish.{Ends, plain_finish}
use Rattle.capn_serve.specs.Fold.{fold_until}
use Rattle.capn_serve.specs.FormRun.{form_of}
use Rattle.capn_serve.specs.StreamRun.{first_run}
use Rattle.capn_serve.specs.inner.Picker.{done, refuses, serves}
use Rattle.capn_serve.proofs.Picks.{picks}
use Rattle.capn_serve.proofs.shared.PlainEnds.{plain_run}
use Rattle.capn_serve.proofs.pick_run.run_only.Goals as goal

pub returns : goal.returns
returns g c =
    let words = c.args.limits.message_words in
    let picker : Picker = record { rest = c.args.ranges } in
    let ran = plain_run (fold_until serves refuses done words) (first_run picker) (form_of c.args.form) _ _ _ _ _ _
    c.run_messages.result
    (subst (λ (f : Form). Ends (fold_until serves refuses done words) (first_run picker) plain_finish f
    (g.R.Read.remaining (inner_of c.args.reader.now)) (g.R.Read.remaining (inner_of c.run_messages.new.reader))
    (g.W.Write.contents (inner_of c.args.writer.now)) (g.W.Write.contents (inner_of c.run_messages.new.writer))
    (has_failed c.run_messages.new.reader) (has_failed c.run_messages.new.writer) c.run_messages.result)
    c.form.ensures c.run_messages.ensures) in
    picks words c.args.ranges.now picker refl c.requires.ascending c.args.form _ _ _ _ _ _ c.run_messages.result ran.0
    ran.1
