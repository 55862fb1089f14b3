use Rattle.std.proofs.Common.{ap, ◌∙◌}
use Rattle.capn_commands.specs.declared.plan.Plan.TheVariants as plans
use Rattle.capn_commands.specs.declared.plan.Whole.{Whole}
use Rattle.capn_commands.specs.declared.plan.Whole.TheVariants as wholes
use Rattle.capn_commands.proofs.RunLaw.{runs_planned}
use Rattle.capn_commands.proofs.command_run.perform.Goals as goal

pub run_each-requires-clause-reader_fine : goal.run_each-requires-clause-reader_fine
run_each-requires-clause-reader_fine g c = c.requires.reader_fine

pub run_each-requires-clause-writer_fine : goal.run_each-requires-clause-writer_fine
run_each-requires-clause-writer_fine g c = c.requires.writer_fine

pub run_each_packed-requires-clause-reader_fine : goal.run_each_packed-requires-clause-reader_fine
run_each_packed-requires-clause-reader_fine g c = c.requires.reader_fine

pub run_each_packed-requires-clause-writer_fine : goal.run_each_packed-requires-clause-writer_fine
run_each_packed-requires-clause-writer_fine g c = c.requires.writer_fine

pub returns-in-Packed-whole : goal.returns-in-Packed-whole
returns-in-Packed-whole g c =
    runs_planned c.args.plan (plans.Whole wholes.Packed) _ _ _ _ _ _ c.write_made.result
    (c.in-Whole.is ∙ ap (λ (w : Whole). plans.Whole w) c.in-Packed-whole.is)
    (c.write_made.ensures wholes.Packed _ _ _ c.make_text.ensures)

pub returns-in-Unpacked : goal.returns-in-Unpacked
returns-in-Unpacked g c =
    runs_planned c.args.plan (plans.Whole (wholes.Unpacked c.in-Unpacked.most)) _ _ _ _ _ _
    c.write_made-in-Unpacked.result (c.in-Whole.is ∙ ap (λ (w : Whole). plans.Whole w) c.in-Unpacked.is)
    (c.write_made-in-Unpacked.ensures (wholes.Unpacked c.in-Unpacked.most) _ _ _ c.read_words.ensures)

pub returns-in-Canonical : goal.returns-in-Canonical
returns-in-Canonical g c =
    runs_planned c.args.plan (plans.Whole (wholes.Canonical c.in-Canonical.form c.in-Canonical.limits)) _ _ _ _ _ _
    c.write_made-in-Canonical.result (c.in-Whole.is ∙ ap (λ (w : Whole). plans.Whole w) c.in-Canonical.is)
    (c.write_made-in-Canonical.ensures
    (wholes.Canonical c.in-Canonical.form c.in-Canonical.limits) _ _ _ c.make_canonical.ensures)

pub returns-in-Bare : goal.returns-in-Bare
returns-in-Bare g c =
    runs_planned c.args.plan (plans.Whole (wholes.Bare c.in-Bare.piece c.in-Bare.limits)) _ _ _ _ _ _
    c.run_bare_piece.result (c.in-Whole.is ∙ ap (λ (w : Whole). plans.Whole w) c.in-Bare.is) c.run_bare_piece.ensures

pub returns-in-One : goal.returns-in-One
returns-in-One g c =
    runs_planned c.args.plan (plans.Whole (wholes.One c.in-One.piece c.in-One.form c.in-One.limits)) _ _ _ _ _ _
    c.run_framed.result (c.in-Whole.is ∙ ap (λ (w : Whole). plans.Whole w) c.in-One.is) c.run_framed.ensures

pub returns-in-Each : goal.returns-in-Each
returns-in-Each g c =
    runs_planned c.args.plan (plans.Each c.in-Each.piece c.in-Each.limits) _ _ _ _ _ _ c.run_each.result c.in-Each.is
    c.run_each.ensures

pub returns-in-Packed : goal.returns-in-Packed
returns-in-Packed g c =
    runs_planned c.args.plan (plans.Packed c.in-Packed.piece c.in-Packed.limits) _ _ _ _ _ _ c.run_each_packed.result
    c.in-Packed.is c.run_each_packed.ensures
