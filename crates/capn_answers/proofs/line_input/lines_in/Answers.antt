-- Bytes that denote a value have lines, unless memory was refused.
use Rattle.std.proofs.Common.{◌≡◌}
use Rattle.capn_answers.proofs.LinesRead.{lines_only}
use Rattle.capn_answers.specs.declared.line_input.WriteLines.{WriteLines}
use Rattle.capn_answers.proofs.line_input.lines_in.Goals as goal

pub returns-clause-only : goal.returns-clause-only
returns-clause-only g c v d =
    lines_only (λ (t : WriteLines). t.form) (λ (t : WriteLines). t.out.now)
    (λ (t u : WriteLines). u.out.ghost_name ≡ t.out.ghost_name) c.args.bytes.now c.args.limits _ _ c.run_task.result
    c.run_task.ensures v d
