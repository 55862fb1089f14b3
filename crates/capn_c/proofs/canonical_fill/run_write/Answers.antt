-- The result for a message is also the result for the bytes that are read as that message.
use Rattle.std.proofs.Common.{◌≡◌}
use Rattle.capn_c.proofs.Runs.{run_filled, unread_filled}
use Rattle.capn_c.specs.declared.canonical_fill.Write.{Write}
use Rattle.capn_c.proofs.canonical_fill.run_write.Goals as goal

pub returns-in-Ok-clause-filled : goal.returns-in-Ok-clause-filled
returns-in-Ok-clause-filled c =
    run_filled (λ (t : Write). t.out.now) (λ (t : Write). t.report.now)
    (λ (t u : Write). (u.out.ghost_name ≡ t.out.ghost_name) × (u.report.ghost_name ≡ t.report.ghost_name))
    c.args.form c.args.bytes.now c.args.limits _ _ _ c.in-Ok.ensures

pub returns-in-Err-clause-filled : goal.returns-in-Err-clause-filled
returns-in-Err-clause-filled c =
    unread_filled (λ (t : Write). t.out.now) (λ (t : Write). t.report.now)
    (λ (t u : Write). (u.out.ghost_name ≡ t.out.ghost_name) × (u.report.ghost_name ≡ t.report.ghost_name))
    c.args.form c.args.bytes.now c.args.limits _ _ c.in-Err.refusal c.refuse.result c.refuse.new.report
    c.refuse.ensures c.in-Err.ensures
