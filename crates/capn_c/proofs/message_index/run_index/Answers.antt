-- The index of a message is also the index of the bytes that are read as that message.
use Rattle.std.proofs.Common.{◌≡◌}
use Rattle.capn_c.proofs.Runs.{run_indexed, unread_indexed}
use Rattle.capn_c.specs.declared.message_index.WriteIndex.{WriteIndex}
use Rattle.capn_c.proofs.message_index.run_index.Goals as goal

pub returns-in-Ok-clause-indexed : goal.returns-in-Ok-clause-indexed
returns-in-Ok-clause-indexed c =
    run_indexed (λ (t : WriteIndex). t.form) (λ (t : WriteIndex). t.out.now) (λ (t : WriteIndex). t.report.now)
    (λ (t u : WriteIndex). (u.out.ghost_name ≡ t.out.ghost_name) × (u.report.ghost_name ≡ t.report.ghost_name))
    c.args.bytes.now c.args.limits _ _ _ c.in-Ok.ensures

pub returns-in-Err-clause-indexed : goal.returns-in-Err-clause-indexed
returns-in-Err-clause-indexed c =
    unread_indexed (λ (t : WriteIndex). t.form) (λ (t : WriteIndex). t.out.now) (λ (t : WriteIndex). t.report.now)
    (λ (t u : WriteIndex). (u.out.ghost_name ≡ t.out.ghost_name) × (u.report.ghost_name ≡ t.report.ghost_name))
    c.args.bytes.now c.args.limits _ _ c.in-Err.refusal c.refuse.result c.refuse.new.report c.refuse.ensures
    c.in-Err.ensures
