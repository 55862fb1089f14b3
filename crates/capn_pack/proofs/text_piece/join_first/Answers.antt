use Rattle.std.proofs.Common.{arith, refl, length, inl, inr}
use Rattle.std.proofs.lemmas.Bool.{cases_lt}
use Rattle.capn_pack.proofs.StartLemmas.{joined_started}
use Rattle.capn_pack.proofs.shared.StreamLemmas.{join_past, join_whole, join_open}
use Rattle.capn_pack.proofs.text_piece.join_first.Goals as goal

pub overflow_sub-result : goal.overflow_sub-result
overflow_sub-result g c =
    join_past _ c.args.piece.now _ _ _ _ _ _ _ _ (omega arith) c.fill.ensures.joined c.requires.held.2 c.in-Ok.ensures

pub returns-in-Ok-clause-joined : goal.returns-in-Ok-clause-joined
returns-in-Ok-clause-joined g c =
    join_whole _ c.args.piece.now _ c.fill.new.held _ c.min-more.result _ _ _ _ _ (omega arith) (omega arith)
    c.fill.ensures.joined c.requires.held.2 c.in-Ok.ensures

pub returns-in-Err-Cut-clause-joined : goal.returns-in-Err-Cut-clause-joined
returns-in-Err-Cut-clause-joined g c =
    let cut = rw c.in-Err-Cut.field-0-is at c.in-Err-Cut.ensures in
    join_open c.args.held.now c.args.piece.now _ _ _ c.min-more.result _ _ _ _ (omega arith) (omega arith)
    (elim (cases_lt 2049 (length c.args.piece.now)) [ inl h ↦ inr (omega arith) | inr h ↦ inl (omega arith) ])
    (omega arith) c.fill.ensures.joined refl refl cut.1 cut.0 cut.2

pub returns-in-Err-Memory-clause-memory : goal.returns-in-Err-Memory-clause-memory
returns-in-Err-Memory-clause-memory g c none =
    let refused = rw c.in-Err-Memory.field-0-is at c.in-Err-Memory.ensures in
    joined_started _ c.args.piece.now _ c.min-more.result _ c.fill.ensures.joined refused.0 none
