use Rattle.std.proofs.Common.{ℕ, List, take, drop, [], arith, inr, refl, ap, ◌∙◌}
use Rattle.capn_pack.specs.declared.whole_groups.Next.TheVariants as nexts
use Rattle.capn_commands.proofs.Unpending.{taken_end, taken_long, taken_piece}
use Rattle.capn_commands.proofs.pending.take_chunk.Goals as goal

pub returns-in-End-clause-pending : goal.returns-in-End-clause-pending
returns-in-End-clause-pending g c most seen p =
    let pending = c.args.pending.now in
    let u = rw c.fill.ensures at c.in_ok-progress.ensures.some in
    taken_end most seen _ (take pending.len pending.text) c.args.piece.now pending.at pending.left pending.is_long _ _
    _ _ _ _ c.if-pending.false u c.in-End.is refl (omega (arith, u.fits)) p

pub returns-in-Cut-clause-pending : goal.returns-in-Cut-clause-pending
returns-in-Cut-clause-pending g c most seen p =
    let pending = c.args.pending.now in
    let u = rw c.fill.ensures at c.in_ok-progress.ensures.some in
    taken_piece most seen _ (take pending.len pending.text) c.args.piece.now pending.at pending.left pending.is_long _
    _ _ _ nexts.Cut _ _ _ c.if-pending.false u c.in-Cut.is (inr refl)
    (c.keep.ensures ∙ ap (λ (xs : List ℕ). drop c.in_ok-progress.progress.bytes xs) c.fill.ensures) refl
    (omega (arith, u.fits)) p

pub returns-in-TooLong-clause-pending : goal.returns-in-TooLong-clause-pending
returns-in-TooLong-clause-pending g c most seen p =
    let pending = c.args.pending.now in
    let u = rw c.fill.ensures at c.in_ok-progress.ensures.some in
    taken_long most seen _ (take pending.len pending.text) c.args.piece.now pending.at pending.left pending.is_long _ _
    _ _ [] _ 0 c.if-pending.false u c.in-TooLong.is refl p
