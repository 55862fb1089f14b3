use Rattle.std.proofs.Common.{◌≡◌, ◌-◌, ◌∙◌, ℕ, List, length, refl, ap, sym, subst, arith}
use Rattle.std.proofs.lemmas.Result.{err_from_is_err_and}
use Rattle.capn_serve.specs.Fold.{Fold, fold_until}
use Rattle.capn_serve.specs.ChunkRun.{IsListening}
use Rattle.capn_serve.proofs.PackedMore.{part_all, part_done, part_long, part_stops}
use Rattle.capn_stream.specs.StreamPieces.{Framing, IsUnfinished}
use Rattle.capn_serve.proofs.Holding.{holds_long, holds_part}
use Rattle.capn_serve.proofs.packed_run.serve_part.Goals as goal

unfinished : {X : Type 0} (f : Fold X) (framer : Framing) (rest : List ℕ) → framer.rest ≡ rest → IsListening f framer
    → IsUnfinished rest f.most
unfinished f framer rest is listening =
    subst (λ (l : List ℕ). IsUnfinished l f.most) is
    (subst (λ (m : ℕ). IsUnfinished framer.rest m) listening.most listening.part)

pub returns-in_err-serve_bytes-clause-served : goal.returns-in_err-serve_bytes-clause-served
returns-in_err-serve_bytes-clause-served g c =
    let p = err_from_is_err_and c.from_residual.result c.from_residual.ensures.1 in
    rw (p.1, p.2)
    (part_stops (fold_until g.S.Service.serves g.S.Service.refuses g.S.Service.done c.args.most) c.args.run.now
    c.args.packed.now.left c.min-within.result c.len-count.result c.args.packed.now.framer.rest
    c.args.packed.now.part.items c.deref.result.now _ _ _ c.deref.ensures.value
    (omega (arith, c.len-count.ensures, c.deref.ensures.len, ap (λ (l : List ℕ). length l) c.deref.ensures.value))
    (omega (arith, c.min-within.ensures)) c.in_err-serve_bytes.field-0.0 c.in_err-serve_bytes.ensures.served)

pub returns-then-within-count-clause-served : goal.returns-then-within-count-clause-served
returns-then-within-count-clause-served g c =
    let served = c.in_ok-serve_bytes.ensures.served in
    let on = sym c.is_done.ensures ∙ c.if-is_done.false in
    let kept = served.2 on in
    part_long (fold_until g.S.Service.serves g.S.Service.refuses g.S.Service.done c.args.most) c.args.run.now
    c.args.packed.now.left c.min-within.result c.len-count.result c.args.packed.now.framer.rest
    c.args.packed.now.part.items c.deref.result.now _ _ _ c.deref.ensures.value
    (omega (arith, c.len-count.ensures, c.deref.ensures.len, ap (λ (l : List ℕ). length l) c.deref.ensures.value))
    (omega (arith, c.min-within.ensures)) c.serve_bytes.new.run served.0 served.3
    c.if-within-count.true (unfinished _ _ _ kept.0 kept.1) on served.1

pub returns-then-is_done-clause-served : goal.returns-then-is_done-clause-served
returns-then-is_done-clause-served g c =
    let served = c.in_ok-serve_bytes.ensures.served in
    part_done (fold_until g.S.Service.serves g.S.Service.refuses g.S.Service.done c.args.most) c.args.run.now
    c.args.packed.now.left c.min-within.result c.len-count.result c.args.packed.now.framer.rest
    c.args.packed.now.part.items c.deref.result.now _ _ _ c.deref.ensures.value
    (omega (arith, c.len-count.ensures, c.deref.ensures.len, ap (λ (l : List ℕ). length l) c.deref.ensures.value))
    (omega (arith, c.min-within.ensures)) c.serve_bytes.new.run served.0 c.args.packed.now.left
    c.args.packed.now.framer c.serve_bytes.new.framer refl served.3 (sym c.is_done.ensures ∙ c.if-is_done.true) served.1

pub returns-clause-served : goal.returns-clause-served
returns-clause-served g c =
    let served = c.in_ok-serve_bytes.ensures.served in
    let kept = served.2 (sym c.is_done.ensures ∙ c.if-is_done.false) in
    part_all (fold_until g.S.Service.serves g.S.Service.refuses g.S.Service.done c.args.most) c.args.run.now
    c.args.packed.now.left c.min-within.result c.len-count.result c.args.packed.now.framer.rest
    c.args.packed.now.part.items c.deref.result.now _ _ _ c.deref.ensures.value
    (omega (arith, c.len-count.ensures, c.deref.ensures.len, ap (λ (l : List ℕ). length l) c.deref.ensures.value))
    (omega (arith, c.min-within.ensures)) c.serve_bytes.new.run served.0 (c.args.packed.now.left - c.min-within.result)
    c.args.packed.now.framer c.serve_bytes.new.framer refl served.3
    (omega (arith, c.min-within.ensures, c.if-within-count.false)) (omega (arith, c.min-within.ensures)) kept.0 kept.1
    served.1

pub returns-in_err-serve_bytes-clause-came : goal.returns-in_err-serve_bytes-clause-came
returns-in_err-serve_bytes-clause-came g c =
    let p = err_from_is_err_and c.from_residual.result c.from_residual.ensures.1 in
    rw (p.1, p.2)
    (holds_part (fold_until g.S.Service.serves g.S.Service.refuses g.S.Service.done c.args.most) c.args.run.now
    c.serve_bytes.new.run c.args.packed.now.left c.min-within.result c.len-count.result c.args.packed.now.framer.rest
    c.args.packed.now.part.items c.deref.result.now c.serve_bytes.new.framer.rest c.in_err-serve_bytes.field-0.0
    c.deref.ensures.value
    (omega (arith, c.len-count.ensures, c.deref.ensures.len, ap (λ (l : List ℕ). length l) c.deref.ensures.value))
    (omega (arith, c.min-within.ensures)) c.in_err-serve_bytes.ensures.came)

pub returns-then-within-count-clause-came : goal.returns-then-within-count-clause-came
returns-then-within-count-clause-came g c =
    holds_long (fold_until g.S.Service.serves g.S.Service.refuses g.S.Service.done c.args.most) c.args.run.now _ _ _
