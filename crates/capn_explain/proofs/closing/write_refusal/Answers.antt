use Rattle.std.proofs.Common.{refl, ◌∙◌}
use Rattle.std.proofs.lemmas.Result.{err_from_is_err_and}
use Rattle.capn_serve.proofs.shared.Wrote.{io_of_unwritten, io_of_written, unwritten, written}
use Rattle.capn_explain.specs.ExplainRun.{told_at}
use Rattle.capn_explain.proofs.Closings.{closing_refused, closing_wrote, told_some}
use Rattle.capn_explain.proofs.closing.write_refusal.Goals as goal

pub returns-in_err-write_all : goal.returns-in_err-write_all
returns-in_err-write_all g c =
    let p = err_from_is_err_and c.from_residual-in_err-write_all.result c.from_residual-in_err-write_all.ensures.1 in
    let wrote = c.in_err-write_all.ensures in
    rw (p.1, p.2)
    (closing_wrote (told_at c.args.order.now c.args.at c.args.refusal.now c.args.begun.now)
    c.as_bytes.result.now _ _ _ unwritten
    (told_some c.args.order.now c.args.at c.args.refusal.now c.args.begun.now)
    (c.as_bytes.ensures.value ∙ c.in_ok-lines.ensures.found) tt wrote.begun
    (io_of_unwritten _ _ c.requires wrote.failed) refl)

pub returns : goal.returns
returns g c =
    let wrote = c.in_ok-write_all.ensures in
    closing_wrote (told_at c.args.order.now c.args.at c.args.refusal.now c.args.begun.now)
    c.as_bytes.result.now _ _ _ written
    (told_some c.args.order.now c.args.at c.args.refusal.now c.args.begun.now)
    (c.as_bytes.ensures.value ∙ c.in_ok-lines.ensures.found) wrote.ok wrote.begun
    (io_of_written _ _ c.requires wrote.failed) tt

pub returns-in_err-lines : goal.returns-in_err-lines
returns-in_err-lines g c =
    closing_refused (told_at c.args.order.now c.args.at c.args.refusal.now c.args.begun.now) _ _ _
    c.from_residual.result c.in_err-lines.field-0.0 c.from_residual.ensures.1 c.in_err-lines.ensures.only refl
    c.requires
    (told_some c.args.order.now c.args.at c.args.refusal.now c.args.begun.now)
