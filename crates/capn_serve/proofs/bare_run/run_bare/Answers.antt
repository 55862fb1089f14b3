use Rattle.std.proofs.Common.{◌∙◌, refl, sym}
use Rattle.std.proofs.lemmas.Result.{err_from_is_err_and}
use Rattle.capn_serve.specs.Fold.{fold_until}
use Rattle.capn_serve.proofs.BareEnds.{runs_done, runs_stopped, runs_written}
use Rattle.capn_serve.proofs.shared.Wrote.{io_of_unwritten, io_of_written, unwritten, written}
use Rattle.capn_serve.proofs.bare_run.run_bare.Goals as goal

pub returns-then-is_done : goal.returns-then-is_done
returns-then-is_done g c =
    λ most. runs_done (fold_until g.S.Service.serves g.S.Service.refuses g.S.Service.done most) c.args.run.now _ _ _ _
    (sym c.is_done.ensures ∙ c.if-is_done.true) c.requires.reader_fine c.requires.writer_fine

pub returns-in_err-serve_bare : goal.returns-in_err-serve_bare
returns-in_err-serve_bare g c =
    λ most.
    let p = err_from_is_err_and c.from_residual-in_err-serve_bare.result c.from_residual-in_err-serve_bare.ensures.1 in
    rw (p.1, p.2)
    (runs_stopped (fold_until g.S.Service.serves g.S.Service.refuses g.S.Service.done most) c.args.run.now
    c.serve_bare.new.run (sym c.is_done.ensures ∙ c.if-is_done.false) _ _ _ _ _
    c.deref.result.now c.in_ok-bytes.bytes c.in_ok-bytes.ensures c.deref.ensures.value _ c.new-text.result.items
    c.serve_bare.new.text.items c.in_err-serve_bare.field-0.0 c.new-text.ensures.items
    (c.in_err-serve_bare.ensures most))

pub returns-in_err-write_all : goal.returns-in_err-write_all
returns-in_err-write_all g c =
    λ most.
    let p = err_from_is_err_and c.from_residual-in_err-write_all.result c.from_residual-in_err-write_all.ensures.1 in
    let served = c.in_ok-serve_bare.ensures most in
    let wrote = c.in_err-write_all.ensures in
    rw (p.1, p.2)
    (runs_written (fold_until g.S.Service.serves g.S.Service.refuses g.S.Service.done most) c.args.run.now
    c.serve_bare.new.run (sym c.is_done.ensures ∙ c.if-is_done.false) _ _ _ _ _
    c.deref.result.now c.in_ok-bytes.bytes c.in_ok-bytes.ensures c.deref.ensures.value _ _ c.new-text.result.items
    c.serve_bare.new.text.items c.deref-2.result.now _ unwritten c.new-text.ensures.items
    served c.deref-2.ensures.value tt wrote.begun (io_of_unwritten _ _ served.2.3 wrote.failed) refl)

pub returns : goal.returns
returns g c =
    λ most.
    let served = c.in_ok-serve_bare.ensures most in
    let wrote = c.in_ok-write_all.ensures in
    runs_written (fold_until g.S.Service.serves g.S.Service.refuses g.S.Service.done most) c.args.run.now
    c.serve_bare.new.run (sym c.is_done.ensures ∙ c.if-is_done.false) _ _ _ _ _
    c.deref.result.now c.in_ok-bytes.bytes c.in_ok-bytes.ensures c.deref.ensures.value _ _ c.new-text.result.items
    c.serve_bare.new.text.items c.deref-2.result.now _ written c.new-text.ensures.items
    served c.deref-2.ensures.value wrote.ok wrote.begun (io_of_written _ _ served.2.3 wrote.failed) tt
