use Rattle.std.proofs.Common.{refl}
use Rattle.std.proofs.lemmas.Result.{err_from_is_err_and}
use Rattle.capn_serve.proofs.Ways.{begun_behind, begun_longer}
use Rattle.capn_serve.proofs.shared.Wrote.{has_failed_now, is_fine_still}
use Rattle.capn_serve.proofs.adding.send_bytes.Goals as goal

pub returns-in_err-write_all : goal.returns-in_err-write_all
returns-in_err-write_all g c =
    let wrote = c.in_err-write_all.ensures in
    let p = err_from_is_err_and c.from_residual.result c.from_residual.ensures.1 in
    rw (p.1, p.2) (
      refl,
      begun_longer _ _ c.args.text.now.items c.args.bytes.now (rw c.deref.ensures.value at wrote.begun),
      has_failed_now _ _ c.requires wrote.failed,
    )

pub returns-in_err-write_all-2 : goal.returns-in_err-write_all-2
returns-in_err-write_all-2 g c =
    let sent = c.in_ok-write_all.ensures in
    let wrote = c.in_err-write_all-2.ensures in
    let p =
    err_from_is_err_and c.from_residual-in_err-write_all-2.result c.from_residual-in_err-write_all-2.ensures.1 in
    rw (p.1, p.2) (
      refl,
      begun_behind _ _ _ c.args.text.now.items c.args.bytes.now (rw c.deref.ensures.value at sent.ok) wrote.begun,
      has_failed_now _ _ (is_fine_still _ _ c.requires sent.failed) wrote.failed,
    )
