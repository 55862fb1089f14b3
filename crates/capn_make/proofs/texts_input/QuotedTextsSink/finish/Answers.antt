use Rattle.std.proofs.Common.{◌++◌, Ok, Err}
use Rattle.std.proofs.lemmas.Result.{err_from_is_err_and}
use Rattle.capn_text.specs.Unquoting.{own_at}
use Rattle.capn_make.proofs.UnderWay.{no_writes}
use Rattle.capn_make.proofs.UnderTexts.{come_last, ended, unheld_last, writes_at}
use Rattle.capn_make.proofs.texts_input.QuotedTextsSink.finish.Goals as goal

pub returns-in_err-finish : goal.returns-in_err-finish
returns-in_err-finish g c = λ bytes x u.
    let p = err_from_is_err_and c.from_residual.result c.from_residual.ensures.1 in
    rw (p.1, p.2) (
      unheld_last c.args.self.now.texts.form bytes x _ _ _ _ _ _ u c.in_err-finish.ensures.memory,
      no_writes _ _ _ c.requires.fine (λ e. absurd cc),
    )

pub returns-in-Ok : goal.returns-in-Ok
returns-in-Ok g c = λ bytes x u.
    let came = come_last c.args.self.now.texts.form bytes x _ _ _ _ _ _ u _ c.in_ok-finish.ensures.added in
    let gives = c.in-Ok.ensures (u.input ++ c.args.self.now.unquoter.front) x _ came in
    (ended c.args.self.now.texts.form bytes x _ _ _ _ _ _ u c.following.ensures.after _ (Ok tt) gives.0, gives.1)

pub returns-in-Err : goal.returns-in-Err
returns-in-Err g c = λ bytes x u.
    let came = come_last c.args.self.now.texts.form bytes x _ _ _ _ _ _ u _ c.in_ok-finish.ensures.added in
    let gives = c.in-Err.ensures (u.input ++ c.args.self.now.unquoter.front) x _ came in
    rw c.at_own.ensures (
      ended c.args.self.now.texts.form bytes x _ _ _ _ _ _ u c.following.ensures.after _ (Err c.in-Err.fault) gives.0,
      writes_at (own_at c.args.self.now.unquoter) _ _ _ c.in-Err.fault gives.1,
    )
