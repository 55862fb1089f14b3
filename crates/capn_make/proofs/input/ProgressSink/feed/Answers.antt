use Rattle.std.proofs.Common.{◌++◌, ◌∙◌, length, ap, arith}
use Rattle.std.proofs.lemmas.Result.{err_from_is_err_and}
use Rattle.std.proofs.lemmas.List.{length-append}
use Rattle.capn_make.proofs.UnderWay.{come_at, no_writes, unheld}
use Rattle.capn_make.proofs.input.ProgressSink.feed.Goals as goal

pub returns-in_err-extend_from_slice-clause-fed : goal.returns-in_err-extend_from_slice-clause-fed
returns-in_err-extend_from_slice-clause-fed g c = λ bytes x takes.
    let p = err_from_is_err_and c.from_residual.result c.from_residual.ensures.1 in
    rw (p.1, p.2) (
      unheld c.args.self.now.form bytes x _ _ _ _ _ takes c.args.piece.now c.requires.some,
      no_writes _ _ _ c.requires.fine (λ e. absurd cc),
    )

pub look-requires-clause-within : goal.look-requires-clause-within
look-requires-clause-within g c =
    let size = c.len-before.ensures ∙ c.args.self.now.rest.ok.0 in
    let grown = ap length c.in_ok-extend_from_slice.ensures.items
    ∙ length-append c.args.self.now.rest.items c.args.piece.now in
    omega arith

pub returns-clause-fed : goal.returns-clause-fed
returns-clause-fed g c = λ bytes x takes.
    let size = c.len-before.ensures ∙ c.args.self.now.rest.ok.0 in
    c.look.ensures.looked (bytes ++ c.args.piece.now) x (come_at c.args.self.now.form bytes x _ _ _ _ _ takes
    c.args.piece.now _ _ c.in_ok-extend_from_slice.ensures.items size)
