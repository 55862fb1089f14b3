use Rattle.std.proofs.Common.{arith}
use Rattle.std.proofs.lemmas.Result.{err_from_is_err_and}
use Rattle.capn_commands.proofs.OneRead.{first_held, unheld, words_held}
use Rattle.capn_commands.proofs.whole_input.read_frame.Goals as goal

pub returns-in_err-input-in-Stream : goal.returns-in_err-input-in-Stream
returns-in_err-input-in-Stream g c =
    let p = err_from_is_err_and c.from_residual.result c.from_residual.ensures.1 in
    rw (p.1, p.2)
    (unheld g.row.A.Denot _ _ _ c.args.most c.args.form c.in_err-input-in-Stream.field-0.0
    c.in_err-input-in-Stream.ensures)

pub returns-in_ok-input-in-Stream : goal.returns-in_ok-input-in-Stream
returns-in_ok-input-in-Stream g c =
    rw c.in-Stream.is
    (first_held _ _ _ c.args.most _ c.in_ok-input-in-Stream.input (omega arith) c.in_ok-input-in-Stream.ensures)

pub returns-in-Packed : goal.returns-in-Packed
returns-in-Packed g c =
    rw c.in-Packed.is (words_held _ _ _ c.args.most _ c.read_words.result (omega arith) c.read_words.ensures)
