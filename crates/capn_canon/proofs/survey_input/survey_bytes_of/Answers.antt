-- The survey of bytes is true of the one value that the bytes denote.
use Rattle.std.proofs.Common.{arith}
use Rattle.capn_canon.proofs.calls.Accounted.{surveyed_only, surveyed_short}
use Rattle.capn_canon.proofs.calls.ReadInput.{surveyed}
use Rattle.capn_canon.proofs.survey_input.survey_bytes_of.Goals as goal

pub returns-clause-found : goal.returns-clause-found
returns-clause-found g c =
    (surveyed c.args.form (g.B.AskedInput.bytes c.args.bytes) c.args.limits c.ask_message-answer.result.0 _ _
    c.ask_message-answer.ensures).found

pub returns-clause-refused : goal.returns-clause-refused
returns-clause-refused g c =
    (surveyed c.args.form (g.B.AskedInput.bytes c.args.bytes) c.args.limits c.ask_message-answer.result.0 _ _
    c.ask_message-answer.ensures).refused

pub returns-clause-memory : goal.returns-clause-memory
returns-clause-memory g c =
    (surveyed c.args.form (g.B.AskedInput.bytes c.args.bytes) c.args.limits c.ask_message-answer.result.0 _ _
    c.ask_message-answer.ensures).wanted

pub returns-clause-bounded : goal.returns-clause-bounded
returns-clause-bounded g c =
    (surveyed c.args.form (g.B.AskedInput.bytes c.args.bytes) c.args.limits c.ask_message-answer.result.0 _ _
    c.ask_message-answer.ensures).bounded

pub returns-clause-only : goal.returns-clause-only
returns-clause-only g c =
    let told = surveyed c.args.form (g.B.AskedInput.bytes c.args.bytes) c.args.limits c.ask_message-answer.result.0 _
    _ c.ask_message-answer.ensures in
    surveyed_only c.ask_message-answer.result.0 c.args.form (g.B.AskedInput.bytes c.args.bytes) c.args.limits
    told.found told.refused

pub returns-clause-short : goal.returns-clause-short
returns-clause-short g c =
    let told = surveyed c.args.form (g.B.AskedInput.bytes c.args.bytes) c.args.limits c.ask_message-answer.result.0 _
    _ c.ask_message-answer.ensures in
    surveyed_short c.ask_message-answer.result.0 c.args.form (g.B.AskedInput.bytes c.args.bytes) c.args.limits (omega
    arith) (omega arith)
    (omega arith) told.found
