use Rattle.capn_canon.proofs.calls.Verdicts.{verdicts}
use Rattle.capn_canon.proofs.bare_verdict.are_canonical_of.Goals as goal

pub returns-clause-found : goal.returns-clause-found
returns-clause-found g c =
    (verdicts (g.B.AskedInput.bytes c.args.bytes) c.args.limits c.ask_bare-answer.result.0 _ _
    c.ask_bare-answer.ensures).found

pub returns-clause-only : goal.returns-clause-only
returns-clause-only g c =
    (verdicts (g.B.AskedInput.bytes c.args.bytes) c.args.limits c.ask_bare-answer.result.0 _ _
    c.ask_bare-answer.ensures).only

pub returns-clause-refused : goal.returns-clause-refused
returns-clause-refused g c =
    (verdicts (g.B.AskedInput.bytes c.args.bytes) c.args.limits c.ask_bare-answer.result.0 _ _
    c.ask_bare-answer.ensures).refused

pub returns-clause-bounded : goal.returns-clause-bounded
returns-clause-bounded g c =
    (verdicts (g.B.AskedInput.bytes c.args.bytes) c.args.limits c.ask_bare-answer.result.0 _ _
    c.ask_bare-answer.ensures).bounded

pub returns-clause-no_memory : goal.returns-clause-no_memory
returns-clause-no_memory g c =
    (verdicts (g.B.AskedInput.bytes c.args.bytes) c.args.limits c.ask_bare-answer.result.0 _ _
    c.ask_bare-answer.ensures).no_memory
