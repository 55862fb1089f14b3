use Rattle.std.proofs.Common.{ℕ, List, subst}
use Rattle.capn_words.specs.Watched.{inner_of, has_failed}
use Rattle.capn_serve.specs.Line.{WritesLine}
use Rattle.capn_tool.proofs.Written.{told}
use Rattle.capn_tool.proofs.unordered.tell_said.Goals as goal

pub returns-in-Ok-clause-text : goal.returns-in-Ok-clause-text
returns-in-Ok-clause-text g c =
    let wrote = c.write_all-told.ensures in
    let whole = told _ _ _ _ _ c.write_all-told.result c.requires wrote.ok wrote.begun wrote.failed in
    rw c.in-Ok.is
    (subst (λ (t : List ℕ). WritesLine t (g.E.Write.contents (inner_of c.args.errors.now))
    (g.E.Write.contents (inner_of c.write_all-told.new.self)) (has_failed c.write_all-told.new.self))
    c.as_bytes.ensures.value whole)

pub returns-in-Err-clause-memory : goal.returns-in-Err-clause-memory
returns-in-Err-clause-memory g c = rw c.in-Err.is c.end-status.ensures.says
