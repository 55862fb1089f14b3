use Rattle.std.proofs.Common.{List, ℕ, [], subst}
use Rattle.capn_words.specs.Watched.{inner_of, has_failed}
use Rattle.capn_serve.specs.Line.{Says, way}
use Rattle.capn_serve.proofs.Ways.{sent}
use Rattle.capn_serve.proofs.line.Line.send.Goals as goal

pub returns-clause-sent : goal.returns-clause-sent
returns-clause-sent g c =
    let old = c.args.errors.now in
    let new = c.write_part.new.errors in
    subst (λ (held : List ℕ). Says [] (way held (g.E.Write.contents (inner_of old)) (has_failed old))
    (way [] (g.E.Write.contents (inner_of new)) (has_failed new))) c.self.view_is (sent _ _ _ _ _ c.write_part.ensures)
