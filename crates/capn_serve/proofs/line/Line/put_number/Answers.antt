use Rattle.std.proofs.Common.{List, ℕ, subst, ◌∙◌}
use Rattle.capn_words.specs.Watched.{inner_of, has_failed}
use Rattle.capn_serve.specs.Line.{Says, way}
use Rattle.capn_serve.proofs.line.Line.put_number.Goals as goal

pub returns : goal.returns
returns g c =
    let old = c.args.errors.now in
    let new = c.put.new.errors in
    subst (λ (part : List ℕ). Says part (way c.args.self.now (g.E.Write.contents (inner_of old)) (has_failed old))
    (way c.put.new.self (g.E.Write.contents (inner_of new)) (has_failed new)))
    (c.as_bytes.ensures.value ∙ c.format.ensures.text) c.put.ensures
