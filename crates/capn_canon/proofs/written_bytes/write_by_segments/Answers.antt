use Rattle.std.proofs.Common.{ℕ, List, subst, sym, ◌∙◌}
use Rattle.capn_canon.specs.inner.Outcomes.{IsInto}
use Rattle.capn_canon.proofs.written_bytes.write_by_segments.Goals as goal

pub returns-in-Some-clause-into : goal.returns-in-Some-clause-into
returns-in-Some-clause-into g c =
    subst (λ (x : List (List ℕ)). IsInto x c.args.limits c.args.out.now c.write_message.new.out c.write_message.result)
    (c.space.ensures ∙ sym c.in-Some.ensures.one) c.write_message.ensures.into
