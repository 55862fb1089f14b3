use Rattle.std.proofs.Common.{sym, subst}
use Rattle.capn_make.specs.inner.RunParts.{IsUnderWay}
use Rattle.capn_make.proofs.RunEnds.{made_of, memory_of, stops_of}
use Rattle.capn_make.proofs.UnderWay.{begins}
use Rattle.capn_make.proofs.make_run.make.Goals as goal

pub run-requires-clause-new : goal.run-requires-clause-new
run-requires-clause-new g c = begins c.refusing.ensures.one _ _ _ _ _ _ c.new-texts.ensures.new

pub returns-clause-made : goal.returns-clause-made
returns-clause-made g c =
    rw (sym c.new-texts.ensures.form) (made_of c.new-texts.result.form _ (λ s bytes a b takes. (
      s.made.items,
      s.rest.items,
      s.line,
      s.tested,
      subst (λ f. IsUnderWay f bytes a b s.made.items s.rest.items s.line s.tested)
          takes.0 takes.1,
    )) _ _ _ _ _ _ _ _ c.run.ensures)

pub returns-clause-stops : goal.returns-clause-stops
returns-clause-stops g c =
    rw (sym c.new-texts.ensures.form) (stops_of c.new-texts.result.form _ (λ s bytes a b takes. (
      s.made.items,
      s.rest.items,
      s.line,
      s.tested,
      subst (λ f. IsUnderWay f bytes a b s.made.items s.rest.items s.line s.tested)
          takes.0 takes.1,
    )) _ _ _ _ _ _ _ _ c.run.ensures c.refusing.ensures.goes_on)

pub returns-clause-memory : goal.returns-clause-memory
returns-clause-memory g c =
    memory_of c.new-texts.result.form _ (λ s bytes a b takes. (
      s.made.items,
      s.rest.items,
      s.line,
      s.tested,
      subst (λ f. IsUnderWay f bytes a b s.made.items s.rest.items s.line s.tested) takes.0 takes.1,
    )) _ _ _ _ _ _ _ _ c.run.ensures
