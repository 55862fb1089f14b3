use Rattle.std.proofs.Common.{sym, subst}
use Rattle.capn_make.specs.inner.TextsParts.{IsUnderTexts}
use Rattle.capn_make.proofs.TextsEnds.{made_of}
use Rattle.capn_make.proofs.UnderTexts.{begins}
use Rattle.capn_make.proofs.texts_run.make_texts.Goals as goal

pub run-requires-clause-new : goal.run-requires-clause-new
run-requires-clause-new g c =
    let e = c.new-texts.ensures in begins c.refusing.ensures.one _ _ _ _ _ _ _ e.new e.unread

pub returns : goal.returns
returns g c =
    rw (sym c.new-texts.ensures.form) (made_of c.new-texts.result.texts.form _ (λ s bytes a b takes. (
      s.texts.made.items,
      s.texts.rest.items,
      s.texts.line,
      s.texts.tested,
      s.unquoter,
      subst (λ f. IsUnderTexts f bytes a b s.texts.made.items s.texts.rest.items s.texts.line s.texts.tested s.unquoter)
          takes.0 takes.1,
    )) _ _ _ _ _ _ _ _ c.run.ensures c.refusing.ensures.goes_on)
