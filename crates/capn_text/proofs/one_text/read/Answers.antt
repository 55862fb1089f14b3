use Rattle.std.proofs.Common.{◌++◌, [], Some, inl, inr, refl, sym, ap, subst, ◌∙◌, ◌+◌}
use Rattle.capn_text.specs.Streams.{IsFirstWrong}
use Rattle.capn_text.proofs.StreamTexts.{line_number, lines_counted}
use Rattle.std.proofs.lemmas.Result.{err_from_is_err_and}
use Rattle.std.proofs.lemmas.List.{append-nil}
use Rattle.capn_value.specs.TreeOf.{tree_of}
use Rattle.capn_value.specs.Text.{show_text}
use Rattle.capn_value.proofs.shared.Fitting.{fit_parts}
use Rattle.capn_text.proofs.ShowableValues.{showable-fit}
use Rattle.capn_text.proofs.FittingText.{all_of, fits_not, misfit_is}
use Rattle.capn_text.proofs.LostTexts.{names_no_memory}
use Rattle.capn_text.proofs.one_text.read.Goals as goal

pub returns-in-Err-clause-only : goal.returns-in-Err-clause-only
returns-in-Err-clause-only g c v f r e =
    c.ended.ensures.memory (c.in-Err.ensures.only v [] (showable-fit v f r) (fit_parts v f).low
    (all_of c.args.text.now v e))

pub returns-in-Err-clause-line : goal.returns-in-Err-clause-line
returns-in-Err-clause-line g c n same v s low e =
    names_no_memory c.in-Err.fault n (c.ended.ensures.line n same)
    (c.in-Err.ensures.only v [] s low (all_of c.args.text.now v e))

pub returns-in-Err-clause-begun : goal.returns-in-Err-clause-begun
returns-in-Err-clause-begun g c other = c.in-Err.ensures.begun (λ named. other (c.ended.ensures.first named))

pub returns-in-Err-clause-first : goal.returns-in-Err-clause-first
returns-in-Err-clause-first g c n same = c.in-Err.ensures.first n (c.ended.ensures.line n same)

pub returns-in-Err-clause-misfit : goal.returns-in-Err-clause-misfit
returns-in-Err-clause-misfit g c m same =
    let is = c.ended.ensures.misfit m same in
    inl (c.in-Err.ensures.tall m is, c.in-Err.ensures.deep m is)

pub returns-then-has_more-clause-only : goal.returns-then-has_more-clause-only
returns-then-has_more-clause-only g c v f r e =
    let is = c.in-Ok.ensures.only v [] (showable-fit v f r) (fit_parts v f).low (all_of c.args.text.now v e) in
    absurd (c.if-has_more.ensures.more refl is.1)

pub returns-then-has_more-clause-line : goal.returns-then-has_more-clause-line
returns-then-has_more-clause-line g c n same v s low e =
    let is = c.in-Ok.ensures.only v [] s low (all_of c.args.text.now v e) in
    absurd (c.if-has_more.ensures.more refl is.1)

pub returns-in_err-tree-clause-only : goal.returns-in_err-tree-clause-only
returns-in_err-tree-clause-only g c v f r e =
    let is = c.in-Ok.ensures.only v [] (showable-fit v f r) (fit_parts v f).low (all_of c.args.text.now v e) in
    let p = c.in_err-tree.ensures.misfit in
    absurd (fits_not v (tree_of c.in-Ok.value) p.0 is.0 f p.2)

pub returns-in_err-tree-clause-misfit : goal.returns-in_err-tree-clause-misfit
returns-in_err-tree-clause-misfit g c =
    let q = err_from_is_err_and c.from_residual.result c.from_residual.ensures.1 in
    let p = c.in_err-tree.ensures.misfit in
    rw (q.1, q.2) (λ m same. inr (
      tree_of c.in-Ok.value,
      c.in-Ok.ensures.range,
      c.in-Ok.ensures.showable,
      c.in-Ok.ensures.low,
      c.in-Ok.ensures.found ∙ ap (λ r. show_text (tree_of c.in-Ok.value) ++ r)
          (c.if-has_more.ensures.over refl)
          ∙ append-nil (show_text (tree_of c.in-Ok.value)),
      p.2 ∙ ap Some (misfit_is p.0 m (sym p.1 ∙ same)),
    ))

pub returns-clause-found : goal.returns-clause-found
returns-clause-found g c =
    c.in-Ok.ensures.found
    ∙ ap (λ r. show_text (tree_of c.in-Ok.value) ++ r) (c.if-has_more.ensures.over refl)
    ∙ append-nil (show_text (tree_of c.in-Ok.value)) ∙ ap show_text (sym c.in_ok-tree.ensures.found)

pub returns-clause-only : goal.returns-clause-only
returns-clause-only g c v f r e =
    let is = c.in-Ok.ensures.only v [] (showable-fit v f r) (fit_parts v f).low (all_of c.args.text.now v e) in
    c.in_ok-tree.ensures.found ∙ is.0

pub returns-then-has_more-clause-first : goal.returns-then-has_more-clause-first
returns-then-has_more-clause-first g c n same =
    let t = c.args.text.now in
    let lines = c.lines_before.ensures.exact
    ∙ lines_counted t (tree_of c.in-Ok.value) c.in-Ok.rest.now c.in-Ok.ensures.found in
    subst (λ m. IsFirstWrong show_text m t)
    (ap (λ m. m + 1) (sym lines) ∙ line_number (c.lines_before.result + 1) n same)
    (c.in-Ok.ensures.more (c.if-has_more.ensures.more refl))
