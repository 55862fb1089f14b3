use Rattle.std.proofs.Common.{◌≢◌, inr, ◌++◌, [], sym, subst, ◌∙◌}
use Rattle.capn_text.specs.Streams.{MayGoOn}
use Rattle.capn_make.specs.MadeInput.{IsUnended, IsWrong}
use Rattle.capn_make.specs.inner.RunParts.{unread}
use Rattle.capn_make.proofs.NextTexts.{after_text, text_left, refused_text, refused_next, named_line, wrong_on}
use Rattle.capn_make.proofs.next_text.next_piece.Goals as goal

pub returns-in_err-made-in-Ok-Some-clause-after : goal.returns-in_err-made-in-Ok-Some-clause-after
returns-in_err-made-in-Ok-Some-clause-after g c =
    let found = c.in-Ok-Some.ensures.found in
    after_text c.in-Ok-Some.tree c.args.texts.now c.read_next.new.self (rw c.in-Ok-Some.field-0-is at found)

pub returns-in_ok-made-in-Ok-Some-clause-after : goal.returns-in_ok-made-in-Ok-Some-clause-after
returns-in_ok-made-in-Ok-Some-clause-after g c =
    let found = c.in-Ok-Some.ensures.found in
    after_text c.in-Ok-Some.tree c.args.texts.now c.read_next.new.self (rw c.in-Ok-Some.field-0-is at found)

pub returns-in_err-made-in-Ok-Some-clause-memory : goal.returns-in_err-made-in-Ok-Some-clause-memory
returns-in_err-made-in-Ok-Some-clause-memory g c = λ refused.
    let found = c.in-Ok-Some.ensures.found in
    text_left c.in-Ok-Some.tree _ _ (rw c.in-Ok-Some.field-0-is at found)

pub returns-in-Err-clause-made : goal.returns-in-Err-clause-made
returns-in-Err-clause-made g c =
    let old = c.args.texts.now in
    let e = c.in-Err.ensures in
    let some : old.rest ≢ [] = (λ none. let done = e.ended none in cc) in
    rw (c.unread.ensures, c.line-line.ensures) (refused_next old c.read_next.new.self (unread old.line c.in-Err.fault)
    e.kept (refused_text old.line old.rest c.in-Err.fault some e.line e.first e.misfit))

pub returns-in-Err-clause-cut : goal.returns-in-Err-clause-cut
returns-in-Err-clause-cut g c = λ n is.
    let old = c.args.texts.now in
    let e = c.in-Err.ensures in
    let some : old.rest ≢ [] = (λ none. let done = e.ended none in cc) in
    let named = named_line c.line-line.result c.in-Err.fault n (sym c.unread.ensures ∙ is) in (
      λ cut.
          let is_cut = named.0 (sym c.is_cut.ensures ∙ cut) in
          subst (λ p. MayGoOn p.rest × IsUnended p.rest) (sym e.kept) (e.open n is_cut, e.line n (inr is_cut)),
      λ cut more. subst (λ p. IsWrong p.line (p.rest ++ more) n) (sym e.kept)
          (wrong_on old.line old.rest more n some (e.lost n (named.1 (sym c.is_cut.ensures ∙ cut)) more)),
    )
