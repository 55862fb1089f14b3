use Rattle.std.proofs.Common.{refl, sym, ◌∙◌}
use Rattle.capn_make.proofs.NextTexts.{not_text_is}
use Rattle.capn_make.proofs.OneRefusal.{nil_front}
use Rattle.capn_make.proofs.Unended.{begins_none}
use Rattle.capn_make.proofs.whole_texts.end_of_one.Goals as goal

pub returns-else-begins-clause-end : goal.returns-else-begins-clause-end
returns-else-begins-clause-end c =
    (c.line-else-begins.ensures, c.if-is_done.ensures.more refl, c.if-begins.ensures.other refl)

pub returns-else-begins-clause-cut : goal.returns-else-begins-clause-cut
returns-else-begins-clause-cut c = λ n is. (
  λ cut. (c.may_begin.ensures.open cut, begins_none c.args.texts.now.rest (c.if-begins.ensures.other refl)),
  λ cut more. (
    sym (not_text_is c.line-else-begins.result n is) ∙ c.line-else-begins.ensures,
    λ none. c.if-is_done.ensures.more refl (nil_front c.args.texts.now.rest more (sym none)),
    c.may_begin.ensures.lost cut (c.if-begins.ensures.other refl) more,
  ),
)
