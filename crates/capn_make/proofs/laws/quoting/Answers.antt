use Rattle.std.proofs.Common.{sym, subst}
use Rattle.capn_text.specs.Streams.{stream_text}
use Rattle.capn_text.specs.PlainForm.{plain}
use Rattle.capn_text.specs.PlainLaws.{quoted_stream}
use Rattle.capn_make.specs.MadeInput.{Makes}
use Rattle.capn_make.proofs.laws.quoting.Goals as goal

pub returns : goal.returns
returns c form vs text r each fits =
    let found = c.plain_forms.ensures.found (quoted_stream vs) fits in
    let shown = c.plain_forms.ensures.shown vs each in
    let e = c.plain_forms.ensures.one (quoted_stream vs) (plain (quoted_stream vs)) (stream_text vs) fits found shown in
    (subst (λ t. Makes form t text r) e, subst (λ t. Makes form t text r) (sym e))
