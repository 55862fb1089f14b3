use Rattle.std.proofs.Common.{◌∙◌, ◌++◌, ap, sym, append_assoc, List, ℕ}
use Rattle.capn_quoted.specs.Escapes.{escapes}
use Rattle.capn_show.specs.Outgoing.{outgoing}
use Rattle.capn_show.proofs.shared.Appended.{passed, both, otherwise-broken, then-broken}
use Rattle.capn_show.proofs.quoted.put_between_quotes.Goals as goal

pub returns-in_err-rest-clause-cut : goal.returns-in_err-rest-clause-cut
returns-in_err-rest-clause-cut g c =
    let p = outgoing g.W.Write.contents c.args.writer.now c.args.text.now.items in
    let q = outgoing g.W.Write.contents c.loop-rest.writer c.loop-rest.text.items in
    let r = outgoing g.W.Write.contents c.put_front.new.writer c.put_front.new.text.items in
    let so-far = c.loop-rest.invariant in
    passed c.from_residual.result c.in_err-rest.field-0.0 _ c.from_residual.ensures.1 (otherwise-broken p r _ _ _
    (sym so-far.2) (then-broken p q r _ so-far.0 (escapes c.loop-rest.rest.now) so-far.1 c.in_err-rest.ensures.cut))

pub loop-rest-preserved : goal.loop-rest-preserved
loop-rest-preserved g c =
    let p = outgoing g.W.Write.contents c.args.writer.now c.args.text.now.items in
    let q = outgoing g.W.Write.contents c.loop-rest.writer c.loop-rest.text.items in
    let r = outgoing g.W.Write.contents c.put_front.new.writer c.put_front.new.text.items in
    let so-far = c.loop-rest.invariant in
    let front = c.in_ok-rest.ensures.shown in (
      so-far.0 ++ front.0,
      both p q r so-far.0 front.0 so-far.1 front.1,
      so-far.2 ∙ ap (λ (l : List ℕ). so-far.0 ++ l) front.2
          ∙ sym (append_assoc so-far.0 front.0 (escapes c.in_ok-rest.rest.now)),
    )
