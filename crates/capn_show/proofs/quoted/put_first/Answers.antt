use Rattle.std.proofs.Common.{◌≡◌, ◌∙◌, ℕ, List, Bool, true, false, cond, ap, sym}
use Rattle.std.proofs.lemmas.Result.{on_ok_weaker, IfErr-weaker}
use Rattle.capn_quoted.specs.Hidden.{is_hidden, numbered}
use Rattle.capn_quoted.specs.Escapes.{code_at, escaped, first_written}
use Rattle.capn_show.specs.Outgoing.{outgoing}
use Rattle.capn_show.proofs.shared.Appended.{otherwise, otherwise-broken}
use Rattle.capn_show.proofs.quoted.put_first.Goals as goal

module _ (b : ℕ) (bs : List ℕ) (code : ℕ) (e : code ≡ code_at b bs) where
  by-number : is_hidden code ≡ true → numbered code ≡ first_written b bs
  by-number h =
      ap numbered e
      ∙ ap (λ (t : Bool). cond t (numbered (code_at b bs)) (escaped b)) (sym (sym (ap is_hidden e) ∙ h))

  by-itself : is_hidden code ≡ false → escaped b ≡ first_written b bs
  by-itself h = ap (λ (t : Bool). cond t (numbered (code_at b bs)) (escaped b)) (sym (sym (ap is_hidden e) ∙ h))

pub returns-then-is_hidden-clause-shown : goal.returns-then-is_hidden-clause-shown
returns-then-is_hidden-clause-shown g c =
    let p = outgoing g.W.Write.contents c.args.writer.now c.args.text.now.items in
    let q = outgoing g.W.Write.contents c.put_numbered.new.writer c.put_numbered.new.text.items in
    on_ok_weaker c.put_numbered.result (λ k. otherwise p q _ _ (by-number c.args.first c.args.rest.now
    c.code_at-code.result c.code_at-code.ensures (sym c.is_hidden.ensures ∙ c.if-is_hidden.true)) k)
    c.put_numbered.ensures.shown

pub returns-then-is_hidden-clause-cut : goal.returns-then-is_hidden-clause-cut
returns-then-is_hidden-clause-cut g c =
    let p = outgoing g.W.Write.contents c.args.writer.now c.args.text.now.items in
    let q = outgoing g.W.Write.contents c.put_numbered.new.writer c.put_numbered.new.text.items in
    IfErr-weaker c.put_numbered.result _ _ (λ e k. otherwise-broken p q e _ _ (by-number c.args.first c.args.rest.now
    c.code_at-code.result c.code_at-code.ensures (sym c.is_hidden.ensures ∙ c.if-is_hidden.true)) k)
    c.put_numbered.ensures.cut

pub returns-else-is_hidden-clause-shown : goal.returns-else-is_hidden-clause-shown
returns-else-is_hidden-clause-shown g c =
    let p = outgoing g.W.Write.contents c.args.writer.now c.args.text.now.items in
    let q = outgoing g.W.Write.contents c.put_escaped.new.writer c.put_escaped.new.text.items in
    on_ok_weaker c.put_escaped.result (λ k. otherwise p q _ _ (by-itself c.args.first c.args.rest.now
    c.code_at-code.result c.code_at-code.ensures (sym c.is_hidden.ensures ∙ c.if-is_hidden.false)) k)
    c.put_escaped.ensures.shown

pub returns-else-is_hidden-clause-cut : goal.returns-else-is_hidden-clause-cut
returns-else-is_hidden-clause-cut g c =
    let p = outgoing g.W.Write.contents c.args.writer.now c.args.text.now.items in
    let q = outgoing g.W.Write.contents c.put_escaped.new.writer c.put_escaped.new.text.items in
    IfErr-weaker c.put_escaped.result _ _ (λ e k. otherwise-broken p q e _ _ (by-itself c.args.first c.args.rest.now
    c.code_at-code.result c.code_at-code.ensures (sym c.is_hidden.ensures ∙ c.if-is_hidden.false)) k)
    c.put_escaped.ensures.cut
