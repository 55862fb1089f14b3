use Rattle.std.proofs.Common.{[], ◌∷◌, ◌++◌, length}
use Rattle.std.proofs.lemmas.Result.{on_ok_weaker, IfErr-weaker}
use Rattle.capn_show.specs.Outgoing.{outgoing}
use Rattle.capn_quoted.specs.Escapes.{escapes}
use Rattle.capn_show.specs.ReadyPlaces.{quoted_front}
use Rattle.capn_show.proofs.LineTexts.{quoted-lined}
use Rattle.capn_show.proofs.shared.Appended.{both, otherwise, otherwise-broken, then-broken, broken-before, passed}
use Rattle.capn_show.proofs.bytes.show_quoted.Goals as goal

pub returns-clause-shown : goal.returns-clause-shown
returns-clause-shown g c =
    let p = outgoing g.W.Write.contents c.args.writer.now c.args.text.now.items in
    let q = outgoing g.W.Write.contents c.quoted_front.new.writer c.quoted_front.new.text.items in
    let r = outgoing g.W.Write.contents c.put_between_quotes.new.writer c.put_between_quotes.new.text.items in
    let s = outgoing g.W.Write.contents c.put.new.writer c.put.new.text.items in
    let xs = c.args.bytes.now in
    on_ok_weaker c.put.result (λ k. otherwise p s _ _ (quoted-lined c.args.level (length xs) (escapes xs)) (both p q s
    (quoted_front c.args.level (length xs)) (escapes xs ++ 34 ∷ 10 ∷ []) c.in_ok-quoted_front.ensures.shown
    (both q r s (escapes xs) (34 ∷ 10 ∷ []) c.in_ok-put_between_quotes.ensures.shown k))) c.put.ensures.shown

pub returns-clause-cut : goal.returns-clause-cut
returns-clause-cut g c =
    let p = outgoing g.W.Write.contents c.args.writer.now c.args.text.now.items in
    let q = outgoing g.W.Write.contents c.quoted_front.new.writer c.quoted_front.new.text.items in
    let r = outgoing g.W.Write.contents c.put_between_quotes.new.writer c.put_between_quotes.new.text.items in
    let s = outgoing g.W.Write.contents c.put.new.writer c.put.new.text.items in
    let xs = c.args.bytes.now in
    IfErr-weaker c.put.result _ _ (λ e k. otherwise-broken p s e _ _
    (quoted-lined c.args.level (length xs) (escapes xs)) (then-broken p q s e (quoted_front c.args.level (length xs))
    (escapes xs ++ 34 ∷ 10 ∷ []) c.in_ok-quoted_front.ensures.shown (then-broken q r s e (escapes xs) (34 ∷ 10 ∷ [])
    c.in_ok-put_between_quotes.ensures.shown k))) c.put.ensures.cut

pub returns-in_err-quoted_front-clause-cut : goal.returns-in_err-quoted_front-clause-cut
returns-in_err-quoted_front-clause-cut g c =
    let p = outgoing g.W.Write.contents c.args.writer.now c.args.text.now.items in
    let q = outgoing g.W.Write.contents c.quoted_front.new.writer c.quoted_front.new.text.items in
    let xs = c.args.bytes.now in
    passed c.from_residual.result c.in_err-quoted_front.field-0.0 _ c.from_residual.ensures.1 (otherwise-broken p q _ _
    _ (quoted-lined c.args.level (length xs) (escapes xs)) (broken-before p q _ (quoted_front c.args.level (length xs))
    (escapes xs ++ 34 ∷ 10 ∷ []) c.in_err-quoted_front.ensures.cut))

pub returns-in_err-put_between_quotes-clause-cut : goal.returns-in_err-put_between_quotes-clause-cut
returns-in_err-put_between_quotes-clause-cut g c =
    let p = outgoing g.W.Write.contents c.args.writer.now c.args.text.now.items in
    let q = outgoing g.W.Write.contents c.quoted_front.new.writer c.quoted_front.new.text.items in
    let r = outgoing g.W.Write.contents c.put_between_quotes.new.writer c.put_between_quotes.new.text.items in
    let xs = c.args.bytes.now in
    passed c.from_residual-in_err-put_between_quotes.result c.in_err-put_between_quotes.field-0.0 _
    c.from_residual-in_err-put_between_quotes.ensures.1 (otherwise-broken p r _ _ _
    (quoted-lined c.args.level (length xs) (escapes xs)) (then-broken p q r _ (quoted_front c.args.level (length xs))
    (escapes xs ++ 34 ∷ 10 ∷ []) c.in_ok-quoted_front.ensures.shown (broken-before q r _ (escapes xs) (34 ∷ 10 ∷ [])
    c.in_err-put_between_quotes.ensures.cut)))
