use Rattle.std.proofs.Common.{◌<◌, ◌++◌, ℕ, length, arith, sym, ap₂, ◌∙◌}
use Rattle.std.proofs.lemmas.List.{get_or-drop}
use Rattle.std.proofs.lemmas.Result.{on_ok_weaker, IfErr-weaker}
use Rattle.capn_words.specs.Message.{segment_at}
use Rattle.capn_show.specs.Outgoing.{outgoing}
use Rattle.capn_show.specs.declared.piece.Piece.TheVariants as pieces
use Rattle.capn_show.proofs.ItemTexts.{item-more, item-cut, items-end, end-cut}
use Rattle.capn_show.proofs.EmittedItems.{number_item, numbers-items}
use Rattle.capn_show.proofs.shared.Appended.{passed, same, otherwise, otherwise-broken}
use Rattle.capn_show.proofs.numbers.show_words.Goals as goal

pub loop-i-init : goal.loop-i-init
loop-i-init g c xs h n = same _

pub loop-i-preserved : goal.loop-i-preserved
loop-i-preserved g c xs h n =
    let rule = g.E.Emitter.rule c.args.emitter.now in
    let path = g.E.Emitter.path c.args.emitter.now in
    let lies = rule.lies (g.S.Space.message c.args.space.now) c.args.start in
    let byte = c.byte_of-first.ensures.is in
    let i = c.loop-i.i in
    let below : i < length xs = omega arith in
    let word = λ (w : ℕ). rule.piece c.args.level (pieces.Word w) in
    item-more (number_item rule 8 word (rule.piece c.args.level pieces.EndWords) path lies) 0 _ _ xs i _ below
    (c.loop-i.invariant xs h n)
    (otherwise _ _ _ _ (ap₂ (λ (k x : ℕ). rule.mark i k path ++ word x)
    (omega arith) (c.word-word.ensures
    ∙ sym (get_or-drop c.args.start.word (segment_at (g.S.Space.message c.args.space.now) c.args.start.segment) i 0)
    ∙ h i below)) c.in_ok-put_item.ensures.shown)

pub returns-clause-shown : goal.returns-clause-shown
returns-clause-shown g c =
    let rule = g.E.Emitter.rule c.args.emitter.now in
    let path = g.E.Emitter.path c.args.emitter.now in
    let lies = rule.lies (g.S.Space.message c.args.space.now) c.args.start in
    let word = λ (w : ℕ). rule.piece c.args.level (pieces.Word w) in
    let end = rule.piece c.args.level pieces.EndWords in
    on_ok_weaker c.put_piece.result (λ k xs h n. otherwise _ _ _ _ (numbers-items rule 8 word end path lies xs)
    (items-end (number_item rule 8 word end path lies) 0 _ _ xs c.loop-i.i _ end (omega arith)
    (c.loop-i.invariant xs h n) k)) c.put_piece.ensures.shown

pub returns-clause-cut : goal.returns-clause-cut
returns-clause-cut g c =
    let rule = g.E.Emitter.rule c.args.emitter.now in
    let path = g.E.Emitter.path c.args.emitter.now in
    let lies = rule.lies (g.S.Space.message c.args.space.now) c.args.start in
    let p = (outgoing g.W.Write.contents c.args.writer.now c.args.text.now.items) in
    let q = (outgoing g.W.Write.contents c.loop-i.writer c.loop-i.text.items) in
    let r = (outgoing g.W.Write.contents c.put_piece.new.writer c.put_piece.new.text.items) in
    let word = λ (w : ℕ). rule.piece c.args.level (pieces.Word w) in
    let end = rule.piece c.args.level pieces.EndWords in
    IfErr-weaker c.put_piece.result _ _
    (λ e k xs h n. otherwise-broken p r e _ _ (numbers-items rule 8 word end path lies xs)
    (end-cut (number_item rule 8 word end path lies) 0 p q xs c.loop-i.i r e end
    (omega arith) (c.loop-i.invariant xs h n) k)) c.put_piece.ensures.cut

pub returns-in_err-put_item-clause-cut : goal.returns-in_err-put_item-clause-cut
returns-in_err-put_item-clause-cut g c =
    let rule = g.E.Emitter.rule c.args.emitter.now in
    let path = g.E.Emitter.path c.args.emitter.now in
    let lies = rule.lies (g.S.Space.message c.args.space.now) c.args.start in
    let word = λ (w : ℕ). rule.piece c.args.level (pieces.Word w) in
    let end = rule.piece c.args.level pieces.EndWords in
    passed c.from_residual.result c.in_err-put_item.field-0.0 _ c.from_residual.ensures.1
    (λ xs h n. let byte = c.byte_of-first.ensures.is in
    let i = c.loop-i.i in
    let below : i < length xs = omega arith in
    let p = (outgoing g.W.Write.contents c.args.writer.now c.args.text.now.items) in
    let q = (outgoing g.W.Write.contents c.loop-i.writer c.loop-i.text.items) in
    let r = (outgoing g.W.Write.contents c.put_item.new.writer c.put_item.new.text.items) in
    otherwise-broken p r _ _ _ (numbers-items rule 8 word end path lies xs)
    (item-cut (number_item rule 8 word end path lies) 0 p q xs i r _ end below (c.loop-i.invariant xs h n)
    (otherwise-broken q r _ _ _ (ap₂ (λ (k x : ℕ). rule.mark i k path ++ word x) (omega arith) (c.word-word.ensures
    ∙ sym (get_or-drop c.args.start.word (segment_at (g.S.Space.message c.args.space.now) c.args.start.segment) i 0)
    ∙ h i below)) c.in_err-put_item.ensures.cut)))
