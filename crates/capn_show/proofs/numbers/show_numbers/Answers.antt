use Rattle.std.proofs.Common.{◌+◌, ◌*◌, ◌/◌, ◌<◌, ◌++◌, ℕ, length, arith, ap₂, ◌∙◌}
use Rattle.std.proofs.lemmas.Result.{on_ok_weaker, IfErr-weaker}
use Rattle.capn_walk.specs.View as seen
use Rattle.capn_show.specs.Outgoing.{outgoing}
use Rattle.capn_show.specs.declared.piece.Piece.TheVariants as pieces
use Rattle.capn_show.proofs.ItemTexts.{item-more, item-cut, items-end, end-cut}
use Rattle.capn_show.proofs.shared.Within.{element-within}
use Rattle.capn_show.proofs.EmittedItems.{number_item, numbers-items}
use Rattle.capn_show.proofs.shared.Appended.{passed, same, otherwise, otherwise-broken}
use Rattle.capn_show.proofs.numbers.show_numbers.Goals as goal

pub loop-i-init : goal.loop-i-init
loop-i-init g c xs h n = same _

pub loop-i-preserved : goal.loop-i-preserved
loop-i-preserved g c xs h n =
    let rule = g.E.Emitter.rule c.args.emitter.now in
    let path = g.E.Emitter.path c.args.emitter.now in
    let lies = rule.lies (g.S.Space.message c.args.space.now) c.args.start in
    let i = c.loop-i.i in
    let below : i < length xs = omega arith in
    let size = 8 / seen.per_word c.args.width in
    let number = λ (x : ℕ). rule.piece c.args.level (pieces.Number c.args.width x) in
    item-more (number_item rule size number (rule.piece c.args.level pieces.EndItems) path lies) 0 _ _ xs i _ below
    (c.loop-i.invariant xs h n)
    (otherwise _ _ _ _ (ap₂ (λ (k x : ℕ). rule.mark i k path ++ number x)
    (ap₂ (λ (f k : ℕ). f + i * k) c.byte_of-first.ensures.is c.element_bytes-size.ensures.is)
    (c.number_at-number.ensures
    ∙ h i below)) c.in_ok-put_item.ensures.shown)

pub returns-clause-shown : goal.returns-clause-shown
returns-clause-shown g c =
    let rule = g.E.Emitter.rule c.args.emitter.now in
    let path = g.E.Emitter.path c.args.emitter.now in
    let lies = rule.lies (g.S.Space.message c.args.space.now) c.args.start in
    let size = 8 / seen.per_word c.args.width in
    let number = λ (x : ℕ). rule.piece c.args.level (pieces.Number c.args.width x) in
    let end = rule.piece c.args.level pieces.EndItems in
    on_ok_weaker c.put_piece.result (λ k xs h n. otherwise _ _ _ _ (numbers-items rule size number end path lies xs)
    (items-end (number_item rule size number end path lies) 0 _ _ xs c.loop-i.i _ end (omega arith)
    (c.loop-i.invariant xs h n) k)) c.put_piece.ensures.shown

pub returns-clause-cut : goal.returns-clause-cut
returns-clause-cut g c =
    let rule = g.E.Emitter.rule c.args.emitter.now in
    let path = g.E.Emitter.path c.args.emitter.now in
    let lies = rule.lies (g.S.Space.message c.args.space.now) c.args.start in
    let p = (outgoing g.W.Write.contents c.args.writer.now c.args.text.now.items) in
    let q = (outgoing g.W.Write.contents c.loop-i.writer c.loop-i.text.items) in
    let r = (outgoing g.W.Write.contents c.put_piece.new.writer c.put_piece.new.text.items) in
    let size = 8 / seen.per_word c.args.width in
    let number = λ (x : ℕ). rule.piece c.args.level (pieces.Number c.args.width x) in
    let end = rule.piece c.args.level pieces.EndItems in
    IfErr-weaker c.put_piece.result _ _
    (λ e k xs h n. otherwise-broken p r e _ _ (numbers-items rule size number end path lies xs)
    (end-cut (number_item rule size number end path lies) 0 p q xs c.loop-i.i r e end
    (omega arith) (c.loop-i.invariant xs h n) k)) c.put_piece.ensures.cut

pub returns-in_err-put_item-clause-cut : goal.returns-in_err-put_item-clause-cut
returns-in_err-put_item-clause-cut g c =
    let rule = g.E.Emitter.rule c.args.emitter.now in
    let path = g.E.Emitter.path c.args.emitter.now in
    let lies = rule.lies (g.S.Space.message c.args.space.now) c.args.start in
    let size = 8 / seen.per_word c.args.width in
    let number = λ (x : ℕ). rule.piece c.args.level (pieces.Number c.args.width x) in
    let end = rule.piece c.args.level pieces.EndItems in
    passed c.from_residual.result c.in_err-put_item.field-0.0 _ c.from_residual.ensures.1
    (λ xs h n. let i = c.loop-i.i in
    let below : i < length xs = omega arith in
    let p = (outgoing g.W.Write.contents c.args.writer.now c.args.text.now.items) in
    let q = (outgoing g.W.Write.contents c.loop-i.writer c.loop-i.text.items) in
    let r = (outgoing g.W.Write.contents c.put_item.new.writer c.put_item.new.text.items) in
    otherwise-broken p r _ _ _ (numbers-items rule size number end path lies xs)
    (item-cut (number_item rule size number end path lies) 0 p q xs i r _ end below (c.loop-i.invariant xs h n)
    (otherwise-broken q r _ _ _ (ap₂ (λ (k x : ℕ). rule.mark i k path ++ number x)
    (ap₂ (λ (f k : ℕ). f + i * k) c.byte_of-first.ensures.is c.element_bytes-size.ensures.is)
    (c.number_at-number.ensures
    ∙ h i below)) c.in_err-put_item.ensures.cut)))

pub number_at-number-requires-clause-there : goal.number_at-number-requires-clause-there
number_at-number-requires-clause-there g c =
    let within = c.requires.content.within in
    let k = element-within c.args.width c.args.count c.loop-i.i c.requires.plain (omega arith) in
    record { exists = c.requires.content.exists; within = omega arith }
