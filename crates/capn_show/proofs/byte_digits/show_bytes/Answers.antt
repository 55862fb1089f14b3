use Rattle.std.proofs.Common.{ℕ, ◌≡◌, ◌++◌, length, arith, ap, subst}
use Rattle.std.proofs.lemmas.Result.{on_ok_weaker, IfErr-weaker}
use Rattle.hex.specs.Hex.{encode_lower}
use Rattle.capn_show.specs.Emitted.{emitted_digits}
use Rattle.capn_show.specs.Outgoing.{Adds, BreaksOff, outgoing}
use Rattle.capn_show.specs.declared.piece.Piece.TheVariants as pieces
use Rattle.capn_show.proofs.EmittedTexts.{digits-emitted}
use Rattle.capn_show.proofs.shared.Appended.{passed, broken-before, otherwise, otherwise-broken}
use Rattle.capn_show.proofs.shared.Sequels.{three, cut-second, cut-third}
use Rattle.capn_show.proofs.byte_digits.show_bytes.Goals as goal

pub returns-then-count-eq0-clause-shown : goal.returns-then-count-eq0-clause-shown
returns-then-count-eq0-clause-shown g c =
    let rule = g.E.Emitter.rule c.args.emitter.now in
    let path = g.E.Emitter.path c.args.emitter.now in
    let lies = rule.lies (g.S.Space.message c.args.space.now) c.args.start in
    let p = (outgoing g.W.Write.contents c.args.writer.now c.args.text.now.items) in
    let q = (outgoing g.W.Write.contents c.put_piece.new.writer c.put_piece.new.text.items) in
    on_ok_weaker c.put_piece.result (λ k xs h n. let none : 0 ≡ length xs = omega arith in
    subst (λ (j : ℕ). Adds p q (emitted_digits rule c.args.level path lies j (encode_lower xs))) none k)
    c.put_piece.ensures.shown

pub returns-then-count-eq0-clause-cut : goal.returns-then-count-eq0-clause-cut
returns-then-count-eq0-clause-cut g c =
    let rule = g.E.Emitter.rule c.args.emitter.now in
    let path = g.E.Emitter.path c.args.emitter.now in
    let lies = rule.lies (g.S.Space.message c.args.space.now) c.args.start in
    let p = (outgoing g.W.Write.contents c.args.writer.now c.args.text.now.items) in
    let q = (outgoing g.W.Write.contents c.put_piece.new.writer c.put_piece.new.text.items) in
    IfErr-weaker c.put_piece.result _ _ (λ e k xs h n. let none : 0 ≡ length xs = omega arith in
    subst (λ (j : ℕ). BreaksOff p q e (emitted_digits rule c.args.level path lies j (encode_lower xs))) none k)
    c.put_piece.ensures.cut

pub returns-clause-shown : goal.returns-clause-shown
returns-clause-shown g c =
    let rule = g.E.Emitter.rule c.args.emitter.now in
    let path = g.E.Emitter.path c.args.emitter.now in
    let lies = rule.lies (g.S.Space.message c.args.space.now) c.args.start in
    let head = rule.piece c.args.level pieces.Digits in
    on_ok_weaker c.put_piece-2.result (λ k xs h n. otherwise _ _ _ _ (digits-emitted rule c.args.level path lies
    (length xs) (encode_lower xs) (omega arith)) (three _ _ _ (encode_lower xs) _ _ _ (otherwise _ _ _ _
    (ap (λ (f : ℕ). rule.mark 0 f path ++ head) c.byte_of-first.ensures.is) c.in_ok-begin_digits.ensures.shown)
    (c.in_ok-push_bytes.ensures.shown xs h n) k)) c.put_piece-2.ensures.shown

pub returns-clause-cut : goal.returns-clause-cut
returns-clause-cut g c =
    let rule = g.E.Emitter.rule c.args.emitter.now in
    let path = g.E.Emitter.path c.args.emitter.now in
    let lies = rule.lies (g.S.Space.message c.args.space.now) c.args.start in
    let p = (outgoing g.W.Write.contents c.args.writer.now c.args.text.now.items) in
    let q = (outgoing g.W.Write.contents c.begin_digits.new.writer c.begin_digits.new.text.items) in
    let r = (outgoing g.W.Write.contents c.push_bytes.new.writer c.push_bytes.new.text.items) in
    let s = (outgoing g.W.Write.contents c.put_piece-2.new.writer c.put_piece-2.new.text.items) in
    let head = rule.piece c.args.level pieces.Digits in
    IfErr-weaker c.put_piece-2.result _ _ (λ e k xs h n. otherwise-broken p s e _ _
    (digits-emitted rule c.args.level path lies (length xs) (encode_lower xs) (omega arith))
    (cut-third p q _ (encode_lower xs) _ r s e
    (otherwise p q _ _ (ap (λ (f : ℕ). rule.mark 0 f path ++ head) c.byte_of-first.ensures.is)
    c.in_ok-begin_digits.ensures.shown) (c.in_ok-push_bytes.ensures.shown xs h n) k)) c.put_piece-2.ensures.cut

pub returns-in_err-begin_digits-clause-cut : goal.returns-in_err-begin_digits-clause-cut
returns-in_err-begin_digits-clause-cut g c =
    let rule = g.E.Emitter.rule c.args.emitter.now in
    let path = g.E.Emitter.path c.args.emitter.now in
    let lies = rule.lies (g.S.Space.message c.args.space.now) c.args.start in
    let p = (outgoing g.W.Write.contents c.args.writer.now c.args.text.now.items) in
    let q = (outgoing g.W.Write.contents c.begin_digits.new.writer c.begin_digits.new.text.items) in
    let head = rule.piece c.args.level pieces.Digits in
    passed c.from_residual.result c.in_err-begin_digits.field-0.0 _ c.from_residual.ensures.1
    (λ xs h n. otherwise-broken p q _ _ _
    (digits-emitted rule c.args.level path lies (length xs) (encode_lower xs) (omega arith)) (broken-before p q _ _ _
    (otherwise-broken p q _ _ _ (ap (λ (f : ℕ). rule.mark 0 f path ++ head) c.byte_of-first.ensures.is)
    c.in_err-begin_digits.ensures.cut)))

pub returns-in_err-push_bytes-clause-cut : goal.returns-in_err-push_bytes-clause-cut
returns-in_err-push_bytes-clause-cut g c =
    let rule = g.E.Emitter.rule c.args.emitter.now in
    let path = g.E.Emitter.path c.args.emitter.now in
    let lies = rule.lies (g.S.Space.message c.args.space.now) c.args.start in
    let p = (outgoing g.W.Write.contents c.args.writer.now c.args.text.now.items) in
    let q = (outgoing g.W.Write.contents c.begin_digits.new.writer c.begin_digits.new.text.items) in
    let r = (outgoing g.W.Write.contents c.push_bytes.new.writer c.push_bytes.new.text.items) in
    let head = rule.piece c.args.level pieces.Digits in
    passed c.from_residual-in_err-push_bytes.result c.in_err-push_bytes.field-0.0 _
    c.from_residual-in_err-push_bytes.ensures.1 (λ xs h n. otherwise-broken p r _ _ _
    (digits-emitted rule c.args.level path lies (length xs) (encode_lower xs) (omega arith))
    (cut-second p q _ (encode_lower xs) _ r _
    (otherwise p q _ _ (ap (λ (f : ℕ). rule.mark 0 f path ++ head) c.byte_of-first.ensures.is)
    c.in_ok-begin_digits.ensures.shown) (c.in_err-push_bytes.ensures.cut xs h n)))
