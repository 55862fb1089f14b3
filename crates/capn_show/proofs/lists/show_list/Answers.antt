use Rattle.std.proofs.Common.{refl}
use Rattle.std.proofs.lemmas.Result.{on_ok_weaker, IfErr-weaker}
use Rattle.std.specs.Prelude.{⊤}
use Rattle.capn_show.specs.Outgoing.{Adds, BreaksOff, outgoing}
use Rattle.capn_show.proofs.shared.Appended.{passed, both, then-broken, broken-before}
use Rattle.capn_show.proofs.EmittedTexts.{voids-emitted, bits-emitted, bytes-emitted, numbers-emitted}
use Rattle.capn_value.specs.NumberWidth.{pair, quad, oct}
use Rattle.capn_show.specs.declared.piece.Piece.TheVariants as pieces
use Rattle.capn_show.proofs.lists.show_list.Goals as goal

pub returns-in-W0-clause-shown : goal.returns-in-W0-clause-shown
returns-in-W0-clause-shown g c =
    let rule = g.E.Emitter.rule c.args.emitter.now in
    let path = g.E.Emitter.path c.args.emitter.now in
    on_ok_weaker c.put_piece.result
    (voids-emitted (g.S.Space.message c.args.space.now) rule c.args.level path c.args.start.segment
    c.args.start.word c.args.count c.args.width (Adds (outgoing g.W.Write.contents c.args.writer.now
    c.args.text.now.items) (outgoing g.W.Write.contents c.put_piece.new.writer c.put_piece.new.text.items)) c.in-W0.is)
    c.put_piece.ensures.shown

pub returns-in-W0-clause-cut : goal.returns-in-W0-clause-cut
returns-in-W0-clause-cut g c =
    let rule = g.E.Emitter.rule c.args.emitter.now in
    let path = g.E.Emitter.path c.args.emitter.now in
    IfErr-weaker c.put_piece.result _ _ (λ e. voids-emitted (g.S.Space.message c.args.space.now) rule c.args.level path
    c.args.start.segment c.args.start.word c.args.count c.args.width (BreaksOff
    (outgoing g.W.Write.contents c.args.writer.now c.args.text.now.items)
    (outgoing g.W.Write.contents c.put_piece.new.writer c.put_piece.new.text.items) e) c.in-W0.is)
    c.put_piece.ensures.cut

pub returns-in_ok-put_piece-in-W1-clause-shown : goal.returns-in_ok-put_piece-in-W1-clause-shown
returns-in_ok-put_piece-in-W1-clause-shown g c =
    let rule = g.E.Emitter.rule c.args.emitter.now in
    let path = g.E.Emitter.path c.args.emitter.now in
    on_ok_weaker c.show_bits.result
    (bits-emitted (g.S.Space.message c.args.space.now) rule c.args.level path c.args.start.segment
    c.args.start.word c.args.count c.args.width (Adds (outgoing g.W.Write.contents c.args.writer.now
    c.args.text.now.items) (outgoing g.W.Write.contents c.show_bits.new.writer c.show_bits.new.text.items)) (Adds
    (outgoing g.W.Write.contents c.put_piece-in-W1.new.writer c.put_piece-in-W1.new.text.items)
    (outgoing g.W.Write.contents c.show_bits.new.writer c.show_bits.new.text.items)) c.in-W1.is
    (λ y. both (outgoing g.W.Write.contents c.args.writer.now c.args.text.now.items)
    (outgoing g.W.Write.contents c.put_piece-in-W1.new.writer c.put_piece-in-W1.new.text.items)
    (outgoing g.W.Write.contents c.show_bits.new.writer c.show_bits.new.text.items) _ y
    c.in_ok-put_piece-in-W1.ensures.shown)) c.show_bits.ensures.shown

pub returns-in_ok-put_piece-in-W1-clause-cut : goal.returns-in_ok-put_piece-in-W1-clause-cut
returns-in_ok-put_piece-in-W1-clause-cut g c =
    let rule = g.E.Emitter.rule c.args.emitter.now in
    let path = g.E.Emitter.path c.args.emitter.now in
    IfErr-weaker c.show_bits.result _ _ (λ e. bits-emitted (g.S.Space.message c.args.space.now) rule c.args.level path
    c.args.start.segment c.args.start.word c.args.count c.args.width (BreaksOff
    (outgoing g.W.Write.contents c.args.writer.now c.args.text.now.items)
    (outgoing g.W.Write.contents c.show_bits.new.writer c.show_bits.new.text.items) e) (BreaksOff
    (outgoing g.W.Write.contents c.put_piece-in-W1.new.writer c.put_piece-in-W1.new.text.items)
    (outgoing g.W.Write.contents c.show_bits.new.writer c.show_bits.new.text.items) e) c.in-W1.is
    (λ y. then-broken (outgoing g.W.Write.contents c.args.writer.now c.args.text.now.items)
    (outgoing g.W.Write.contents c.put_piece-in-W1.new.writer c.put_piece-in-W1.new.text.items)
    (outgoing g.W.Write.contents c.show_bits.new.writer c.show_bits.new.text.items) e _ y
    c.in_ok-put_piece-in-W1.ensures.shown)) c.show_bits.ensures.cut

pub returns-in_err-put_piece-in-W1-clause-cut : goal.returns-in_err-put_piece-in-W1-clause-cut
returns-in_err-put_piece-in-W1-clause-cut g c =
    let rule = g.E.Emitter.rule c.args.emitter.now in
    let path = g.E.Emitter.path c.args.emitter.now in
    passed c.from_residual.result c.in_err-put_piece-in-W1.field-0.0 _ c.from_residual.ensures.1
    (bits-emitted (g.S.Space.message c.args.space.now) rule c.args.level path c.args.start.segment
    c.args.start.word c.args.count c.args.width (BreaksOff (outgoing g.W.Write.contents c.args.writer.now
    c.args.text.now.items)
    (outgoing g.W.Write.contents c.put_piece-in-W1.new.writer c.put_piece-in-W1.new.text.items) _) (λ y. ⊤) c.in-W1.is
    (λ y u. broken-before (outgoing g.W.Write.contents c.args.writer.now c.args.text.now.items)
    (outgoing g.W.Write.contents c.put_piece-in-W1.new.writer c.put_piece-in-W1.new.text.items) _ _ y
    c.in_err-put_piece-in-W1.ensures.cut) (λ xs h n. tt))

pub returns-in-W8-clause-shown : goal.returns-in-W8-clause-shown
returns-in-W8-clause-shown g c =
    let rule = g.E.Emitter.rule c.args.emitter.now in
    let path = g.E.Emitter.path c.args.emitter.now in
    on_ok_weaker c.show_byte_list.result
    (bytes-emitted (g.S.Space.message c.args.space.now) rule c.args.level path c.args.start.segment
    c.args.start.word c.args.count c.args.width (Adds (outgoing g.W.Write.contents c.args.writer.now
    c.args.text.now.items)
    (outgoing g.W.Write.contents c.show_byte_list.new.writer c.show_byte_list.new.text.items)) c.in-W8.is)
    c.show_byte_list.ensures.shown

pub returns-in-W8-clause-cut : goal.returns-in-W8-clause-cut
returns-in-W8-clause-cut g c =
    let rule = g.E.Emitter.rule c.args.emitter.now in
    let path = g.E.Emitter.path c.args.emitter.now in
    IfErr-weaker c.show_byte_list.result _ _
    (λ e. bytes-emitted (g.S.Space.message c.args.space.now) rule c.args.level path
    c.args.start.segment c.args.start.word c.args.count c.args.width (BreaksOff
    (outgoing g.W.Write.contents c.args.writer.now c.args.text.now.items)
    (outgoing g.W.Write.contents c.show_byte_list.new.writer c.show_byte_list.new.text.items) e) c.in-W8.is)
    c.show_byte_list.ensures.cut

pub returns-in_ok-put_piece-in-W16-clause-shown : goal.returns-in_ok-put_piece-in-W16-clause-shown
returns-in_ok-put_piece-in-W16-clause-shown g c =
    let rule = g.E.Emitter.rule c.args.emitter.now in
    let path = g.E.Emitter.path c.args.emitter.now in
    on_ok_weaker c.show_numbers.result (numbers-emitted (g.S.Space.message c.args.space.now) rule c.args.level path
    c.args.start.segment
    c.args.start.word c.args.count c.args.width (Adds (outgoing g.W.Write.contents c.args.writer.now
    c.args.text.now.items) (outgoing g.W.Write.contents c.show_numbers.new.writer c.show_numbers.new.text.items)) (Adds
    (outgoing g.W.Write.contents c.put_piece-in-W16.new.writer c.put_piece-in-W16.new.text.items)
    (outgoing g.W.Write.contents c.show_numbers.new.writer c.show_numbers.new.text.items))
    pair pieces.Pairs (λ f xs. refl) c.in-W16.is
    (λ y. both (outgoing g.W.Write.contents c.args.writer.now c.args.text.now.items)
    (outgoing g.W.Write.contents c.put_piece-in-W16.new.writer c.put_piece-in-W16.new.text.items)
    (outgoing g.W.Write.contents c.show_numbers.new.writer c.show_numbers.new.text.items) _ y
    c.in_ok-put_piece-in-W16.ensures.shown)) c.show_numbers.ensures.shown

pub returns-in_ok-put_piece-in-W16-clause-cut : goal.returns-in_ok-put_piece-in-W16-clause-cut
returns-in_ok-put_piece-in-W16-clause-cut g c =
    let rule = g.E.Emitter.rule c.args.emitter.now in
    let path = g.E.Emitter.path c.args.emitter.now in
    IfErr-weaker c.show_numbers.result _ _
    (λ e. numbers-emitted (g.S.Space.message c.args.space.now) rule c.args.level path
    c.args.start.segment c.args.start.word c.args.count c.args.width (BreaksOff
    (outgoing g.W.Write.contents c.args.writer.now c.args.text.now.items)
    (outgoing g.W.Write.contents c.show_numbers.new.writer c.show_numbers.new.text.items) e) (BreaksOff
    (outgoing g.W.Write.contents c.put_piece-in-W16.new.writer c.put_piece-in-W16.new.text.items)
    (outgoing g.W.Write.contents c.show_numbers.new.writer c.show_numbers.new.text.items) e)
    pair pieces.Pairs (λ f xs. refl) c.in-W16.is
    (λ y. then-broken (outgoing g.W.Write.contents c.args.writer.now c.args.text.now.items)
    (outgoing g.W.Write.contents c.put_piece-in-W16.new.writer c.put_piece-in-W16.new.text.items)
    (outgoing g.W.Write.contents c.show_numbers.new.writer c.show_numbers.new.text.items) e _ y
    c.in_ok-put_piece-in-W16.ensures.shown)) c.show_numbers.ensures.cut

pub returns-in_err-put_piece-in-W16-clause-cut : goal.returns-in_err-put_piece-in-W16-clause-cut
returns-in_err-put_piece-in-W16-clause-cut g c =
    let rule = g.E.Emitter.rule c.args.emitter.now in
    let path = g.E.Emitter.path c.args.emitter.now in
    passed c.from_residual-in_err-put_piece-in-W16.result c.in_err-put_piece-in-W16.field-0.0 _
    c.from_residual-in_err-put_piece-in-W16.ensures.1
    (numbers-emitted (g.S.Space.message c.args.space.now) rule c.args.level path c.args.start.segment
    c.args.start.word c.args.count c.args.width (BreaksOff (outgoing g.W.Write.contents c.args.writer.now
    c.args.text.now.items)
    (outgoing g.W.Write.contents c.put_piece-in-W16.new.writer c.put_piece-in-W16.new.text.items) _) (λ y. ⊤)
    pair pieces.Pairs (λ f xs. refl) c.in-W16.is
    (λ y u. broken-before (outgoing g.W.Write.contents c.args.writer.now c.args.text.now.items)
    (outgoing g.W.Write.contents c.put_piece-in-W16.new.writer c.put_piece-in-W16.new.text.items) _ _ y
    c.in_err-put_piece-in-W16.ensures.cut) (λ xs h n. tt))

pub returns-in_ok-put_piece-in-W32-clause-shown : goal.returns-in_ok-put_piece-in-W32-clause-shown
returns-in_ok-put_piece-in-W32-clause-shown g c =
    let rule = g.E.Emitter.rule c.args.emitter.now in
    let path = g.E.Emitter.path c.args.emitter.now in
    on_ok_weaker c.show_numbers-in-W32.result
    (numbers-emitted (g.S.Space.message c.args.space.now) rule c.args.level path c.args.start.segment
    c.args.start.word c.args.count c.args.width (Adds (outgoing g.W.Write.contents c.args.writer.now
    c.args.text.now.items)
    (outgoing g.W.Write.contents c.show_numbers-in-W32.new.writer c.show_numbers-in-W32.new.text.items)) (Adds
    (outgoing g.W.Write.contents c.put_piece-in-W32.new.writer c.put_piece-in-W32.new.text.items)
    (outgoing g.W.Write.contents c.show_numbers-in-W32.new.writer c.show_numbers-in-W32.new.text.items))
    quad pieces.Quads (λ f xs. refl) c.in-W32.is
    (λ y. both (outgoing g.W.Write.contents c.args.writer.now c.args.text.now.items)
    (outgoing g.W.Write.contents c.put_piece-in-W32.new.writer c.put_piece-in-W32.new.text.items)
    (outgoing g.W.Write.contents c.show_numbers-in-W32.new.writer c.show_numbers-in-W32.new.text.items) _ y
    c.in_ok-put_piece-in-W32.ensures.shown)) c.show_numbers-in-W32.ensures.shown

pub returns-in_ok-put_piece-in-W32-clause-cut : goal.returns-in_ok-put_piece-in-W32-clause-cut
returns-in_ok-put_piece-in-W32-clause-cut g c =
    let rule = g.E.Emitter.rule c.args.emitter.now in
    let path = g.E.Emitter.path c.args.emitter.now in
    IfErr-weaker c.show_numbers-in-W32.result _ _
    (λ e. numbers-emitted (g.S.Space.message c.args.space.now) rule c.args.level path
    c.args.start.segment c.args.start.word c.args.count c.args.width (BreaksOff
    (outgoing g.W.Write.contents c.args.writer.now c.args.text.now.items)
    (outgoing g.W.Write.contents c.show_numbers-in-W32.new.writer c.show_numbers-in-W32.new.text.items) e) (BreaksOff
    (outgoing g.W.Write.contents c.put_piece-in-W32.new.writer c.put_piece-in-W32.new.text.items)
    (outgoing g.W.Write.contents c.show_numbers-in-W32.new.writer c.show_numbers-in-W32.new.text.items) e)
    quad pieces.Quads (λ f xs. refl) c.in-W32.is
    (λ y. then-broken (outgoing g.W.Write.contents c.args.writer.now c.args.text.now.items)
    (outgoing g.W.Write.contents c.put_piece-in-W32.new.writer c.put_piece-in-W32.new.text.items)
    (outgoing g.W.Write.contents c.show_numbers-in-W32.new.writer c.show_numbers-in-W32.new.text.items) e _ y
    c.in_ok-put_piece-in-W32.ensures.shown)) c.show_numbers-in-W32.ensures.cut

pub returns-in_err-put_piece-in-W32-clause-cut : goal.returns-in_err-put_piece-in-W32-clause-cut
returns-in_err-put_piece-in-W32-clause-cut g c =
    let rule = g.E.Emitter.rule c.args.emitter.now in
    let path = g.E.Emitter.path c.args.emitter.now in
    passed c.from_residual-in_err-put_piece-in-W32.result c.in_err-put_piece-in-W32.field-0.0 _
    c.from_residual-in_err-put_piece-in-W32.ensures.1
    (numbers-emitted (g.S.Space.message c.args.space.now) rule c.args.level path c.args.start.segment
    c.args.start.word c.args.count c.args.width (BreaksOff (outgoing g.W.Write.contents c.args.writer.now
    c.args.text.now.items)
    (outgoing g.W.Write.contents c.put_piece-in-W32.new.writer c.put_piece-in-W32.new.text.items) _) (λ y. ⊤)
    quad pieces.Quads (λ f xs. refl) c.in-W32.is
    (λ y u. broken-before (outgoing g.W.Write.contents c.args.writer.now c.args.text.now.items)
    (outgoing g.W.Write.contents c.put_piece-in-W32.new.writer c.put_piece-in-W32.new.text.items) _ _ y
    c.in_err-put_piece-in-W32.ensures.cut) (λ xs h n. tt))

pub returns-in_ok-put_piece-in-W64-clause-shown : goal.returns-in_ok-put_piece-in-W64-clause-shown
returns-in_ok-put_piece-in-W64-clause-shown g c =
    let rule = g.E.Emitter.rule c.args.emitter.now in
    let path = g.E.Emitter.path c.args.emitter.now in
    on_ok_weaker c.show_numbers-in-W64.result
    (numbers-emitted (g.S.Space.message c.args.space.now) rule c.args.level path c.args.start.segment
    c.args.start.word c.args.count c.args.width (Adds (outgoing g.W.Write.contents c.args.writer.now
    c.args.text.now.items)
    (outgoing g.W.Write.contents c.show_numbers-in-W64.new.writer c.show_numbers-in-W64.new.text.items)) (Adds
    (outgoing g.W.Write.contents c.put_piece-in-W64.new.writer c.put_piece-in-W64.new.text.items)
    (outgoing g.W.Write.contents c.show_numbers-in-W64.new.writer c.show_numbers-in-W64.new.text.items))
    oct pieces.Octs (λ f xs. refl) c.in-W64.is
    (λ y. both (outgoing g.W.Write.contents c.args.writer.now c.args.text.now.items)
    (outgoing g.W.Write.contents c.put_piece-in-W64.new.writer c.put_piece-in-W64.new.text.items)
    (outgoing g.W.Write.contents c.show_numbers-in-W64.new.writer c.show_numbers-in-W64.new.text.items) _ y
    c.in_ok-put_piece-in-W64.ensures.shown)) c.show_numbers-in-W64.ensures.shown

pub returns-in_ok-put_piece-in-W64-clause-cut : goal.returns-in_ok-put_piece-in-W64-clause-cut
returns-in_ok-put_piece-in-W64-clause-cut g c =
    let rule = g.E.Emitter.rule c.args.emitter.now in
    let path = g.E.Emitter.path c.args.emitter.now in
    IfErr-weaker c.show_numbers-in-W64.result _ _
    (λ e. numbers-emitted (g.S.Space.message c.args.space.now) rule c.args.level path
    c.args.start.segment c.args.start.word c.args.count c.args.width (BreaksOff
    (outgoing g.W.Write.contents c.args.writer.now c.args.text.now.items)
    (outgoing g.W.Write.contents c.show_numbers-in-W64.new.writer c.show_numbers-in-W64.new.text.items) e) (BreaksOff
    (outgoing g.W.Write.contents c.put_piece-in-W64.new.writer c.put_piece-in-W64.new.text.items)
    (outgoing g.W.Write.contents c.show_numbers-in-W64.new.writer c.show_numbers-in-W64.new.text.items) e)
    oct pieces.Octs (λ f xs. refl) c.in-W64.is
    (λ y. then-broken (outgoing g.W.Write.contents c.args.writer.now c.args.text.now.items)
    (outgoing g.W.Write.contents c.put_piece-in-W64.new.writer c.put_piece-in-W64.new.text.items)
    (outgoing g.W.Write.contents c.show_numbers-in-W64.new.writer c.show_numbers-in-W64.new.text.items) e _ y
    c.in_ok-put_piece-in-W64.ensures.shown)) c.show_numbers-in-W64.ensures.cut

pub returns-in_err-put_piece-in-W64-clause-cut : goal.returns-in_err-put_piece-in-W64-clause-cut
returns-in_err-put_piece-in-W64-clause-cut g c =
    let rule = g.E.Emitter.rule c.args.emitter.now in
    let path = g.E.Emitter.path c.args.emitter.now in
    passed c.from_residual-in_err-put_piece-in-W64.result c.in_err-put_piece-in-W64.field-0.0 _
    c.from_residual-in_err-put_piece-in-W64.ensures.1
    (numbers-emitted (g.S.Space.message c.args.space.now) rule c.args.level path c.args.start.segment
    c.args.start.word c.args.count c.args.width (BreaksOff (outgoing g.W.Write.contents c.args.writer.now
    c.args.text.now.items)
    (outgoing g.W.Write.contents c.put_piece-in-W64.new.writer c.put_piece-in-W64.new.text.items) _) (λ y. ⊤)
    oct pieces.Octs (λ f xs. refl) c.in-W64.is
    (λ y u. broken-before (outgoing g.W.Write.contents c.args.writer.now c.args.text.now.items)
    (outgoing g.W.Write.contents c.put_piece-in-W64.new.writer c.put_piece-in-W64.new.text.items) _ _ y
    c.in_err-put_piece-in-W64.ensures.cut) (λ xs h n. tt))
