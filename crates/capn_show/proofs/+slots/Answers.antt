use Rattle.std.proofs.Common.{◌≡◌, ℕ, ◌+◌, ◌*◌, ◌<◌, ◌≤◌, length, take, ◌++◌, subst, arith, refl, sym, ap, ap₂}
use Rattle.std.proofs.Common.{◌∙◌}
use Rattle.std.proofs.lemmas.Result.{on_ok_weaker, IfErr-weaker}
use Rattle.capn_words.specs.Message.{segment_at}
use Rattle.capn_target.specs.declared.target.Shape.{Shape}
use Rattle.capn_target.specs.declared.target.Shape.TheVariants as shapes
use Rattle.capn_target.specs.Shapes.{IsContent, RowsFit, extent}
use Rattle.capn_target.specs.Target.{target}
use Rattle.capn_walk.specs.ShownValue.{ShowsStruct, words_of_row, slots_of_row}
use Rattle.capn_walk.proofs.shared.RowWalks.{row-inside}
use Rattle.capn_target.proofs.shared.Segments.{segment-room}
use Rattle.capn_words.specs.declared.pointer.Width.{Width}
use Rattle.capn_value.specs.Tree.{nil, count, count_rows, tree_at}
use Rattle.std.specs.Prelude.{⊤}
use Rattle.capn_show.specs.Emitted.{emitted, emitted_body}
use Rattle.capn_show.specs.Descent.{begin, named_by}
use Rattle.capn_show.specs.Outgoing.{Adds, BreaksOff, outgoing}
use Rattle.capn_show.specs.ReadyPlaces.{IsBody, struct_at}
use Rattle.capn_show.proofs.shared.Appended.{passed, same, both, then-broken, broken-before, otherwise}
use Rattle.capn_show.proofs.shared.Appended.{otherwise-broken}
use Rattle.capn_show.proofs.shared.Sequels.{unbegun}
use Rattle.capn_show.proofs.shared.Steps.{no-fault, found-ready, slot-ready, row-ready, slots-ready}
use Rattle.capn_show.proofs.ItemTexts.{item-more, item-cut, items-end, end-cut}
use Rattle.capn_show.proofs.EmittedItems.{listed, length-listed, rows_listed, length-rows_listed, no_row, slot_item}
use Rattle.capn_show.proofs.EmittedItems.{slots-items, row_item, rows-items, nth, nth_row, item-is, row-is}
use Rattle.capn_show.proofs.EmittedItems.{end, closing}
use Rattle.capn_show.proofs.shared.FoundTexts.{inside, deep, node-ready, links-ready, rows-ready}
use Rattle.capn_show.proofs.EmittedTexts.{slot-emitted, body-emitted, nil-emitted, cap-emitted, node-emitted}
use Rattle.capn_show.proofs.EmittedTexts.{list-emitted, links-emitted, rows-emitted, slot-moved, row-moved}
use Rattle.capn_show.proofs.+slots.Goals as goal

-- The facts `live`, and then the fact `x`.
and-then : {A B C D E : Type 0} → A × (B × (C × D)) → E → A × (B × (C × (D × E)))
and-then live x = (live.0, (live.1.0, (live.1.1.0, (live.1.1.1, x))))

pub slots::show_slot-show_found-requires : goal.slots::show_slot-show_found-requires
slots::show_slot-show_found-requires g t c κs live =
    let m = g.S.Space.message c.args.space.now in
    let e = sym c.resolve.ensures.exact ∙ c.in-Ok.is in
    let ready = found-ready m c.views_show_values.ensures c.args.at c.in-Ok.found c.args.depth e c.requires.ready in (
      omega arith,
      and-then live (
        c.requires.message,
        (c.requires.of, (c.in-Ok.ensures.inside, (ready, c.requires.room))),
      ),
    )

pub slots::show_slot-unreachable-requires : goal.slots::show_slot-unreachable-requires
slots::show_slot-unreachable-requires g t c =
    no-fault (g.S.Space.message c.args.space.now) c.args.at c.args.depth _ c.requires.ready
    (sym c.resolve.ensures.exact ∙ c.in-Err.is)

-- ---- slots

pub slots::show_body-show_slots-requires : goal.slots::show_body-show_slots-requires
slots::show_body-show_slots-requires g t c κs live =
    let m = g.S.Space.message c.args.space.now in
    let within = c.requires.content.within in
    let ready = slots-ready m c.args.start.segment c.args.start.word c.args.size.words c.args.size.slots c.args.depth
    c.requires.ready in
    let content : IsContent m (record { segment = c.args.start.segment; word = c.args.start.word + c.args.size.words })
    c.args.size.slots = record { exists = c.requires.content.exists; within = omega arith } in
    (omega arith, and-then live (c.requires.message, (c.requires.of, (content, (ready, c.requires.room)))))

-- ---- the target of a pointer

pub slots::show_found-overflow_sub-depth : goal.slots::show_found-overflow_sub-depth
slots::show_found-overflow_sub-depth g t c =
    let x = c.in-Content in
    let d = deep (g.S.Space.message c.args.space.now) c.args.found x.segment x.start x.pads x.shape x.is c.args.depth
    c.requires.ready in
    omega arith

pub slots::show_found-overflow_sub-depth-in-Link : goal.slots::show_found-overflow_sub-depth-in-Link
slots::show_found-overflow_sub-depth-in-Link g t c =
    let x = c.in-Content in
    let d = deep (g.S.Space.message c.args.space.now) c.args.found x.segment x.start x.pads x.shape x.is c.args.depth
    c.requires.ready in
    omega arith

pub slots::show_found-overflow_sub-depth-in-Rows : goal.slots::show_found-overflow_sub-depth-in-Rows
slots::show_found-overflow_sub-depth-in-Rows g t c =
    let x = c.in-Content in
    let d = deep (g.S.Space.message c.args.space.now) c.args.found x.segment x.start x.pads x.shape x.is c.args.depth
    c.requires.ready in
    omega arith

-- Case: the target `found` is a struct.

pub slots::show_found-show_body-requires : goal.slots::show_found-show_body-requires
slots::show_found-show_body-requires g t c κs live =
    let m = g.S.Space.message c.args.space.now in
    let x = c.in-Content in
    let k = c.in-Node in
    let d = deep m c.args.found x.segment x.start x.pads x.shape x.is c.args.depth c.requires.ready in
    let i = inside m c.args.found x.segment x.start x.pads x.shape x.is c.requires.inside in
    let content : IsContent m (record { segment = x.segment; word = x.start }) (k.words + k.slots) = record {
      exists = i.0.exists;
      within = subst (λ (sh : Shape). x.start + extent sh ≤ length (segment_at m x.segment)) k.is i.0.within;
    } in
    let ready = node-ready m c.args.found x.segment x.start x.pads x.shape x.is c.args.depth c.requires.ready k.words
    k.slots k.is in
    (omega arith, and-then live (c.requires.message, (c.requires.of, (content, (ready, omega arith)))))

-- Case: the target `found` is a list of pointers.

pub slots::show_found-show_slots-requires : goal.slots::show_found-show_slots-requires
slots::show_found-show_slots-requires g t c κs live =
    let m = g.S.Space.message c.args.space.now in
    let x = c.in-Content in
    let k = c.in-Many in
    let is = k.is ∙ ap (λ (y : Width). shapes.Many y k.count) c.in-Link.is in
    let d = deep m c.args.found x.segment x.start x.pads x.shape x.is c.args.depth c.requires.ready in
    let i = inside m c.args.found x.segment x.start x.pads x.shape x.is c.requires.inside in
    let content : IsContent m (record { segment = x.segment; word = x.start }) k.count = record {
      exists = i.0.exists;
      within = subst (λ (sh : Shape). x.start + extent sh ≤ length (segment_at m x.segment)) is i.0.within;
    } in
    let ready = links-ready m c.args.found x.segment x.start x.pads x.shape x.is c.args.depth c.requires.ready k.width
    k.count k.is c.in-Link.is in
    (omega arith, and-then live (c.requires.message, (c.requires.of, (content, (ready, omega arith)))))

-- Case: the target `found` is a list of structs.

pub slots::show_found-show_rows-requires : goal.slots::show_found-show_rows-requires
slots::show_found-show_rows-requires g t c κs live =
    let m = g.S.Space.message c.args.space.now in
    let x = c.in-Content in
    let k = c.in-Rows in
    let d = deep m c.args.found x.segment x.start x.pads x.shape x.is c.args.depth c.requires.ready in
    let i = inside m c.args.found x.segment x.start x.pads x.shape x.is c.requires.inside in
    let within = subst (λ (sh : Shape). x.start + extent sh ≤ length (segment_at m x.segment)) k.is i.0.within in
    let fit = subst RowsFit k.is i.1 in
    let room : x.start + 1 + k.count * (k.words + k.slots) ≤ length (segment_at m x.segment) = omega arith in
    let content : IsContent m (record { segment = x.segment; word = x.start + 1 }) (k.count * (k.words + k.slots)) =
    record { exists = i.0.exists; within = room } in
    let ready = rows-ready m c.args.found x.segment x.start x.pads x.shape x.is c.args.depth c.requires.ready k.count
    k.words k.slots k.span k.is in
    (omega arith, and-then live (c.requires.message, (c.requires.of, (content, (ready, omega arith)))))

-- ---- rows

pub rows::show_rows-overflow_add-next : goal.rows::show_rows-overflow_add-next
rows::show_rows-overflow_add-next g t c =
    let m = g.S.Space.message c.args.space.now in
    let room = row-inside c.args.first.word c.args.count c.loop-row.row (c.args.size.words + c.args.size.slots)
    c.loop-row.next _ c.loop-row-test.true c.loop-row.invariant.next c.requires.content.within in
    let all = segment-room m c.args.first.segment c.requires.message c.requires.content.exists in
    omega arith

pub rows::show_slots-overflow_add-at : goal.rows::show_slots-overflow_add-at
rows::show_slots-overflow_add-at g t c =
    let m = g.S.Space.message c.args.space.now in
    let lt = c.loop-i-test.true in
    let within = c.requires.content.within in
    let all = segment-room m c.args.first.segment c.requires.message c.requires.content.exists in
    omega arith

pub slots::show_body-overflow_add-first : goal.slots::show_body-overflow_add-first
slots::show_body-overflow_add-first g t c =
    let m = g.S.Space.message c.args.space.now in
    let within = c.requires.content.within in
    let all = segment-room m c.args.start.segment c.requires.message c.requires.content.exists in
    omega arith

pub slots::show_found-overflow_add-first : goal.slots::show_found-overflow_add-first
slots::show_found-overflow_add-first g t c =
    let m = g.S.Space.message c.args.space.now in
    let x = c.in-Content in
    let i = inside m c.args.found x.segment x.start x.pads x.shape x.is c.requires.inside in
    let within = subst (λ (sh : Shape). x.start + extent sh ≤ length (segment_at m x.segment)) c.in-Rows.is i.0.within
    in
    let all = segment-room m x.segment c.requires.message i.0.exists in
    omega arith

-- ---- the text, and how it breaks off

pub slots::show_found-returns-in-Nil-clause-shown : goal.slots::show_found-returns-in-Nil-clause-shown
slots::show_found-returns-in-Nil-clause-shown g t c =
    let rule = g.E.Emitter.rule c.args.emitter.now in
    let path = g.E.Emitter.path c.args.emitter.now in
    on_ok_weaker c.put_piece.result (nil-emitted (g.S.Space.message c.args.space.now) rule c.args.level path (Adds
    (outgoing g.W.Write.contents c.args.writer.now c.args.text.now.items)
    (outgoing g.W.Write.contents c.put_piece.new.writer c.put_piece.new.text.items)) c.args.found c.in-Nil.is)
    c.put_piece.ensures.shown

pub slots::show_found-returns-in-Nil-clause-cut : goal.slots::show_found-returns-in-Nil-clause-cut
slots::show_found-returns-in-Nil-clause-cut g t c =
    let rule = g.E.Emitter.rule c.args.emitter.now in
    let path = g.E.Emitter.path c.args.emitter.now in
    IfErr-weaker c.put_piece.result _ _
    (λ e. nil-emitted (g.S.Space.message c.args.space.now) rule c.args.level path (BreaksOff
    (outgoing g.W.Write.contents c.args.writer.now c.args.text.now.items)
    (outgoing g.W.Write.contents c.put_piece.new.writer c.put_piece.new.text.items) e) c.args.found c.in-Nil.is)
    c.put_piece.ensures.cut

pub slots::show_found-returns-in-Cap-clause-shown : goal.slots::show_found-returns-in-Cap-clause-shown
slots::show_found-returns-in-Cap-clause-shown g t c =
    let rule = g.E.Emitter.rule c.args.emitter.now in
    let path = g.E.Emitter.path c.args.emitter.now in
    on_ok_weaker c.put_piece-in-Cap.result
    (cap-emitted (g.S.Space.message c.args.space.now) rule c.args.level path (Adds
    (outgoing g.W.Write.contents c.args.writer.now c.args.text.now.items)
    (outgoing g.W.Write.contents c.put_piece-in-Cap.new.writer c.put_piece-in-Cap.new.text.items)) c.args.found
    c.in-Cap.index c.in-Cap.is) c.put_piece-in-Cap.ensures.shown

pub slots::show_found-returns-in-Cap-clause-cut : goal.slots::show_found-returns-in-Cap-clause-cut
slots::show_found-returns-in-Cap-clause-cut g t c =
    let rule = g.E.Emitter.rule c.args.emitter.now in
    let path = g.E.Emitter.path c.args.emitter.now in
    IfErr-weaker c.put_piece-in-Cap.result _ _
    (λ e. cap-emitted (g.S.Space.message c.args.space.now) rule c.args.level path (BreaksOff
    (outgoing g.W.Write.contents c.args.writer.now c.args.text.now.items)
    (outgoing g.W.Write.contents c.put_piece-in-Cap.new.writer c.put_piece-in-Cap.new.text.items) e) c.args.found
    c.in-Cap.index c.in-Cap.is) c.put_piece-in-Cap.ensures.cut

pub slots::show_found-returns-in-Node-clause-shown : goal.slots::show_found-returns-in-Node-clause-shown
slots::show_found-returns-in-Node-clause-shown g t c =
    let rule = g.E.Emitter.rule c.args.emitter.now in
    let path = g.E.Emitter.path c.args.emitter.now in
    on_ok_weaker c.show_body.result (node-emitted (g.S.Space.message c.args.space.now) rule c.args.level path (Adds
    (outgoing g.W.Write.contents c.args.writer.now c.args.text.now.items)
    (outgoing g.W.Write.contents c.show_body.new.writer c.show_body.new.text.items)) c.args.found c.in-Content.segment
    c.in-Content.start c.in-Content.pads c.in-Content.shape c.in-Content.is
    c.in-Node.words c.in-Node.slots c.in-Node.is) c.show_body.ensures.shown

pub slots::show_found-returns-in-Node-clause-cut : goal.slots::show_found-returns-in-Node-clause-cut
slots::show_found-returns-in-Node-clause-cut g t c =
    let rule = g.E.Emitter.rule c.args.emitter.now in
    let path = g.E.Emitter.path c.args.emitter.now in
    IfErr-weaker c.show_body.result _ _
    (λ e. node-emitted (g.S.Space.message c.args.space.now) rule c.args.level path (BreaksOff
    (outgoing g.W.Write.contents c.args.writer.now c.args.text.now.items)
    (outgoing g.W.Write.contents c.show_body.new.writer c.show_body.new.text.items) e) c.args.found c.in-Content.segment
    c.in-Content.start c.in-Content.pads c.in-Content.shape c.in-Content.is
    c.in-Node.words c.in-Node.slots c.in-Node.is) c.show_body.ensures.cut

pub slots::show_found-returns-in_default-clause-shown : goal.slots::show_found-returns-in_default-clause-shown
slots::show_found-returns-in_default-clause-shown g t c =
    let rule = g.E.Emitter.rule c.args.emitter.now in
    let path = g.E.Emitter.path c.args.emitter.now in
    on_ok_weaker c.show_list.result (list-emitted (g.S.Space.message c.args.space.now) rule c.args.level path (Adds
    (outgoing g.W.Write.contents c.args.writer.now c.args.text.now.items)
    (outgoing g.W.Write.contents c.show_list.new.writer c.show_list.new.text.items)) c.args.found c.in-Content.segment
    c.in-Content.start c.in-Content.pads c.in-Content.shape c.in-Content.is
    c.in-Many.width c.in-Many.count c.in-Many.is) c.show_list.ensures.shown

pub slots::show_found-returns-in_default-clause-cut : goal.slots::show_found-returns-in_default-clause-cut
slots::show_found-returns-in_default-clause-cut g t c =
    let rule = g.E.Emitter.rule c.args.emitter.now in
    let path = g.E.Emitter.path c.args.emitter.now in
    IfErr-weaker c.show_list.result _ _
    (λ e. list-emitted (g.S.Space.message c.args.space.now) rule c.args.level path (BreaksOff
    (outgoing g.W.Write.contents c.args.writer.now c.args.text.now.items)
    (outgoing g.W.Write.contents c.show_list.new.writer c.show_list.new.text.items) e) c.args.found c.in-Content.segment
    c.in-Content.start c.in-Content.pads c.in-Content.shape c.in-Content.is
    c.in-Many.width c.in-Many.count c.in-Many.is) c.show_list.ensures.cut

pub slots::show_found-returns-in_ok-put_piece-in-Link-clause-shown :
    goal.slots::show_found-returns-in_ok-put_piece-in-Link-clause-shown
slots::show_found-returns-in_ok-put_piece-in-Link-clause-shown g t c =
    let rule = g.E.Emitter.rule c.args.emitter.now in
    let path = g.E.Emitter.path c.args.emitter.now in
    on_ok_weaker c.show_slots.result (links-emitted (g.S.Space.message c.args.space.now) rule c.args.level path (Adds
    (outgoing g.W.Write.contents c.args.writer.now c.args.text.now.items)
    (outgoing g.W.Write.contents c.show_slots.new.writer c.show_slots.new.text.items)) c.args.found c.in-Content.segment
    c.in-Content.start c.in-Content.pads c.in-Content.shape c.in-Content.is
    (Adds (outgoing g.W.Write.contents c.put_piece-in-Link.new.writer c.put_piece-in-Link.new.text.items)
    (outgoing g.W.Write.contents c.show_slots.new.writer c.show_slots.new.text.items)) c.in-Many.width c.in-Many.count
    c.in-Many.is c.in-Link.is (λ y. both (outgoing g.W.Write.contents c.args.writer.now c.args.text.now.items)
    (outgoing g.W.Write.contents c.put_piece-in-Link.new.writer c.put_piece-in-Link.new.text.items)
    (outgoing g.W.Write.contents c.show_slots.new.writer c.show_slots.new.text.items) _ y
    c.in_ok-put_piece-in-Link.ensures.shown)) c.show_slots.ensures.shown

pub slots::show_found-returns-in_ok-put_piece-in-Link-clause-cut :
    goal.slots::show_found-returns-in_ok-put_piece-in-Link-clause-cut
slots::show_found-returns-in_ok-put_piece-in-Link-clause-cut g t c =
    let rule = g.E.Emitter.rule c.args.emitter.now in
    let path = g.E.Emitter.path c.args.emitter.now in
    IfErr-weaker c.show_slots.result _ _ (λ e. links-emitted (g.S.Space.message c.args.space.now) rule c.args.level path
    (BreaksOff (outgoing g.W.Write.contents c.args.writer.now c.args.text.now.items)
    (outgoing g.W.Write.contents c.show_slots.new.writer c.show_slots.new.text.items) e) c.args.found
    c.in-Content.segment c.in-Content.start c.in-Content.pads c.in-Content.shape c.in-Content.is
    (BreaksOff (outgoing g.W.Write.contents c.put_piece-in-Link.new.writer c.put_piece-in-Link.new.text.items)
    (outgoing g.W.Write.contents c.show_slots.new.writer c.show_slots.new.text.items) e) c.in-Many.width
    c.in-Many.count c.in-Many.is c.in-Link.is
    (λ y. then-broken (outgoing g.W.Write.contents c.args.writer.now c.args.text.now.items)
    (outgoing g.W.Write.contents c.put_piece-in-Link.new.writer c.put_piece-in-Link.new.text.items)
    (outgoing g.W.Write.contents c.show_slots.new.writer c.show_slots.new.text.items) e _ y
    c.in_ok-put_piece-in-Link.ensures.shown)) c.show_slots.ensures.cut

pub slots::show_found-returns-in_err-put_piece-in-Link-clause-cut :
    goal.slots::show_found-returns-in_err-put_piece-in-Link-clause-cut
slots::show_found-returns-in_err-put_piece-in-Link-clause-cut g t c =
    let rule = g.E.Emitter.rule c.args.emitter.now in
    let path = g.E.Emitter.path c.args.emitter.now in
    passed c.from_residual.result c.in_err-put_piece-in-Link.field-0.0 _ c.from_residual.ensures.1
    (links-emitted (g.S.Space.message c.args.space.now) rule c.args.level path (BreaksOff
    (outgoing g.W.Write.contents c.args.writer.now c.args.text.now.items)
    (outgoing g.W.Write.contents c.put_piece-in-Link.new.writer c.put_piece-in-Link.new.text.items) _) c.args.found
    c.in-Content.segment c.in-Content.start c.in-Content.pads c.in-Content.shape c.in-Content.is
    (λ y. ⊤) c.in-Many.width c.in-Many.count c.in-Many.is c.in-Link.is
    (λ y u. broken-before (outgoing g.W.Write.contents c.args.writer.now c.args.text.now.items)
    (outgoing g.W.Write.contents c.put_piece-in-Link.new.writer c.put_piece-in-Link.new.text.items) _ _ y
    c.in_err-put_piece-in-Link.ensures.cut) (λ ts h n. tt))

pub slots::show_found-returns-in_ok-put_piece-in-Rows-clause-shown :
    goal.slots::show_found-returns-in_ok-put_piece-in-Rows-clause-shown
slots::show_found-returns-in_ok-put_piece-in-Rows-clause-shown g t c =
    let rule = g.E.Emitter.rule c.args.emitter.now in
    let path = g.E.Emitter.path c.args.emitter.now in
    on_ok_weaker c.show_rows.result (rows-emitted (g.S.Space.message c.args.space.now) rule c.args.level path (Adds
    (outgoing g.W.Write.contents c.args.writer.now c.args.text.now.items)
    (outgoing g.W.Write.contents c.show_rows.new.writer c.show_rows.new.text.items)) c.args.found c.in-Content.segment
    c.in-Content.start c.in-Content.pads c.in-Content.shape c.in-Content.is
    (Adds (outgoing g.W.Write.contents c.put_piece-in-Rows.new.writer c.put_piece-in-Rows.new.text.items)
    (outgoing g.W.Write.contents c.show_rows.new.writer c.show_rows.new.text.items)) c.in-Rows.count c.in-Rows.words
    c.in-Rows.slots c.in-Rows.span c.in-Rows.is
    (λ y. both (outgoing g.W.Write.contents c.args.writer.now c.args.text.now.items)
    (outgoing g.W.Write.contents c.put_piece-in-Rows.new.writer c.put_piece-in-Rows.new.text.items)
    (outgoing g.W.Write.contents c.show_rows.new.writer c.show_rows.new.text.items) _ y
    c.in_ok-put_piece-in-Rows.ensures.shown)) c.show_rows.ensures.shown

pub slots::show_found-returns-in_ok-put_piece-in-Rows-clause-cut :
    goal.slots::show_found-returns-in_ok-put_piece-in-Rows-clause-cut
slots::show_found-returns-in_ok-put_piece-in-Rows-clause-cut g t c =
    let rule = g.E.Emitter.rule c.args.emitter.now in
    let path = g.E.Emitter.path c.args.emitter.now in
    IfErr-weaker c.show_rows.result _ _
    (λ e. rows-emitted (g.S.Space.message c.args.space.now) rule c.args.level path (BreaksOff
    (outgoing g.W.Write.contents c.args.writer.now c.args.text.now.items)
    (outgoing g.W.Write.contents c.show_rows.new.writer c.show_rows.new.text.items) e) c.args.found c.in-Content.segment
    c.in-Content.start c.in-Content.pads c.in-Content.shape c.in-Content.is
    (BreaksOff (outgoing g.W.Write.contents c.put_piece-in-Rows.new.writer c.put_piece-in-Rows.new.text.items)
    (outgoing g.W.Write.contents c.show_rows.new.writer c.show_rows.new.text.items) e) c.in-Rows.count c.in-Rows.words
    c.in-Rows.slots c.in-Rows.span c.in-Rows.is
    (λ y. then-broken (outgoing g.W.Write.contents c.args.writer.now c.args.text.now.items)
    (outgoing g.W.Write.contents c.put_piece-in-Rows.new.writer c.put_piece-in-Rows.new.text.items)
    (outgoing g.W.Write.contents c.show_rows.new.writer c.show_rows.new.text.items) e _ y
    c.in_ok-put_piece-in-Rows.ensures.shown)) c.show_rows.ensures.cut

pub slots::show_found-returns-in_err-put_piece-in-Rows-clause-cut :
    goal.slots::show_found-returns-in_err-put_piece-in-Rows-clause-cut
slots::show_found-returns-in_err-put_piece-in-Rows-clause-cut g t c =
    let rule = g.E.Emitter.rule c.args.emitter.now in
    let path = g.E.Emitter.path c.args.emitter.now in
    passed c.from_residual-in_err-put_piece-in-Rows.result c.in_err-put_piece-in-Rows.field-0.0 _
    c.from_residual-in_err-put_piece-in-Rows.ensures.1
    (rows-emitted (g.S.Space.message c.args.space.now) rule c.args.level path (BreaksOff
    (outgoing g.W.Write.contents c.args.writer.now c.args.text.now.items)
    (outgoing g.W.Write.contents c.put_piece-in-Rows.new.writer c.put_piece-in-Rows.new.text.items) _) c.args.found
    c.in-Content.segment c.in-Content.start c.in-Content.pads c.in-Content.shape c.in-Content.is
    (λ y. ⊤) c.in-Rows.count c.in-Rows.words c.in-Rows.slots c.in-Rows.span c.in-Rows.is
    (λ y u. broken-before (outgoing g.W.Write.contents c.args.writer.now c.args.text.now.items)
    (outgoing g.W.Write.contents c.put_piece-in-Rows.new.writer c.put_piece-in-Rows.new.text.items) _ _ y
    c.in_err-put_piece-in-Rows.ensures.cut) (λ bs h n. tt))

pub slots::show_body-returns-clause-shown : goal.slots::show_body-returns-clause-shown
slots::show_body-returns-clause-shown g t c =
    let rule = g.E.Emitter.rule c.args.emitter.now in
    let path = g.E.Emitter.path c.args.emitter.now in
    on_ok_weaker c.show_slots.result (body-emitted (g.S.Space.message c.args.space.now) rule c.args.level path
    c.args.start.segment c.args.start.word c.args.size.words c.args.size.slots (Adds
    (outgoing g.W.Write.contents c.args.writer.now c.args.text.now.items)
    (outgoing g.W.Write.contents c.show_slots.new.writer c.show_slots.new.text.items)) (Adds
    (outgoing g.W.Write.contents c.put_piece.new.writer c.put_piece.new.text.items)
    (outgoing g.W.Write.contents c.show_words.new.writer c.show_words.new.text.items)) (Adds
    (outgoing g.W.Write.contents c.show_words.new.writer c.show_words.new.text.items)
    (outgoing g.W.Write.contents c.show_slots.new.writer c.show_slots.new.text.items))
    (λ x y h k. both (outgoing g.W.Write.contents c.args.writer.now c.args.text.now.items)
    (outgoing g.W.Write.contents c.put_piece.new.writer c.put_piece.new.text.items)
    (outgoing g.W.Write.contents c.show_slots.new.writer c.show_slots.new.text.items) _
    (x ++ y) c.in_ok-put_piece.ensures.shown
    (both (outgoing g.W.Write.contents c.put_piece.new.writer c.put_piece.new.text.items)
    (outgoing g.W.Write.contents c.show_words.new.writer c.show_words.new.text.items)
    (outgoing g.W.Write.contents c.show_slots.new.writer c.show_slots.new.text.items) x y h k))
    c.in_ok-show_words.ensures.shown) c.show_slots.ensures.shown

pub slots::show_body-returns-clause-cut : goal.slots::show_body-returns-clause-cut
slots::show_body-returns-clause-cut g t c =
    let rule = g.E.Emitter.rule c.args.emitter.now in
    let path = g.E.Emitter.path c.args.emitter.now in
    IfErr-weaker c.show_slots.result _ _ (λ e. body-emitted (g.S.Space.message c.args.space.now) rule c.args.level path
    c.args.start.segment c.args.start.word c.args.size.words c.args.size.slots (BreaksOff
    (outgoing g.W.Write.contents c.args.writer.now c.args.text.now.items)
    (outgoing g.W.Write.contents c.show_slots.new.writer c.show_slots.new.text.items) e) (Adds
    (outgoing g.W.Write.contents c.put_piece.new.writer c.put_piece.new.text.items)
    (outgoing g.W.Write.contents c.show_words.new.writer c.show_words.new.text.items))
    (BreaksOff (outgoing g.W.Write.contents c.show_words.new.writer c.show_words.new.text.items)
    (outgoing g.W.Write.contents c.show_slots.new.writer c.show_slots.new.text.items) e)
    (λ x y h k. then-broken (outgoing g.W.Write.contents c.args.writer.now c.args.text.now.items)
    (outgoing g.W.Write.contents c.put_piece.new.writer c.put_piece.new.text.items)
    (outgoing g.W.Write.contents c.show_slots.new.writer c.show_slots.new.text.items) e _ (x ++ y)
    c.in_ok-put_piece.ensures.shown
    (then-broken (outgoing g.W.Write.contents c.put_piece.new.writer c.put_piece.new.text.items)
    (outgoing g.W.Write.contents c.show_words.new.writer c.show_words.new.text.items)
    (outgoing g.W.Write.contents c.show_slots.new.writer c.show_slots.new.text.items) e x y h k))
    c.in_ok-show_words.ensures.shown) c.show_slots.ensures.cut

pub slots::show_body-returns-in_err-show_words-clause-cut : goal.slots::show_body-returns-in_err-show_words-clause-cut
slots::show_body-returns-in_err-show_words-clause-cut g t c =
    let rule = g.E.Emitter.rule c.args.emitter.now in
    let path = g.E.Emitter.path c.args.emitter.now in
    passed c.from_residual-in_err-show_words.result c.in_err-show_words.field-0.0 _
    c.from_residual-in_err-show_words.ensures.1
    (body-emitted (g.S.Space.message c.args.space.now) rule c.args.level path
    c.args.start.segment c.args.start.word c.args.size.words c.args.size.slots (BreaksOff
    (outgoing g.W.Write.contents c.args.writer.now c.args.text.now.items)
    (outgoing g.W.Write.contents c.show_words.new.writer c.show_words.new.text.items) _) (BreaksOff
    (outgoing g.W.Write.contents c.put_piece.new.writer c.put_piece.new.text.items)
    (outgoing g.W.Write.contents c.show_words.new.writer c.show_words.new.text.items) _) (λ y. ⊤)
    (λ x y h k. then-broken (outgoing g.W.Write.contents c.args.writer.now c.args.text.now.items)
    (outgoing g.W.Write.contents c.put_piece.new.writer c.put_piece.new.text.items)
    (outgoing g.W.Write.contents c.show_words.new.writer c.show_words.new.text.items) _ _ (x ++ y)
    c.in_ok-put_piece.ensures.shown (broken-before (outgoing g.W.Write.contents c.put_piece.new.writer
    c.put_piece.new.text.items) (outgoing g.W.Write.contents c.show_words.new.writer c.show_words.new.text.items) _ x
    y h)) c.in_err-show_words.ensures.cut (λ ts h n. tt))

pub slots::show_body-returns-in_err-put_piece-clause-cut : goal.slots::show_body-returns-in_err-put_piece-clause-cut
slots::show_body-returns-in_err-put_piece-clause-cut g t c =
    let rule = g.E.Emitter.rule c.args.emitter.now in
    let path = g.E.Emitter.path c.args.emitter.now in
    passed c.from_residual.result c.in_err-put_piece.field-0.0 _ c.from_residual.ensures.1
    (body-emitted (g.S.Space.message c.args.space.now) rule c.args.level path
    c.args.start.segment c.args.start.word c.args.size.words c.args.size.slots (BreaksOff
    (outgoing g.W.Write.contents c.args.writer.now c.args.text.now.items)
    (outgoing g.W.Write.contents c.put_piece.new.writer c.put_piece.new.text.items) _) (λ y. ⊤) (λ y. ⊤)
    (λ x y h k. broken-before (outgoing g.W.Write.contents c.args.writer.now c.args.text.now.items)
    (outgoing g.W.Write.contents c.put_piece.new.writer c.put_piece.new.text.items) _ _
    (x ++ y) c.in_err-put_piece.ensures.cut) (λ ws h n. tt) (λ ts h n. tt))

pub rows::show_slots-show_below-requires : goal.rows::show_slots-show_below-requires
rows::show_slots-show_below-requires g t c κs live =
    let m = g.S.Space.message c.args.space.now in
    let within = c.requires.content.within in
    let lt = c.loop-i-test.true in
    let ready = slot-ready m c.args.first.segment c.args.first.word c.args.count c.args.depth c.loop-i.i lt
    c.requires.ready in (
      omega arith,
      and-then live (
        c.requires.message,
        (
          c.loop-i.invariant.kept.of (g.S.Space.message c.args.space.now)
              c.requires.of,
          (omega arith, (ready, c.requires.room)),
        ),
      ),
    )

pub rows::show_rows-show_row-requires : goal.rows::show_rows-show_row-requires
rows::show_rows-show_row-requires g t c κs live =
    let m = g.S.Space.message c.args.space.now in
    let s = c.args.first.segment in
    let next = c.loop-row.invariant.next in
    let within = row-inside c.args.first.word c.args.count c.loop-row.row (c.args.size.words + c.args.size.slots)
    c.loop-row.next _ c.loop-row-test.true next c.requires.content.within in
    let content : IsContent m (record { segment = s; word = c.loop-row.next }) (c.args.size.words + c.args.size.slots) =
    record { exists = c.requires.content.exists; within = within } in
    let ready = subst (λ (w : ℕ). IsBody m s w c.args.size.words c.args.size.slots c.args.depth) (sym next) (row-ready m
    s c.args.first.word c.args.count c.args.size.words c.args.size.slots c.args.depth c.loop-row.row
    c.loop-row-test.true c.requires.ready) in (
      omega arith,
      and-then live (
        c.requires.message,
        (
          c.loop-row.invariant.kept.of (g.S.Space.message c.args.space.now)
              c.requires.of,
          (content, (ready, c.requires.room)),
        ),
      ),
    )

-- ---- the emitter is unchanged

pub slots::show_found-returns-in-Nil-clause-kept : goal.slots::show_found-returns-in-Nil-clause-kept
slots::show_found-returns-in-Nil-clause-kept g t c =
    on_ok_weaker c.put_piece.result (λ h. record { rule = refl; path = refl; of = λ m k. k }) c.put_piece.ensures.shown

pub slots::show_found-returns-in-Cap-clause-kept : goal.slots::show_found-returns-in-Cap-clause-kept
slots::show_found-returns-in-Cap-clause-kept g t c =
    on_ok_weaker c.put_piece-in-Cap.result (λ h. record { rule = refl; path = refl; of = λ m k. k })
    c.put_piece-in-Cap.ensures.shown

pub slots::show_found-returns-in_default-clause-kept : goal.slots::show_found-returns-in_default-clause-kept
slots::show_found-returns-in_default-clause-kept g t c =
    on_ok_weaker c.show_list.result (λ h. record { rule = refl; path = refl; of = λ m k. k }) c.show_list.ensures.shown

-- ---- the text of a slot

pub slots::show_slot-returns-clause-shown : goal.slots::show_slot-returns-clause-shown
slots::show_slot-returns-clause-shown g t c =
    let rule = g.E.Emitter.rule c.args.emitter.now in
    let path = g.E.Emitter.path c.args.emitter.now in
    let m = (g.S.Space.message c.args.space.now) in
    let p = (outgoing g.W.Write.contents c.args.writer.now c.args.text.now.items) in
    let q = (outgoing g.W.Write.contents c.put_mark.new.writer c.put_mark.new.text.items) in
    let r = (outgoing g.W.Write.contents c.show_found.new.writer c.show_found.new.text.items) in
    on_ok_weaker c.show_found.result
    (slot-emitted m rule c.args.level path c.views_show_values.ensures c.args.number c.args.at c.in-Ok.found
    (sym c.resolve.ensures.exact ∙ c.in-Ok.is) (Adds p r) (Adds q r)
    (λ y. both p q r (rule.mark c.args.number (rule.lies m c.args.at) path) y
    (otherwise p q _ _ (ap (λ (n : ℕ). rule.mark c.args.number n path) c.byte_of-byte.ensures.is)
    c.in_ok-put_mark.ensures.shown))) c.show_found.ensures.shown

pub slots::show_slot-returns-clause-cut : goal.slots::show_slot-returns-clause-cut
slots::show_slot-returns-clause-cut g t c =
    let rule = g.E.Emitter.rule c.args.emitter.now in
    let path = g.E.Emitter.path c.args.emitter.now in
    let m = (g.S.Space.message c.args.space.now) in
    let p = (outgoing g.W.Write.contents c.args.writer.now c.args.text.now.items) in
    let q = (outgoing g.W.Write.contents c.put_mark.new.writer c.put_mark.new.text.items) in
    let r = (outgoing g.W.Write.contents c.show_found.new.writer c.show_found.new.text.items) in
    IfErr-weaker c.show_found.result _ _
    (λ e. slot-emitted m rule c.args.level path c.views_show_values.ensures c.args.number c.args.at c.in-Ok.found
    (sym c.resolve.ensures.exact ∙ c.in-Ok.is) (BreaksOff p r e) (BreaksOff q r e)
    (λ y. then-broken p q r e (rule.mark c.args.number (rule.lies m c.args.at) path) y
    (otherwise p q _ _ (ap (λ (n : ℕ). rule.mark c.args.number n path) c.byte_of-byte.ensures.is)
    c.in_ok-put_mark.ensures.shown))) c.show_found.ensures.cut

pub slots::show_slot-returns-in_err-put_mark-clause-cut : goal.slots::show_slot-returns-in_err-put_mark-clause-cut
slots::show_slot-returns-in_err-put_mark-clause-cut g t c =
    let rule = g.E.Emitter.rule c.args.emitter.now in
    let path = g.E.Emitter.path c.args.emitter.now in
    let m = (g.S.Space.message c.args.space.now) in
    let p = (outgoing g.W.Write.contents c.args.writer.now c.args.text.now.items) in
    let q = (outgoing g.W.Write.contents c.put_mark.new.writer c.put_mark.new.text.items) in
    passed c.from_residual.result c.in_err-put_mark.field-0.0 _ c.from_residual.ensures.1
    (λ v i. broken-before p q _ (rule.mark c.args.number (rule.lies m c.args.at) path)
    (emitted m rule c.args.level path (named_by (target m c.args.at)) v)
    (otherwise-broken p q _ _ _ (ap (λ (n : ℕ). rule.mark c.args.number n path) c.byte_of-byte.ensures.is)
    c.in_err-put_mark.ensures.cut))

-- ---- the text of a slot, with its number at the end of the path

pub rows::show_below-show_slot-requires : goal.rows::show_below-show_slot-requires
rows::show_below-show_slot-requires g t c κs live =
    let of = c.in_ok-step_below.ensures.of (g.S.Space.message c.args.space.now) c.requires.of in
    (omega arith, and-then live (c.requires.message, (of, (c.requires.place, (c.requires.ready, c.requires.room)))))

pub rows::show_below-returns-clause-shown : goal.rows::show_below-returns-clause-shown
rows::show_below-returns-clause-shown g t c =
    let m = g.S.Space.message c.args.space.now in
    slot-moved m c.args.level _ _ c.in_ok-step_below.ensures.rule _ _ c.in_ok-step_below.ensures.below (Adds _ _)
    c.args.number c.args.at c.in_ok-show_slot.ensures.shown

pub rows::show_below-returns-clause-kept : goal.rows::show_below-returns-clause-kept
rows::show_below-returns-clause-kept g t c =
    let k = c.in_ok-show_slot.ensures.kept in
    record {
      rule = c.step_back.ensures.rule ∙ k.rule ∙ c.in_ok-step_below.ensures.rule;
      path = c.step_back.ensures.path ∙ ap₂ take c.path_length-above.ensures k.path ∙ c.in_ok-step_below.ensures.back;
      of = λ m h. c.step_back.ensures.of m (k.of m (c.in_ok-step_below.ensures.of m h));
    }

pub rows::show_below-returns-in_err-step_below-clause-cut :
    goal.rows::show_below-returns-in_err-step_below-clause-cut
rows::show_below-returns-in_err-step_below-clause-cut g t c =
    passed c.from_residual.result c.in_err-step_below.field-0.0 _ c.from_residual.ensures.1
    (λ v i. unbegun _ _ _ c.in_err-step_below.ensures.memory)

pub rows::show_below-returns-in_err-show_slot-clause-cut : goal.rows::show_below-returns-in_err-show_slot-clause-cut
rows::show_below-returns-in_err-show_slot-clause-cut g t c =
    passed c.from_residual-in_err-show_slot.result c.in_err-show_slot.field-0.0 _
    c.from_residual-in_err-show_slot.ensures.1
    (slot-moved (g.S.Space.message c.args.space.now) c.args.level _ _ c.in_ok-step_below.ensures.rule _ _
    c.in_ok-step_below.ensures.below (BreaksOff (outgoing g.W.Write.contents c.args.writer.now c.args.text.now.items)
    (outgoing g.W.Write.contents c.show_slot.new.writer c.show_slot.new.text.items) c.in_err-show_slot.field-0.0)
    c.args.number c.args.at c.in_err-show_slot.ensures.cut)

-- ---- the text of a row

pub rows::show_row-show_body-requires : goal.rows::show_row-show_body-requires
rows::show_row-show_body-requires g t c κs live =
    let of = c.in_ok-step_below.ensures.of (g.S.Space.message c.args.space.now) c.requires.of in
    (omega arith, and-then live (c.requires.message, (of, (c.requires.content, (c.requires.ready, c.requires.room)))))

pub rows::show_row-returns-clause-shown : goal.rows::show_row-returns-clause-shown
rows::show_row-returns-clause-shown g t c =
    let m = (g.S.Space.message c.args.space.now) in
    let p = (outgoing g.W.Write.contents c.args.writer.now c.args.text.now.items) in
    let q = (outgoing g.W.Write.contents c.put_mark.new.writer c.put_mark.new.text.items) in
    let r = (outgoing g.W.Write.contents c.show_body.new.writer c.show_body.new.text.items) in
    let rule = g.E.Emitter.rule c.step_below.new.self in
    let path = g.E.Emitter.path c.step_below.new.self in
    let row = struct_at c.args.start.segment c.args.start.word c.args.size.words c.args.size.slots in
    row-moved m c.args.level _ _ c.in_ok-step_below.ensures.rule _ _ c.in_ok-step_below.ensures.below (Adds p r)
    c.args.number c.args.start.segment c.args.start.word c.args.size.words c.args.size.slots
    (λ ws ss h. both p q r (rule.mark c.args.number (rule.lies m (begin row)) path)
    (emitted_body m rule c.args.level path row ws ss)
    (otherwise p q _ _ (ap (λ (n : ℕ). rule.mark c.args.number n path) c.byte_of-byte.ensures.is)
    c.in_ok-put_mark.ensures.shown) (c.in_ok-show_body.ensures.shown ws ss h))

pub rows::show_row-returns-clause-kept : goal.rows::show_row-returns-clause-kept
rows::show_row-returns-clause-kept g t c =
    let k = c.in_ok-show_body.ensures.kept in
    record {
      rule = c.step_back.ensures.rule ∙ k.rule ∙ c.in_ok-step_below.ensures.rule;
      path = c.step_back.ensures.path ∙ ap₂ take c.path_length-above.ensures k.path ∙ c.in_ok-step_below.ensures.back;
      of = λ m h. c.step_back.ensures.of m (k.of m (c.in_ok-step_below.ensures.of m h));
    }

pub rows::show_row-returns-in_err-step_below-clause-cut : goal.rows::show_row-returns-in_err-step_below-clause-cut
rows::show_row-returns-in_err-step_below-clause-cut g t c =
    passed c.from_residual.result c.in_err-step_below.field-0.0 _ c.from_residual.ensures.1
    (λ ws ss h. unbegun _ _ _ c.in_err-step_below.ensures.memory)

pub rows::show_row-returns-in_err-put_mark-clause-cut : goal.rows::show_row-returns-in_err-put_mark-clause-cut
rows::show_row-returns-in_err-put_mark-clause-cut g t c =
    let m = (g.S.Space.message c.args.space.now) in
    let p = (outgoing g.W.Write.contents c.args.writer.now c.args.text.now.items) in
    let q = (outgoing g.W.Write.contents c.put_mark.new.writer c.put_mark.new.text.items) in
    let rule = g.E.Emitter.rule c.step_below.new.self in
    let path = g.E.Emitter.path c.step_below.new.self in
    let row = struct_at c.args.start.segment c.args.start.word c.args.size.words c.args.size.slots in
    passed c.from_residual-in_err-put_mark.result c.in_err-put_mark.field-0.0 _
    c.from_residual-in_err-put_mark.ensures.1
    (row-moved m c.args.level _ _ c.in_ok-step_below.ensures.rule _ _ c.in_ok-step_below.ensures.below (BreaksOff p q
    c.in_err-put_mark.field-0.0)
    c.args.number c.args.start.segment c.args.start.word c.args.size.words c.args.size.slots
    (λ ws ss h. broken-before p q _ (rule.mark c.args.number (rule.lies m (begin row)) path)
    (emitted_body m rule c.args.level path row ws ss)
    (otherwise-broken p q _ _ _ (ap (λ (n : ℕ). rule.mark c.args.number n path) c.byte_of-byte.ensures.is)
    c.in_err-put_mark.ensures.cut)))

pub rows::show_row-returns-in_err-show_body-clause-cut : goal.rows::show_row-returns-in_err-show_body-clause-cut
rows::show_row-returns-in_err-show_body-clause-cut g t c =
    let m = (g.S.Space.message c.args.space.now) in
    let p = (outgoing g.W.Write.contents c.args.writer.now c.args.text.now.items) in
    let q = (outgoing g.W.Write.contents c.put_mark.new.writer c.put_mark.new.text.items) in
    let r = (outgoing g.W.Write.contents c.show_body.new.writer c.show_body.new.text.items) in
    let rule = g.E.Emitter.rule c.step_below.new.self in
    let path = g.E.Emitter.path c.step_below.new.self in
    let row = struct_at c.args.start.segment c.args.start.word c.args.size.words c.args.size.slots in
    passed c.from_residual-in_err-show_body.result c.in_err-show_body.field-0.0 _
    c.from_residual-in_err-show_body.ensures.1
    (row-moved m c.args.level _ _ c.in_ok-step_below.ensures.rule _ _ c.in_ok-step_below.ensures.below (BreaksOff p r
    c.in_err-show_body.field-0.0)
    c.args.number c.args.start.segment c.args.start.word c.args.size.words c.args.size.slots
    (λ ws ss h. then-broken p q r _ (rule.mark c.args.number (rule.lies m (begin row)) path)
    (emitted_body m rule c.args.level path row ws ss)
    (otherwise p q _ _ (ap (λ (n : ℕ). rule.mark c.args.number n path) c.byte_of-byte.ensures.is)
    c.in_ok-put_mark.ensures.shown) (c.in_err-show_body.ensures.cut ws ss h)))

-- ---- slots, one after the other

pub rows::show_slots-loop-i-init : goal.rows::show_slots-loop-i-init
rows::show_slots-loop-i-init g t c = record {
  kept = record { rule = refl; path = refl; of = λ m h. h };
  rest = λ ts h n. same
      _;
}

pub rows::show_slots-loop-i-preserved : goal.rows::show_slots-loop-i-preserved
rows::show_slots-loop-i-preserved g t c =
    let rule = g.E.Emitter.rule c.args.emitter.now in
    let path = g.E.Emitter.path c.args.emitter.now in
    let m = (g.S.Space.message c.args.space.now) in
    let i = c.loop-i.i in
    let lt = c.loop-i-test.true in
    let p = (outgoing g.W.Write.contents c.args.writer.now c.args.text.now.items) in
    let q = (outgoing g.W.Write.contents c.loop-i.writer c.loop-i.text.items) in
    let r = (outgoing g.W.Write.contents c.show_below.new.writer c.show_below.new.text.items) in
    record {
      kept = let k = c.loop-i.invariant.kept in
          let n = c.in_ok-show_below.ensures.kept in
          record { rule = n.rule ∙ k.rule; path = n.path ∙ k.path; of = λ m h. n.of m (k.of m h) };
      rest = λ ts h n. let below : i < count ts = omega arith in
          let long = length-listed ts in
          item-more (slot_item m rule c.args.level path (nth c.args.first)) nil p q (listed ts) i r
          (omega arith) (c.loop-i.invariant.rest ts h n)
          (otherwise q r _ _ (item-is m rule c.args.level path _ _ c.loop-i.invariant.kept.rule
          c.loop-i.invariant.kept.path (nth c.args.first) ts i) (c.in_ok-show_below.ensures.shown (tree_at ts i)
          (h i below)));
    }

pub rows::show_slots-returns-clause-shown : goal.rows::show_slots-returns-clause-shown
rows::show_slots-returns-clause-shown g t c =
    let rule = g.E.Emitter.rule c.args.emitter.now in
    let path = g.E.Emitter.path c.args.emitter.now in
    let m = (g.S.Space.message c.args.space.now) in
    let p = (outgoing g.W.Write.contents c.args.writer.now c.args.text.now.items) in
    let q = (outgoing g.W.Write.contents c.loop-i.writer c.loop-i.text.items) in
    let r = (outgoing g.W.Write.contents c.put_piece.new.writer c.put_piece.new.text.items) in
    let past = c.loop-i-test.false in
    on_ok_weaker c.put_piece.result (λ k ts h n. let long = length-listed ts in
    otherwise p r _ _ (slots-items m rule c.args.level path (nth c.args.first) 0 ts)
    (items-end (slot_item m rule c.args.level path (nth c.args.first)) nil p q
    (listed ts) c.loop-i.i r (end m rule c.args.level path) (omega arith) (c.loop-i.invariant.rest ts h n)
    (otherwise q r _ _ (closing c.args.level c.loop-i.invariant.kept.rule) k))) c.put_piece.ensures.shown

pub rows::show_slots-returns-clause-cut : goal.rows::show_slots-returns-clause-cut
rows::show_slots-returns-clause-cut g t c =
    let rule = g.E.Emitter.rule c.args.emitter.now in
    let path = g.E.Emitter.path c.args.emitter.now in
    let m = (g.S.Space.message c.args.space.now) in
    let p = (outgoing g.W.Write.contents c.args.writer.now c.args.text.now.items) in
    let q = (outgoing g.W.Write.contents c.loop-i.writer c.loop-i.text.items) in
    let r = (outgoing g.W.Write.contents c.put_piece.new.writer c.put_piece.new.text.items) in
    let past = c.loop-i-test.false in
    IfErr-weaker c.put_piece.result _ _ (λ e k ts h n. let long = length-listed ts in
    otherwise-broken p r e _ _ (slots-items m rule c.args.level path (nth c.args.first) 0 ts)
    (end-cut (slot_item m rule c.args.level path (nth c.args.first)) nil p q
    (listed ts) c.loop-i.i r e (end m rule c.args.level path) (omega arith) (c.loop-i.invariant.rest ts h n)
    (otherwise-broken q r e _ _ (closing c.args.level c.loop-i.invariant.kept.rule) k))) c.put_piece.ensures.cut

pub rows::show_slots-returns-clause-kept : goal.rows::show_slots-returns-clause-kept
rows::show_slots-returns-clause-kept g t c =
    on_ok_weaker c.put_piece.result (λ h. c.loop-i.invariant.kept) c.put_piece.ensures.shown

pub rows::show_slots-returns-in_err-show_below-clause-cut :
    goal.rows::show_slots-returns-in_err-show_below-clause-cut
rows::show_slots-returns-in_err-show_below-clause-cut g t c =
    let rule = g.E.Emitter.rule c.args.emitter.now in
    let path = g.E.Emitter.path c.args.emitter.now in
    passed c.from_residual.result c.in_err-show_below.field-0.0 _ c.from_residual.ensures.1
    (λ ts h n. let m = (g.S.Space.message c.args.space.now) in
    let i = c.loop-i.i in
    let lt = c.loop-i-test.true in
    let p = (outgoing g.W.Write.contents c.args.writer.now c.args.text.now.items) in
    let q = (outgoing g.W.Write.contents c.loop-i.writer c.loop-i.text.items) in
    let r = (outgoing g.W.Write.contents c.show_below.new.writer c.show_below.new.text.items) in
    let below : i < count ts = omega arith in
    let long = length-listed ts in
    otherwise-broken p r _ _ _ (slots-items m rule c.args.level path (nth c.args.first) 0 ts)
    (item-cut (slot_item m rule c.args.level path (nth c.args.first)) nil p q (listed ts) i
    r _ (end m rule c.args.level path) (omega arith) (c.loop-i.invariant.rest ts h n)
    (otherwise-broken q r _ _ _ (item-is m rule c.args.level path _ _ c.loop-i.invariant.kept.rule
    c.loop-i.invariant.kept.path (nth c.args.first) ts i) (c.in_err-show_below.ensures.cut (tree_at ts i)
    (h i below)))))

-- ---- rows, one after the other

pub rows::show_rows-loop-row-init : goal.rows::show_rows-loop-row-init
rows::show_rows-loop-row-init g t c = record {
  next = omega arith;
  kept = record { rule = refl; path = refl; of = λ m h. h };
  rest = λ bs h n. same _;
}

pub rows::show_rows-loop-row-preserved : goal.rows::show_rows-loop-row-preserved
rows::show_rows-loop-row-preserved g t c =
    let rule = g.E.Emitter.rule c.args.emitter.now in
    let path = g.E.Emitter.path c.args.emitter.now in
    let m = (g.S.Space.message c.args.space.now) in
    let s = c.args.first.segment in
    let a = c.args.size.words in
    let b = c.args.size.slots in
    let i = c.loop-row.row in
    let next = c.loop-row.invariant.next in
    let lt = c.loop-row-test.true in
    let p = (outgoing g.W.Write.contents c.args.writer.now c.args.text.now.items) in
    let q = (outgoing g.W.Write.contents c.loop-row.writer c.loop-row.text.items) in
    let r = (outgoing g.W.Write.contents c.show_row.new.writer c.show_row.new.text.items) in
    record {
      next = let d : (i + 1) * (a + b) ≡ i * (a + b) + (a + b) = omega arith in omega arith;
      kept = let k = c.loop-row.invariant.kept in
          let n = c.in_ok-show_row.ensures.kept in
          record { rule = n.rule ∙ k.rule; path = n.path ∙ k.path; of = λ m h. n.of m (k.of m h) };
      rest = λ bs h n. let below : i < count_rows bs = omega arith in
          let long = length-rows_listed bs in
          item-more (row_item m rule c.args.level path (nth_row c.args.first a b)) no_row p q
          (rows_listed bs) i r (omega arith) (c.loop-row.invariant.rest bs h n)
          (otherwise q r _ _ (row-is m rule c.args.level path _ _ c.loop-row.invariant.kept.rule
          c.loop-row.invariant.kept.path c.args.first a b c.loop-row.next bs i next)
          (c.in_ok-show_row.ensures.shown (words_of_row bs i) (slots_of_row bs i)
          (subst (λ (w : ℕ). ShowsStruct m (struct_at s w a b) (words_of_row bs i) (slots_of_row bs i)) (sym next)
          (h i below))));
    }

pub rows::show_rows-returns-clause-shown : goal.rows::show_rows-returns-clause-shown
rows::show_rows-returns-clause-shown g t c =
    let rule = g.E.Emitter.rule c.args.emitter.now in
    let path = g.E.Emitter.path c.args.emitter.now in
    let m = (g.S.Space.message c.args.space.now) in
    let p = (outgoing g.W.Write.contents c.args.writer.now c.args.text.now.items) in
    let q = (outgoing g.W.Write.contents c.loop-row.writer c.loop-row.text.items) in
    let r = (outgoing g.W.Write.contents c.put_piece.new.writer c.put_piece.new.text.items) in
    let past = c.loop-row-test.false in
    let row = nth_row c.args.first c.args.size.words c.args.size.slots in
    on_ok_weaker c.put_piece.result (λ k bs h n. let long = length-rows_listed bs in
    otherwise p r _ _ (rows-items m rule c.args.level path row 0 bs)
    (items-end (row_item m rule c.args.level path row) no_row p q
    (rows_listed bs) c.loop-row.row r (end m rule c.args.level path) (omega arith) (c.loop-row.invariant.rest bs h n)
    (otherwise q r _ _ (closing c.args.level c.loop-row.invariant.kept.rule) k))) c.put_piece.ensures.shown

pub rows::show_rows-returns-clause-cut : goal.rows::show_rows-returns-clause-cut
rows::show_rows-returns-clause-cut g t c =
    let rule = g.E.Emitter.rule c.args.emitter.now in
    let path = g.E.Emitter.path c.args.emitter.now in
    let m = (g.S.Space.message c.args.space.now) in
    let p = (outgoing g.W.Write.contents c.args.writer.now c.args.text.now.items) in
    let q = (outgoing g.W.Write.contents c.loop-row.writer c.loop-row.text.items) in
    let r = (outgoing g.W.Write.contents c.put_piece.new.writer c.put_piece.new.text.items) in
    let past = c.loop-row-test.false in
    let row = nth_row c.args.first c.args.size.words c.args.size.slots in
    IfErr-weaker c.put_piece.result _ _ (λ e k bs h n. let long = length-rows_listed bs in
    otherwise-broken p r e _ _ (rows-items m rule c.args.level path row 0 bs)
    (end-cut (row_item m rule c.args.level path row) no_row p q
    (rows_listed bs) c.loop-row.row r e (end m rule c.args.level path) (omega arith) (c.loop-row.invariant.rest bs h n)
    (otherwise-broken q r e _ _ (closing c.args.level c.loop-row.invariant.kept.rule) k))) c.put_piece.ensures.cut

pub rows::show_rows-returns-clause-kept : goal.rows::show_rows-returns-clause-kept
rows::show_rows-returns-clause-kept g t c =
    on_ok_weaker c.put_piece.result (λ h. c.loop-row.invariant.kept) c.put_piece.ensures.shown

pub rows::show_rows-returns-in_err-show_row-clause-cut :
    goal.rows::show_rows-returns-in_err-show_row-clause-cut
rows::show_rows-returns-in_err-show_row-clause-cut g t c =
    let rule = g.E.Emitter.rule c.args.emitter.now in
    let path = g.E.Emitter.path c.args.emitter.now in
    passed c.from_residual.result c.in_err-show_row.field-0.0 _ c.from_residual.ensures.1
    (λ bs h n. let m = (g.S.Space.message c.args.space.now) in
    let s = c.args.first.segment in
    let a = c.args.size.words in
    let b = c.args.size.slots in
    let i = c.loop-row.row in
    let next = c.loop-row.invariant.next in
    let lt = c.loop-row-test.true in
    let p = (outgoing g.W.Write.contents c.args.writer.now c.args.text.now.items) in
    let q = (outgoing g.W.Write.contents c.loop-row.writer c.loop-row.text.items) in
    let r = (outgoing g.W.Write.contents c.show_row.new.writer c.show_row.new.text.items) in
    let below : i < count_rows bs = omega arith in
    let long = length-rows_listed bs in
    otherwise-broken p r _ _ _ (rows-items m rule c.args.level path (nth_row c.args.first a b) 0 bs)
    (item-cut (row_item m rule c.args.level path (nth_row c.args.first a b)) no_row p q
    (rows_listed bs) i r _ (end m rule c.args.level path) (omega arith) (c.loop-row.invariant.rest bs h n)
    (otherwise-broken q r _ _ _ (row-is m rule c.args.level path _ _ c.loop-row.invariant.kept.rule
    c.loop-row.invariant.kept.path c.args.first a b c.loop-row.next bs i next)
    (c.in_err-show_row.ensures.cut (words_of_row bs i) (slots_of_row bs i)
    (subst (λ (w : ℕ). ShowsStruct m (struct_at s w a b) (words_of_row bs i) (slots_of_row bs i)) (sym next)
    (h i below))))))
