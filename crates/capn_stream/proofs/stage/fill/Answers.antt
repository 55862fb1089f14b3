use Rattle.std.proofs.Common.{◌≡◌, inr, ◌+◌, ap, sym, subst, ◌∙◌, arith}
use Rattle.std.proofs.lemmas.Result.{err_from_is_err_and}
use Rattle.capn_stream.specs.inner.Stages.{need, IsDone}
use Rattle.capn_stream.specs.declared.stage.Stage.{Stage}
use Rattle.capn_stream.proofs.Came.{lacked_now, lacked_whole}
use Rattle.capn_stream.proofs.Filling.{Filled, filled, filled_done, filled_kept, filled_short, filled_stop}
use Rattle.capn_stream.proofs.Filling.{is_contents, is_table, stop_count}
use Rattle.capn_stream.proofs.stage.fill.Goals as goal

pub returns-then-len-end-clause-filled : goal.returns-then-len-end-clause-filled
returns-then-len-end-clause-filled g c =
    filled_short c.parts.stage c.args.bytes.now.items c.args.piece.now c.args.most c.parts.at c.in_ok-at.field-0
    c.end_of-end.result c.parts.bytes.items c.fill_to.new.bytes.items c.parts.ends.items
    c.end_of-end.ensures c.parts.invariant.inside c.parts.invariant.text c.parts.invariant.is c.in_ok-at.ensures.extends
    (omega arith)

pub parts-preserved-in-Count : goal.parts-preserved-in-Count
parts-preserved-in-Count g c =
    let f =
    filled c.parts.stage c.args.bytes.now.items c.args.piece.now c.args.most c.parts.at c.in_ok-at.field-0
    c.end_of-end.result c.parts.bytes.items c.fill_to.new.bytes.items c.parts.ends.items
    c.end_of-end.ensures c.parts.invariant.inside c.parts.invariant.text c.parts.invariant.is
    c.in_ok-at.ensures.extends in
    let end : c.end_of-end.result ≡ 4 = c.end_of-end.ensures ∙ ap need c.in-Count.is in
    let counted = rw c.deref.ensures.value at c.in_ok-segments-in-Count.ensures.counted in
    let t = is_table c.parts.stage c.args.bytes.now.items c.args.piece.now c.args.most _
    c.in_ok-segments-in-Count.segments c.fill_to.new.bytes.items c.parts.ends.items f counted
    (omega (arith, end, c.in_ok-at.ensures.extends.upto)) in
    let lacked =
    lacked_whole c.args.stage.now c.parts.stage c.args.bytes.now.items c.parts.bytes.items c.args.piece.now
    c.fill_to.new.bytes.items c.parts.at c.in_ok-at.field-0 c.end_of-end.result c.end_of-end.ensures c.requires.rests
    c.parts.invariant.came c.in_ok-at.ensures.extends (omega arith)
    (λ done. subst (λ (s : Stage). IsDone s c.parts.bytes.items) c.in-Count.is done) in
    record { inside = t.inside; text = t.text; is = t.is; came = inr lacked }

pub read_table-requires-clause-count : goal.read_table-requires-clause-count
read_table-requires-clause-count g c =
    let f =
    filled c.parts.stage c.args.bytes.now.items c.args.piece.now c.args.most c.parts.at c.in_ok-at.field-0
    c.end_of-end.result c.parts.bytes.items c.fill_to.new.bytes.items c.parts.ends.items
    c.end_of-end.ensures c.parts.invariant.inside c.parts.invariant.text c.parts.invariant.is
    c.in_ok-at.ensures.extends in
    let t = subst
    (λ (s : Stage). Filled s c.args.bytes.now.items c.args.piece.now c.args.most (c.parts.at + c.in_ok-at.field-0)
    c.fill_to.new.bytes.items c.parts.ends.items) c.in-Table.is f in
    rw c.deref-in-Table.ensures.value t.is.knows

pub returns-in_err-segments-in-Count-clause-refused : goal.returns-in_err-segments-in-Count-clause-refused
returns-in_err-segments-in-Count-clause-refused g c =
    let p = err_from_is_err_and c.from_residual-in_err-segments-in-Count.result
    c.from_residual-in_err-segments-in-Count.ensures.1 in
    let end : c.end_of-end.result ≡ 4 = c.end_of-end.ensures ∙ ap need c.in-Count.is in
    let many = rw c.deref.ensures.value at c.in_err-segments-in-Count.ensures.refused in
    let stop = stop_count c.fill_to.new.bytes.items c.args.most c.in_err-segments-in-Count.field-0.0
    (omega (arith, end, c.in_ok-at.ensures.extends.upto)) many in
    rw (p.1, p.2)
    (filled_stop c.parts.stage c.args.bytes.now.items c.args.piece.now c.args.most c.parts.at c.in_ok-at.field-0
    c.end_of-end.result c.parts.bytes.items c.fill_to.new.bytes.items c.parts.ends.items
    c.end_of-end.ensures c.parts.invariant.inside c.parts.invariant.text c.parts.invariant.is c.in_ok-at.ensures.extends
    c.in_err-segments-in-Count.field-0.0 stop)

pub returns-in_err-bounds-in-Table-clause-refused : goal.returns-in_err-bounds-in-Table-clause-refused
returns-in_err-bounds-in-Table-clause-refused g c =
    let p = err_from_is_err_and c.from_residual-in_err-bounds-in-Table.result
    c.from_residual-in_err-bounds-in-Table.ensures.1 in
    let stop = rw c.deref-in-Table.ensures.value at c.in_err-bounds-in-Table.ensures.refused in
    rw (p.1, p.2)
    (filled_stop c.parts.stage c.args.bytes.now.items c.args.piece.now c.args.most c.parts.at c.in_ok-at.field-0
    c.end_of-end.result c.parts.bytes.items c.fill_to.new.bytes.items c.parts.ends.items
    c.end_of-end.ensures c.parts.invariant.inside c.parts.invariant.text c.parts.invariant.is c.in_ok-at.ensures.extends
    c.in_err-bounds-in-Table.field-0.0 stop)

pub parts-preserved : goal.parts-preserved
parts-preserved g c =
    let f =
    filled c.parts.stage c.args.bytes.now.items c.args.piece.now c.args.most c.parts.at c.in_ok-at.field-0
    c.end_of-end.result c.parts.bytes.items c.fill_to.new.bytes.items c.parts.ends.items
    c.end_of-end.ensures c.parts.invariant.inside c.parts.invariant.text c.parts.invariant.is
    c.in_ok-at.ensures.extends in
    let t = subst
    (λ (s : Stage). Filled s c.args.bytes.now.items c.args.piece.now c.args.most (c.parts.at + c.in_ok-at.field-0)
    c.fill_to.new.bytes.items c.parts.ends.items) c.in-Table.is f in
    let tabled = rw c.deref-in-Table.ensures.value at c.in_ok-bounds-in-Table.ensures.tabled in
    let n = is_contents c.in-Table.segments c.args.bytes.now.items c.args.piece.now c.args.most _
    c.in_ok-bounds-in-Table.bounds.start c.in_ok-bounds-in-Table.bounds.end c.fill_to.new.bytes.items
    c.parts.ends.items c.in_ok-bounds-in-Table.bounds.ends.items t tabled in
    let lacked =
    lacked_whole c.args.stage.now c.parts.stage c.args.bytes.now.items c.parts.bytes.items c.args.piece.now
    c.fill_to.new.bytes.items c.parts.at c.in_ok-at.field-0 c.end_of-end.result c.end_of-end.ensures c.requires.rests
    c.parts.invariant.came c.in_ok-at.ensures.extends (omega arith)
    (λ done. subst (λ (s : Stage). IsDone s c.parts.bytes.items) c.in-Table.is done) in
    record { inside = n.inside; text = n.text; is = n.is; came = inr lacked }

pub returns-in-Contents-clause-filled : goal.returns-in-Contents-clause-filled
returns-in-Contents-clause-filled g c =
    let end = c.end_of-end.ensures ∙ ap need c.in-Contents.is in
    let done = subst (λ (s : Stage). IsDone s c.fill_to.new.bytes.items) (sym c.in-Contents.is)
    (omega (arith, end, c.in_ok-at.ensures.extends.upto)) in
    filled_done c.parts.stage c.args.bytes.now.items c.args.piece.now c.args.most c.parts.at c.in_ok-at.field-0
    c.end_of-end.result c.parts.bytes.items c.fill_to.new.bytes.items c.parts.ends.items
    c.end_of-end.ensures c.parts.invariant.inside c.parts.invariant.text c.parts.invariant.is
    c.in_ok-at.ensures.extends done

pub returns-in_err-at-clause-memory : goal.returns-in_err-at-clause-memory
returns-in_err-at-clause-memory g c = λ h.
    lacked_now c.args.stage.now c.parts.stage c.args.bytes.now.items c.parts.bytes.items c.args.piece.now c.parts.at
    c.end_of-end.result c.end_of-end.ensures c.parts.invariant.came c.in_err-at.ensures.memory

pub returns-in_err-segments-in-Count-clause-memory : goal.returns-in_err-segments-in-Count-clause-memory
returns-in_err-segments-in-Count-clause-memory g c = λ h.
    lacked_whole c.args.stage.now c.parts.stage c.args.bytes.now.items c.parts.bytes.items c.args.piece.now
    c.fill_to.new.bytes.items c.parts.at c.in_ok-at.field-0 c.end_of-end.result c.end_of-end.ensures c.requires.rests
    c.parts.invariant.came c.in_ok-at.ensures.extends (omega arith)
    (λ done. subst (λ (s : Stage). IsDone s c.parts.bytes.items) c.in-Count.is done)

pub returns-in_err-bounds-in-Table-clause-memory : goal.returns-in_err-bounds-in-Table-clause-memory
returns-in_err-bounds-in-Table-clause-memory g c = λ h.
    lacked_whole c.args.stage.now c.parts.stage c.args.bytes.now.items c.parts.bytes.items c.args.piece.now
    c.fill_to.new.bytes.items c.parts.at c.in_ok-at.field-0 c.end_of-end.result c.end_of-end.ensures c.requires.rests
    c.parts.invariant.came c.in_ok-at.ensures.extends (omega arith)
    (λ done. subst (λ (s : Stage). IsDone s c.parts.bytes.items) c.in-Table.is done)

pub returns-in_err-bounds-in-Table-clause-kept : goal.returns-in_err-bounds-in-Table-clause-kept
returns-in_err-bounds-in-Table-clause-kept g c =
    let p = err_from_is_err_and c.from_residual-in_err-bounds-in-Table.result
    c.from_residual-in_err-bounds-in-Table.ensures.1 in
    let stop = rw c.deref-in-Table.ensures.value at c.in_err-bounds-in-Table.ensures.refused in
    rw (p.1, p.2)
    (filled_kept c.parts.stage c.args.bytes.now.items c.args.piece.now c.args.most c.parts.at c.in_ok-at.field-0
    c.end_of-end.result c.parts.bytes.items c.fill_to.new.bytes.items c.parts.ends.items
    c.end_of-end.ensures c.parts.invariant.inside c.parts.invariant.text c.parts.invariant.is c.in_ok-at.ensures.extends
    c.in_err-bounds-in-Table.field-0.0 stop)
