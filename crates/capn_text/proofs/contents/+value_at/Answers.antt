use Rattle.std.proofs.Common.{◌≡◌, ◌++◌, ◌∷◌, [], ◌∙◌, ap, sym, arith, map, Some, refl}
use Rattle.std.proofs.lemmas.Result.{err_from_is_err_and}
use Rattle.std.proofs.lemmas.List.{map_push}
use Rattle.capn_value.specs.TreeOf.{tree_of, body_of}
use Rattle.capn_text.specs.inner.Tokens.{many}
use Rattle.capn_text.specs.inner.Values.{tree_at, row_at}
use Rattle.capn_text.specs.declared.heads.Head.TheVariants as heads
use Rattle.capn_text.proofs.Loops.{goes_on, is_done}
use Rattle.capn_text.proofs.StopLaws.{passes_on, one_fails}
use Rattle.capn_text.proofs.TreeStops.{tree_by, row_by, tree_local, tree_full, row_local, row_full}
use Rattle.capn_text.proofs.PartStops.{words_fail, slots_fail, struct_fails, links_fail, rows_fail, leaf_gives}
use Rattle.capn_text.proofs.PartStops.{tree_line_stops, low_gives, content_gives, row_line_stops, row_kind_fails}
use Rattle.capn_text.proofs.PartStops.{row_gives}
use Rattle.capn_text.proofs.ValueOfParts.{node_read, links_read, rows_read}
use Rattle.capn_text.proofs.contents.+value_at.Goals as goal

pub content_at-returns-in_ok-body-in-Struct : goal.content_at-returns-in_ok-body-in-Struct
content_at-returns-in_ok-body-in-Struct g t c =
    node_read (tree_at c.args.room) c.args.level c.args.text.now c.in_ok-body-in-Struct.rest.now c.args.head
    c.in-Struct.words c.in-Struct.slots c.in_ok-body-in-Struct.body c.in-Struct.is c.in_ok-body-in-Struct.ensures

pub content_at-returns-in_ok-items-in-Links : goal.content_at-returns-in_ok-items-in-Links
content_at-returns-in_ok-items-in-Links g t c =
    links_read (tree_at c.args.room) c.args.level c.args.text.now c.in_ok-items-in-Links.rest.now c.args.head
    c.in-Named.count c.from_vec.result (c.in-Named.is ∙ ap (λ n. heads.Named n c.in-Named.count) c.in-Links.is)
    (c.in_ok-items-in-Links.ensures ∙ ap (λ vs. Some (map tree_of vs, c.in_ok-items-in-Links.rest.now))
    (sym c.from_vec.ensures))

pub content_at-returns-in_ok-rows-in-Rows : goal.content_at-returns-in_ok-rows-in-Rows
content_at-returns-in_ok-rows-in-Rows g t c =
    rows_read (tree_at c.args.room) c.args.level c.args.text.now c.in_ok-rows-in-Rows.rest.now c.args.head
    c.in-Named.count c.from_vec-in-Rows.result (c.in-Named.is ∙ ap (λ n. heads.Named n c.in-Named.count) c.in-Rows.is)
    (c.in_ok-rows-in-Rows.ensures ∙ ap (λ bs. Some (map body_of bs, c.in_ok-rows-in-Rows.rest.now))
    (sym c.from_vec-in-Rows.ensures))

pub content_at-returns-in_err-body-in-Struct : goal.content_at-returns-in_err-body-in-Struct
content_at-returns-in_err-body-in-Struct g t c =
    let p = err_from_is_err_and c.from_residual.result c.from_residual.ensures.1 in
    rw (p.1, p.2) (struct_fails c.args.room c.args.level c.in_err-body-in-Struct.field-0.0 c.args.text.now c.args.head
    c.in-Struct.words c.in-Struct.slots c.in-Struct.is c.in_err-body-in-Struct.ensures)

pub content_at-returns-in_err-items-in-Links : goal.content_at-returns-in_err-items-in-Links
content_at-returns-in_err-items-in-Links g t c =
    let p = err_from_is_err_and c.from_residual-in_err-items-in-Links.result
    c.from_residual-in_err-items-in-Links.ensures.1 in
    rw (p.1, p.2) (links_fail c.args.room c.args.level c.in_err-items-in-Links.field-0.0 c.args.text.now c.args.head
    c.in-Named.count (c.in-Named.is ∙ ap (λ n. heads.Named n c.in-Named.count) c.in-Links.is)
    c.in_err-items-in-Links.ensures)

pub content_at-returns-in_err-rows-in-Rows : goal.content_at-returns-in_err-rows-in-Rows
content_at-returns-in_err-rows-in-Rows g t c =
    let p = err_from_is_err_and c.from_residual-in_err-rows-in-Rows.result
    c.from_residual-in_err-rows-in-Rows.ensures.1 in
    rw (p.1, p.2) (rows_fail c.args.room c.args.level c.in_err-rows-in-Rows.field-0.0 c.args.text.now c.args.head
    c.in-Named.count (c.in-Named.is ∙ ap (λ n. heads.Named n c.in-Named.count) c.in-Rows.is)
    c.in_err-rows-in-Rows.ensures)

pub value_at-returns-in_err-head : goal.value_at-returns-in_err-head
value_at-returns-in_err-head g t c =
    let p = err_from_is_err_and c.from_residual.result c.from_residual.ensures.1 in
    rw (p.1, p.2) (tree_line_stops c.args.room c.args.level c.in_err-head.field-0.0 c.args.text.now
    c.in_err-head.ensures.place c.in_err-head.ensures.value)

pub value_at-returns-then-room-eq0 : goal.value_at-returns-then-room-eq0
value_at-returns-then-room-eq0 g t c =
    low_gives (λ x. (tree_of x.0, x.1.now)) c.low_at.result c.args.room c.args.level c.args.text.now
    c.in_ok-head.rest.now c.in_ok-head.head c.if-room-eq0.true c.in_ok-head.ensures.value c.low_at.ensures.value
    c.low_at.ensures.deep

pub value_at-returns : goal.value_at-returns
value_at-returns g t c =
    let other = c.if-room-eq0.false in
    content_gives (λ x. (tree_of x.0, x.1.now)) c.content_at.result c.args.room c.args.level c.args.text.now
    c.in_ok-head.rest.now c.in_ok-head.head (omega arith) c.in_ok-head.ensures.value c.content_at.ensures

pub content_at-returns-in-Leaf : goal.content_at-returns-in-Leaf
content_at-returns-in-Leaf g t c =
    leaf_gives (λ x. (tree_of x.0, x.1.now)) c.leaf_at.result c.args.room c.args.level c.args.head c.in-Leaf.leaf
    c.in-Named.count c.args.text.now (c.in-Named.is ∙ ap (λ n. heads.Named n c.in-Named.count) c.in-Leaf.is)
    c.leaf_at.ensures

pub body_at-returns-in_err-words : goal.body_at-returns-in_err-words
body_at-returns-in_err-words g t c =
    let p = err_from_is_err_and c.from_residual.result c.from_residual.ensures.1 in
    rw (p.1, p.2)
    (words_fail c.args.room c.args.level c.in_err-words.field-0.0 c.args.text.now c.args.words c.args.slots
    c.in_err-words.ensures)

pub body_at-returns-in_err-slots : goal.body_at-returns-in_err-slots
body_at-returns-in_err-slots g t c =
    let p = err_from_is_err_and c.from_residual-in_err-slots.result c.from_residual-in_err-slots.ensures.1 in
    rw (p.1, p.2)
    (slots_fail c.args.room c.args.level c.in_err-slots.field-0.0 c.args.text.now c.args.words c.args.slots
    c.in_ok-words.words.items c.in_ok-words.rest.now c.in_ok-words.ensures c.in_err-slots.ensures)

pub row_at-returns-in_err-head : goal.row_at-returns-in_err-head
row_at-returns-in_err-head g t c =
    let p = err_from_is_err_and c.from_residual.result c.from_residual.ensures.1 in
    rw (p.1, p.2) (row_line_stops c.args.level c.args.room c.in_err-head.field-0.0 c.args.text.now
    c.in_err-head.ensures.place c.in_err-head.ensures.value)

pub row_at-returns-in-Null : goal.row_at-returns-in-Null
row_at-returns-in-Null g t c =
    row_kind_fails c.args.level c.args.room c.args.text.now c.in_ok-head.rest.now heads.Null
    (c.in_ok-head.ensures.value ∙ ap (λ h. Some (h, c.in_ok-head.rest.now)) c.in-Null.is) (λ r y. refl)

pub row_at-returns-in-Named : goal.row_at-returns-in-Named
row_at-returns-in-Named g t c =
    row_kind_fails c.args.level c.args.room c.args.text.now c.in_ok-head.rest.now
    (heads.Named c.in-Named.field-0 c.in-Named.field-1)
    (c.in_ok-head.ensures.value ∙ ap (λ h. Some (h, c.in_ok-head.rest.now)) c.in-Named.is) (λ r y. refl)

pub row_at-returns-in-Struct : goal.row_at-returns-in-Struct
row_at-returns-in-Struct g t c =
    row_gives (λ x. (body_of x.0, x.1.now)) c.body_at.result c.args.room c.args.level c.args.text.now
    c.in_ok-head.rest.now c.in_ok-head.head c.in-Struct.words c.in-Struct.slots c.in-Struct.is
    c.in_ok-head.ensures.value c.body_at.ensures

pub values_at-returns-in_err-value : goal.values_at-returns-in_err-value
values_at-returns-in_err-value g t c =
    let p = err_from_is_err_and c.from_residual.result c.from_residual.ensures.1 in
    rw (p.1, p.2) (one_fails (tree_by c.args.level) (λ r. tree_local r c.args.level) c.args.room
    (tree_full c.args.level)
    c.args.count c.loop.counter c.loop.rest.now c.args.text.now c.loop-test.true c.loop.invariant.passes_on
    c.in_err-value.field-0.0 c.in_err-value.ensures)

pub values_at-loop-preserved : goal.values_at-loop-preserved
values_at-loop-preserved g t c =
    let one = tree_at c.args.room c.args.level in
    let e : map tree_of c.push.new.self.items ≡ map tree_of c.loop.items.items ++ tree_of c.in_ok-value.value ∷ [] =
    rw c.in_ok-push.ensures.items (map_push tree_of c.loop.items.items c.in_ok-value.value) in
    record {
      so_far = rw e (goes_on one (map tree_of c.loop.items.items) c.args.count c.loop.counter c.loop.rest.now
          (many one c.args.count c.args.text.now) (tree_of c.in_ok-value.value) c.in_ok-value.after.now
          c.loop-test.true c.in_ok-value.ensures c.loop.invariant.so_far);
      passes_on = passes_on (tree_by c.args.level) (λ r. tree_local r c.args.level) c.args.room c.args.count
          c.loop.counter c.loop.rest.now c.args.text.now (tree_of c.in_ok-value.value) c.in_ok-value.after.now
          c.loop-test.true c.in_ok-value.ensures c.loop.invariant.passes_on;
    }

pub values_at-returns : goal.values_at-returns
values_at-returns g t c =
    let one = tree_at c.args.room c.args.level in
    is_done one (map tree_of c.loop.items.items) c.args.count c.loop.counter c.loop.rest.now
    (many one c.args.count c.args.text.now) c.loop-test.false c.loop.invariant.so_far

pub rows_at-returns-in_err-row : goal.rows_at-returns-in_err-row
rows_at-returns-in_err-row g t c =
    let p = err_from_is_err_and c.from_residual.result c.from_residual.ensures.1 in
    rw (p.1, p.2) (one_fails (row_by c.args.level) (λ r. row_local r (tree_local r) c.args.level) c.args.room
    (row_full c.args.level) c.args.count c.loop.counter c.loop.rest.now c.args.text.now c.loop-test.true
    c.loop.invariant.passes_on c.in_err-row.field-0.0 c.in_err-row.ensures)

pub rows_at-loop-preserved : goal.rows_at-loop-preserved
rows_at-loop-preserved g t c =
    let one = row_at (tree_at c.args.room) c.args.level in
    let e : map body_of c.push.new.self.items ≡ map body_of c.loop.items.items ++ body_of c.in_ok-row.row ∷ [] =
    rw c.in_ok-push.ensures.items (map_push body_of c.loop.items.items c.in_ok-row.row) in
    record {
      so_far = rw e (goes_on one (map body_of c.loop.items.items) c.args.count c.loop.counter c.loop.rest.now
          (many one c.args.count c.args.text.now) (body_of c.in_ok-row.row) c.in_ok-row.after.now c.loop-test.true
          c.in_ok-row.ensures c.loop.invariant.so_far);
      passes_on = passes_on (row_by c.args.level) (λ r. row_local r (tree_local r) c.args.level) c.args.room
          c.args.count c.loop.counter c.loop.rest.now c.args.text.now (body_of c.in_ok-row.row) c.in_ok-row.after.now
          c.loop-test.true c.in_ok-row.ensures c.loop.invariant.passes_on;
    }

pub rows_at-returns : goal.rows_at-returns
rows_at-returns g t c =
    let one = row_at (tree_at c.args.room) c.args.level in
    is_done one (map body_of c.loop.items.items) c.args.count c.loop.counter c.loop.rest.now
    (many one c.args.count c.args.text.now) c.loop-test.false c.loop.invariant.so_far
