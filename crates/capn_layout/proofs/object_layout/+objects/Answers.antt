use Rattle.std.proofs.Common.{◌≡◌, ℕ, ◌+◌, ◌-◌, ◌*◌, ◌/◌, ◌≤◌, length, set, ap, sym, subst, ◌∙◌, arith}
use Rattle.capn_words.specs.Message.{words_in}
use Rattle.capn_words.proofs.shared.Words.{length-words_in}
use Rattle.capn_value.specs.Tree.{Tree}
use Rattle.capn_layout.specs.declared.source.Item.{Item}
use Rattle.capn_layout.specs.Layout.{point, list_to}
use Rattle.capn_layout.specs.LayoutSteps.{laid, laid_slots, past}
use Rattle.capn_layout.specs.Ready.{AreReady, RowsReady}
use Rattle.capn_layout.specs.inner.Source.{IsItem}
use Rattle.capn_layout.proofs.writer.Blocks.{opened-room, opened-first, one-ready, one-laid, one-grown, all-ready}
use Rattle.capn_layout.proofs.writer.Blocks.{all-inside, all-laid, all-grown, struct-one, links-one}
use Rattle.capn_layout.proofs.shared.Counted.{size-weight}
use Rattle.capn_layout.proofs.shared.LayLengths.{length-lay}
use Rattle.capn_layout.proofs.writer.Laid.{slots-none}
use Rattle.capn_layout.proofs.writer.Drafted.{kept-then, appends-length}
use Rattle.capn_layout.proofs.writer.Stepwise.{next-ready, then-ready, then-rest, slots-end, grown}
use Rattle.capn_layout.proofs.writer.Stepwise.{row-ready, row-then-inside, row-then-ready, row-then-rest, rows-end}
use Rattle.capn_layout.proofs.writer.Stepwise.{rows-empty, grown-row}
use Rattle.capn_layout.proofs.writer.Stepwise.{laid-plain}
use Rattle.capn_layout.proofs.writer.Stepwise.{laid-nil, laid-cap, one-more}
use Rattle.capn_layout.specs.Weight.{weight, weights}
use Rattle.capn_layout.proofs.writer.Weighed.{struct-weighs, links-weigh, rows-weigh, one-weighed}
use Rattle.capn_layout.proofs.writer.Weighed.{slot-weighed, slots-weighed, row-weighed}
use Rattle.capn_layout.proofs.object_layout.+objects.Goals as goal

-- ---- a slot

pub lay_slot-put-requires : goal.lay_slot-put-requires
lay_slot-put-requires g t c =
    let l = length-words_in c.args.len c.args.out.now in
    let r = c.requires.ready.room in
    let i = c.requires.inside in
    omega arith

pub lay_slot-put-requires-in-Cap : goal.lay_slot-put-requires-in-Cap
lay_slot-put-requires-in-Cap g t c =
    let l = length-words_in c.args.len c.args.out.now in
    let r = c.requires.ready.room in
    let i = c.requires.inside in
    omega arith

pub lay_slot-put-requires-in-Numbers : goal.lay_slot-put-requires-in-Numbers
lay_slot-put-requires-in-Numbers g t c =
    let l = length-words_in c.args.len c.args.out.now in
    let r = c.requires.ready.room in
    let i = c.requires.inside in
    omega arith

pub lay_slot-returns-in-Nil-clause-laid : goal.lay_slot-returns-in-Nil-clause-laid
lay_slot-returns-in-Nil-clause-laid g t c v h =
    let e = subst (λ (x : Item g.row.S-Numbers.Denot g.row.S-Rows.Denot). IsItem g.S.Source.packs g.S.Source.are x v)
    c.in-Nil.is (c.item.ensures.is v h) in
    let l = length-words_in c.args.len c.args.out.now in
    let r = c.requires.ready.room in
    laid-nil v c.args.from (words_in c.args.len c.args.out.now) (words_in c.args.len c.put.new.out) e
    (c.put.ensures c.args.len c.requires.inside (omega arith)).words

pub lay_slot-returns-in-Cap-clause-laid : goal.lay_slot-returns-in-Cap-clause-laid
lay_slot-returns-in-Cap-clause-laid g t c v h =
    let e = subst (λ (x : Item g.row.S-Numbers.Denot g.row.S-Rows.Denot). IsItem g.S.Source.packs g.S.Source.are x v)
    c.in-Cap.is (c.item.ensures.is v h) in
    let l = length-words_in c.args.len c.args.out.now in
    let r = c.requires.ready.room in
    laid-cap v c.in-Cap.index c.join.result c.args.from (words_in c.args.len c.args.out.now)
    (words_in c.args.len c.put-in-Cap.new.out) e c.join.ensures.word
    (c.put-in-Cap.ensures c.args.len c.requires.inside (omega arith)).words

pub lay_slot-list_pointer-word-requires-clause-room : goal.lay_slot-list_pointer-word-requires-clause-room
lay_slot-list_pointer-word-requires-clause-room g t c =
    let l = length-words_in c.args.len c.args.out.now in
    let r = c.requires.ready.room in
    let s = c.requires.short in
    omega arith

pub lay_slot-append_numbers-requires : goal.lay_slot-append_numbers-requires
lay_slot-append_numbers-requires g t c =
    let v = c.requires.ready.value in
    let x = subst (λ (x : Item g.row.S-Numbers.Denot g.row.S-Rows.Denot). IsItem g.S.Source.packs g.S.Source.are x v)
    c.in-Numbers.is (c.item.ensures.is v c.requires.ready.is) in
    let l = length-words_in c.args.len c.args.out.now in
    let r = c.requires.ready.room in
    let k = (c.put-in-Numbers.ensures c.args.len c.requires.inside (omega arith)).kept.same in
    let n = length-lay v 0 c.requires.ready.sound in
    let e = ap length (x.2.content 0) in
    (x.0, x.1, omega arith)

pub lay_slot-returns-in-Numbers-clause-laid : goal.lay_slot-returns-in-Numbers-clause-laid
lay_slot-returns-in-Numbers-clause-laid g t c v h =
    let x = subst (λ (y : Item g.row.S-Numbers.Denot g.row.S-Rows.Denot). IsItem g.S.Source.packs g.S.Source.are y v)
    c.in-Numbers.is (c.item.ensures.is v h) in
    let p = words_in c.args.len c.args.out.now in
    let l = length-words_in c.args.len c.args.out.now in
    let r = c.requires.ready.room in
    laid-plain v c.args.from c.list_pointer-word.result x.0 p (words_in c.args.len c.put-in-Numbers.new.out)
    (words_in c.append_numbers.result c.append_numbers.new.out)
    (x.2.pointer c.args.from (length p)
    ∙ sym (c.list_pointer-word.ensures
    ∙ ap (λ (to : ℕ). list_to c.args.from to c.in-Numbers.width c.in-Numbers.count) (sym l)))
    x.2.content (c.put-in-Numbers.ensures c.args.len c.requires.inside (omega arith)).words
    (c.append_numbers.ensures.appends x.0 x.1).words

pub lay_slot-returns-in-Numbers-clause-kept : goal.lay_slot-returns-in-Numbers-clause-kept
lay_slot-returns-in-Numbers-clause-kept g t c =
    let v = c.requires.ready.value in
    let x = subst (λ (x : Item g.row.S-Numbers.Denot g.row.S-Rows.Denot). IsItem g.S.Source.packs g.S.Source.are x v)
    c.in-Numbers.is (c.item.ensures.is v c.requires.ready.is) in
    let l = length-words_in c.args.len c.args.out.now in
    let r = c.requires.ready.room in
    let a = c.append_numbers.ensures.appends x.0 x.1 in
    let n = appends-length c.args.len c.append_numbers.result x.0 c.put-in-Numbers.new.out c.append_numbers.new.out a in
    kept-then c.args.len c.append_numbers.result c.args.out.now c.put-in-Numbers.new.out c.append_numbers.new.out
    (omega arith) (c.put-in-Numbers.ensures c.args.len c.requires.inside (omega arith)).kept a.kept

-- ---- a struct

pub lay_slot-open_struct-own-requires-clause-some : goal.lay_slot-open_struct-own-requires-clause-some
lay_slot-open_struct-own-requires-clause-some g t c =
    let v = c.requires.ready.value in
    let x = subst (λ (x : Item g.row.S-Numbers.Denot g.row.S-Rows.Denot). IsItem g.S.Source.packs g.S.Source.are x v)
    c.in-Struct.is (c.item.ensures.is v c.requires.ready.is) in
    let l = length-words_in c.args.len c.args.out.now in
    let r = c.requires.ready.room in
    (v, x.0, x.1, x.2, c.requires.ready.sound, omega arith)

pub lay_slot-overflow_add-first : goal.lay_slot-overflow_add-first
lay_slot-overflow_add-first g t c =
    let v = c.requires.ready.value in
    let x = subst (λ (x : Item g.row.S-Numbers.Denot g.row.S-Rows.Denot). IsItem g.S.Source.packs g.S.Source.are x v)
    c.in-Struct.is (c.item.ensures.is v c.requires.ready.is) in
    let r = c.open_struct-own.result in
    let p = words_in c.args.len c.args.out.now in
    let q = words_in r.end c.open_struct-own.new.out in
    let o = c.open_struct-own.ensures.opened v x.0 x.1 x.2 c.requires.ready.sound in
    let inside = opened-first v x.0 c.args.from p q r.first r.words r.slots c.args.depth o
    c.requires.ready.room c.requires.ready.low (struct-one v x.0 x.1) in
    let l = length-words_in r.end c.open_struct-own.new.out in
    let room = opened-room v x.0 c.args.from p q r.first r.words r.slots c.args.depth o
    c.requires.ready.room c.requires.ready.low in
    let s = c.requires.short in
    omega arith

pub lay_slot-lay_slots-requires : goal.lay_slot-lay_slots-requires
lay_slot-lay_slots-requires g t c κs live =
    let v = c.requires.ready.value in
    let x = subst (λ (x : Item g.row.S-Numbers.Denot g.row.S-Rows.Denot). IsItem g.S.Source.packs g.S.Source.are x v)
    c.in-Struct.is (c.item.ensures.is v c.requires.ready.is) in
    let r = c.open_struct-own.result in
    let p = words_in c.args.len c.args.out.now in
    let q = words_in r.end c.open_struct-own.new.out in
    let o = c.open_struct-own.ensures.opened v x.0 x.1 x.2 c.requires.ready.sound in
    let one = struct-one v x.0 x.1 in
    let low = o.block.low in
    let high = c.requires.ready.low in
    let are = c.slots.ensures x.0 x.2 in
    let same = c.open_struct-own.ensures.kept.same in
    let ready = subst (λ (k : ℕ). AreReady g.S.Source.has c.slots.result 0 r.slots (c.args.depth - 1) (length q) (k /
    8))
    (sym same) (one-ready v x.0 c.args.from p q r.first r.words r.slots c.args.depth o
    c.requires.ready.room c.requires.ready.low g.S.Source.has c.slots.result one are) in
    let inside = opened-first v x.0 c.args.from p q r.first r.words r.slots c.args.depth o
    c.requires.ready.room c.requires.ready.low one in
    let l = length-words_in r.end c.open_struct-own.new.out in
    let s = c.requires.short in
    (omega arith, (live.0, (live.1.0, (live.1.1.0, (live.1.1.1, (ready, (omega arith, omega arith)))))))

pub lay_slot-returns-in-Struct-clause-laid : goal.lay_slot-returns-in-Struct-clause-laid
lay_slot-returns-in-Struct-clause-laid g t c w h =
    let v = c.requires.ready.value in
    let x = subst (λ (x : Item g.row.S-Numbers.Denot g.row.S-Rows.Denot). IsItem g.S.Source.packs g.S.Source.are x v)
    c.in-Struct.is (c.item.ensures.is v c.requires.ready.is) in
    let r = c.open_struct-own.result in
    let p = words_in c.args.len c.args.out.now in
    let q = words_in r.end c.open_struct-own.new.out in
    let o = c.open_struct-own.ensures.opened v x.0 x.1 x.2 c.requires.ready.sound in
    let one = struct-one v x.0 x.1 in
    let are = c.slots.ensures x.0 x.2 in
    let e = g.met.S.Source.one c.args.source.now c.args.slot w v h c.requires.ready.is in
    one-laid v x.0 c.args.from p q r.first r.words r.slots c.args.depth o c.requires.ready.room c.requires.ready.low
    g.S.Source.has c.slots.result one are (words_in c.lay_slots.result c.lay_slots.new.out) c.lay_slots.ensures.laid
    ∙ ap (λ (y : Tree). laid y (set p c.args.from (point y c.args.from (length p)))) (sym e)

pub lay_slot-returns-in-Struct-clause-kept : goal.lay_slot-returns-in-Struct-clause-kept
lay_slot-returns-in-Struct-clause-kept g t c =
    let v = c.requires.ready.value in
    let x = subst (λ (x : Item g.row.S-Numbers.Denot g.row.S-Rows.Denot). IsItem g.S.Source.packs g.S.Source.are x v)
    c.in-Struct.is (c.item.ensures.is v c.requires.ready.is) in
    let r = c.open_struct-own.result in
    let p = words_in c.args.len c.args.out.now in
    let q = words_in r.end c.open_struct-own.new.out in
    let o = c.open_struct-own.ensures.opened v x.0 x.1 x.2 c.requires.ready.sound in
    let one = struct-one v x.0 x.1 in
    let are = c.slots.ensures x.0 x.2 in
    let grown = one-grown v x.0 c.args.from p q r.first r.words r.slots c.args.depth o
    c.requires.ready.room c.requires.ready.low
    g.S.Source.has c.slots.result one are (words_in c.lay_slots.result c.lay_slots.new.out) c.lay_slots.ensures.laid in
    let l = length-words_in r.end c.open_struct-own.new.out in
    let k = length-words_in c.lay_slots.result c.lay_slots.new.out in
    kept-then r.end c.lay_slots.result c.args.out.now c.open_struct-own.new.out c.lay_slots.new.out (omega arith)
    c.open_struct-own.ensures.kept c.lay_slots.ensures.kept

-- ---- a list of pointers

pub lay_slot-open_links-own-requires-clause-some : goal.lay_slot-open_links-own-requires-clause-some
lay_slot-open_links-own-requires-clause-some g t c =
    let v = c.requires.ready.value in
    let x = subst (λ (x : Item g.row.S-Numbers.Denot g.row.S-Rows.Denot). IsItem g.S.Source.packs g.S.Source.are x v)
    c.in-Links.is (c.item.ensures.is v c.requires.ready.is) in
    let l = length-words_in c.args.len c.args.out.now in
    let r = c.requires.ready.room in
    (v, x.0, x.1, x.2, c.requires.ready.sound, omega arith)

pub lay_slot-overflow_add-first-in-Links : goal.lay_slot-overflow_add-first-in-Links
lay_slot-overflow_add-first-in-Links g t c =
    let v = c.requires.ready.value in
    let x = subst (λ (x : Item g.row.S-Numbers.Denot g.row.S-Rows.Denot). IsItem g.S.Source.packs g.S.Source.are x v)
    c.in-Links.is (c.item.ensures.is v c.requires.ready.is) in
    let r = c.open_links-own.result in
    let p = words_in c.args.len c.args.out.now in
    let q = words_in r.end c.open_links-own.new.out in
    let o = c.open_links-own.ensures.opened v x.0 x.1 x.2 c.requires.ready.sound in
    let inside = opened-first v x.0 c.args.from p q r.first r.words r.slots c.args.depth o
    c.requires.ready.room c.requires.ready.low (links-one c.in-Links.count v x.0 x.1) in
    let l = length-words_in r.end c.open_links-own.new.out in
    let room = opened-room v x.0 c.args.from p q r.first r.words r.slots c.args.depth o
    c.requires.ready.room c.requires.ready.low in
    let s = c.requires.short in
    omega arith

pub lay_slot-lay_slots-requires-in-Links : goal.lay_slot-lay_slots-requires-in-Links
lay_slot-lay_slots-requires-in-Links g t c κs live =
    let v = c.requires.ready.value in
    let x = subst (λ (x : Item g.row.S-Numbers.Denot g.row.S-Rows.Denot). IsItem g.S.Source.packs g.S.Source.are x v)
    c.in-Links.is (c.item.ensures.is v c.requires.ready.is) in
    let r = c.open_links-own.result in
    let p = words_in c.args.len c.args.out.now in
    let q = words_in r.end c.open_links-own.new.out in
    let o = c.open_links-own.ensures.opened v x.0 x.1 x.2 c.requires.ready.sound in
    let one = links-one c.in-Links.count v x.0 x.1 in
    let low = o.block.low in
    let high = c.requires.ready.low in
    let are = c.slots-in-Links.ensures x.0 x.2 in
    let same = c.open_links-own.ensures.kept.same in
    let ready = subst (λ (k : ℕ). AreReady g.S.Source.has c.slots-in-Links.result 0 r.slots (c.args.depth - 1)
    (length q) (k / 8))
    (sym same) (one-ready v x.0 c.args.from p q r.first r.words r.slots c.args.depth o
    c.requires.ready.room c.requires.ready.low g.S.Source.has c.slots-in-Links.result one are) in
    let inside = opened-first v x.0 c.args.from p q r.first r.words r.slots c.args.depth o
    c.requires.ready.room c.requires.ready.low one in
    let l = length-words_in r.end c.open_links-own.new.out in
    let s = c.requires.short in
    (omega arith, (live.0, (live.1.0, (live.1.1.0, (live.1.1.1, (ready, (omega arith, omega arith)))))))

pub lay_slot-returns-in-Links-clause-laid : goal.lay_slot-returns-in-Links-clause-laid
lay_slot-returns-in-Links-clause-laid g t c w h =
    let v = c.requires.ready.value in
    let x = subst (λ (x : Item g.row.S-Numbers.Denot g.row.S-Rows.Denot). IsItem g.S.Source.packs g.S.Source.are x v)
    c.in-Links.is (c.item.ensures.is v c.requires.ready.is) in
    let r = c.open_links-own.result in
    let p = words_in c.args.len c.args.out.now in
    let q = words_in r.end c.open_links-own.new.out in
    let o = c.open_links-own.ensures.opened v x.0 x.1 x.2 c.requires.ready.sound in
    let one = links-one c.in-Links.count v x.0 x.1 in
    let are = c.slots-in-Links.ensures x.0 x.2 in
    let e = g.met.S.Source.one c.args.source.now c.args.slot w v h c.requires.ready.is in
    one-laid v x.0 c.args.from p q r.first r.words r.slots c.args.depth o c.requires.ready.room c.requires.ready.low
    g.S.Source.has c.slots-in-Links.result one are (words_in c.lay_slots-in-Links.result
    c.lay_slots-in-Links.new.out) c.lay_slots-in-Links.ensures.laid
    ∙ ap (λ (y : Tree). laid y (set p c.args.from (point y c.args.from (length p)))) (sym e)

pub lay_slot-returns-in-Links-clause-kept : goal.lay_slot-returns-in-Links-clause-kept
lay_slot-returns-in-Links-clause-kept g t c =
    let v = c.requires.ready.value in
    let x = subst (λ (x : Item g.row.S-Numbers.Denot g.row.S-Rows.Denot). IsItem g.S.Source.packs g.S.Source.are x v)
    c.in-Links.is (c.item.ensures.is v c.requires.ready.is) in
    let r = c.open_links-own.result in
    let p = words_in c.args.len c.args.out.now in
    let q = words_in r.end c.open_links-own.new.out in
    let o = c.open_links-own.ensures.opened v x.0 x.1 x.2 c.requires.ready.sound in
    let one = links-one c.in-Links.count v x.0 x.1 in
    let are = c.slots-in-Links.ensures x.0 x.2 in
    let grown = one-grown v x.0 c.args.from p q r.first r.words r.slots c.args.depth o
    c.requires.ready.room c.requires.ready.low
    g.S.Source.has c.slots-in-Links.result one are (words_in c.lay_slots-in-Links.result
    c.lay_slots-in-Links.new.out) c.lay_slots-in-Links.ensures.laid in
    let l = length-words_in r.end c.open_links-own.new.out in
    let k = length-words_in c.lay_slots-in-Links.result c.lay_slots-in-Links.new.out in
    kept-then r.end c.lay_slots-in-Links.result c.args.out.now c.open_links-own.new.out c.lay_slots-in-Links.new.out
    (omega arith) c.open_links-own.ensures.kept c.lay_slots-in-Links.ensures.kept

-- ---- a list of structs

pub lay_slot-lay_list-requires : goal.lay_slot-lay_list-requires
lay_slot-lay_list-requires g t c κs live =
    let v = c.requires.ready.value in
    let x = subst (λ (x : Item g.row.S-Numbers.Denot g.row.S-Rows.Denot). IsItem g.S.Source.packs g.S.Source.are x v)
    c.in-Rows.is (c.item.ensures.is v c.requires.ready.is) in (
      omega arith,
      (
        live.0,
        (
          live.1.0,
          (
            live.1.1.0,
            (
              live.1.1.1,
              (
                (v, x.0, x.1, x.2, c.requires.ready.sound, c.requires.ready.low, c.requires.ready.room),
                (c.requires.inside, c.requires.short),
              ),
            ),
          ),
        ),
      ),
    )

pub lay_slot-returns-in-Rows-clause-laid : goal.lay_slot-returns-in-Rows-clause-laid
lay_slot-returns-in-Rows-clause-laid g t c w h =
    let v = c.requires.ready.value in
    let x = subst (λ (x : Item g.row.S-Numbers.Denot g.row.S-Rows.Denot). IsItem g.S.Source.packs g.S.Source.are x v)
    c.in-Rows.is (c.item.ensures.is v c.requires.ready.is) in
    let p = words_in c.args.len c.args.out.now in
    let e = g.met.S.Source.one c.args.source.now c.args.slot w v h c.requires.ready.is in
    c.lay_list.ensures.laid v x.0 x.1 x.2 c.requires.ready.sound c.requires.ready.low c.requires.ready.room
    ∙ ap (λ (y : Tree). laid y (set p c.args.from (point y c.args.from (length p)))) (sym e)

pub lay_list-open_rows-own-requires-clause-some : goal.lay_list-open_rows-own-requires-clause-some
lay_list-open_rows-own-requires-clause-some g t c =
    let x = c.requires.some in
    let l = length-words_in c.args.len c.args.out.now in
    let r = x.6 in
    (x.0, x.1, x.2, x.3, x.4, omega arith)

pub lay_list-lay_rows-requires : goal.lay_list-lay_rows-requires
lay_list-lay_rows-requires g t c κs live =
    let x = c.requires.some in
    let r = c.open_rows-own.result in
    let p = words_in c.args.len c.args.out.now in
    let q = words_in r.end c.open_rows-own.new.out in
    let o = c.open_rows-own.ensures.opened x.0 x.1 x.2 x.3 x.4 in
    let low = o.block.low in
    let high = x.5 in
    let same = c.open_rows-own.ensures.kept.same in
    let ready = subst (λ (k : ℕ). RowsReady g.S.Source.are c.args.rows.now 0 c.args.count r.words r.slots
    (c.args.depth - 1) (length q) (k / 8))
    (sym same) (all-ready x.0 x.1 c.args.from p q r.first r.words r.slots c.args.depth o x.6 x.5
    g.S.Source.are c.args.rows.now c.args.count x.2.1 x.3) in
    let inside = all-inside x.0 x.1 c.args.from p q r.first r.words r.slots c.args.depth o x.6 x.5
    g.S.Source.are c.args.rows.now c.args.count x.2.1 x.3 in
    let l = length-words_in r.end c.open_rows-own.new.out in
    let s = c.requires.short in
    (omega arith, (live.0, (live.1.0, (live.1.1.0, (live.1.1.1, (ready, (omega arith, omega arith)))))))

pub lay_list-returns-clause-laid : goal.lay_list-returns-clause-laid
lay_list-returns-clause-laid g t c v bs is are sound low room =
    let r = c.open_rows-own.result in
    let p = words_in c.args.len c.args.out.now in
    let q = words_in r.end c.open_rows-own.new.out in
    let o = c.open_rows-own.ensures.opened v bs is are sound in
    all-laid v bs c.args.from p q r.first r.words r.slots c.args.depth o room low
    g.S.Source.are c.args.rows.now c.args.count is.1 are (words_in c.lay_rows.result c.lay_rows.new.out)
    c.lay_rows.ensures.laid

pub lay_list-returns-clause-kept : goal.lay_list-returns-clause-kept
lay_list-returns-clause-kept g t c =
    let x = c.requires.some in
    let r = c.open_rows-own.result in
    let p = words_in c.args.len c.args.out.now in
    let q = words_in r.end c.open_rows-own.new.out in
    let o = c.open_rows-own.ensures.opened x.0 x.1 x.2 x.3 x.4 in
    let grown = all-grown x.0 x.1 c.args.from p q r.first r.words r.slots c.args.depth o x.6 x.5
    g.S.Source.are c.args.rows.now c.args.count x.2.1 x.3 (words_in c.lay_rows.result c.lay_rows.new.out)
    c.lay_rows.ensures.laid in
    let l = length-words_in r.end c.open_rows-own.new.out in
    let k = length-words_in c.lay_rows.result c.lay_rows.new.out in
    kept-then r.end c.lay_rows.result c.args.out.now c.open_rows-own.new.out c.lay_rows.new.out (omega arith)
    c.open_rows-own.ensures.kept c.lay_rows.ensures.kept

-- ---- slots

pub lay_each-lay_slot-end-requires : goal.lay_each-lay_slot-end-requires
lay_each-lay_slot-end-requires g t c κs live =
    let i = c.loop-slot.slot in
    let lt = c.loop-slot-test.true in
    let inside = c.loop-slot.invariant.inside in
    let same = c.loop-slot.invariant.same.same in
    let s = c.requires.short in
    let ready = next-ready g.S.Source.has c.args.source c.args.count c.args.depth i lt
    (length (words_in c.loop-slot.end c.loop-slot.out)) c.loop-slot.invariant.ready in
    (omega arith, (live.0, (live.1.0, (live.1.1.0, (live.1.1.1, (ready, (omega arith, omega arith)))))))

pub lay_each-loop-slot-preserved : goal.lay_each-loop-slot-preserved
lay_each-loop-slot-preserved g t c =
    let n = c.args.count in
    let d = c.args.depth in
    let i = c.loop-slot.slot in
    let lt = c.loop-slot-test.true in
    let p = words_in c.loop-slot.end c.loop-slot.out in
    let q = words_in c.lay_slot-end.result c.lay_slot-end.new.out in
    let v = c.loop-slot.invariant in
    let h = c.lay_slot-end.ensures.laid in
    let lp = length-words_in c.loop-slot.end c.loop-slot.out in
    let lq = length-words_in c.lay_slot-end.result c.lay_slot-end.new.out in
    let more = grown g.S.Source.has c.args.source n d i lt c.args.first p q v.ready h in
    let kept = c.lay_slot-end.ensures.kept in
    let le = v.inside in
    record {
      rest = λ ts m are. then-rest g.S.Source.has c.args.source n d i lt c.args.first p q v.ready h ts m are
          ∙ v.rest ts m are;
      inside = omega arith;
      ready = subst (λ (k : ℕ). AreReady g.S.Source.has c.args.source (i + 1) n d (length q) (k / 8)) (sym kept.same)
          (then-ready g.S.Source.has c.args.source n d i lt c.args.first p q v.ready h);
      same = kept-then c.loop-slot.end c.lay_slot-end.result c.args.out.now c.loop-slot.out c.lay_slot-end.new.out
          (omega arith) v.same kept;
      reads = slot-weighed g.S.Source.has c.args.source n i (g.S.Source.spent c.args.reads.now)
          (g.S.Source.spent c.loop-slot.reads) (g.S.Source.spent c.tick.new.reads)
          (g.S.Source.spent c.lay_slot-end.new.reads) lt v.reads c.tick.ensures c.lay_slot-end.ensures.reads;
    }

pub lay_each-returns-clause-laid : goal.lay_each-returns-clause-laid
lay_each-returns-clause-laid g t c ts m are =
    sym (slots-end c.args.count c.loop-slot.slot ts c.args.first (words_in c.loop-slot.end c.loop-slot.out)
    c.loop-slot-test.false)
    ∙ c.loop-slot.invariant.rest ts m are

pub lay_slots-returns-then-count-eq0-clause-laid : goal.lay_slots-returns-then-count-eq0-clause-laid
lay_slots-returns-then-count-eq0-clause-laid g t c ts m are =
    let p = words_in c.args.len c.args.out.now in
    sym (ap (λ (k : ℕ). laid_slots k ts c.args.first p) c.if-count-eq0.true ∙ slots-none ts c.args.first p)

-- ---- rows

pub lay_rows-returns-then-slots-eq0-clause-laid : goal.lay_rows-returns-then-slots-eq0-clause-laid
lay_rows-returns-then-slots-eq0-clause-laid g t c bs is e w s =
    rows-empty c.args.words c.args.slots bs c.args.first (words_in c.args.len c.args.out.now) c.if-slots-eq0.true

pub lay_rows-overflow_add-from : goal.lay_rows-overflow_add-from
lay_rows-overflow_add-from g t c =
    let h = one-more c.loop-row.next c.args.words c.args.slots c.args.count c.loop-row.row c.loop-row.end
    c.loop-row-test.true c.loop-row.invariant.inside in
    let r = c.loop-row.invariant.ready.room in
    let l = length-words_in c.loop-row.end c.loop-row.out in
    let same = c.loop-row.invariant.same.same in
    let s = c.requires.short in
    omega arith

pub lay_rows-overflow_add-next : goal.lay_rows-overflow_add-next
lay_rows-overflow_add-next g t c =
    let h = one-more c.loop-row.next c.args.words c.args.slots c.args.count c.loop-row.row c.loop-row.end
    c.loop-row-test.true c.loop-row.invariant.inside in
    let r = c.loop-row.invariant.ready.room in
    let l = length-words_in c.loop-row.end c.loop-row.out in
    let same = c.loop-row.invariant.same.same in
    let s = c.requires.short in
    omega arith

pub lay_rows-lay_each-end-requires : goal.lay_rows-lay_each-end-requires
lay_rows-lay_each-end-requires g t c κs live =
    let h = one-more c.loop-row.next c.args.words c.args.slots c.args.count c.loop-row.row c.loop-row.end
    c.loop-row-test.true c.loop-row.invariant.inside in
    let same = c.loop-row.invariant.same.same in
    let s = c.requires.short in
    let ready = row-ready g.S.Source.has g.S.Source.are c.args.rows.now c.slots.result c.args.count c.args.words
    c.args.slots c.args.depth c.loop-row.row c.loop-row-test.true c.slots.ensures
    (length (words_in c.loop-row.end c.loop-row.out)) c.loop-row.invariant.ready in
    (omega arith, (live.0, (live.1.0, (live.1.1.0, (live.1.1.1, (ready, (omega arith, omega arith)))))))

pub lay_rows-loop-row-preserved : goal.lay_rows-loop-row-preserved
lay_rows-loop-row-preserved g t c =
    let n = c.args.count in
    let a = c.args.words in
    let b = c.args.slots in
    let i = c.loop-row.row in
    let lt = c.loop-row-test.true in
    let p = words_in c.loop-row.end c.loop-row.out in
    let q = words_in c.lay_each-end.result c.lay_each-end.new.out in
    let v = c.loop-row.invariant in
    let h = c.lay_each-end.ensures.laid in
    let lp = length-words_in c.loop-row.end c.loop-row.out in
    let lq = length-words_in c.lay_each-end.result c.lay_each-end.new.out in
    let more = (grown-row g.S.Source.has g.S.Source.are c.args.rows.now c.slots.result n a b c.args.depth i
    lt c.slots.ensures c.loop-row.next p q v.ready h).0 in
    let kept = c.lay_each-end.ensures.kept in
    record {
      rest = λ bs is e w s. row-then-rest g.S.Source.has g.S.Source.are c.args.rows.now c.slots.result n a b
          c.args.depth i lt c.slots.ensures c.loop-row.next p q v.ready h bs is e w s ∙ v.rest bs is e w s;
      inside = subst (λ (k : ℕ). c.loop-row.next + a + b + (n - (i + 1)) * (a + b) ≤ k) lq
          (row-then-inside g.S.Source.has g.S.Source.are c.args.rows.now c.slots.result n a b c.args.depth i lt
          c.slots.ensures c.loop-row.next p q v.ready h
          (subst (λ (k : ℕ). c.loop-row.next + (n - i) * (a + b) ≤ k) (sym lp) v.inside));
      ready = subst (λ (k : ℕ). RowsReady g.S.Source.are c.args.rows.now (i + 1) n a b c.args.depth (length q) (k / 8))
          (sym kept.same)
          (row-then-ready g.S.Source.has g.S.Source.are c.args.rows.now c.slots.result n a b c.args.depth i lt
          c.slots.ensures c.loop-row.next p q v.ready h);
      same = kept-then c.loop-row.end c.lay_each-end.result c.args.out.now c.loop-row.out c.lay_each-end.new.out
          (omega arith) v.same kept;
      reads = λ bs is e w s. row-weighed g.S.Source.has g.S.Source.are c.args.rows.now c.slots.result a b i
          (g.S.Source.spent c.args.reads.now) (g.S.Source.spent c.loop-row.reads) (g.S.Source.spent c.tick.new.reads)
          (g.S.Source.spent c.lay_each-end.new.reads) c.slots.ensures c.tick.ensures c.lay_each-end.ensures.reads bs
          is (omega arith) w s (v.reads bs is e w s);
    }

pub lay_rows-returns-clause-laid : goal.lay_rows-returns-clause-laid
lay_rows-returns-clause-laid g t c bs is e w s =
    sym (rows-end c.args.words c.args.slots c.loop-row.row bs c.loop-row.next (words_in c.loop-row.end c.loop-row.out)
    (let f = c.loop-row-test.false in omega arith))
    ∙ c.loop-row.invariant.rest bs is e w s

-- ---- the number of reads

pub lay_slot-returns-in-Numbers-clause-reads : goal.lay_slot-returns-in-Numbers-clause-reads
lay_slot-returns-in-Numbers-clause-reads g t c w h =
    let v = c.requires.ready.value in
    let x = subst (λ (x : Item g.row.S-Numbers.Denot g.row.S-Rows.Denot). IsItem g.S.Source.packs g.S.Source.are x v)
    c.in-Numbers.is (c.item.ensures.is v c.requires.ready.is) in
    let same = ap weight (g.met.S.Source.one c.args.source.now c.args.slot w v h c.requires.ready.is) in
    let i = c.item.ensures.reads in
    let n = length-lay v 0 c.requires.ready.sound in
    let e = ap length (x.2.content 0) in
    let r = c.append_numbers.ensures.reads x.0 x.1 in
    let s = size-weight v c.requires.ready.sound in
    omega arith

pub lay_slot-returns-in-Struct-clause-reads : goal.lay_slot-returns-in-Struct-clause-reads
lay_slot-returns-in-Struct-clause-reads g t c w h =
    let v = c.requires.ready.value in
    let x = subst (λ (x : Item g.row.S-Numbers.Denot g.row.S-Rows.Denot). IsItem g.S.Source.packs g.S.Source.are x v)
    c.in-Struct.is (c.item.ensures.is v c.requires.ready.is) in
    let same = ap weight (g.met.S.Source.one c.args.source.now c.args.slot w v h c.requires.ready.is) in
    let i = c.item.ensures.reads in
    let r = c.open_struct-own.result in
    let o = (c.open_struct-own.ensures.opened v x.0 x.1 x.2 c.requires.ready.sound).block in
    let one = struct-one v x.0 x.1 in
    let n = one-weighed g.S.Source.has c.slots.result x.0 r.words r.slots (g.S.Source.spent c.open_struct-own.new.reads)
    (g.S.Source.spent c.lay_slots.new.reads) one o.wide o.sound (c.slots.ensures x.0 x.2) c.lay_slots.ensures.reads in
    let k = c.open_struct-own.ensures.reads x.0 x.2 in
    let all = struct-weighs v x.0 x.1 in
    omega arith

pub lay_slot-returns-in-Links-clause-reads : goal.lay_slot-returns-in-Links-clause-reads
lay_slot-returns-in-Links-clause-reads g t c w h =
    let v = c.requires.ready.value in
    let x = subst (λ (x : Item g.row.S-Numbers.Denot g.row.S-Rows.Denot). IsItem g.S.Source.packs g.S.Source.are x v)
    c.in-Links.is (c.item.ensures.is v c.requires.ready.is) in
    let same = ap weight (g.met.S.Source.one c.args.source.now c.args.slot w v h c.requires.ready.is) in
    let i = c.item.ensures.reads in
    let r = c.open_links-own.result in
    let o = (c.open_links-own.ensures.opened v x.0 x.1 x.2 c.requires.ready.sound).block in
    let one = links-one c.in-Links.count v x.0 x.1 in
    let n = one-weighed g.S.Source.has c.slots-in-Links.result x.0 r.words r.slots
    (g.S.Source.spent c.open_links-own.new.reads) (g.S.Source.spent c.lay_slots-in-Links.new.reads) one o.wide o.sound
    (c.slots-in-Links.ensures x.0 x.2) c.lay_slots-in-Links.ensures.reads in
    let k = c.open_links-own.ensures.reads x.0 x.2 in
    let all = links-weigh c.in-Links.count v x.0 x.1 in
    let weighs = all.0 in
    omega arith

pub lay_slot-returns-in-Rows-clause-reads : goal.lay_slot-returns-in-Rows-clause-reads
lay_slot-returns-in-Rows-clause-reads g t c w h =
    let v = c.requires.ready.value in
    let x = subst (λ (x : Item g.row.S-Numbers.Denot g.row.S-Rows.Denot). IsItem g.S.Source.packs g.S.Source.are x v)
    c.in-Rows.is (c.item.ensures.is v c.requires.ready.is) in
    let same = ap weight (g.met.S.Source.one c.args.source.now c.args.slot w v h c.requires.ready.is) in
    let i = c.item.ensures.reads in
    let n = c.lay_list.ensures.reads v x.0 x.1 x.2 c.requires.ready.sound in
    omega arith

pub lay_list-returns-clause-reads : goal.lay_list-returns-clause-reads
lay_list-returns-clause-reads g t c v bs is are sound =
    let o = (c.open_rows-own.ensures.opened v bs is are sound).block in
    let n = c.lay_rows.ensures.reads bs are is.1 o.wide o.sound in
    let k = c.open_rows-own.ensures.reads bs are in
    let all = rows-weigh c.args.count v bs is in
    let e = is.1 in
    let rows = all.0 in
    let words = all.1 in
    omega arith

pub lay_each-returns-clause-reads : goal.lay_each-returns-clause-reads
lay_each-returns-clause-reads g t c ts m are =
    slots-weighed c.args.count c.loop-slot.slot (g.S.Source.spent c.args.reads.now)
    (g.S.Source.spent c.loop-slot.reads) ts c.loop-slot.auto.slot-end c.loop-slot-test.false
    (c.loop-slot.invariant.reads ts m are)

pub lay_slots-returns-then-count-eq0-clause-reads : goal.lay_slots-returns-then-count-eq0-clause-reads
lay_slots-returns-then-count-eq0-clause-reads g t c ts m are =
    let e : weights (past c.args.count ts) ≡ weights ts = ap (λ (k : ℕ). weights (past k ts)) c.if-count-eq0.true in
    omega arith

pub lay_rows-returns-clause-reads : goal.lay_rows-returns-clause-reads
lay_rows-returns-clause-reads g t c bs is e w s =
    let r = c.loop-row.invariant.reads bs is e w s in
    omega arith
