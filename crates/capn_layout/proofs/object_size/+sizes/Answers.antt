use Rattle.std.proofs.Common.{ℕ, [], ◌∷◌, length, ap, sym, subst, arith}
use Rattle.capn_layout.specs.Layout.{size}
use Rattle.capn_layout.specs.Weight.{weight}
use Rattle.capn_layout.specs.declared.source.Item.{Item}
use Rattle.capn_layout.specs.inner.Source.{IsItem}
use Rattle.capn_layout.proofs.shared.LayLengths.{length-lay}
use Rattle.capn_layout.proofs.writer.Blocks.{struct-one, links-one, links-block, tag_of_rows}
use Rattle.capn_layout.proofs.writer.Opened.{struct-block-at, rows-block-at}
use Rattle.capn_layout.proofs.writer.Sized.{one-sized-ready, one-sized, all-sized-ready, all-sized, rows-nothing}
use Rattle.capn_layout.proofs.writer.Sized.{slot-sized-ready, slot-sized-fits, slot-sized, slots-sized}
use Rattle.capn_layout.proofs.writer.Sized.{row-sized-ready, row-sized-fits, row-sized, rows-sized}
use Rattle.capn_layout.proofs.writer.Weighed.{struct-weighs, links-weigh, rows-weigh, one-weighed}
use Rattle.capn_layout.proofs.writer.Weighed.{slot-weighed, slots-weighed, row-weighed}
use Rattle.capn_layout.proofs.object_size.+sizes.Goals as goal

pub size_of_slot-count_words-requires : goal.size_of_slot-count_words-requires
size_of_slot-count_words-requires g t c =
    let v = c.requires.value in
    let x = subst (λ (x : Item g.row.S-Numbers.Denot g.row.S-Rows.Denot). IsItem g.S.Source.packs g.S.Source.are x v)
    c.in-Numbers.is (c.item.ensures.is v c.requires.is) in
    let l = length-lay v 0 c.requires.sound in
    let e = ap length (x.2.content 0) in
    let r = c.requires.room in
    (x.0, x.1, omega arith)

pub size_of_slot-returns-in-Numbers-clause-size : goal.size_of_slot-returns-in-Numbers-clause-size
size_of_slot-returns-in-Numbers-clause-size g t c w h =
    let v = c.requires.value in
    let x = subst (λ (x : Item g.row.S-Numbers.Denot g.row.S-Rows.Denot). IsItem g.S.Source.packs g.S.Source.are x v)
    c.in-Numbers.is (c.item.ensures.is v c.requires.is) in
    let l = length-lay v 0 c.requires.sound in
    let e = ap length (x.2.content 0) in
    let n = c.count_words.ensures x.0 x.1 in
    let same = ap size (g.met.S.Source.one c.args.source.now c.args.slot w v h c.requires.is) in
    omega arith

pub size_of_slot-size_of_slots-requires : goal.size_of_slot-size_of_slots-requires
size_of_slot-size_of_slots-requires g t c κs live =
    let v = c.requires.value in
    let x = subst (λ (x : Item g.row.S-Numbers.Denot g.row.S-Rows.Denot). IsItem g.S.Source.packs g.S.Source.are x v)
    c.in-Struct.is (c.item.ensures.is v c.requires.is) in
    let a = c.kept_words-words.result in
    let b = c.kept_slots-slots.result in
    let one = struct-one v x.0 x.1 in
    let o = struct-block-at v x.0 x.1 c.requires.sound a b (c.kept_words-words.ensures.kept x.0 x.2)
    (c.kept_slots-slots.ensures.kept x.0 x.2) in
    let are = c.slots.ensures x.0 x.2 in
    let low = o.low in
    let high = c.requires.low in (
      omega arith,
      (
        live.0,
        (
          live.1.0,
          (
            live.1.1.0,
            (
              live.1.1.1,
              one-sized-ready v [] a b c.args.depth x.0 o c.requires.room
                  c.requires.low g.S.Source.has c.slots.result one are,
            ),
          ),
        ),
      ),
    )

pub size_of_slot-overflow_add-result-in-Struct : goal.size_of_slot-overflow_add-result-in-Struct
size_of_slot-overflow_add-result-in-Struct g t c =
    let v = c.requires.value in
    let x = subst (λ (x : Item g.row.S-Numbers.Denot g.row.S-Rows.Denot). IsItem g.S.Source.packs g.S.Source.are x v)
    c.in-Struct.is (c.item.ensures.is v c.requires.is) in
    let a = c.kept_words-words.result in
    let b = c.kept_slots-slots.result in
    let one = struct-one v x.0 x.1 in
    let o = struct-block-at v x.0 x.1 c.requires.sound a b (c.kept_words-words.ensures.kept x.0 x.2)
    (c.kept_slots-slots.ensures.kept x.0 x.2) in
    let are = c.slots.ensures x.0 x.2 in
    let e = one-sized v [] a b c.args.depth x.0 o c.requires.room
    c.requires.low g.S.Source.has c.slots.result one are c.size_of_slots.result c.size_of_slots.ensures.size in
    let r = c.requires.room in
    omega arith

pub size_of_slot-returns-in-Struct-clause-size : goal.size_of_slot-returns-in-Struct-clause-size
size_of_slot-returns-in-Struct-clause-size g t c w h =
    let v = c.requires.value in
    let x = subst (λ (x : Item g.row.S-Numbers.Denot g.row.S-Rows.Denot). IsItem g.S.Source.packs g.S.Source.are x v)
    c.in-Struct.is (c.item.ensures.is v c.requires.is) in
    let a = c.kept_words-words.result in
    let b = c.kept_slots-slots.result in
    let one = struct-one v x.0 x.1 in
    let o = struct-block-at v x.0 x.1 c.requires.sound a b (c.kept_words-words.ensures.kept x.0 x.2)
    (c.kept_slots-slots.ensures.kept x.0 x.2) in
    let are = c.slots.ensures x.0 x.2 in
    let e = one-sized v [] a b c.args.depth x.0 o c.requires.room
    c.requires.low g.S.Source.has c.slots.result one are c.size_of_slots.result c.size_of_slots.ensures.size in
    let same = ap size (g.met.S.Source.one c.args.source.now c.args.slot w v h c.requires.is) in
    omega arith

pub size_of_slot-size_of_slots-requires-in-Links : goal.size_of_slot-size_of_slots-requires-in-Links
size_of_slot-size_of_slots-requires-in-Links g t c κs live =
    let v = c.requires.value in
    let x = subst (λ (x : Item g.row.S-Numbers.Denot g.row.S-Rows.Denot). IsItem g.S.Source.packs g.S.Source.are x v)
    c.in-Links.is (c.item.ensures.is v c.requires.is) in
    let a : ℕ = 0 in
    let b = c.in-Links.count in
    let one = links-one b v x.0 x.1 in
    let o = links-block b v x.0 x.1 c.requires.sound in
    let are = c.slots-in-Links.ensures x.0 x.2 in
    let low = o.low in
    let high = c.requires.low in (
      omega arith,
      (
        live.0,
        (
          live.1.0,
          (
            live.1.1.0,
            (
              live.1.1.1,
              one-sized-ready v [] a b c.args.depth x.0 o c.requires.room
                  c.requires.low g.S.Source.has c.slots-in-Links.result one are,
            ),
          ),
        ),
      ),
    )

pub size_of_slot-overflow_add-result-in-Links : goal.size_of_slot-overflow_add-result-in-Links
size_of_slot-overflow_add-result-in-Links g t c =
    let v = c.requires.value in
    let x = subst (λ (x : Item g.row.S-Numbers.Denot g.row.S-Rows.Denot). IsItem g.S.Source.packs g.S.Source.are x v)
    c.in-Links.is (c.item.ensures.is v c.requires.is) in
    let a : ℕ = 0 in
    let b = c.in-Links.count in
    let one = links-one b v x.0 x.1 in
    let o = links-block b v x.0 x.1 c.requires.sound in
    let are = c.slots-in-Links.ensures x.0 x.2 in
    let e = one-sized v [] a b c.args.depth x.0 o c.requires.room
    c.requires.low g.S.Source.has c.slots-in-Links.result one are c.size_of_slots-in-Links.result
    c.size_of_slots-in-Links.ensures.size in
    let r = c.requires.room in
    omega arith

pub size_of_slot-returns-in-Links-clause-size : goal.size_of_slot-returns-in-Links-clause-size
size_of_slot-returns-in-Links-clause-size g t c w h =
    let v = c.requires.value in
    let x = subst (λ (x : Item g.row.S-Numbers.Denot g.row.S-Rows.Denot). IsItem g.S.Source.packs g.S.Source.are x v)
    c.in-Links.is (c.item.ensures.is v c.requires.is) in
    let a : ℕ = 0 in
    let b = c.in-Links.count in
    let one = links-one b v x.0 x.1 in
    let o = links-block b v x.0 x.1 c.requires.sound in
    let are = c.slots-in-Links.ensures x.0 x.2 in
    let e = one-sized v [] a b c.args.depth x.0 o c.requires.room
    c.requires.low g.S.Source.has c.slots-in-Links.result one are c.size_of_slots-in-Links.result
    c.size_of_slots-in-Links.ensures.size in
    let same = ap size (g.met.S.Source.one c.args.source.now c.args.slot w v h c.requires.is) in
    omega arith

pub size_of_slot-size_of_rows-requires : goal.size_of_slot-size_of_rows-requires
size_of_slot-size_of_rows-requires g t c κs live =
    let v = c.requires.value in
    let x = subst (λ (x : Item g.row.S-Numbers.Denot g.row.S-Rows.Denot). IsItem g.S.Source.packs g.S.Source.are x v)
    c.in-Rows.is (c.item.ensures.is v c.requires.is) in
    let a = c.kept_words-words-in-Rows.result in
    let b = c.kept_slots-slots-in-Rows.result in
    let o = rows-block-at c.in-Rows.count v x.0 x.1 c.requires.sound a b
    (c.kept_words-words-in-Rows.ensures.kept x.0 x.2) (c.kept_slots-slots-in-Rows.ensures.kept x.0 x.2) in
    let low = o.low in
    let high = c.requires.low in (
      omega arith,
      (
        live.0,
        (
          live.1.0,
          (
            live.1.1.0,
            (
              live.1.1.1,
              all-sized-ready v (tag_of_rows x.0 ∷ []) a b c.args.depth x.0 o
                  c.requires.room c.requires.low g.S.Source.are c.in-Rows.rows c.in-Rows.count x.1.1 x.2,
            ),
          ),
        ),
      ),
    )

pub size_of_slot-returns-in-Rows-clause-size : goal.size_of_slot-returns-in-Rows-clause-size
size_of_slot-returns-in-Rows-clause-size g t c w h =
    let v = c.requires.value in
    let x = subst (λ (x : Item g.row.S-Numbers.Denot g.row.S-Rows.Denot). IsItem g.S.Source.packs g.S.Source.are x v)
    c.in-Rows.is (c.item.ensures.is v c.requires.is) in
    let a = c.kept_words-words-in-Rows.result in
    let b = c.kept_slots-slots-in-Rows.result in
    let o = rows-block-at c.in-Rows.count v x.0 x.1 c.requires.sound a b
    (c.kept_words-words-in-Rows.ensures.kept x.0 x.2) (c.kept_slots-slots-in-Rows.ensures.kept x.0 x.2) in
    let e = all-sized v (tag_of_rows x.0 ∷ []) a b c.args.depth x.0 o c.requires.room c.requires.low
    g.S.Source.are c.in-Rows.rows c.in-Rows.count x.1.1 x.2 c.size_of_rows.result c.size_of_rows.ensures.size in
    let same = ap size (g.met.S.Source.one c.args.source.now c.args.slot w v h c.requires.is) in
    omega arith

pub size_of_slots-size_of_slot-size-requires : goal.size_of_slots-size_of_slot-size-requires
size_of_slots-size_of_slot-size-requires g t c κs live = (
  omega arith,
  (
    live.0,
    (
      live.1.0,
      (
        live.1.1.0,
        (
          live.1.1.1,
          slot-sized-ready g.S.Source.has c.args.source c.args.number c.args.depth c.loop-slot.slot c.loop-slot.size
              c.loop-slot-test.true c.requires c.loop-slot.invariant.size,
        ),
      ),
    ),
  ),
)

pub size_of_slots-overflow_add-size : goal.size_of_slots-overflow_add-size
size_of_slots-overflow_add-size g t c =
    let e = slot-sized-fits g.S.Source.has c.args.source c.args.number c.args.depth c.loop-slot.slot c.loop-slot.size
    c.loop-slot-test.true c.requires c.loop-slot.invariant.size c.size_of_slot-size.result
    c.size_of_slot-size.ensures.size in
    omega arith

pub size_of_slots-loop-slot-preserved : goal.size_of_slots-loop-slot-preserved
size_of_slots-loop-slot-preserved g t c = record {
  size = slot-sized g.S.Source.has c.args.source c.args.number c.args.depth c.loop-slot.slot c.loop-slot.size
      c.loop-slot-test.true c.requires c.loop-slot.invariant.size c.size_of_slot-size.result
      c.size_of_slot-size.ensures.size;
  reads = slot-weighed g.S.Source.has c.args.source c.args.number c.loop-slot.slot (g.S.Source.spent c.args.reads.now)
      (g.S.Source.spent c.loop-slot.reads) (g.S.Source.spent c.tick.new.reads)
      (g.S.Source.spent c.size_of_slot-size.new.reads) c.loop-slot-test.true c.loop-slot.invariant.reads c.tick.ensures
      c.size_of_slot-size.ensures.reads;
}

pub size_of_slots-returns-clause-size : goal.size_of_slots-returns-clause-size
size_of_slots-returns-clause-size g t c ts m are =
    slots-sized c.args.number c.loop-slot.slot c.loop-slot.size ts c.loop-slot.auto.slot-end c.loop-slot-test.false
    (c.loop-slot.invariant.size ts m are)

pub size_of_rows-returns-then-slots-eq0-clause-size : goal.size_of_rows-returns-then-slots-eq0-clause-size
size_of_rows-returns-then-slots-eq0-clause-size g t c bs is e kept w s =
    let z = c.if-slots-eq0.true in
    sym (rows-nothing bs (omega arith))

pub size_of_rows-size_of_slots-size-requires : goal.size_of_rows-size_of_slots-size-requires
size_of_rows-size_of_slots-size-requires g t c κs live = (
  omega arith,
  (
    live.0,
    (
      live.1.0,
      (
        live.1.1.0,
        (
          live.1.1.1,
          row-sized-ready g.S.Source.has g.S.Source.are c.args.rows c.slots.result c.args.number c.args.words
              c.args.slots c.args.depth c.loop-row.row c.loop-row.size c.loop-row-test.true c.requires c.slots.ensures
              c.loop-row.invariant.size,
        ),
      ),
    ),
  ),
)

pub size_of_rows-overflow_add-size : goal.size_of_rows-overflow_add-size
size_of_rows-overflow_add-size g t c =
    let e = row-sized-fits g.S.Source.has g.S.Source.are c.args.rows c.slots.result c.args.number c.args.words
    c.args.slots c.args.depth c.loop-row.row c.loop-row.size c.loop-row-test.true c.requires c.slots.ensures
    c.loop-row.invariant.size c.size_of_slots-size.result c.size_of_slots-size.ensures.size in
    omega arith

pub size_of_rows-loop-row-preserved : goal.size_of_rows-loop-row-preserved
size_of_rows-loop-row-preserved g t c = record {
  size = row-sized g.S.Source.has g.S.Source.are c.args.rows c.slots.result c.args.number c.args.words
      c.args.slots c.args.depth c.loop-row.row c.loop-row.size c.loop-row-test.true c.requires c.slots.ensures
      c.loop-row.invariant.size c.size_of_slots-size.result c.size_of_slots-size.ensures.size;
  reads = λ bs is e w s. row-weighed g.S.Source.has g.S.Source.are c.args.rows c.slots.result c.args.words c.args.slots
      c.loop-row.row (g.S.Source.spent c.args.reads.now) (g.S.Source.spent c.loop-row.reads)
      (g.S.Source.spent c.tick.new.reads) (g.S.Source.spent c.size_of_slots-size.new.reads) c.slots.ensures
      c.tick.ensures c.size_of_slots-size.ensures.reads bs is (let lt = c.loop-row-test.true in omega arith) w s
      (c.loop-row.invariant.reads bs is e w s);
}

pub size_of_rows-returns-clause-size : goal.size_of_rows-returns-clause-size
size_of_rows-returns-clause-size g t c bs is e kept w s =
    rows-sized c.loop-row.row c.loop-row.size bs (let f = c.loop-row-test.false in omega arith)
    (c.loop-row.invariant.size bs is e kept w s)

-- ---- the number of reads

pub size_of_slot-returns-in-Struct-clause-reads : goal.size_of_slot-returns-in-Struct-clause-reads
size_of_slot-returns-in-Struct-clause-reads g t c w h =
    let v = c.requires.value in
    let x = subst (λ (x : Item g.row.S-Numbers.Denot g.row.S-Rows.Denot). IsItem g.S.Source.packs g.S.Source.are x v)
    c.in-Struct.is (c.item.ensures.is v c.requires.is) in
    let same = ap weight (g.met.S.Source.one c.args.source.now c.args.slot w v h c.requires.is) in
    let i = c.item.ensures.reads in
    let a = c.kept_words-words.result in
    let b = c.kept_slots-slots.result in
    let one = struct-one v x.0 x.1 in
    let o = struct-block-at v x.0 x.1 c.requires.sound a b (c.kept_words-words.ensures.kept x.0 x.2)
    (c.kept_slots-slots.ensures.kept x.0 x.2) in
    let n = one-weighed g.S.Source.has c.slots.result x.0 a b (g.S.Source.spent c.kept_slots-slots.new.reads)
    (g.S.Source.spent c.size_of_slots.new.reads) one o.wide o.sound (c.slots.ensures x.0 x.2)
    c.size_of_slots.ensures.reads in
    let kw = c.kept_words-words.ensures.reads x.0 x.2 in
    let ks = c.kept_slots-slots.ensures.reads x.0 x.2 in
    let all = struct-weighs v x.0 x.1 in
    omega arith

pub size_of_slot-returns-in-Links-clause-reads : goal.size_of_slot-returns-in-Links-clause-reads
size_of_slot-returns-in-Links-clause-reads g t c w h =
    let v = c.requires.value in
    let x = subst (λ (x : Item g.row.S-Numbers.Denot g.row.S-Rows.Denot). IsItem g.S.Source.packs g.S.Source.are x v)
    c.in-Links.is (c.item.ensures.is v c.requires.is) in
    let same = ap weight (g.met.S.Source.one c.args.source.now c.args.slot w v h c.requires.is) in
    let i = c.item.ensures.reads in
    let b = c.in-Links.count in
    let one = links-one b v x.0 x.1 in
    let o = links-block b v x.0 x.1 c.requires.sound in
    let n = one-weighed g.S.Source.has c.slots-in-Links.result x.0 0 b (g.S.Source.spent c.item.new.reads)
    (g.S.Source.spent c.size_of_slots-in-Links.new.reads) one o.wide o.sound (c.slots-in-Links.ensures x.0 x.2)
    c.size_of_slots-in-Links.ensures.reads in
    let all = links-weigh b v x.0 x.1 in
    let weighs = all.0 in
    omega arith

pub size_of_slot-returns-in-Rows-clause-reads : goal.size_of_slot-returns-in-Rows-clause-reads
size_of_slot-returns-in-Rows-clause-reads g t c w h =
    let v = c.requires.value in
    let x = subst (λ (x : Item g.row.S-Numbers.Denot g.row.S-Rows.Denot). IsItem g.S.Source.packs g.S.Source.are x v)
    c.in-Rows.is (c.item.ensures.is v c.requires.is) in
    let same = ap weight (g.met.S.Source.one c.args.source.now c.args.slot w v h c.requires.is) in
    let i = c.item.ensures.reads in
    let a = c.kept_words-words-in-Rows.result in
    let b = c.kept_slots-slots-in-Rows.result in
    let o = rows-block-at c.in-Rows.count v x.0 x.1 c.requires.sound a b
    (c.kept_words-words-in-Rows.ensures.kept x.0 x.2) (c.kept_slots-slots-in-Rows.ensures.kept x.0 x.2) in
    let n = c.size_of_rows.ensures.reads x.0 x.2 x.1.1 o.wide o.sound in
    let kw = c.kept_words-words-in-Rows.ensures.reads x.0 x.2 in
    let ks = c.kept_slots-slots-in-Rows.ensures.reads x.0 x.2 in
    let all = rows-weigh c.in-Rows.count v x.0 x.1 in
    let e = x.1.1 in
    let rows = all.0 in
    let words = all.1 in
    omega arith

pub size_of_slots-returns-clause-reads : goal.size_of_slots-returns-clause-reads
size_of_slots-returns-clause-reads g t c ts m are =
    slots-weighed c.args.number c.loop-slot.slot (g.S.Source.spent c.args.reads.now)
    (g.S.Source.spent c.loop-slot.reads) ts c.loop-slot.auto.slot-end c.loop-slot-test.false
    (c.loop-slot.invariant.reads ts m are)

pub size_of_rows-returns-clause-reads : goal.size_of_rows-returns-clause-reads
size_of_rows-returns-clause-reads g t c bs is e w s =
    let r = c.loop-row.invariant.reads bs is e w s in
    omega arith
