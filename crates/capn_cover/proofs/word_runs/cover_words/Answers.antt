use Rattle.std.proofs.Common.{◌≡◌, ℕ, ◌+◌, ◌-◌, ◌<◌, ◌∙◌, List, length, ap, arith}
use Rattle.capn_cover.specs.declared.covered.Covered.{Covered}
use Rattle.capn_cover.specs.Covers.{run}
use Rattle.capn_cover.specs.inner.Laid.{laid, HasRoom}
use Rattle.capn_cover.proofs.LaidItems.{room_followed}
use Rattle.capn_cover.proofs.Runs.{run-add}
use Rattle.capn_cover.proofs.Rooms.{run-room, after-run, laid-next}
use Rattle.capn_cover.proofs.Following.{one-more, still-followed, marked-first}
use Rattle.capn_cover.proofs.word_runs.cover_words.Goals as goal

pub touch-requires-clause-room : goal.touch-requires-clause-room
touch-requires-clause-room g c =
    let m = g.S.Space.message c.args.space.now in
    let r : HasRoom c.args.count c.follow.new.cells =
    rw c.follow.ensures (room_followed c.args.slot c.args.count c.args.cells.now c.requires.room) in
    run-room m c.args.slot c.args.role c.args.first c.words.done c.args.count c.follow.new.cells c.words.cells
    c.words-test.true c.words.invariant.cells r

pub cover_known-done-requires-clause-followed : goal.cover_known-done-requires-clause-followed
cover_known-done-requires-clause-followed g c =
    let m = g.S.Space.message c.args.space.now in
    let i = c.words.invariant in
    let n = c.requires.within in
    let t = c.words-test.true in
    let b = c.words.auto.cells in
    let d = c.follow.auto.cells in
    let l : c.args.first + c.words.done < length c.words.cells = omega arith in
    rw c.touch.ensures.cells (still-followed m (c.args.first + c.words.done) c.args.slot c.args.role c.args.slot
    c.words.cells l i.followed)

pub cover_known-done-requires-clause-room : goal.cover_known-done-requires-clause-room
cover_known-done-requires-clause-room g c =
    let m = g.S.Space.message c.args.space.now in
    let i = c.words.invariant in
    let t = c.words-test.true in
    let r : HasRoom c.args.count c.follow.new.cells =
    rw c.follow.ensures (room_followed c.args.slot c.args.count c.args.cells.now c.requires.room) in
    let e = one-more m c.args.slot c.args.role c.args.first c.words.done c.follow.new.cells c.words.cells _ i.cells
    i.followed c.touch.ensures.cells in
    after-run m c.args.slot c.args.role c.args.first (c.words.done + 1) (c.args.count - (c.words.done + 1)) c.args.count
    c.follow.new.cells c.touch.new.cells (omega arith) e r

pub words-preserved-then-known-slot : goal.words-preserved-then-known-slot
words-preserved-then-known-slot g c =
    let m = g.S.Space.message c.args.space.now in
    let i = c.words.invariant in
    let t = c.words-test.true in
    let k = c.cover_known-done in
    let h = k.ensures.count in
    let e = one-more m c.args.slot c.args.role c.args.first c.words.done c.follow.new.cells c.words.cells _ i.cells
    i.followed c.touch.ensures.cells in
    record {
      within = omega arith;
      cells = laid-next m _ (run c.args.slot c.args.role c.args.first (c.words.done + 1))
          (run c.args.slot c.args.role (c.args.first + (c.words.done + 1)) k.result) c.follow.new.cells
          c.touch.new.cells _ (run-add c.args.slot c.args.role c.args.first (c.words.done + 1) k.result) e
          k.ensures.cells;
      followed = k.ensures.followed;
      known = c.touch.ensures.known;
    }

pub words-preserved : goal.words-preserved
words-preserved g c =
    let m = g.S.Space.message c.args.space.now in
    let i = c.words.invariant in
    let n = c.requires.within in
    let t = c.words-test.true in
    let b = c.words.auto.cells in
    let d = c.follow.auto.cells in
    let l : c.args.first + c.words.done < length c.words.cells = omega arith in
    record {
      within = omega arith;
      cells = one-more m c.args.slot c.args.role c.args.first c.words.done c.follow.new.cells c.words.cells _ i.cells
          i.followed c.touch.ensures.cells;
      followed = rw c.touch.ensures.cells (still-followed m (c.args.first + c.words.done) c.args.slot c.args.role
          c.args.slot c.words.cells l i.followed);
      known = c.touch.ensures.known;
    }

pub returns-clause-cells : goal.returns-clause-cells
returns-clause-cells g c =
    let m = g.S.Space.message c.args.space.now in
    let i = c.words.invariant in
    let w = i.within in
    let t = c.words-test.false in
    let z = c.if-count-eq0.false in
    let n : c.words.done ≡ c.args.count = omega arith in
    i.cells ∙ ap (λ (d : ℕ). laid m (run c.args.slot c.args.role c.args.first d) c.follow.new.cells) n
    ∙ ap (λ (xs : List Covered). laid m (run c.args.slot c.args.role c.args.first c.args.count) xs) c.follow.ensures
    ∙ marked-first m c.args.slot c.args.role c.args.first c.args.count c.args.cells.now (omega arith) c.requires.by
