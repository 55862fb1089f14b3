use Rattle.std.proofs.Common.{◌+◌, ◌<◌, ◌∙◌, List, length, ap, arith}
use Rattle.capn_cover.specs.declared.covered.Covered.{Covered}
use Rattle.capn_cover.specs.Covers.{run}
use Rattle.capn_cover.specs.Parts.{part}
use Rattle.capn_cover.proofs.Following.{one-more, still-followed}
use Rattle.capn_cover.proofs.KnownWords.{known-run, laid-known}
use Rattle.capn_cover.proofs.LaidItems.{laid-length}
use Rattle.capn_cover.proofs.Rooms.{run-room}
use Rattle.capn_cover.proofs.repeated.repeat_words.Goals as goal

pub repeat_word-requires-clause-known : goal.repeat_word-requires-clause-known
repeat_word-requires-clause-known g c =
    let m = g.S.Space.message c.args.space.now in
    let t = c.loop-i-test.true in
    let w = c.requires.within in
    let l : c.args.first + c.loop-i.i < length c.args.cells.now = omega arith in
    let e = c.loop-i.invariant.cells in
    rw e (laid-known m (part m c.args.slot c.args.role) (run c.args.slot c.args.role c.args.first c.loop-i.i)
    c.args.cells.now (c.args.first + c.loop-i.i) l
    (known-run m c.args.slot c.args.role c.args.first c.args.count c.loop-i.i c.args.cells.now t c.requires.known l))

pub repeat_word-requires-clause-room : goal.repeat_word-requires-clause-room
repeat_word-requires-clause-room g c =
    run-room (g.S.Space.message c.args.space.now) c.args.slot c.args.role c.args.first c.loop-i.i c.args.count
    c.args.cells.now c.loop-i.cells c.loop-i-test.true c.loop-i.invariant.cells c.requires.room

pub loop-i-preserved : goal.loop-i-preserved
loop-i-preserved g c =
    let m = g.S.Space.message c.args.space.now in
    let i = c.loop-i.invariant in
    let n = ap (λ (xs : List Covered). length xs) i.cells
    ∙ laid-length m (run c.args.slot c.args.role c.args.first c.loop-i.i) c.args.cells.now in
    let w = c.requires.within in
    let t = c.loop-i-test.true in
    let l : c.args.first + c.loop-i.i < length c.loop-i.cells = omega arith in
    let e = c.repeat_word.ensures in
    record {
      cells = one-more m c.args.slot c.args.role c.args.first c.loop-i.i c.args.cells.now c.loop-i.cells _ i.cells
          i.followed e;
      followed = rw e (still-followed m (c.args.first + c.loop-i.i) c.args.slot c.args.role c.args.slot c.loop-i.cells l
          i.followed);
    }
