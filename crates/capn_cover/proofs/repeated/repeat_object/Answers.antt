use Rattle.std.proofs.Common.{◌∙◌, ◌++◌, List, length, refl, ap, arith}
use Rattle.capn_target.specs.Target.{pointer_in}
use Rattle.capn_cover.specs.declared.covered.Covered.{Covered}
use Rattle.capn_cover.specs.Covers.{pad_run, content_run}
use Rattle.capn_cover.proofs.KnownWords.{all-stay}
use Rattle.capn_cover.proofs.LaidItems.{laid-length}
use Rattle.capn_cover.proofs.Rooms.{laid-next, room-first, room-second}
use Rattle.capn_cover.proofs.Runs.{content-length}
use Rattle.capn_cover.proofs.repeated.repeat_object.Goals as goal

pub repeat_pads-requires-clause-room : goal.repeat_pads-requires-clause-room
repeat_pads-requires-clause-room g c =
    let m = g.S.Space.message c.args.space.now in
    let at = c.args.at in
    let pads = pad_run m c.args.slot c.args.pads (pointer_in m at.segment at.word) in
    let content = content_run c.args.slot c.args.first c.args.shape in
    room-first (pads ++ content) pads content c.args.cells.now refl c.requires.room

pub repeat_content-requires-clause-known : goal.repeat_content-requires-clause-known
repeat_content-requires-clause-known g c =
    let m = g.S.Space.message c.args.space.now in
    let at = c.args.at in
    let pads = pad_run m c.args.slot c.args.pads (pointer_in m at.segment at.word) in
    let content = content_run c.args.slot c.args.first c.args.shape in
    let e = c.repeat_pads.ensures.cells in
    rw e (all-stay m content pads c.args.cells.now c.requires.known)

pub repeat_content-requires-clause-within : goal.repeat_content-requires-clause-within
repeat_content-requires-clause-within g c =
    let m = g.S.Space.message c.args.space.now in
    let at = c.args.at in
    let n = ap (λ (xs : List Covered). length xs) c.repeat_pads.ensures.cells
    ∙ laid-length m (pad_run m c.args.slot c.args.pads (pointer_in m at.segment at.word)) c.args.cells.now in
    let w = c.requires.within in
    omega arith

pub repeat_content-requires-clause-room : goal.repeat_content-requires-clause-room
repeat_content-requires-clause-room g c =
    let m = g.S.Space.message c.args.space.now in
    let at = c.args.at in
    let pads = pad_run m c.args.slot c.args.pads (pointer_in m at.segment at.word) in
    let content = content_run c.args.slot c.args.first c.args.shape in
    let h = room-second m (pads ++ content) pads content c.args.cells.now _ refl c.repeat_pads.ensures.cells
    c.requires.room in
    let n = content-length c.args.slot c.args.first c.args.shape c.requires.fits in
    rw n at h

pub returns : goal.returns
returns g c =
    let m = g.S.Space.message c.args.space.now in
    let at = c.args.at in
    laid-next m _ (pad_run m c.args.slot c.args.pads (pointer_in m at.segment at.word))
    (content_run c.args.slot c.args.first c.args.shape) c.args.cells.now _ _ refl c.repeat_pads.ensures.cells
    c.repeat_content.ensures
