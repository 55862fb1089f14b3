use Rattle.std.proofs.Common.{ap, sym, ◌∙◌, arith}
use Rattle.capn_words.specs.Pointers.{pointer_of}
use Rattle.capn_cover.specs.declared.covered.Role.TheVariants as roles
use Rattle.capn_cover.specs.Numbers.{number}
use Rattle.capn_cover.proofs.Before.{within}
use Rattle.capn_cover.proofs.LaidItems.{room-less}
use Rattle.capn_cover.proofs.Pads.{pad-inside}
use Rattle.capn_cover.proofs.Runs.{run-length}
use Rattle.capn_cover.proofs.one_visit.cover_pads.Goals as goal

pub number_of-first-requires-clause-exists : goal.number_of-first-requires-clause-exists
number_of-first-requires-clause-exists g c =
    let m = g.S.Space.message c.args.space.now in
    let x = c.in-Far in
    let far = ap pointer_of (sym c.word.ensures) ∙ sym c.split-pointer.ensures.read ∙ x.is in
    let l = c.requires.leads in
    let i = pad-inside m c.args.at x.double x.word x.segment far l.segment l.start c.args.pads l.shape l.is in
    i.exists

pub number_of-first-requires-clause-within : goal.number_of-first-requires-clause-within
number_of-first-requires-clause-within g c =
    let m = g.S.Space.message c.args.space.now in
    let x = c.in-Far in
    let far = ap pointer_of (sym c.word.ensures) ∙ sym c.split-pointer.ensures.read ∙ x.is in
    let l = c.requires.leads in
    let i = pad-inside m c.args.at x.double x.word x.segment far l.segment l.start c.args.pads l.shape l.is in
    let w = i.within in
    omega arith

pub cover_run-requires-clause-within : goal.cover_run-requires-clause-within
cover_run-requires-clause-within g c =
    let m = g.S.Space.message c.args.space.now in
    let x = c.in-Far in
    let far = ap pointer_of (sym c.word.ensures) ∙ sym c.split-pointer.ensures.read ∙ x.is in
    let l = c.requires.leads in
    let i = pad-inside m c.args.at x.double x.word x.segment far l.segment l.start c.args.pads l.shape l.is in
    let w = i.within in
    let t = within m x.segment i.exists in
    let f = c.number_of-first.ensures in
    let e = c.requires.each in
    omega arith

pub cover_run-requires-clause-room : goal.cover_run-requires-clause-room
cover_run-requires-clause-room g c =
    let x = c.in-Far in
    let first = number (g.S.Space.message c.args.space.now) (record { segment = x.segment; word = x.word }) in
    let far = ap pointer_of (sym c.word.ensures) ∙ sym c.split-pointer.ensures.read ∙ x.is in
    let h = rw far at c.requires.room in
    let n = run-length c.args.slot roles.Pad first c.args.pads in
    room-less c.args.pads _ c.args.cells.now (omega arith) h
