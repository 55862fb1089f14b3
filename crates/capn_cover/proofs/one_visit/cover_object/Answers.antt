use Rattle.std.proofs.Common.{Result, ap, sym, ◌∙◌, arith}
use Rattle.capn_target.specs.declared.target.Target.{Target}
use Rattle.capn_target.specs.declared.target.Fault.{Fault}
use Rattle.capn_target.specs.declared.target.Target.TheVariants as targets
use Rattle.capn_target.specs.Target.{pointer_in}
use Rattle.capn_target.proofs.shared.Inside.{found-inside}
use Rattle.capn_cover.specs.Numbers.{number}
use Rattle.capn_cover.specs.Covers.{covers, pad_run, content_run}
use Rattle.capn_cover.specs.inner.Laid.{laid}
use Rattle.capn_cover.proofs.Before.{within}
use Rattle.capn_cover.proofs.KnownWords.{known-first, known-second}
use Rattle.capn_cover.proofs.SlotPlaces.{below-total}
use Rattle.capn_cover.proofs.Together.{repeated, visit-together}
use Rattle.capn_cover.proofs.one_visit.cover_object.Goals as goal

pub number_of-first-requires-clause-exists : goal.number_of-first-requires-clause-exists
number_of-first-requires-clause-exists g c =
    let m = g.S.Space.message c.args.space.now in
    let i = found-inside m c.args.at (targets.Content c.args.segment c.args.start c.args.shape c.args.pads)
    c.requires.place c.requires.leads in
    i.0.exists

pub number_of-first-requires-clause-within : goal.number_of-first-requires-clause-within
number_of-first-requires-clause-within g c =
    let m = g.S.Space.message c.args.space.now in
    let i = found-inside m c.args.at (targets.Content c.args.segment c.args.start c.args.shape c.args.pads)
    c.requires.place c.requires.leads in
    let w = i.0.within in
    omega arith

pub cover_first-requires-clause-fits : goal.cover_first-requires-clause-fits
cover_first-requires-clause-fits g c =
    let m = g.S.Space.message c.args.space.now in
    let i = found-inside m c.args.at (targets.Content c.args.segment c.args.start c.args.shape c.args.pads)
    c.requires.place c.requires.leads in
    i.1

pub cover_first-requires-clause-within : goal.cover_first-requires-clause-within
cover_first-requires-clause-within g c =
    let m = g.S.Space.message c.args.space.now in
    let i = found-inside m c.args.at (targets.Content c.args.segment c.args.start c.args.shape c.args.pads)
    c.requires.place c.requires.leads in
    let w = i.0.within in
    let t = within m c.args.segment i.0.exists in
    let f = c.number_of-first.ensures in
    let e = c.requires.each in
    omega arith

pub cover_first-requires-clause-room : goal.cover_first-requires-clause-room
cover_first-requires-clause-room g c =
    let s = c.number_of-slot.ensures in
    let f = c.number_of-first.ensures in
    rw (s, f) c.requires.room

pub is_repeated-requires : goal.is_repeated-requires
is_repeated-requires g c =
    let m = g.S.Space.message c.args.space.now in
    let b = below-total m c.args.at c.requires.place in
    let s = c.number_of-slot.ensures in
    let e = c.requires.each in
    omega arith

pub repeat_object-requires-clause-fits : goal.repeat_object-requires-clause-fits
repeat_object-requires-clause-fits g c =
    let m = g.S.Space.message c.args.space.now in
    let i = found-inside m c.args.at (targets.Content c.args.segment c.args.start c.args.shape c.args.pads)
    c.requires.place c.requires.leads in
    i.1

pub repeat_object-requires-clause-within : goal.repeat_object-requires-clause-within
repeat_object-requires-clause-within g c =
    let m = g.S.Space.message c.args.space.now in
    let i = found-inside m c.args.at (targets.Content c.args.segment c.args.start c.args.shape c.args.pads)
    c.requires.place c.requires.leads in
    let w = i.0.within in
    let t = within m c.args.segment i.0.exists in
    let f = c.number_of-first.ensures in
    let e = c.requires.each in
    omega arith

pub repeat_object-requires-clause-followed : goal.repeat_object-requires-clause-followed
repeat_object-requires-clause-followed g c =
    let r = repeated _ c.args.cells.now (sym c.is_repeated.ensures ∙ c.if-is_repeated.true) in
    r.1

pub repeat_object-requires-clause-known_pads : goal.repeat_object-requires-clause-known_pads
repeat_object-requires-clause-known_pads g c =
    let m = g.S.Space.message c.args.space.now in
    let at = c.args.at in
    let s = c.number_of-slot.ensures in
    let f = c.number_of-first.ensures in
    let r = rw s at (repeated _ c.args.cells.now (sym c.is_repeated.ensures ∙ c.if-is_repeated.true)) in
    let k = rw c.requires.leads at (c.requires.known.each at c.requires.place r.0 r.1) in
    rw s (known-first m (pad_run m (number m at) c.args.pads (pointer_in m at.segment at.word))
    (content_run (number m at) (number m (record { segment = c.args.segment; word = c.args.start })) c.args.shape)
    c.args.cells.now k)

pub repeat_object-requires-clause-known : goal.repeat_object-requires-clause-known
repeat_object-requires-clause-known g c =
    let m = g.S.Space.message c.args.space.now in
    let at = c.args.at in
    let s = c.number_of-slot.ensures in
    let f = c.number_of-first.ensures in
    let r = rw s at (repeated _ c.args.cells.now (sym c.is_repeated.ensures ∙ c.if-is_repeated.true)) in
    let k = rw c.requires.leads at (c.requires.known.each at c.requires.place r.0 r.1) in
    rw (s, f) (known-second m (pad_run m (number m at) c.args.pads (pointer_in m at.segment at.word))
    (content_run (number m at) (number m (record { segment = c.args.segment; word = c.args.start })) c.args.shape)
    c.args.cells.now k)

pub repeat_object-requires-clause-room : goal.repeat_object-requires-clause-room
repeat_object-requires-clause-room g c =
    let s = c.number_of-slot.ensures in
    let f = c.number_of-first.ensures in
    rw (s, f) c.requires.room

pub returns-then-is_repeated-clause-cells : goal.returns-then-is_repeated-clause-cells
returns-then-is_repeated-clause-cells g c =
    let s = c.number_of-slot.ensures in
    let f = c.number_of-first.ensures in
    rw (s, f) at c.repeat_object.ensures

pub returns-then-is_repeated-clause-known : goal.returns-then-is_repeated-clause-known
returns-then-is_repeated-clause-known g c =
    let m = g.S.Space.message c.args.space.now in
    let s = c.number_of-slot.ensures in
    let f = c.number_of-first.ensures in
    let e = rw (s, f) at c.repeat_object.ensures in
    visit-together m c.args.at c.args.cells.now _ c.requires.place
    (e ∙ ap (λ (r : Result Target Fault). laid m (covers m c.args.at r) c.args.cells.now) (sym c.requires.leads))
    c.requires.known

pub returns-clause-cells : goal.returns-clause-cells
returns-clause-cells g c =
    let s = c.number_of-slot.ensures in
    let f = c.number_of-first.ensures in
    rw (s, f) at c.cover_first.ensures

pub returns-clause-known : goal.returns-clause-known
returns-clause-known g c =
    let m = g.S.Space.message c.args.space.now in
    let s = c.number_of-slot.ensures in
    let f = c.number_of-first.ensures in
    let e = rw (s, f) at c.cover_first.ensures in
    visit-together m c.args.at c.args.cells.now _ c.requires.place
    (e ∙ ap (λ (r : Result Target Fault). laid m (covers m c.args.at r) c.args.cells.now) (sym c.requires.leads))
    c.requires.known
