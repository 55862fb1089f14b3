use Rattle.std.proofs.Common.{rules, ap, sym, ◌∙◌}
use Rattle.std.proofs.Common.{arith, w32}
use Rattle.std.proofs.lemmas.Int.{to_z-of_z}
use Rattle.std.specs.Int.RustNames.{FitsSigned}
use Rattle.capn_words.specs.declared.pointer.Pointer.TheVariants.{Many}
use Rattle.capn_words.specs.declared.pointer.Width.{Width}
use Rattle.capn_target.specs.Target.{content_start, target_from}
use Rattle.capn_target.proofs.shared.Segments.{segment-room}
use Rattle.capn_layout.proofs.writer.FoundNear.{has-segment, struct-near, plain-near, rows-near, not-composite}
use Rattle.capn_layout.proofs.known_target.content_of.Goals as goal

pub start_of-requires : goal.start_of-requires
start_of-requires g c =
    let m = c.args.space.now in
    let s = c.args.segment in
    let w = c.args.word in
    let x = c.in-Node in
    let fits : FitsSigned w32 x.offset = search rules in
    let z = to_z-of_z w32 x.offset fits in
    let f = struct-near m s w c.args.pads x.offset x.words x.slots c.requires.found.0
    (ap (target_from m s w c.args.pads) (sym x.is) ∙ c.requires.found.1) in
    let i = f.inside in
    let r = segment-room m s c.requires.message (has-segment m s w c.requires.place) in
    (f.start, ap (content_start w) z ∙ f.moved_to, omega arith)

pub start_of-requires-in-Rows : goal.start_of-requires-in-Rows
start_of-requires-in-Rows g c =
    let m = c.args.space.now in
    let s = c.args.segment in
    let w = c.args.word in
    let x = c.in-Many in
    let fits : FitsSigned w32 x.offset = search rules in
    let z = to_z-of_z w32 x.offset fits in
    let is = x.is ∙ ap (λ (k : Width). Many x.offset k x.count) c.in-Rows.is in
    let f = rows-near m s w c.args.pads x.offset x.count c.requires.found.0
    (ap (target_from m s w c.args.pads) (sym is) ∙ c.requires.found.1) in
    let i = f.2 in
    let r = segment-room m s c.requires.message (has-segment m s w c.requires.place) in
    (f.0, ap (content_start w) z ∙ f.1, omega arith)

pub start_of-requires-in_default-width : goal.start_of-requires-in_default-width
start_of-requires-in_default-width g c =
    let m = c.args.space.now in
    let s = c.args.segment in
    let w = c.args.word in
    let x = c.in-Many in
    let fits : FitsSigned w32 x.offset = search rules in
    let z = to_z-of_z w32 x.offset fits in
    let f = plain-near m s w c.args.pads x.offset x.width x.count c.requires.found.0
    (not-composite x.width c.in_default-width.not-Rows)
    (ap (target_from m s w c.args.pads) (sym x.is) ∙ c.requires.found.1) in
    let i = f.inside in
    let r = segment-room m s c.requires.message (has-segment m s w c.requires.place) in
    (f.start, ap (content_start w) z ∙ f.moved_to, omega arith)
