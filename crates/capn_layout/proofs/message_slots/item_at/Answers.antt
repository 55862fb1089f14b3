use Rattle.std.proofs.Common.{ℕ, ◌*◌, ap, subst, ◌∙◌, arith}
use Rattle.capn_words.specs.declared.pointer.Width.{Width}
use Rattle.capn_target.specs.declared.target.Shape.{Shape}
use Rattle.capn_target.specs.declared.target.Shape.TheVariants as shapes
use Rattle.capn_target.specs.Shapes.{IsContent, RowsFit, extent}
use Rattle.capn_walk.specs.ValueAt.{IsInside}
use Rattle.capn_target.proofs.shared.Ranges.{HasRoom}
use Rattle.capn_layout.proofs.writer.MessageItems.{struct-rows, links-rows, all-rows, numbers-packed, plain-width}
use Rattle.capn_layout.proofs.message_slots.item_at.Goals as goal

pub returns-in-Node : goal.returns-in-Node
returns-in-Node g c v h =
    let m = c.args.space.now in
    let x = c.in-Node in
    let content = subst (λ (sh : Shape). IsContent m c.args.start (extent sh)) x.is c.requires.content in
    let room = subst HasRoom x.is c.requires.room in
    rw c.again.ensures (struct-rows m c.args.start c.requires.message x.words x.slots v content
    (let a = room.0 in let b = room.1 in omega arith)
    (subst (λ (sh : Shape). IsInside m sh c.args.start.segment c.args.start.word v) x.is h))

pub returns-in-Link : goal.returns-in-Link
returns-in-Link g c v h =
    let m = c.args.space.now in
    let n = c.in-Many.count in
    let is = c.in-Many.is ∙ ap (λ (k : Width). shapes.Many k n) c.in-Link.is in
    rw c.again-in-Link.ensures (links-rows m c.args.start c.requires.message n v
    (subst (λ (sh : Shape). IsContent m c.args.start (extent sh)) is c.requires.content)
    (subst (λ (sh : Shape). IsInside m sh c.args.start.segment c.args.start.word v) is h))

pub returns-in_default : goal.returns-in_default
returns-in_default g c v h =
    let m = c.args.space.now in
    let x = c.in-Many in
    rw c.again-in_default.ensures (numbers-packed m c.args.start c.requires.message x.width x.count
    (c.bits_of.result * x.count) v
    (plain-width x.width x.count c.in_default.not-Link (subst RowsFit x.is c.requires.rows))
    (subst HasRoom x.is c.requires.room) (ap (λ (k : ℕ). k * x.count) c.bits_of.ensures)
    (subst (λ (sh : Shape). IsContent m c.args.start (extent sh)) x.is c.requires.content)
    (subst (λ (sh : Shape). IsInside m sh c.args.start.segment c.args.start.word v) x.is h))

pub returns-in-Rows : goal.returns-in-Rows
returns-in-Rows g c v h =
    let m = c.args.space.now in
    let x = c.in-Rows in
    let room = subst HasRoom x.is c.requires.room in
    rw c.again-in-Rows.ensures (all-rows m c.args.start c.requires.message x.count x.words x.slots x.span v
    (subst (λ (sh : Shape). IsContent m c.args.start (extent sh)) x.is c.requires.content)
    (subst RowsFit x.is c.requires.rows) (let a = room.1 in let b = room.2 in omega arith)
    (subst (λ (sh : Shape). IsInside m sh c.args.start.segment c.args.start.word v) x.is h))
