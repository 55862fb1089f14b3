use Rattle.std.proofs.Common.{◌+◌, ◌*◌, ◌∙◌, ap, sym, subst, arith}
use Rattle.capn_words.specs.Message.{words_in}
use Rattle.capn_value.specs.Tree.{Bodies, count_rows}
use Rattle.capn_layout.specs.Sound.{AreWide}
use Rattle.capn_layout.specs.inner.Source.{IsGrown}
use Rattle.capn_layout.specs.inner.TreeSlots.{bodies_of}
use Rattle.capn_layout.proofs.writer.TreeItems.{zeros-grown, slots-grown, row-grown}
use Rattle.capn_layout.proofs.tree_slots.TreeSlotsSource.append_rows.Goals as goal

pub returns-in-Bodies-clause-grown : goal.returns-in-Bodies-clause-grown
returns-in-Bodies-clause-grown g c bs h wide =
    let p = words_in c.args.len c.args.out.now in
    let q = words_in c.push_bodies.result c.push_bodies.new.out in
    subst (λ (x : Bodies). IsGrown c.args.words c.args.slots x p q) (sym (h.are ∙ ap bodies_of c.in-Bodies.is))
    (zeros-grown c.args.words c.args.slots _ p q c.push_bodies.ensures.words)

pub returns-in-Slots-clause-grown : goal.returns-in-Slots-clause-grown
returns-in-Slots-clause-grown g c bs h wide =
    let p = words_in c.args.len c.args.out.now in
    let q = words_in c.extend_zeros.result c.extend_zeros.new.out in
    subst (λ (x : Bodies). IsGrown c.args.words c.args.slots x p q) (sym (h.are ∙ ap bodies_of c.in-Slots.is))
    (slots-grown c.args.words c.args.slots _ p q c.extend_zeros.ensures.words.words)

pub returns-in-Body-clause-grown : goal.returns-in-Body-clause-grown
returns-in-Body-clause-grown g c bs h wide =
    let p = words_in c.args.len c.args.out.now in
    let q = words_in c.push_body.result c.push_body.new.out in
    subst (λ (x : Bodies). IsGrown c.args.words c.args.slots x p q) (sym (h.are ∙ ap bodies_of c.in-Body.is))
    (row-grown c.args.words c.args.slots _ _ p q c.push_body.ensures.words)

pub push_bodies-requires-clause-wide : goal.push_bodies-requires-clause-wide
push_bodies-requires-clause-wide g c =
    let x = c.requires in
    subst (λ (y : Bodies). AreWide c.args.words c.args.slots y) (x.1.are ∙ ap bodies_of c.in-Bodies.is) x.2

pub push_bodies-requires-clause-room : goal.push_bodies-requires-clause-room
push_bodies-requires-clause-room g c =
    let x = c.requires in
    let r = x.5 in
    let e = ap (λ (y : Bodies). count_rows y * (c.args.words + c.args.slots)) (x.1.are ∙ ap bodies_of c.in-Bodies.is) in
    omega arith

pub push_body-requires-clause-wide : goal.push_body-requires-clause-wide
push_body-requires-clause-wide g c =
    let x = c.requires in
    (subst (λ (y : Bodies). AreWide c.args.words c.args.slots y) (x.1.are ∙ ap bodies_of c.in-Body.is) x.2).0

pub push_body-requires-clause-room : goal.push_body-requires-clause-room
push_body-requires-clause-room g c =
    let x = c.requires in
    let r = x.5 in
    let e = ap (λ (y : Bodies). count_rows y * (c.args.words + c.args.slots)) (x.1.are ∙ ap bodies_of c.in-Body.is) in
    omega arith

pub extend_zeros-requires : goal.extend_zeros-requires
extend_zeros-requires g c =
    let x = c.requires in
    let r = x.5 in
    let e = ap (λ (y : Bodies). count_rows y * (c.args.words + c.args.slots)) (x.1.are ∙ ap bodies_of c.in-Slots.is) in
    omega arith
