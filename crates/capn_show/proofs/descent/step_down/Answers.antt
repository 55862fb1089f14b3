use Rattle.std.proofs.Common.{arith, sym, ap, ◌∙◌}
use Rattle.capn_words.specs.declared.pointer.Width.{Width}
use Rattle.capn_target.specs.declared.target.Target.{Target}
use Rattle.capn_target.specs.declared.target.Shape.TheVariants as shapes
use Rattle.capn_show.specs.Descent.{named_by}
use Rattle.capn_show.specs.Descent.{step_at, step_to}
use Rattle.capn_show.proofs.PartSteps.{here}
use Rattle.capn_show.proofs.PartSteps.{slot-held, slot-step, slot-none, link-held, link-step, link-none, row-step}
use Rattle.capn_show.proofs.PartSteps.{no-row}
use Rattle.capn_show.proofs.descent.step_down.Goals as goal

-- ---- a slot of a struct

pub returns-then-number-slots-clause-none : goal.returns-then-number-slots-clause-none
returns-then-number-slots-clause-none g c =
    let x = c.in-Content in
    let k = c.in-Node in
    let test = c.if-number-slots.true in
    slot-none (g.S.Space.message c.args.space.now) c.args.found x.segment x.start x.pads x.shape x.is k.words k.slots
    c.args.number k.is (omega arith)

pub named-below-requires-clause-value : goal.named-below-requires-clause-value
named-below-requires-clause-value g c =
    let x = c.in-Content in
    let k = c.in-Node in
    let test = c.if-number-slots.false in
    slot-held (g.S.Space.message c.args.space.now) c.args.found x.segment x.start x.pads x.shape x.is k.words k.slots
    c.args.number k.is (omega arith) c.requires.value

pub returns-else-number-slots-clause-there : goal.returns-else-number-slots-clause-there
returns-else-number-slots-clause-there g c =
    let x = c.in-Content in
    let k = c.in-Node in
    let test = c.if-number-slots.false in
    slot-step (g.S.Space.message c.args.space.now) c.args.found x.segment x.start x.pads x.shape x.is k.words k.slots
    c.args.number k.is (omega arith) c.named-below.result c.named-below.ensures.shown

-- ---- an element of a list of pointers

pub returns-then-number-count-clause-none : goal.returns-then-number-count-clause-none
returns-then-number-count-clause-none g c =
    let x = c.in-Content in
    let k = c.in-Many in
    let test = c.if-number-count.true in
    link-none (g.S.Space.message c.args.space.now) c.args.found x.segment x.start x.pads x.shape x.is k.width k.count
    c.args.number k.is c.in-Link.is (omega arith)

pub named-below-requires-in-Link-clause-value : goal.named-below-requires-in-Link-clause-value
named-below-requires-in-Link-clause-value g c =
    let x = c.in-Content in
    let k = c.in-Many in
    let test = c.if-number-count.false in
    link-held (g.S.Space.message c.args.space.now) c.args.found x.segment x.start x.pads x.shape x.is k.width k.count
    c.args.number k.is c.in-Link.is (omega arith) c.requires.value

pub returns-else-number-count-clause-there : goal.returns-else-number-count-clause-there
returns-else-number-count-clause-there g c =
    let x = c.in-Content in
    let k = c.in-Many in
    let test = c.if-number-count.false in
    link-step (g.S.Space.message c.args.space.now) c.args.found x.segment x.start x.pads x.shape x.is k.width k.count
    c.args.number k.is c.in-Link.is (omega arith) c.named-below-in-Link.result c.named-below-in-Link.ensures.shown

-- ---- a row of a list of structs

pub returns-then-number-count-2-clause-none : goal.returns-then-number-count-2-clause-none
returns-then-number-count-2-clause-none g c =
    let x = c.in-Content in
    let k = c.in-Rows in
    let test = c.if-number-count-2.true in
    no-row (g.S.Space.message c.args.space.now) c.args.found x.segment x.start x.pads x.shape x.is k.count k.words
    k.slots k.span c.args.number k.is (omega arith)

pub returns-else-number-count-2-clause-there : goal.returns-else-number-count-2-clause-there
returns-else-number-count-2-clause-there g c =
    let x = c.in-Content in
    let k = c.in-Rows in
    let test = c.if-number-count-2.false in
    row-step (g.S.Space.message c.args.space.now) c.args.found x.segment x.start x.pads x.shape x.is k.count k.words
    k.slots k.span c.args.number k.is (omega arith)

pub returns-else-number-slots-clause-at : goal.returns-else-number-slots-clause-at
returns-else-number-slots-clause-at g c =
    sym (ap (λ (t : Target). step_at t c.args.number)
    (here c.args.found c.in-Content.segment c.in-Content.start c.in-Content.pads c.in-Content.shape _ c.in-Content.is
    c.in-Node.is))

pub returns-else-number-slots-clause-to : goal.returns-else-number-slots-clause-to
returns-else-number-slots-clause-to g c =
    sym (ap named_by c.named-below.ensures.is) ∙ sym (ap (λ (t : Target). step_to
    (g.S.Space.message c.args.space.now) t c.args.number)
    (here c.args.found c.in-Content.segment c.in-Content.start c.in-Content.pads c.in-Content.shape _ c.in-Content.is
    c.in-Node.is))

pub returns-else-number-count-clause-at : goal.returns-else-number-count-clause-at
returns-else-number-count-clause-at g c =
    sym (ap (λ (t : Target). step_at t c.args.number)
    (here c.args.found c.in-Content.segment c.in-Content.start c.in-Content.pads c.in-Content.shape _ c.in-Content.is
    (c.in-Many.is ∙ ap (λ (y : Width). shapes.Many y c.in-Many.count) c.in-Link.is)))

pub returns-else-number-count-clause-to : goal.returns-else-number-count-clause-to
returns-else-number-count-clause-to g c =
    sym (ap named_by c.named-below-in-Link.ensures.is) ∙ sym (ap (λ (t : Target). step_to
    (g.S.Space.message c.args.space.now) t c.args.number)
    (here c.args.found c.in-Content.segment c.in-Content.start c.in-Content.pads c.in-Content.shape _ c.in-Content.is
    (c.in-Many.is ∙ ap (λ (y : Width). shapes.Many y c.in-Many.count) c.in-Link.is)))

pub returns-else-number-count-2-clause-at : goal.returns-else-number-count-2-clause-at
returns-else-number-count-2-clause-at g c =
    sym (ap (λ (t : Target). step_at t c.args.number)
    (here c.args.found c.in-Content.segment c.in-Content.start c.in-Content.pads c.in-Content.shape _ c.in-Content.is
    c.in-Rows.is))

pub returns-else-number-count-2-clause-to : goal.returns-else-number-count-2-clause-to
returns-else-number-count-2-clause-to g c =
    sym (ap (λ (t : Target). step_to (g.S.Space.message c.args.space.now) t c.args.number)
    (here c.args.found c.in-Content.segment c.in-Content.start c.in-Content.pads c.in-Content.shape _ c.in-Content.is
    c.in-Rows.is))
