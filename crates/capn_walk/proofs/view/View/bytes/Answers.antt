use Rattle.std.proofs.Common.{◌≡◌, ℕ, List, length, ap, subst, ◌∙◌, arith}
use Rattle.capn_words.specs.Message.{bytes_at}
use Rattle.capn_words.specs.declared.pointer.Width.TheVariants.{W8}
use Rattle.capn_words.specs.declared.space.Place.{Place}
use Rattle.capn_target.specs.declared.target.Target.{Target}
use Rattle.capn_target.specs.declared.target.Target.TheVariants as targets
use Rattle.capn_target.specs.declared.target.Shape.TheVariants as shapes
use Rattle.capn_walk.specs.ValueAt.{AreElements}
use Rattle.capn_walk.specs.View.{Seen, len_of, content_of}
use Rattle.capn_target.specs.Shapes.{IsInMessage}
use Rattle.capn_walk.proofs.shared.Elements.{length-read, are-bytes}
use Rattle.capn_walk.proofs.view.View.bytes.Goals as goal

record Read (m : List (List ℕ)) (t : Target) (bs : List ℕ) : Type 0 where
  number : length bs ≡ len_of t
  elements : AreElements 8 8 (content_of m t) bs

read : (m : List (List ℕ)) (t : Target) (s start n pads : ℕ) (bs : List ℕ)
    → t ≡ targets.Content s start (shapes.Many W8 n) pads → IsInMessage m t →
    bs ≡ bytes_at m (record { segment = s; word = start }) n → Read m t bs
read m t s start n pads bs e i h =
    let j = rw e at i in
    let w = j.0.within in
    let at : Place = record { segment = s; word = start } in
    rw e (record { number = length-read m at n bs h (omega arith); elements = are-bytes m at n bs h (omega arith) })

pub returns-in-W8-clause-number : goal.returns-in-W8-clause-number
returns-in-W8-clause-number g c =
    let m = g.S.Space.message c.self.inside.space.now in
    let x = c.in-Content in
    let r = read m c.self.inside.target x.segment x.start c.in-Many.count x.pads c.bytes.result.now (cc)
    c.self.invariant.1 c.bytes.ensures in
    r.number ∙ ap (λ (v : Seen). len_of v.found) c.self.view_is

pub returns-in-W8-clause-elements : goal.returns-in-W8-clause-elements
returns-in-W8-clause-elements g c =
    let m = g.S.Space.message c.self.inside.space.now in
    let x = c.in-Content in
    let r = read m c.self.inside.target x.segment x.start c.in-Many.count x.pads c.bytes.result.now (cc)
    c.self.invariant.1 c.bytes.ensures in
    let P : Seen → Type 0 = λ v. AreElements 8 8 (content_of v.message v.found) c.bytes.result.now in
    subst P c.self.view_is r.elements
