use Rattle.std.proofs.Common.{◌∙◌, ap, arith}
use Rattle.capn_stream.specs.StreamPieces.{Framing}
use Rattle.capn_stream.proofs.shared.Wanting.{ends_within, least, need_bound}
use Rattle.capn_stream.proofs.framer.Framer.wanted.Goals as goal

pub returns-clause-least : goal.returns-clause-least
returns-clause-least g c =
    let left = rw c.deref.ensures.value at c.part_left.ensures in
    let is = c.self.invariant.is (ap (λ (f : Framing). f.failed) c.self.view_is ∙ c.requires) in
    rw (← c.self.view_is)
    (λ more f. rw left
    (least c.self.inside.stage c.self.inside.frame.items c.self.inside.max_words c.self.inside.ends.items more is f))

pub returns-clause-bound : goal.returns-clause-bound
returns-clause-bound g c =
    let left = rw c.deref.ensures.value at c.part_left.ensures in
    let is = c.self.invariant.is (ap (λ (f : Framing). f.failed) c.self.view_is ∙ c.requires) in
    let bound = need_bound c.self.inside.stage c.self.inside.frame.items c.self.inside.max_words
    c.self.inside.ends.items is in
    rw (← c.self.view_is) (omega (arith, left, bound, is.within))

pub returns-clause-within : goal.returns-clause-within
returns-clause-within g c =
    let left = rw c.deref.ensures.value at c.part_left.ensures in
    let is = c.self.invariant.is (ap (λ (f : Framing). f.failed) c.self.view_is ∙ c.requires) in
    rw (← c.self.view_is)
    (λ more few. ends_within c.self.inside.stage c.self.inside.frame.items c.self.inside.max_words
    c.self.inside.ends.items more is (omega (arith, few, left)))
