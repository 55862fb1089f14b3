use Rattle.std.proofs.Common.{◌<◌, length, List, ℕ, ap, sym, subst}
use Rattle.capn_words.specs.Message.{segment_at}
use Rattle.capn_walk.specs.View.{Seen}
use Rattle.capn_target.proofs.shared.Inside.{found-inside}
use Rattle.capn_walk.proofs.view.View.slot.Goals as goal

pub invariant_of-result : goal.invariant_of-result
invariant_of-result g c =
    let m = g.S.Space.message c.self.inside.space.now in
    let at = c.slot_place-at.result in
    let P : List (List ℕ) → Type 0 = λ x. at.word < length (segment_at x at.segment) in
    let here = subst P (ap (λ (v : Seen). v.message) (sym c.self.view_is)) c.slot_place-at.ensures.within in
    (c.self.invariant.0, found-inside m at c.in-Ok.target here cc)
