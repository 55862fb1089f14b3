use Rattle.std.proofs.Common.{◌++◌, ℕ, List, take, sym, ap, ◌∙◌}
use Rattle.capn_text.specs.Beginnings.{looked_at, may_begin}
use Rattle.capn_text.proofs.Unquotings.{given_front}
use Rattle.capn_text.proofs.unquoter.Unquoter.pass_on.Goals as goal

pub returns-clause-read : goal.returns-clause-read
returns-clause-read g c =
    let other = ap (λ (l : List ℕ). may_begin (take looked_at l)) (sym c.deref.ensures.value)
    ∙ ap may_begin (sym c.looked_at.ensures) ∙ sym c.may_begin.ensures ∙ c.if-may_begin.false in
    let added = c.in_ok-extend_from_slice.ensures.items
    ∙ ap (λ (l : List ℕ). c.args.out.now.items ++ l) c.deref-2.ensures.value in
    rw (← c.self.view_is) (given_front c.self.inside.front.items c.clear-2.new.self.items c.self.inside.digits.items
    c.args.out.now.items c.extend_from_slice.new.self.items c.self.inside.line c.self.inside.passed
    c.self.inside.through c.if-self.false other added)
