use Rattle.capn_text.proofs.Unquotings.{forgotten}
use Rattle.capn_text.proofs.unquoter.Unquoter.forget.Goals as goal

pub returns : goal.returns
returns g c =
    let within = rw c.deref.ensures.value at c.gone_before-gone.ensures.within in
    let before = rw c.deref.ensures.value at c.gone_before-gone.ensures.before in
    let next = rw c.deref.ensures.value at c.gone_before-gone.ensures.next in
    rw (← c.self.view_is) (forgotten c.self.inside.through c.args.line c.self.inside.line c.self.inside.passed
    c.gone_before-gone.result c.self.inside.front.items c.self.inside.digits.items c.drop_front.new.digits.items
    within before next c.drop_front.ensures)
