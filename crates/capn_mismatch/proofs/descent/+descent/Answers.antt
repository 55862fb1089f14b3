use Rattle.std.proofs.Common.{Ok, ap, sym, ◌∙◌, arith}
use Rattle.std.proofs.lemmas.Option.{IfSome_then}
use Rattle.capn_mismatch.specs.inner.Search.{finds}
use Rattle.capn_mismatch.proofs.Reaching.{is-in, reaches-here, reaches-object, reaches-below}
use Rattle.capn_mismatch.proofs.descent.+descent.Goals as goal

pub descend-returns-in-Some : goal.descend-returns-in-Some
descend-returns-in-Some g t c base =
    let a = c.args in
    reaches-here (g.S.Space.message a.space.now) base a.word a.depth a.at a.path.now.items c.in-Some.found
    (ap (finds a.word a.at) (sym c.resolve-named.ensures.exact) ∙ sym c.finds.ensures ∙ c.in-Some.is)

pub descend-returns-in_ok-found-in-Content : goal.descend-returns-in_ok-found-in-Content
descend-returns-in_ok-found-in-Content g t c =
    let a = c.args in
    let x = c.in-Content in
    let named = sym c.resolve-named.ensures.exact ∙ c.in-Ok.is ∙ ap Ok x.is in
    let some = c.if-depth-eq0.false in
    IfSome_then c.in_ok-found-in-Content.found c.in_ok-found-in-Content.ensures
    (λ found h base. reaches-object (g.S.Space.message a.space.now) base a.word a.depth a.at x.segment x.start x.pads
    x.shape a.path.now.items c.descend_below.new.path.items found named (omega arith) (h base))

pub descend_below-returns : goal.descend_below-returns
descend_below-returns g t c =
    let a = c.args in
    let step = c.in-Some.step in
    let likely = c.in-Some.ensures in
    let is = is-in a.shape a.start.segment a.start.word step.row step.slot likely.row likely.slot in
    IfSome_then c.in_ok-found.found c.in_ok-found.ensures
    (λ found h base. reaches-below (g.S.Space.message a.space.now) base a.word a.depth a.start.segment a.start.word
    step.row step.slot a.shape _ a.path.now.items c.put_numbers.new.path.items c.descend.new.path.items found
    is c.in_ok-put_numbers.ensures (rw likely.at at (h base)))
