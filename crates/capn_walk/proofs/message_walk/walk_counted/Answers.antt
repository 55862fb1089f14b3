use Rattle.std.proofs.Common.{inr, ◌∙◌, ap, arith}
use Rattle.std.proofs.lemmas.Result.{err_from_is_err_and}
use Rattle.capn_value.specs.TreeOf.{tree_of}
use Rattle.capn_value.specs.Cost.{base}
use Rattle.capn_walk.specs.Accepted.{root}
use Rattle.capn_walk.proofs.shared.InRangeAt.{in_range-at}
use Rattle.capn_walk.proofs.Stepped.{entered-root}
use Rattle.capn_walk.proofs.RootWalks.{answered, refused-below, only-memory, one-value}
use Rattle.capn_walk.proofs.message_walk.walk_counted.Goals as goal

pub returns-in_err-target-clause-only : goal.returns-in_err-target-clause-only
returns-in_err-target-clause-only g c v is =
    let p = err_from_is_err_and c.from_residual.result c.from_residual.ensures.1 in
    rw (p.1, p.2)
    (only-memory c.args.space.now c.args.limits c.in_err-target.field-0.0 v is
    (inr (c.in_err-target.ensures.refused c.args.limits)))

pub returns-in_err-found-clause-only : goal.returns-in_err-found-clause-only
returns-in_err-found-clause-only g c v is =
    let t = c.in_ok-target.ensures in
    let r = rw (c.budget.ensures.value, c.depth.ensures.value, c.base.ensures.value, c.tariff.ensures) at
    c.in_err-found.ensures.answer in
    let e = refused-below c.args.space.now c.args.limits t.place c.in_ok-target.target t.target
    t.kind c.in_err-found.field-0.0 r in
    let p = err_from_is_err_and c.from_residual-in_err-found.result c.from_residual-in_err-found.ensures.1 in
    rw (p.1, p.2) (only-memory c.args.space.now c.args.limits c.in_err-found.field-0.0 v is e)

pub returns-in_err-found-clause-refused : goal.returns-in_err-found-clause-refused
returns-in_err-found-clause-refused g c =
    let t = c.in_ok-target.ensures in
    let r = rw (c.budget.ensures.value, c.depth.ensures.value, c.base.ensures.value, c.tariff.ensures) at
    c.in_err-found.ensures.answer in
    let e = refused-below c.args.space.now c.args.limits t.place c.in_ok-target.target t.target
    t.kind c.in_err-found.field-0.0 r in
    let p = err_from_is_err_and c.from_residual-in_err-found.result c.from_residual-in_err-found.ensures.1 in
    rw (p.1, p.2) e

pub of_fit-requires-clause-fits : goal.of_fit-requires-clause-fits
of_fit-requires-clause-fits g c =
    let m = c.args.space.now in
    let t = c.in_ok-target.ensures in
    let pays = rw (c.budget.ensures.value, c.depth.ensures.value, c.base.ensures.value, c.tariff.ensures) at
    c.in_ok-found.ensures.answer.0 in
    let a = answered m c.args.limits t.place c.in_ok-target.target t.target t.kind
    (tree_of c.in_ok-found.found.value) c.in_ok-found.found.paid c.in_ok-found.found.visits pays
    c.in_ok-found.ensures.answer.1 in
    let budget = c.budget.ensures in
    let depth = c.depth.ensures in
    a.fits (omega arith) (omega arith)

pub of_fit-requires-clause-in_range : goal.of_fit-requires-clause-in_range
of_fit-requires-clause-in_range g c =
    in_range-at c.args.space.now c.bounds.ensures.each
    (tree_of c.in_ok-found.found.value) root c.in_ok-found.ensures.answer.1

pub returns-clause-found : goal.returns-clause-found
returns-clause-found g c =
    let m = c.args.space.now in
    let t = c.in_ok-target.ensures in
    let pays = rw (c.budget.ensures.value, c.depth.ensures.value, c.base.ensures.value, c.tariff.ensures) at
    c.in_ok-found.ensures.answer.0 in
    let a = answered m c.args.limits t.place c.in_ok-target.target t.target t.kind
    (tree_of c.in_ok-found.found.value) c.in_ok-found.found.paid c.in_ok-found.found.visits pays
    c.in_ok-found.ensures.answer.1 in
    rw c.of_fit.ensures a.value

pub returns-clause-pays : goal.returns-clause-pays
returns-clause-pays g c =
    let m = c.args.space.now in
    let t = c.in_ok-target.ensures in
    let pays = rw (c.budget.ensures.value, c.depth.ensures.value, c.base.ensures.value, c.tariff.ensures) at
    c.in_ok-found.ensures.answer.0 in
    let a = answered m c.args.limits t.place c.in_ok-target.target t.target t.kind
    (tree_of c.in_ok-found.found.value) c.in_ok-found.found.paid c.in_ok-found.found.visits pays
    c.in_ok-found.ensures.answer.1 in
    a.sum

pub returns-clause-counts : goal.returns-clause-counts
returns-clause-counts g c =
    let m = c.args.space.now in
    let t = c.in_ok-target.ensures in
    let pays = rw (c.budget.ensures.value, c.depth.ensures.value, c.base.ensures.value, c.tariff.ensures) at
    c.in_ok-found.ensures.answer.0 in
    let a = answered m c.args.limits t.place c.in_ok-target.target t.target t.kind
    (tree_of c.in_ok-found.found.value) c.in_ok-found.found.paid c.in_ok-found.found.visits pays
    c.in_ok-found.ensures.answer.1 in
    a.number

pub returns-clause-thrifty : goal.returns-clause-thrifty
returns-clause-thrifty g c =
    let m = c.args.space.now in
    let t = c.in_ok-target.ensures in
    let pays = rw (c.budget.ensures.value, c.depth.ensures.value, c.base.ensures.value, c.tariff.ensures) at
    c.in_ok-found.ensures.answer.0 in
    let a = answered m c.args.limits t.place c.in_ok-target.target t.target t.kind
    (tree_of c.in_ok-found.found.value) c.in_ok-found.found.paid c.in_ok-found.found.visits pays
    c.in_ok-found.ensures.answer.1 in
    rw c.of_fit.ensures a.thrifty

pub returns-clause-low : goal.returns-clause-low
returns-clause-low g c =
    let m = c.args.space.now in
    let t = c.in_ok-target.ensures in
    let pays = rw (c.budget.ensures.value, c.depth.ensures.value, c.base.ensures.value, c.tariff.ensures) at
    c.in_ok-found.ensures.answer.0 in
    let a = answered m c.args.limits t.place c.in_ok-target.target t.target t.kind
    (tree_of c.in_ok-found.found.value) c.in_ok-found.found.paid c.in_ok-found.found.visits pays
    c.in_ok-found.ensures.answer.1 in
    rw c.of_fit.ensures a.low

pub returns-clause-only : goal.returns-clause-only
returns-clause-only g c v is =
    let here = c.in_ok-found.ensures.answer.1 in
    c.of_fit.ensures
    ∙ one-value c.args.space.now c.args.limits v (tree_of c.in_ok-found.found.value) here is

pub returns-in_err-target-clause-memory : goal.returns-in_err-target-clause-memory
returns-in_err-target-clause-memory g c =
    let p = err_from_is_err_and c.from_residual.result c.from_residual.ensures.1 in
    rw (p.1, p.2) (λ m. absurd (c.in_err-target.ensures.no_memory m))

pub returns-in_err-found-clause-memory : goal.returns-in_err-found-clause-memory
returns-in_err-found-clause-memory g c =
    let t = c.in_ok-target.ensures in
    let limits = c.args.limits in
    let p = err_from_is_err_and c.from_residual-in_err-found.result c.from_residual-in_err-found.ensures.1 in
    rw (p.1, p.2) (λ m. entered-root c.args.space.now c.base.result c.depth.result c.budget.result
    (base limits.tariff) limits.depth limits.budget c.in_ok-target.target
    (c.base.ensures.value
    ∙ ap base c.tariff.ensures) c.depth.ensures.value c.budget.ensures.value t.place t.target t.kind
    (c.in_err-found.ensures.memory m))
