use Rattle.std.proofs.Common.{inr, refl}
use Rattle.std.proofs.lemmas.Result.{err_from_is_err_and}
use Rattle.capn_walk.proofs.RootWalks.{refused-below, only-memory}
use Rattle.capn_walk.proofs.RootSurveys.{surveyed, one-cap}
use Rattle.capn_walk.proofs.Depths.{is-depth, depth-within}
use Rattle.capn_walk.proofs.message_survey.survey_depth_counted.Goals as goal

pub returns-in_err-target-clause-only : goal.returns-in_err-target-clause-only
returns-in_err-target-clause-only g c v is =
    let p = err_from_is_err_and c.from_residual.result c.from_residual.ensures.1 in
    rw (p.1, p.2)
    (only-memory c.args.space.now c.args.limits c.in_err-target.field-0.0 v is
    (inr (c.in_err-target.ensures.refused c.args.limits)))

pub returns-in_err-told-clause-refused : goal.returns-in_err-told-clause-refused
returns-in_err-told-clause-refused g c =
    let m = c.args.space.now in
    let t = c.in_ok-target in
    let r = rw (c.depth.ensures.value, c.budget.ensures.value, c.base.ensures.value, c.tariff.ensures) at
    c.in_err-told.ensures.tells in
    let e = refused-below m c.args.limits t.ensures.place t.target t.ensures.target t.ensures.kind
    c.in_err-told.field-0.0 r in
    let p = err_from_is_err_and c.from_residual-in_err-told.result c.from_residual-in_err-told.ensures.1 in
    rw (p.1, p.2) e

pub returns-in_err-told-clause-only : goal.returns-in_err-told-clause-only
returns-in_err-told-clause-only g c v is =
    let m = c.args.space.now in
    let t = c.in_ok-target in
    let r = rw (c.depth.ensures.value, c.budget.ensures.value, c.base.ensures.value, c.tariff.ensures) at
    c.in_err-told.ensures.tells in
    let e = refused-below m c.args.limits t.ensures.place t.target t.ensures.target t.ensures.kind
    c.in_err-told.field-0.0 r in
    let p = err_from_is_err_and c.from_residual-in_err-told.result c.from_residual-in_err-told.ensures.1 in
    rw (p.1, p.2) (only-memory m c.args.limits c.in_err-told.field-0.0 v is e)

pub returns-clause-found : goal.returns-clause-found
returns-clause-found g c =
    let m = c.args.space.now in
    let t = c.in_ok-target in
    let x = c.in_ok-told in
    let tells = rw (c.depth.ensures.value, c.budget.ensures.value, c.base.ensures.value, c.tariff.ensures) at
    x.ensures.tells in
    surveyed m c.args.limits t.ensures.place t.target t.ensures.target t.ensures.kind x.told tells

pub returns-clause-only : goal.returns-clause-only
returns-clause-only g c v is =
    let m = c.args.space.now in
    let t = c.in_ok-target in
    let x = c.in_ok-told in
    let cap = rw (c.depth.ensures.value, c.base.ensures.value, c.tariff.ensures) at x.ensures.tells.1 in
    one-cap m c.args.limits t.ensures.place t.target t.ensures.target t.ensures.kind x.told.survey.capability v is cap

pub returns-clause-depth : goal.returns-clause-depth
returns-clause-depth g c =
    let m = c.args.space.now in
    let t = c.in_ok-target in
    let x = c.in_ok-told in
    let tells = rw (c.depth.ensures.value, c.budget.ensures.value, c.base.ensures.value, c.tariff.ensures) at
    x.ensures.tells in
    let is = surveyed m c.args.limits t.ensures.place t.target t.ensures.target t.ensures.kind x.told tells in
    let deep = rw c.depth.ensures.value at (x.ensures.depth refl) in
    rw deep (is-depth m c.args.limits t.target t.ensures.target t.ensures.kind is.is.accepted)

pub returns-clause-within : goal.returns-clause-within
returns-clause-within g c =
    let m = c.args.space.now in
    let t = c.in_ok-target in
    let x = c.in_ok-told in
    let tells = rw (c.depth.ensures.value, c.budget.ensures.value, c.base.ensures.value, c.tariff.ensures) at
    x.ensures.tells in
    let is = surveyed m c.args.limits t.ensures.place t.target t.ensures.target t.ensures.kind x.told tells in
    let deep = rw c.depth.ensures.value at (x.ensures.depth refl) in
    rw deep (depth-within m c.args.limits t.target t.ensures.target t.ensures.kind is.is.accepted)
