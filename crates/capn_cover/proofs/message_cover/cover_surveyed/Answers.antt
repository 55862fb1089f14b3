use Rattle.std.proofs.Common.{arith}
use Rattle.capn_cover.proofs.Whole.{few, few-times, is-cover}
use Rattle.capn_cover.proofs.message_cover.cover_surveyed.Goals as goal

pub cover_accepted-requires-clause-few : goal.cover_accepted-requires-clause-few
cover_accepted-requires-clause-few g c =
    let m = g.S.Space.message c.args.space.now in
    let f = c.in_ok-survey.ensures.found in
    let n = c.depth.ensures.value in
    let b = c.budget-most.ensures.value in
    let w = c.budget-most.ensures.within in
    let k = few m c.args.limits f.is.accepted in
    rw n (omega arith)

pub returns-in-Ok-clause-found : goal.returns-in-Ok-clause-found
returns-in-Ok-clause-found g c =
    let m = g.S.Space.message c.args.space.now in
    let f = c.in_ok-survey.ensures.found in
    let n = c.depth.ensures.value in
    let e = rw n at c.in-Ok.ensures in
    is-cover m c.args.limits f.is.accepted c.in-Ok.words.items e

pub returns-in-Ok-clause-work : goal.returns-in-Ok-clause-work
returns-in-Ok-clause-work g c =
    let m = g.S.Space.message c.args.space.now in
    let f = c.in_ok-survey.ensures.found in
    let n = c.depth.ensures.value in
    let e = rw n at c.in-Ok.ensures in
    few-times m c.args.limits f.is.accepted c.in-Ok.words.items e
