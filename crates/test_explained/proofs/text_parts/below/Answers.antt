use Rattle.std.proofs.Common.{arith}
use Rattle.test_explained.proofs.text_parts.below.Goals as goal

pub named-root-requires-clause-value : goal.named-root-requires-clause-value
named-root-requires-clause-value g c =
    let f = c.in_ok-survey.ensures.found in
    (f.value, f.is.is)

pub step_down-requires-clause-value : goal.step_down-requires-clause-value
step_down-requires-clause-value g c =
    let f = c.in_ok-survey.ensures.found in
    (f.value, c.named-root.ensures.shown f.value f.is.is)

pub show_found-requires-clause-ready : goal.show_found-requires-clause-ready
show_found-requires-clause-ready g c =
    let f = c.in_ok-survey.ensures.found in
    let high = (c.values.ensures.cheap (g.S.Space.message c.args.space.now) c.args.limits f.value f.is).1 in
    let depth = c.depth-depth.ensures.value in
    let x = c.in-Some.ensures.there f.value (c.named-root.ensures.shown f.value f.is.is) in
    let low = x.low in
    record { value = x.value; is = x.shown; low = omega arith }
