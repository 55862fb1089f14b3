use Rattle.std.proofs.Common.{arith}
use Rattle.capn_path.proofs.Followed.{one-more}
use Rattle.capn_path.proofs.holder.followed.Goals as goal

pub loop-rest-preserved : goal.loop-rest-preserved
loop-rest-preserved g c =
    let l = c.loop-rest in
    let x = c.in-Some in
    let more = one-more (g.S.Space.message c.args.space.now) l.invariant.steps l.spot x.next l.rest.now x.after.now _
    l.invariant.same l.invariant.enough (let some = c.in-len1-up.len_at_least in omega arith)
    x.ensures.exact x.ensures.shorter in
    record { place = x.ensures.place; steps = more.steps; enough = more.enough; same = more.same }
