use Rattle.std.proofs.Common.{arith, ◌≡◌, length, take, length-take}
use Rattle.capn_pack.proofs.StartLemmas.{whole_started}
use Rattle.capn_pack.proofs.shared.StreamLemmas.{splits_more, begins_more}
use Rattle.capn_pack.proofs.text_piece.feed_begun.Goals as goal

pub returns-in-Ok : goal.returns-in-Ok
returns-in-Ok g c =
    let rest = take c.args.len c.args.held.now in
    let long : length rest ≡ c.args.len = omega (arith, length-take c.args.len c.args.held.now) in
    let joined = rw c.in-Whole.is at c.in_ok-all.ensures.joined in
    let fed = c.in-Ok.ensures.gives in
    (fed.0, rw long at (splits_more rest c.args.piece.now c.join_first.new.held _ _ _ _ _ _ joined fed.1))

pub returns-in-Err : goal.returns-in-Err
returns-in-Err g c =
    let joined = rw c.in-Whole.is at c.in_ok-all.ensures.joined in (
      begins_more _ _ c.join_first.new.held _ _ _ _ joined c.in-Err.ensures.gives.0,
      λ none. whole_started _ _ c.join_first.new.held _ _ _ joined none,
    )
