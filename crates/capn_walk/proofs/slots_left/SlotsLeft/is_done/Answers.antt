use Rattle.std.proofs.Common.{◌≡◌, arith}
use Rattle.std.proofs.lemmas.Bool.Decides.{nat_tests}
use Rattle.capn_walk.proofs.OwedSlots.{done-rows}
use Rattle.capn_walk.proofs.slots_left.SlotsLeft.is_done.Goals as goal

pub returns-then-self-eq0 : goal.returns-then-self-eq0
returns-then-self-eq0 c =
    let f = c.args.self.now in
    let d = done-rows f.left f.rows f.slots c.requires c.if-self-eq0.true in (
      λ t. let z : c.args.self.now.rows ≡ 0 = grind (arith, nat_tests) in d.0 z,
      λ e. let z = d.1 e in
          grind (arith, nat_tests),
    )
