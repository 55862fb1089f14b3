use Rattle.std.proofs.Common.{◌≤◌, ◌*◌, arith}
use Rattle.std.proofs.Math.Nat.{mul-le-mul_left}
use Rattle.capn_pack.proofs.room.text_room.Goals as goal

pub returns-clause-within : goal.returns-clause-within
returns-clause-within g c =
    let text = c.saturating_add-text.result in
    let times = c.min-times.result in
    let few : times ≤ 64 = omega arith in
    let product : text * times ≤ text * 64 = mul-le-mul_left text few in
    omega arith
