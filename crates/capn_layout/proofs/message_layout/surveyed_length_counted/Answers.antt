use Rattle.std.proofs.Common.{ap, arith}
use Rattle.capn_walk.proofs.shared.Unique.{unique}
use Rattle.std.proofs.Common.{length}
use Rattle.capn_value.specs.Tree.{Tree}
use Rattle.capn_layout.specs.Layout.{canon}
use Rattle.capn_layout.proofs.shared.Room.{length-canon}
use Rattle.capn_layout.proofs.shared.Counted.{weight-cost, at-slot}
use Rattle.capn_layout.proofs.message_layout.surveyed_length_counted.Goals as goal

pub size_of_slot-requires : goal.size_of_slot-requires
size_of_slot-requires g c =
    let r = c.requires in
    let room = r.room in
    record { value = r.value; is = rw c.again.ensures (r.is); sound = r.sound; low = r.low; room = omega arith }

pub overflow_add-result : goal.overflow_add-result
overflow_add-result g c =
    let r = c.requires in
    let e = c.size_of_slot.ensures.size r.value (rw c.again.ensures (r.is)) in
    let room = r.room in
    omega arith

pub returns-clause-length : goal.returns-clause-length
returns-clause-length g c v is =
    let r = c.requires in
    let e = c.size_of_slot.ensures.size r.value (rw c.again.ensures (r.is)) in
    let l = length-canon r.value r.sound in
    let m = c.args.space.now in
    let same = ap (λ (x : Tree). length (canon x)) (unique m v r.value (record { segment = 0; word = 0 }) is r.is.at) in
    omega arith

pub returns-clause-reads : goal.returns-clause-reads
returns-clause-reads g c v is base =
    let h = c.requires.is in
    let w = weight-cost c.args.space.now base v (record { segment = 0; word = 0 }) is in
    let r = c.size_of_slot.ensures.reads v
    (rw c.again.ensures (at-slot c.args.space.now 0 0 v h.message h.exists h.place is)) in
    omega arith
