use Rattle.std.proofs.Common.{ℕ, ◌++◌, List, length, take, drop, ap, ◌∙◌, arith, append_assoc}
use Rattle.std.proofs.lemmas.List.{take_at}
use Rattle.capn_layout.specs.Layout.{canon}
use Rattle.capn_layout.proofs.shared.Room.{length-canon}
use Rattle.capn_layout.proofs.object_layout.canonical_bytes.Goals as goal

pub size_of_slot-requires : goal.size_of_slot-requires
size_of_slot-requires g c =
    let r = c.requires in
    let room = r.room in
    record { value = r.value; is = r.is; sound = r.sound; low = r.low; room = omega arith }

pub returns : goal.returns
returns g c v h =
    let r = c.requires in
    let laid = c.lay_root.ensures.laid v h in
    let own = c.lay_root.ensures.laid r.value r.is in
    let a = laid.0 in
    let b = own.0 in
    let l = length-canon r.value r.sound in
    let n = c.size_of_slot.ensures.size r.value r.is in
    let room = r.room in
    let len = c.in_ok-bytes.ensures in
    let items = c.in_ok-bytes.bytes.items in
    let past = drop (length (canon v)) c.as_mut_slice.result.now in
    let behind = drop (length c.lay_root.new.out) items in
    ap (λ (x : List ℕ). take c.in_ok-bytes.bytes.len (x ++ behind)) laid.1
    ∙ ap (take c.in_ok-bytes.bytes.len) (append_assoc (canon v) past behind)
    ∙ take_at (canon v) (past ++ behind) c.in_ok-bytes.bytes.len (omega arith)
