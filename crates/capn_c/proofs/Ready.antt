-- The value at the root of a message that has canonical bytes is ready to be compared, and costs at most the budget.
-- (For `same_surveyed`.)
use Rattle.std.proofs.Common.{ℕ, ◌^◌, ◌≤◌, List, arith}
use Rattle.capn_words.specs.Message.{IsMessage}
use Rattle.capn_value.specs.Cost.{base, cost}
use Rattle.capn_value.specs.Tree.{Tree}
use Rattle.capn_walk.specs.Accepted.{IsValueOf, paid, root}
use Rattle.capn_walk.specs.Limits.{Bounds}
use Rattle.capn_walk.proofs.shared.Fitting.{fits-root, root-costs}
use Rattle.capn_walk.proofs.shared.InRangeAt.{in_range-at}
use Rattle.capn_layout.specs.MessageSlots.{HasSlot}
use Rattle.capn_layout.specs.Ready.{IsReady}
use Rattle.capn_layout.proofs.shared.Room.{room}
use Rattle.capn_layout.proofs.shared.Sound.{sound}
use Rattle.capn_canon.specs.CanonicalLength.{HasBytes}

pub root-ready : (m : List (List ℕ)) (limits : Bounds) → IsMessage m → limits.budget ≤ 2 ^ 28 → limits.depth ≤ 256
    → HasBytes m limits → IsReady (HasSlot m) 0 0 limits.depth 1
root-ready m limits is small shallow (v, h, free) =
    let f = fits-root m (base limits.tariff) limits.budget limits.depth v small shallow h.accepted.within h.is in
    let r = in_range-at m is.each v root h.is in
    let c = root-costs m (base limits.tariff) limits.depth v h.is h.accepted.within.all in
    let k = room v f r in
    record {
      value = v;
      is = record { message = is; exists = is.some; place = let o = h.accepted.some in omega arith; at = h.is };
      sound = sound v f r;
      low = c.1;
      room = let a = k.0 in let b = k.2 in omega arith;
    }

pub root-cheap : (m : List (List ℕ)) (limits : Bounds) (v : Tree) → IsValueOf m limits v
    → cost (base limits.tariff) v ≤ limits.budget
root-cheap m limits v h =
    let c : cost (base limits.tariff) v ≤ paid m limits =
    (root-costs m (base limits.tariff) limits.depth v h.is h.accepted.within.all).0 in
    let p : paid m limits ≤ limits.budget = h.accepted.within.paid in
    omega arith
