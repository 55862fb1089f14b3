-- The value at the root of an accepted message is ready to be laid out (`IsReady`). (For `canonical_of_inner`,
-- `length_beyond`, `length_of` and `write_message`.)
use Rattle.std.proofs.Common.{ℕ, ◌^◌, ◌≤◌, List, arith}
use Rattle.capn_words.specs.Message.{IsMessage}
use Rattle.capn_value.specs.Tree.{Tree}
use Rattle.capn_walk.specs.Accepted.{IsValueOf}
use Rattle.capn_walk.specs.Limits.{Bounds}
use Rattle.capn_layout.specs.MessageSlots.{HasSlot}
use Rattle.capn_layout.specs.Ready.{IsReady}
use Rattle.capn_canon.proofs.theorem.Headline.{denoted_fits, denoted_in_range, denoted_cost}
use Rattle.capn_layout.proofs.shared.Room.{room}
use Rattle.capn_layout.proofs.shared.Sound.{sound}

pub root-ready : (m : List (List ℕ)) (limits : Bounds) (v : Tree) → IsMessage m → limits.budget ≤ 2 ^ 28
    → limits.depth ≤ 256 → IsValueOf m limits v → IsReady (HasSlot m) 0 0 limits.depth 1
root-ready m limits v is small shallow h =
    let f = denoted_fits m limits v is small shallow h in
    let r = denoted_in_range m limits v is small shallow h in
    let c = denoted_cost m limits v is small shallow h in
    let k = room v f r in
    record {
      value = v;
      is = record { message = is; exists = is.some; place = let o = h.accepted.some in omega arith; at = h.is };
      sound = sound v f r;
      low = c.2;
      room = let a = k.0 in let b = k.2 in omega arith;
    }
