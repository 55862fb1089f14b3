-- The value of an accepted message is ready to be laid out. (For `canonical_words`.)
use Rattle.std.proofs.Common.{ℕ, ◌≤◌, List, arith}
use Rattle.capn_words.specs.Message.{IsMessage}
use Rattle.capn_value.specs.Tree.{Tree}
use Rattle.capn_value.specs.Cost.{base, height, most_cost, most_height}
use Rattle.capn_value.specs.Fits.{Fits}
use Rattle.capn_value.specs.InRange.{InRange}
use Rattle.capn_walk.specs.Accepted.{IsValueOf, root}
use Rattle.capn_walk.specs.Limits.{Bounds}
use Rattle.capn_walk.proofs.shared.Fitting.{fits-root, root-costs}
use Rattle.capn_walk.proofs.shared.InRangeAt.{in_range-at}
use Rattle.capn_layout.specs.MessageSlots.{HasSlot}
use Rattle.capn_layout.specs.Ready.{IsReady}
use Rattle.capn_layout.proofs.shared.Room.{room}
use Rattle.capn_layout.proofs.shared.Sound.{sound}

module _ (m : List (List ℕ)) (limits : Bounds) (v : Tree) (message : IsMessage m) (cheap : limits.budget ≤ most_cost)
    (shallow : limits.depth ≤ most_height) (is : IsValueOf m limits v) where
  fits : Fits v
  fits = fits-root m (base limits.tariff) limits.budget limits.depth v cheap shallow is.accepted.within is.is

  range : InRange v
  range = in_range-at m message.each v root is.is

  low : height v ≤ limits.depth
  low = (root-costs m (base limits.tariff) limits.depth v is.is is.accepted.within.all).1

  pub ready : IsReady (HasSlot m) 0 0 limits.depth 1
  ready =
      let k = room v fits range in
      record {
        value = v;
        is = record { message = message; exists = message.some; place = is.accepted.some; at = is.is };
        sound = sound v fits range;
        low = low;
        room = let a = k.0 in let b = k.2 in omega arith;
      }
