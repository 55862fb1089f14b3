-- The value of an accepted message can be laid out. (For `canonical_length` and `from_canonical`.)
use Rattle.std.proofs.Common.{◌≡◌, ℕ, ◌+◌, ◌*◌, ◌≤◌, List, length, Result, Ok, Err, refl, arith}
use Rattle.capn_words.specs.Message.{IsBare, IsMessage}
use Rattle.capn_value.specs.Tree.{Tree}
use Rattle.capn_value.specs.Cost.{base, height, most_cost, most_height}
use Rattle.capn_value.specs.Fits.{Fits}
use Rattle.capn_value.specs.InRange.{InRange}
use Rattle.capn_walk.specs.Accepted.{IsValueOf, paid, root}
use Rattle.capn_walk.specs.Limits.{Bounds}
use Rattle.capn_walk.proofs.shared.Fitting.{fits-root, root-costs}
use Rattle.capn_walk.proofs.shared.InRangeAt.{in_range-at}
use Rattle.capn_layout.specs.Layout.{canon, words}
use Rattle.capn_layout.specs.MessageSlots.{HasSlot}
use Rattle.capn_layout.specs.Ready.{IsReady}
use Rattle.capn_layout.proofs.shared.Room.{room, length-canon}
use Rattle.capn_layout.proofs.shared.Sound.{sound}
use Rattle.capn_canon.proofs.shared.BareCanon.{words_are_words}

module _ (m : List (List ℕ)) (limits : Bounds) (message : IsMessage m) (cheap : limits.budget ≤ most_cost)
    (shallow : limits.depth ≤ most_height) where
  module _ (v : Tree) (is : IsValueOf m limits v) where
    fits : Fits v
    fits = fits-root m (base limits.tariff) limits.budget limits.depth v cheap shallow is.accepted.within is.is

    range : InRange v
    range = in_range-at m message.each v root is.is

    low : height v ≤ limits.depth
    low = (root-costs m (base limits.tariff) limits.depth v is.is is.accepted.within.all).1

    pub ready : IsReady (HasSlot m) 0 0 limits.depth 1
    ready =
        let k = room v fits range in
        record {
          value = v;
          is = record { message = message; exists = message.some; place = is.accepted.some; at = is.is };
          sound = sound v fits range;
          low = low;
          room = let a = k.0 in let b = k.2 in omega arith;
        }

    -- There are at most 8 canonical bytes for each word that the walk pays, and 8 more.
    pub short : length (canon v) ≤ 8 * (paid m limits + 1)
    short =
        let c = (root-costs m (base limits.tariff) limits.depth v is.is is.accepted.within.all).0 in
        let s = (room v fits range).1 (base limits.tariff) in
        let l = length-canon v (sound v fits range) in
        omega arith

    pub bare : IsBare (canon v) (words v)
    bare = record { same = refl; each = words_are_words v fits range; room = (room v fits range).2 }

pub no-answer : {A B : Type 0} (r : Result A B) (x : A) (e : B) → r ≡ Err e → r ≡ Ok x → ⊥
no-answer (Ok y) x e p q = absurd cc
no-answer (Err f) x e p q = absurd cc
