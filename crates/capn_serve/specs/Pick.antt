-- The messages of a stream that are picked, and what each message writes. (Our own.)
use Rattle.std.specs.Prelude.{◌≡◌, ℕ, ◌+◌, ◌<◌, ◌≤◌, max, nat_le, nat_lt, if◌then◌else◌, ◌&&◌, ◌||◌, List, [], ◌∷◌}
use Rattle.std.specs.Prelude.{Bool, false, ⊤, refl}
use Rattle.capn_canon.specs.declared.refusal.Refusal.{Refusal}
use Rattle.capn_stream.specs.StreamPieces.{IsUnfinished}
use Rattle.capn_serve.specs.declared.pick.Pick.{Pick}
use Rattle.capn_serve.specs.declared.pick.Range.{Range}
use Rattle.capn_serve.specs.declared.position.Position.{Position}
use Rattle.capn_serve.specs.declared.service.Run.{Run}
use Rattle.capn_serve.specs.Fold.{Fold, Part, AreParts, fold_of, texts_of}
use Rattle.capn_serve.specs.StreamRun.{first_run}

-- Tests whether `number` is in the range `r`.
abbrev pub is_in : Range → ℕ → Bool
is_in r number = nat_le r.from number && nat_le number r.to

-- Tests whether `number` is in one of the ranges.
abbrev pub is_picked : List Range → ℕ → Bool
is_picked [] number = false
is_picked (r ∷ rs) number = is_in r number || is_picked rs number

-- The text that a message writes: its `frame` if `number` is in one of the `ranges`, and nothing otherwise.
abbrev pub picked : List Range → ℕ → List ℕ → List ℕ
picked ranges number frame = if is_picked ranges number then frame else []

-- The greatest of the last numbers of the ranges, or 0 if there is no range.
abbrev pub last_of : List Range → ℕ
last_of [] = 0
last_of (r ∷ rs) = max r.to (last_of rs)

-- The ranges ascend, and all of their numbers are greater than `before`. No range ends before its first number.
abbrev pub AreAbove : ℕ → List Range → Type 0
AreAbove before [] = ⊤
AreAbove before (r ∷ rs) = (before < r.from) × (r.from ≤ r.to) × AreAbove r.to rs

-- The ranges ascend, and all of their numbers are at least 1.
abbrev pub AreAscending : List Range → Type 0
AreAscending ranges = AreAbove 0 ranges

-- The list with the range from `from` to `to`, where a `from` of 0 counts as 1. The list is empty if `to` is less than
-- `from`, or if `to` is 0.
abbrev pub range_of : ℕ → ℕ → List Range
range_of from to = if nat_lt to (max from 1) then [] else (record { from = max from 1; to = to }) ∷ []

-- The ranges of the options `p`.
abbrev pub ranges_of : Pick → List Range
ranges_of p = range_of p.from p.to

-- Four examples with the range 2 to 3: the messages 2 and 3 are written, and the messages 1 and 4 are not.
first_left : picked (range_of 2 3) 1 (7 ∷ []) ≡ []
first_left = refl

second_picked : picked (range_of 2 3) 2 (7 ∷ []) ≡ 7 ∷ []
second_picked = refl

third_picked : picked (range_of 2 3) 3 (7 ∷ []) ≡ 7 ∷ []
third_picked = refl

fourth_left : picked (range_of 2 3) 4 (7 ∷ []) ≡ []
fourth_left = refl

-- Three examples. From the range 3 to 2 no message is picked, and its last number counts as 0. The last number of the
-- range 0 to 3 is 3.
none_picked : picked (range_of 3 2) 3 (7 ∷ []) ≡ []
none_picked = refl

none_looked : last_of (range_of 3 2) ≡ 0
none_looked = refl

third_looked : last_of (range_of 0 3) ≡ 3
third_looked = refl

-- The range of the message 1, and the range of the messages 3 and 4.
abbrev two : List Range
two = (record { from = 1; to = 1 }) ∷ (record { from = 3; to = 4 }) ∷ []

one_of_two : picked two 1 (7 ∷ []) ≡ 7 ∷ []
one_of_two = refl

between_two : picked two 2 (7 ∷ []) ≡ []
between_two = refl

four_of_two : picked two 4 (7 ∷ []) ≡ 7 ∷ []
four_of_two = refl

last_of_two : last_of two ≡ 4
last_of_two = refl

-- The state of a run that picks messages: the ranges, and the position of the next message.
abbrev pub Picking : Type 0
Picking = Run (List Range)

-- `text` is `frame` if the number of the message is in one of the `ranges`, and empty otherwise. The ranges stay as
-- they are.
abbrev pub serves : List Range → Position → List ℕ → List (List ℕ) → List ℕ → List Range → Type 0
serves ranges at frame message text same = (text ≡ picked ranges (at.index + 1) frame) × (same ≡ ranges)

-- No message is refused.
abbrev pub refuses : List Range → Position → List ℕ → List (List ℕ) → Refusal → Type 0
refuses ranges at frame message r = ⊥

-- The fold that picks messages. `most` is the greatest number of words of a message.
abbrev pub pick_fold : ℕ → Fold Picking
pick_fold most = fold_of serves refuses most

module _ (most : ℕ) (ranges : List Range) where
  -- `bytes` begin with at least `last_of ranges` messages, and `text` is picked from these messages.
  abbrev pub IsEnough : List ℕ → List ℕ → Type 0
  IsEnough bytes text = (parts : List Part) × (rest : List ℕ) × (y : Picking)
      × AreParts (pick_fold most) (first_run ranges) bytes parts rest y × (last_of ranges ≤ y.at.index)
      × (text ≡ texts_of parts)

  -- `bytes` begin with fewer than `last_of ranges` messages, and no complete frame follows these messages.
  abbrev pub IsTooFew : List ℕ → Type 0
  IsTooFew bytes = (parts : List Part) × (rest : List ℕ) × (y : Picking)
      × AreParts (pick_fold most) (first_run ranges) bytes parts rest y × IsUnfinished rest most
      × (y.at.index < last_of ranges)
