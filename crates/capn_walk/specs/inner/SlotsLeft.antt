-- The slots that a survey still has to visit, in one object and in a stack of objects.
use Rattle.std.specs.Prelude.{ℕ, ◌+◌, ◌-◌, ◌*◌, ◌<◌, ◌≤◌, List, [], ◌∷◌, ◌++◌, length, ⊤}
use Rattle.capn_words.specs.declared.space.Place.{Place}
use Rattle.capn_words.specs.Message.{segment_at}
use Rattle.capn_walk.specs.declared.slots_left.SlotsLeft.{SlotsLeft}
use Rattle.capn_walk.specs.declared.slots_left.Waiting.{Waiting}
use Rattle.capn_walk.specs.Visits.{Visit, places, row_places, visits_of}

-- the places of the remaining slots `f` of an object, in the order of the visits
abbrev pub places_of : SlotsLeft → List Place
places_of f = places f.segment f.next f.left ++ row_places f.segment (f.next + f.left) f.words f.slots f.rows

-- the number of the remaining slots `f`
abbrev pub owed : SlotsLeft → ℕ
owed f = f.left + f.rows * f.slots

-- the word after the last of the remaining slots `f`
abbrev pub end_of : SlotsLeft → ℕ
end_of f = f.next + f.left + f.rows * (f.words + f.slots)

-- if rows remain, each row has slots
abbrev pub HasRows : SlotsLeft → Type 0
HasRows f = 0 < f.rows → 0 < f.slots

-- the remaining slots `f` lie inside a segment of `message`, and if rows remain, each row has slots
pub record Lies (message : List (List ℕ)) (f : SlotsLeft) : Type 0 where
  pub within : end_of f ≤ length (segment_at message f.segment)
  pub rows : HasRows f

-- ---- a stack of objects that wait, the lowest first

-- the number of remaining slots of all objects of a stack
abbrev pub owed_by : List Waiting → ℕ
owed_by [] = 0
owed_by (w ∷ ws) = owed w.frame + owed_by ws

-- the depth that remains at object `k` of a stack is at most `limit - k`, where the lowest object has the number 0
abbrev pub AreShallow : ℕ → List Waiting → Type 0
AreShallow limit [] = ⊤
AreShallow limit (w ∷ ws) = (w.depth ≤ limit) × AreShallow (limit - 1) ws

module _ (message : List (List ℕ)) where
  -- the remaining slots of each object of a stack lie inside a segment of `message`
  abbrev pub AllLie : List Waiting → Type 0
  AllLie [] = ⊤
  AllLie (w ∷ ws) = Lies message w.frame × AllLie ws

  -- the visits of the remaining slots of a stack and of all slots below them, beginning with the last object of the
  -- stack
  abbrev pub visits_left : ℕ → List Waiting → List Visit
  visits_left base [] = []
  visits_left base (w ∷ ws) = visits_left base ws ++ visits_of message base w.depth (places_of w.frame)
