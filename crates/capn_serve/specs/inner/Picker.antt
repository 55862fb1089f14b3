-- The service that picks messages, and looks only at the first of its remaining ranges.
use Rattle.std.specs.Prelude.{◌≡◌, ℕ, ◌+◌, nat_lt, if◌then◌else◌, List, [], ◌∷◌, Bool, true, false, refl}
use Rattle.capn_canon.specs.declared.refusal.Refusal.{Refusal}
use Rattle.capn_serve.specs.declared.pick.Range.{Range}
use Rattle.capn_serve.specs.declared.picker.Picker.{Picker}
use Rattle.capn_serve.specs.declared.position.Position.{Position}

-- Tests whether `number` is in the first of the ranges.
abbrev pub is_first : List Range → ℕ → Bool
is_first [] number = false
is_first (r ∷ rs) number = if nat_lt number r.from then false else (if nat_lt r.to number then false else true)

-- The ranges that remain after the message `number`. The first range is dropped if `number` is at least its last
-- number.
abbrev pub left : List Range → ℕ → List Range
left [] number = []
left (r ∷ rs) number = if nat_lt number r.to then r ∷ rs else rs

-- Tests whether there is no range.
abbrev pub is_none : List Range → Bool
is_none [] = true
is_none (r ∷ rs) = false

-- Two examples: the range 3 to 4 remains after the message 3, and is dropped after the message 4.
still_left : left ((record { from = 3; to = 4 }) ∷ []) 3 ≡ (record { from = 3; to = 4 }) ∷ []
still_left = refl

left_no_more : left ((record { from = 3; to = 4 }) ∷ []) 4 ≡ []
left_no_more = refl

-- `text` is `frame` if the number of the message is in the first range, and empty otherwise. `q` has the ranges that
-- remain after this message.
abbrev pub serves : Picker → Position → List ℕ → List (List ℕ) → List ℕ → Picker → Type 0
serves p at frame message text q =
    (text ≡ (if is_first p.rest.now (at.index + 1) then frame else []))
    × (q.rest.now ≡ left p.rest.now (at.index + 1))

-- No message is refused.
abbrev pub refuses : Picker → Position → List ℕ → List (List ℕ) → Refusal → Type 0
refuses p at frame message r = ⊥

-- The service is `done` if no range remains.
abbrev pub done : Picker → Position → Bool
done p at = is_none p.rest.now
