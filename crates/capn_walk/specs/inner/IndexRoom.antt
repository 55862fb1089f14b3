-- The results of the functions that write an index to a room, and the items that they write.
use Rattle.std.specs.Prelude.{◌≡◌, ◌≢◌, ℕ, suc, ◌+◌, ◌-◌, ◌<◌, List, [], ◌∷◌, length, set, drop}
use Rattle.std.specs.Prelude.{Result, Ok, Err}
use Rattle.capn_walk.specs.declared.entry.Entry.{Entry}
use Rattle.capn_walk.specs.declared.entry.Indexed.{Indexed}
use Rattle.capn_target.specs.declared.target.Fault.TheVariants as faults
use Rattle.capn_walk.specs.declared.walk_answer.Stopped.{Stopped}
use Rattle.capn_walk.specs.inner.Verdict.{Gives, Refuses}
use Rattle.capn_walk.specs.Visits.{Visit}

-- `room` with the entries written from index `i` on, each in `form`, up to the end of `room`
abbrev pub laid : {A : Type 0} → (Entry → A) → ℕ → List Entry → List A → List A
laid form i [] room = room
laid form i (e ∷ es) room = laid form (suc i) es (set room i (form e))

-- `new` is `old` with the entries `es` written from index `first` on, each in `form`, and `visits` is the number of
-- entries
pub record IsLaid {A : Type 0} (form : Entry → A) (es : List Entry) (first : ℕ) (old new : List A) (visits : ℕ)
    : Type 0 where
  pub is : new ≡ laid form first es old
  pub count : length es ≡ visits

-- if the result is `Ok`, the visits `vs` of `n` slots are accepted, and the entries `es` are written. If the result is
-- an error, the visits are refused with a fault other than `Memory`.
abbrev pub Indexes : {A : Type 0} → ℕ → List Visit → ℕ → (Entry → A) → List Entry → ℕ → List A → List A
    → Result Indexed Stopped → Type 0
Indexes left vs n form es first old new (Ok t) =
    Gives left vs n t.paid t.visits × IsLaid form es first old new t.visits
Indexes left vs n form es first old new (Err s) = Refuses left vs n s × (s.fault ≢ faults.Memory)

-- `visits` is above 0, and `new` and `old` are equal from index `first + visits - 1` on, which is the index for the
-- entry of visit number `visits`
pub record IsKept {A : Type 0} (first : ℕ) (old new : List A) (visits : ℕ) : Type 0 where
  pub some : 0 < visits
  pub rest : drop (first + visits - 1) new ≡ drop (first + visits - 1) old
