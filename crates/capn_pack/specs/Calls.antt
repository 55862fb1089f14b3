-- The calls of an unpacker in their order: the pieces that it is fed, the words that it appends, and what `finish`
-- returns after them. (Our own.)
use Rattle.std.specs.Prelude.{ℕ, ◌≡◌, ◌≢◌, ◌^◌, ◌<◌, List, [], ◌∷◌, ◌++◌, Option, Some, None, refl}
use Rattle.capn_pack.specs.PackedPieces.{Held, Feeds, NoGroupFirst}
use Rattle.capn_pack.specs.declared.fault.UnpackFault.{UnpackFault}
use Rattle.capn_pack.specs.declared.fault.UnpackFault.TheVariants.{Cut}

-- The clauses of `feed` allow that calls for `pieces` in their order, each of which returns `Ok`, lead an unpacker from
-- the state `before` to the state `after`. The words that the calls append to `old` give `new`.
abbrev pub Lead : List (List ℕ) → Held → List ℕ → Held → List ℕ → Type 0
Lead [] before old after new = (after ≡ before) × (new ≡ old)
Lead (piece ∷ pieces) before old after new =
    (next : Held) × (words : List ℕ) × Feeds before piece old words next × Lead pieces next words after new

-- the bytes of the pieces, one after another, without the borders of the pieces
abbrev pub joined : List (List ℕ) → List ℕ
joined [] = []
joined (piece ∷ pieces) = piece ++ joined pieces

two_pieces : joined ((81 ∷ 8 ∷ []) ∷ (3 ∷ 2 ∷ []) ∷ []) ≡ 81 ∷ 8 ∷ 3 ∷ 2 ∷ []
two_pieces = refl

-- The clauses of `finish` allow that it returns the error of `Some`, or `Ok` for `None`, in the state `at`, which has
-- not failed.
abbrev pub Finishes : Held → Option UnpackFault → Type 0
Finishes at None = at.rest ≡ []
Finishes at (Some e) = (at.rest ≢ []) × (e ≡ Cut at.offset)

-- `at` may be the state of an unpacker: its bytes begin with no complete group, and its offset is a number of 64 bits
abbrev pub IsReached : Held → Type 0
IsReached at = NoGroupFirst at.rest × (at.offset < 2 ^ 64)

-- An unpacker in the state `start` is fed the bytes `text`, cut into `pieces`. This leads it to the state `last`, in
-- which `finish` returns what `outcome` says. The words that are appended to `old` give `new`.
pub record IsRun (start : Held) (old text : List ℕ) (pieces : List (List ℕ)) (last : Held) (new : List ℕ)
    (outcome : Option UnpackFault) : Type 0 where
  pub leads : Lead pieces start old last new
  pub all : text ≡ joined pieces
  pub ends : Finishes last outcome
