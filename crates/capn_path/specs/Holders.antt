-- The object that holds the slot to which a path leads: a struct, a list of pointers, or a row of a list of structs.
use Rattle.std.specs.Prelude.{◌≡◌, ℕ, ◌+◌, ◌*◌, List, [], ◌∷◌, ◌++◌, length, Ok, Option, Some, None, refl}
use Rattle.capn_words.specs.declared.space.Place.{Place}
use Rattle.capn_target.specs.declared.target.Target.{Target}
use Rattle.capn_target.specs.declared.target.Target.TheVariants as targets
use Rattle.capn_target.specs.declared.target.Shape.TheVariants as shapes
use Rattle.capn_target.specs.Target.{target}
use Rattle.capn_walk.specs.View.{slots_below}
use Rattle.capn_walk.specs.Accepted.{root}
use Rattle.capn_path.specs.declared.holder.Holder.{Holder}
use Rattle.capn_path.specs.declared.holder.Holder.TheVariants.{Struct, Pointers, Row}
use Rattle.capn_path.specs.Paths.{AreNumbersOf, Leads}

-- the place of word `w` of segment `s`
abbrev pub place : ℕ → ℕ → Place
place s w = record { segment = s; word = w }

-- the word at which row `row` begins in a list whose tag is word `start` and whose rows have `a` words and `b` slots
-- each
abbrev pub row_start : ℕ → ℕ → ℕ → ℕ → ℕ
row_start start a b row = start + 1 + row * (a + b)

-- `numbers` lead from an object to a slot that `holder` holds. If the object is a struct or a list of pointers,
-- `holder` is the object. If the object is a list of structs, `holder` is the row whose number is the first number.
abbrev pub IsHeldIn : Target → List ℕ → Holder → Type 0
IsHeldIn (targets.Content s start (shapes.Node a b) pads) numbers holder = holder ≡ Struct a b (place s start)
IsHeldIn (targets.Content s start (shapes.Many width n) pads) numbers holder = holder ≡ Pointers n (place s start)
IsHeldIn (targets.Content s start (shapes.Rows n a b span) pads) (row ∷ slot ∷ []) holder =
    holder ≡ Row row n (place s (row_start start a b row))
IsHeldIn found numbers holder = ⊥

-- `path` leads from the slot at `start` to the slot at `to`, which `holder` holds. The numbers `front` lead to the slot
-- at `from`, which names an object. Then `numbers` lead from that object to the slot at `to`.
pub record Holds (message : List (List ℕ)) (start : Place) (path : List ℕ) (to : Place) (holder : Holder)
    : Type 0 where
  pub base : ℕ
  pub depth : ℕ
  pub front : List ℕ
  pub from : Place
  pub between : ℕ
  pub leads : Leads message base depth start front from between
  pub found : Target
  pub names : target message from ≡ Ok found
  pub before : List Place
  pub behind : List Place
  pub slots : slots_below found ≡ before ++ to ∷ behind
  pub numbers : List ℕ
  pub are : AreNumbersOf found (length before) numbers
  pub is : path ≡ front ++ numbers
  pub held : IsHeldIn found numbers holder

-- `path` leads from the root to the slot at `to`, which `holder` holds
abbrev pub IsHolder : List (List ℕ) → List ℕ → Place → Holder → Type 0
IsHolder message path to holder = Holds message root path to holder

-- if there is a `holder`, `path` leads from the root to the slot at `to`, which `holder` holds. If there is none,
-- `path` is empty.
abbrev pub IsHolderOrRoot : List (List ℕ) → List ℕ → Place → Option Holder → Type 0
IsHolderOrRoot message path to (Some holder) = IsHolder message path to holder
IsHolderOrRoot message path to None = path ≡ []

-- ---- examples: a struct of two words holds the struct's slot, and the second of three rows holds the row's slot

struct_holds : IsHeldIn (targets.Content 0 4 (shapes.Node 2 1) 0) (0 ∷ []) (Struct 2 1 (place 0 4))
struct_holds = refl

row_holds : IsHeldIn (targets.Content 0 4 (shapes.Rows 3 2 1 9) 0) (1 ∷ 0 ∷ []) (Row 1 3 (place 0 8))
row_holds = refl
