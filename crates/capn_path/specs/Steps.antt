-- A step to one of several slots, and a path from that slot on. (Our own.)
use Rattle.std.specs.Prelude.{◌≡◌, ℕ, ◌+◌, ◌*◌, ◌<◌, List, [], ◌∷◌, ◌++◌, length}
use Rattle.capn_words.specs.declared.space.Place.{Place}
use Rattle.capn_target.specs.declared.target.Shape.{Shape}
use Rattle.capn_target.specs.declared.target.Shape.TheVariants as shapes
use Rattle.capn_walk.specs.Visits.{visits_of}
use Rattle.capn_path.specs.Paths.{Leads}

-- `numbers` lead from a struct or a list of pointers to its slot `k`: the only number is `k`
abbrev pub AreNumbers : ℕ → List ℕ → Type 0
AreNumbers k numbers = numbers ≡ k ∷ []

-- `numbers` are a row and a slot of that row, which lead to slot `k` of rows with `b` slots each. `k` counts the slots
-- of all rows.
pub record AreRowNumbers (b k : ℕ) (numbers : List ℕ) : Type 0 where
  pub row : ℕ
  pub slot : ℕ
  pub are : numbers ≡ row ∷ slot ∷ []
  pub small : slot < b
  pub count : k ≡ row * b + slot

-- `numbers` lead to slot `k` of an object of the shape, where `k` counts the slots of all rows in a list of structs
abbrev pub AreNumbersIn : Shape → ℕ → List ℕ → Type 0
AreNumbersIn (shapes.Node a b) = AreNumbers
AreNumbersIn (shapes.Many width n) = AreNumbers
AreNumbersIn (shapes.Rows n a b span) = AreRowNumbers b

-- `path` leads to the slot at `to` by way of `slot`, one of the slots `ps`. The numbers `rest` lead from `slot` to the
-- slot at `to`, after `later` visits. `between` is `later` plus the number of visits of `before` and all slots below.
pub record DescendsTo (m : List (List ℕ)) (base depth : ℕ) (ps : List Place) (are : ℕ → List ℕ → Type 0)
    (path : List ℕ) (to : Place) (between : ℕ) : Type 0 where
  pub before : List Place
  pub slot : Place
  pub behind : List Place
  pub slots : ps ≡ before ++ slot ∷ behind
  pub numbers : List ℕ
  pub named : are (length before) numbers
  pub rest : List ℕ
  pub is : path ≡ numbers ++ rest
  pub later : ℕ
  pub onward : Leads m base depth slot rest to later
  pub count : between ≡ length (visits_of m base depth before) + later
