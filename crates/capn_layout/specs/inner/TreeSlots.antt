-- The values of slots, numbers and rows of a tree in memory.
use Rattle.std.specs.Prelude.{◌≡◌, ℕ, ◌*◌, ◌^◌, ◌<◌, List, [], ◌∷◌, length, map}
use Rattle.std.specs.Int.{from_bool}
use Rattle.capn_value.specs.Tree.{Tree, tree_at, Bodies, no_bodies, body}
use Rattle.capn_value.specs.TreeOf.{trees_of, rows_of}
use Rattle.capn_value.specs.Trim.{kept_words_of_rows, kept_slots_of_rows}
use Rattle.capn_value.specs.declared.value.Value.{Value}
use Rattle.capn_target.specs.Target.{words_for}
use Rattle.capn_layout.specs.declared.tree_slots.TreeNumbers.{TreeNumbers}
use Rattle.capn_layout.specs.declared.tree_slots.TreeNumbers.TheVariants.{Voids, Bits, Bytes, Pairs, Quads, Octs}
use Rattle.capn_layout.specs.declared.tree_slots.TreeRows.{TreeRows}
use Rattle.capn_layout.specs.declared.tree_slots.TreeRows.TheVariants as kinds
use Rattle.capn_layout.specs.declared.tree_slots.TreeSlots.{TreeSlots}
use Rattle.capn_layout.specs.declared.tree_slots.TreeSlots.TheVariants as places
use Rattle.capn_layout.specs.Layout.{packed}
use Rattle.capn_layout.specs.Sound.{Sound, SoundRows}

-- The words `ws` pack the numbers `xs` of a `TreeNumbers`. (Our own.)
abbrev pub PacksNumbers : TreeNumbers → List ℕ → Type 0
PacksNumbers Voids ws = ws ≡ []
PacksNumbers (Bits xs) ws = ws ≡ packed 64 1 (words_for (length xs.now)) (map from_bool xs.now)
PacksNumbers (Bytes xs) ws = ws ≡ packed 8 8 (words_for (8 * length xs.now)) xs.now
PacksNumbers (Pairs xs) ws = ws ≡ packed 4 16 (words_for (16 * length xs.now)) xs.now
PacksNumbers (Quads xs) ws = ws ≡ packed 2 32 (words_for (32 * length xs.now)) xs.now
PacksNumbers (Octs xs) ws = ws ≡ xs.now

module _ {B : Type 0} where
  -- `v` is the value of slot `k` of `slots`, and is `Sound`. (Our own.)
  pub record HasValue (slots : List (Value B)) (k : ℕ) (v : Tree) : Type 0 where
    pub inside : k < length slots
    pub is : v ≡ tree_at (trees_of slots) k
    pub sound : Sound v

  -- The values of a `TreeSlots`: the root `v` alone, or the slots `vs`. (Our own.)
  abbrev pub values_of : TreeSlots B → List (Value B)
  values_of (places.Root v) = v.now ∷ []
  values_of (places.Slots vs) = vs.now

  -- The bodies of a `TreeRows`. A single `row` or a list of `slots` gives one body. (Our own.)
  abbrev pub bodies_of : TreeRows B → Bodies
  bodies_of (kinds.Bodies rows) = rows_of rows.now
  bodies_of (kinds.Body row) = body row.now.words (trees_of row.now.slots) no_bodies
  bodies_of (kinds.Slots slots) = body [] (trees_of slots.now) no_bodies

  -- `bs` are the bodies of `rows`, and their values are `Sound`. `kept_words_of_rows bs` and `kept_slots_of_rows bs`
  -- are below 2^32. (Our own.)
  pub record AreBodies (rows : TreeRows B) (bs : Bodies) : Type 0 where
    pub are : bs ≡ bodies_of rows
    pub sound : SoundRows bs
    pub words : kept_words_of_rows bs < 2 ^ 32
    pub slots : kept_slots_of_rows bs < 2 ^ 32
