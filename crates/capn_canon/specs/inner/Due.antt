-- Values that one pass over the words `all` must find. They are laid out canonically, and their walks stay within the
-- limits that are left.
use Rattle.std.specs.Prelude.{◌≡◌, ℕ, ◌+◌, ◌-◌, ◌≤◌, List, [], ◌∷◌, length, Option, Some, None}
use Rattle.capn_value.specs.Tree.{Tree, Trees, Bodies, count, count_rows}
use Rattle.capn_value.specs.FirstCap.{first_cap, first_in, first_in_rows}
use Rattle.capn_walk.specs.Accepted.{IsWithin}
use Rattle.capn_walk.specs.ValueAt.{IsAt, AreAt, RowsAt}
use Rattle.capn_walk.specs.Visits.{places, row_places, visits, visits_of}
use Rattle.capn_canon.specs.declared.progress.Pass.{Pass}
use Rattle.capn_canon.specs.declared.progress.RowPass.{RowPass}
use Rattle.capn_layout.specs.Layout.{size, sizes, sizes_in_rows}
use Rattle.capn_layout.specs.Sound.{Sound, Sounds, SoundRows}
use Rattle.capn_canon.specs.inner.WordsOfLayout.{IsLaidAt, AreLaidAt, RowsLaidAt}

module _ (all : List ℕ) (base : ℕ) where
  -- The value `v`, without capabilities, is laid out with its pointer at the slot `from` and its content at `to`. Its
  -- walk, at most `depth` objects deep, pays at most `left` words. (Our own.)
  pub record IsDue (from to depth left : ℕ) (v : Tree) : Type 0 where
    pub is : IsAt (all ∷ []) (record { segment = 0; word = from }) v
    pub laid : IsLaidAt all v from to
    pub sound : Sound v
    pub free : first_cap v ≡ None
    pub fits : to + size v ≤ length all
    pub pays : IsWithin left (visits (all ∷ []) base depth (record { segment = 0; word = from }))

  -- The values `ts`, without capabilities, are laid out with their pointers at the slots from `from` on and their
  -- contents from `to` on. Their walks, at most `depth` objects deep, pay at most `left` words together. (Our own.)
  pub record AreDue (from to depth left : ℕ) (ts : Trees) : Type 0 where
    pub are : AreAt (all ∷ []) 0 from ts
    pub laid : AreLaidAt all ts from to
    pub sound : Sounds ts
    pub free : first_in ts ≡ None
    pub fits : to + sizes ts ≤ length all
    pub pays : IsWithin left (visits_of (all ∷ []) base depth (places 0 from (count ts)))

  -- The rows `bs` of `a` words and `b` slots, without capabilities, are laid out from `from` on, and the objects below
  -- them from `to` on. The walks of these objects, at most `depth` objects deep, pay at most `left` words. (Our own.)
  pub record RowsAreDue (a b from to depth left : ℕ) (bs : Bodies) : Type 0 where
    pub are : RowsAt (all ∷ []) a b 0 from bs
    pub laid : RowsLaidAt all a b bs from to
    pub sound : SoundRows bs
    pub free : first_in_rows bs ≡ None
    pub fits : to + sizes_in_rows bs ≤ length all
    pub pays : IsWithin left (visits_of (all ∷ []) base depth (row_places 0 from a b (count_rows bs)))

  -- The pass must find a value at the slot `from` (`IsDue`). (Our own.)
  pub record DueValue (from to depth left : ℕ) : Type 0 where
    pub value : Tree
    pub due : IsDue from to depth left value

  -- The pass must find values at the `number` slots from `from` on (`AreDue`). (Our own.)
  pub record DueSlots (from number to depth left : ℕ) : Type 0 where
    pub values : Trees
    pub count : count values ≡ number
    pub due : AreDue from to depth left values

  -- The pass must find the `number` rows from `from` on (`RowsAreDue`). (Our own.)
  pub record DueRows (a b from number to depth left : ℕ) : Type 0 where
    pub values : Bodies
    pub count : count_rows values ≡ number
    pub due : RowsAreDue a b from to depth left values

  -- The pass `p` must find a value at its first slot (`DueValue`). (Our own.)
  abbrev pub DueFirst : Pass → Type 0
  DueFirst p = DueValue p.from p.next p.depth p.left

  -- The pass `p` must find values at all its slots (`DueSlots`). (Our own.)
  abbrev pub Due : Pass → Type 0
  Due p = DueSlots p.from (p.end - p.from) p.next p.depth p.left

  -- The option is `Some`, and the pass in it must find values at all slots of that pass (`Due`). (Our own.)
  abbrev pub DueIn : Option Pass → Type 0
  DueIn (Some r) = Due r
  DueIn None = ⊥

  -- The option is `Some`, and the pass must find the rows in it (`DueRows`). (Our own.)
  abbrev pub DueRowsIn : Option RowPass → Type 0
  DueRowsIn (Some r) =
      DueRows r.tag.words r.tag.slots r.pass.from r.tag.count r.pass.next r.pass.depth r.pass.left
  DueRowsIn None = ⊥
