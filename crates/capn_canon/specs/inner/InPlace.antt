-- The result of one pass over the words `all`: values at the places of their layout, the price of their walk, and their
-- height.
use Rattle.std.specs.Prelude.{◌≡◌, ℕ, suc, ◌+◌, ◌-◌, ◌*◌, ◌^◌, ◌<◌, ◌≤◌, min, Bool, IsTrue, List, [], ◌∷◌, length}
use Rattle.std.specs.Prelude.{slice_index, None}
use Rattle.capn_words.specs.declared.pointer.Width.{Width}
use Rattle.capn_value.specs.Tree.{Tree, Trees, Bodies, count, count_rows}
use Rattle.capn_value.specs.Cost.{height, greatest, greatest_in_rows}
use Rattle.capn_value.specs.FirstCap.{first_cap, first_in, first_in_rows}
use Rattle.capn_walk.specs.Accepted.{paid_of, AllPay}
use Rattle.capn_walk.specs.ValueAt.{IsAt, AreAt, RowsAt}
use Rattle.capn_walk.specs.Visits.{Visit, places, row_places, visits, visits_of}
use Rattle.capn_canon.specs.declared.progress.Progress.{Progress}
use Rattle.capn_canon.specs.declared.progress.Pass.{Pass}
use Rattle.capn_canon.specs.declared.progress.RowPass.{RowPass}
use Rattle.capn_layout.specs.Layout.{size, sizes, sizes_in_rows, list_to}
use Rattle.capn_layout.specs.Sound.{Sound, Sounds, SoundRows}
use Rattle.capn_canon.specs.inner.WordsOfLayout.{IsLaidAt, AreLaidAt, RowsLaidAt}

-- The `number` visits `vs` have no fault, and together they pay `price` words. (Our own.)
pub record Pays (vs : List Visit) (price number : ℕ) : Type 0 where
  pub all : AllPay vs
  pub sum : paid_of vs ≡ price
  pub many : length vs ≡ number

module _ (all : List ℕ) (base : ℕ) where
  -- The value `v`, without capabilities, is laid out with its pointer at the slot `from` and its content at `to`. Its
  -- walk, at most `depth` objects deep, pays `price` words and makes `below` visits after the visit of the slot.
  -- `below` is at most `price`. (Our own.)
  pub record IsInPlace (from to depth : ℕ) (v : Tree) (price below : ℕ) : Type 0 where
    pub is : IsAt (all ∷ []) (record { segment = 0; word = from }) v
    pub laid : IsLaidAt all v from to
    pub sound : Sound v
    pub free : first_cap v ≡ None
    pub pays : Pays (visits (all ∷ []) base depth (record { segment = 0; word = from })) price (suc below)
    pub few : below ≤ price

  -- The values `ts`, without capabilities, are laid out with their pointers at the slots from `from` on and their
  -- contents from `to` on. Their walks, at most `depth` objects deep, pay `price` words, and make `below` more visits
  -- than there are slots. `below` is at most `price`. (Our own.)
  pub record AreInPlace (from to depth : ℕ) (ts : Trees) (price below : ℕ) : Type 0 where
    pub are : AreAt (all ∷ []) 0 from ts
    pub laid : AreLaidAt all ts from to
    pub sound : Sounds ts
    pub free : first_in ts ≡ None
    pub pays : Pays (visits_of (all ∷ []) base depth (places 0 from (count ts))) price (count ts + below)
    pub few : below ≤ price

  -- The rows `bs` of `a` words and `b` slots each, without capabilities, are laid out from `from` on, and the objects
  -- below them from `to` on. The walks of the slots, at most `depth` objects deep, pay `price` words, and make `below`
  -- more visits than there are slots. `below` is at most `price`. (Our own.)
  pub record RowsInPlace (a b from to depth : ℕ) (bs : Bodies) (price below : ℕ) : Type 0 where
    pub are : RowsAt (all ∷ []) a b 0 from bs
    pub laid : RowsLaidAt all a b bs from to
    pub sound : SoundRows bs
    pub free : first_in_rows bs ≡ None
    pub pays : Pays (visits_of (all ∷ []) base depth (row_places 0 from a b (count_rows bs))) price
        (count_rows bs * b + below)
    pub few : below ≤ price

  -- The progress `q` comes after `size` words of content: `q.next` is `next + size`, at most the length of `all`. The
  -- words left in `q` are `left` less `price`. The number of visits in `q` is `visits + below`, at most `q.next`. (Our
  -- own.)
  pub record Comes (next left visits size price below : ℕ) (q : Progress) : Type 0 where
    pub next_is : q.next ≡ next + size
    pub left_is : q.left + price ≡ left
    pub visits_are : q.visits ≡ visits + below
    pub fits : q.next ≤ length all
    pub few : q.visits ≤ q.next

-- The slots of the pass `p` end at or before `p.next`, and `p.next` is at most the length of `all`. The number of
-- visits is at most `p.next`. (Our own.)
pub record IsOpen (all : List ℕ) (p : Pass) : Type 0 where
  pub order : p.from ≤ p.end
  pub before : p.end ≤ p.next
  pub fits : p.next ≤ length all
  pub few : p.visits ≤ p.next

-- If `deep` is set and `least` is at most `depth`, `low` is the lesser of `least` and `depth - height`. (Our own.)
abbrev pub IsLowered : Bool → ℕ → ℕ → ℕ → ℕ → Type 0
IsLowered deep depth height least low = IsTrue deep → least ≤ depth → low ≡ min least (depth - height)

module _ (all : List ℕ) (base : ℕ) (deep : Bool) where
  -- A value is in place at the slot `from` (`IsInPlace`). `q` is the progress after that value. `low` follows from
  -- `least` and the height of the value (`IsLowered`). (Our own.)
  pub record FindsValue (from to depth left visits least : ℕ) (q : Progress) (low : ℕ) : Type 0 where
    pub value : Tree
    pub price : ℕ
    pub below : ℕ
    pub in_place : IsInPlace all base from to depth value price below
    pub comes : Comes all base to left visits (size value) price below q
    pub lowered : IsLowered deep depth (height value) least low

  -- Values are in place at the `number` slots from `from` on (`AreInPlace`). `q` is the progress after these values.
  -- `low` follows from `least` and the greatest height of the values (`IsLowered`). (Our own.)
  pub record FindsSlots (from number to depth left visits least : ℕ) (q : Progress) (low : ℕ) : Type 0 where
    pub values : Trees
    pub count : count values ≡ number
    pub price : ℕ
    pub below : ℕ
    pub in_place : AreInPlace all base from to depth values price below
    pub comes : Comes all base to left visits (sizes values) price below q
    pub lowered : IsLowered deep depth (greatest values) least low

  -- Values are in place at the slots of the `number` rows from `from` on (`RowsInPlace`). `q` is the progress after
  -- these values. `low` follows from `least` and the greatest height of the values (`IsLowered`). (Our own.)
  pub record FindsRows (a b from number to depth left visits least : ℕ) (q : Progress) (low : ℕ) : Type 0 where
    pub values : Bodies
    pub count : count_rows values ≡ number
    pub price : ℕ
    pub below : ℕ
    pub in_place : RowsInPlace all base a b from to depth values price below
    pub comes : Comes all base to left visits (sizes_in_rows values) price below q
    pub lowered : IsLowered deep depth (greatest_in_rows values) least low

  -- A value is in place at the first slot of the pass `p` (`FindsValue`). (Our own.)
  abbrev pub FindsFirst : Pass → ℕ → Progress → ℕ → Type 0
  FindsFirst p least = FindsValue p.from p.next p.depth p.left p.visits least

  -- Values are in place at all slots of the pass `p` (`FindsSlots`). (Our own.)
  abbrev pub Finds : Pass → ℕ → Progress → ℕ → Type 0
  Finds p least = FindsSlots p.from (p.end - p.from) p.next p.depth p.left p.visits least

  -- Values are in place at the slots of all rows of `r` (`FindsRows`). (Our own.)
  abbrev pub FindsInRows : RowPass → ℕ → Progress → ℕ → Type 0
  FindsInRows r least = FindsRows r.tag.words r.tag.slots r.pass.from r.tag.count r.pass.next r.pass.depth r.pass.left
      r.pass.visits least

  -- If values are in place at all slots of the pass `r`, values are in place at all slots of the pass `p`, with the
  -- same progress `q` and the same `low`. (Our own.)
  abbrev pub Leads : Pass → ℕ → Pass → ℕ → Type 0
  Leads p least r later = (q : Progress) (low : ℕ) → Finds r later q low → Finds p least q low

  -- The pass `r` is open (`IsOpen`) and begins at a later slot than the pass `p`. If values are in place at all slots
  -- of `r`, values are in place at all slots of `p` (`Leads`). (Our own.)
  abbrev pub GoesOn : Pass → ℕ → Pass → ℕ → Type 0
  GoesOn p least r later = (p.from < r.from) × IsOpen all r × Leads p least r later

-- If `deep` is set, `low` is the lesser of `least` and `depth`. (Our own.)
abbrev pub IsLeast : Bool → ℕ → ℕ → ℕ → Type 0
IsLeast deep depth least low = IsTrue deep → low ≡ min least depth

module _ (all : List ℕ) (base : ℕ) where
  -- If `low` is the lesser of `least` and `p.depth - 1` (`IsLeast`), a value is in place at the first slot of the pass
  -- `p` (`FindsFirst`). `q` is the progress after that value. (Our own.)
  abbrev pub FindsPlain : Pass → Progress → Type 0
  FindsPlain p q = (deep : Bool) (least low : ℕ) → IsLeast deep (p.depth - 1) least low
      → FindsFirst all base deep p least q low

  -- If values are in place at all slots of the pass `r`, a value is in place at the first slot of the pass `p`, with
  -- the same progress `q` and the same `low`. (Our own.)
  abbrev pub Opens : Pass → Pass → Type 0
  Opens p r = (deep : Bool) (least here : ℕ) (q : Progress) (low : ℕ) → IsLeast deep r.depth least here
      → Finds all base deep r here q low → FindsFirst all base deep p least q low

  -- If values are in place at the slots of the rows `r`, a value is in place at the first slot of the pass `p`, with
  -- the same progress `q` and the same `low`. (Our own.)
  abbrev pub OpensRows : Pass → RowPass → Type 0
  OpensRows p r = (deep : Bool) (least here : ℕ) (q : Progress) (low : ℕ) → IsLeast deep r.pass.depth least here
      → FindsInRows all base deep r here q low → FindsFirst all base deep p least q low

-- The pass `p` is open (`IsOpen`) and has at least one slot. Its depth is at least 1, and so allows an object. (Our
-- own.)
pub record HasObject (all : List ℕ) (p : Pass) : Type 0 where
  pub some : p.from < p.end
  pub opened : IsOpen all p
  pub deep : 0 < p.depth

-- The pass `p` may have an object at its first slot (`HasObject`). That slot is the list pointer with the width `width`
-- and the count `n` to the next free word. (Our own.)
pub record HasList (all : List ℕ) (p : Pass) (width : Width) (n : ℕ) : Type 0 where
  pub object : HasObject all p
  pub word : slice_index all p.from ≡ list_to p.from p.next width n
  pub few : n < 2 ^ 29
