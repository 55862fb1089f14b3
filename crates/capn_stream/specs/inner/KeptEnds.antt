-- The ends of the segments of a message. The first 63 are in an array, and the others in a list.
use Rattle.std.specs.Prelude.{◌≡◌, ℕ, ◌-◌, List, ◌++◌, length, take}
use Rattle.capn_stream.specs.declared.ends.Ends.{Ends}

module _ {A : Type 0} where
  -- all ends that `ends` has, in order
  abbrev pub kept : Ends A → List ℕ
  kept ends = take ends.count ends.few ++ ends.rest.items

  -- the array `few` has 63 places, and the list `rest` has the ends from number 63 on
  abbrev pub AreKept : Ends A → Type 0
  AreKept ends = (length ends.few ≡ 63) × (length ends.rest.items ≡ ends.count - 63)
