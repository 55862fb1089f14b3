-- The table of buckets, which shows where in the list a digest may be, or that the tree may have it.
use Rattle.std.specs.Prelude.{◌≡◌, ℕ, ◌+◌, ◌<◌, ◌%◌, List, length, [], ◌++◌, true, false}
use Rattle.std.specs.Prelude.{slice_index_or, bit_and}
use Rattle.std.specs.List.{All}
use Rattle.std.specs.Ordering.{nat_cmp}
use Rattle.std.specs.Cmp.Lexicographic.{slice_cmp}
use Rattle.std.specs.FinSet as set
use Rattle.capn_digests.specs.declared.slot.Slot.{Slot}
use Rattle.capn_digests.specs.declared.slot.Head.{Head}
use Rattle.capn_digests.specs.Tag.{tag, marks, more}

abbrev pub no_slot : Slot
no_slot = record { tag = 0; at = 0 }

abbrev pub no_head : Head
no_head = record { marks = 0; more = 0; count = 0; overflowed = false }

-- `head` has all marks of the tag `t`
abbrev pub IsMarked : Head → ℕ → Type 0
IsMarked head t = (bit_and head.marks (marks t) ≡ marks t) × (bit_and head.more (more t) ≡ more t)

-- `slot` is one of the slots of `bucket` that are taken, and its tag is marked in `head`
pub record IsHeld (head : Head) (bucket : List Slot) (slot : Slot) : Type 0 where
  pub place : ℕ
  pub taken : place < head.count
  pub within : place < length bucket
  pub is : slice_index_or bucket place no_slot ≡ slot
  pub marked : IsMarked head slot.tag

-- in a table of `buckets` buckets, the bucket of the tag of `slot` holds `slot`
abbrev pub IsHeldAt : ℕ → List Head → List (List Slot) → Slot → Type 0
IsHeldAt buckets heads table slot =
    (slot.tag % buckets < buckets)
    × IsHeld (slice_index_or heads (slot.tag % buckets) no_head) (slice_index_or table (slot.tag % buckets) []) slot

-- in a table of `buckets` buckets, the bucket of the tag `t` has overflowed
abbrev pub IsOverflowed : ℕ → List Head → ℕ → Type 0
IsOverflowed buckets heads t =
    (t % buckets < buckets) × ((slice_index_or heads (t % buckets) no_head).overflowed ≡ true)

-- the slot for `digest` at index `at` of the list
abbrev pub slot_of : List ℕ → ℕ → Slot
slot_of digest at = record { tag = tag digest; at = at }

-- The bucket of each digest in `list` holds the digest's slot. The bucket of each digest in the tree, `rest`, has
-- overflowed.
pub record IsFound (list : List (List ℕ)) (heads : List Head) (table : List (List Slot)) (rest : List (List ℕ))
    : Type 0 where
  pub buckets : ℕ
  pub headed : length heads ≡ buckets
  pub tabled : length table ≡ buckets
  pub listed : (i : ℕ) → i < length list → IsHeldAt buckets heads table (slot_of (slice_index_or list i []) i)
  pub others : All (λ (d : List ℕ). IsOverflowed buckets heads (tag d)) rest

-- the set of the digests in `list` and in the tree `rest`
abbrev pub digests_of : List (List ℕ) → List (List ℕ) → set.FinSet (slice_cmp nat_cmp)
digests_of list rest = set.from_list (list ++ rest)

-- `IsFound` holds of the list, the table and the tree, and no digest stands twice in `list ++ rest`.
pub record IsIndexed (list : List (List ℕ)) (heads : List Head) (table : List (List Slot)) (rest : List (List ℕ))
    : Type 0 where
  pub found : IsFound list heads table rest
  pub counted : set.len (digests_of list rest) ≡ length list + length rest
