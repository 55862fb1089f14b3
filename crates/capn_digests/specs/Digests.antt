-- The set of digests as contracts see it, and the condition under which one more digest may need memory.
use Rattle.std.specs.Prelude.{◌≡◌, ℕ, ◌+◌, ◌*◌, ◌-◌, ◌<◌, ◌≤◌, ◌/◌, ◌%◌, ◌^◌, ◌⊎◌, List, length, [], map}
use Rattle.std.specs.Prelude.{slice_index_or}
use Rattle.std.specs.FinSet as set
use Rattle.std.specs.Ordering.{nat_cmp}
use Rattle.std.specs.Cmp.Lexicographic.{slice_cmp}
use Rattle.capn_digests.specs.declared.slot.Head.{Head}
use Rattle.capn_digests.specs.Tag.{tag}
use Rattle.capn_digests.specs.Buckets.{no_head}

-- `seen` is the set of the digests, `listed` is the number of digests in the list, and `room` is the list's capacity.
-- `taken` has, for each bucket of the table, the number of its sixteen slots that are taken.
pub record Digests : Type 0 where
  pub seen : set.FinSet (slice_cmp nat_cmp)
  pub listed : ℕ
  pub room : ℕ
  pub taken : List ℕ

-- the empty set, with no capacity and no buckets
abbrev pub no_digests : Digests
no_digests = record { seen = set.empty; listed = 0; room = 0; taken = [] }

-- the number of taken slots of each head in `heads`
abbrev pub counts : List Head → List ℕ
counts heads = map (λ (h : Head). h.count) heads

-- the number of slots that are taken in the bucket of the tag `t`
abbrev pub count_of : List Head → ℕ → ℕ
count_of heads t = (slice_index_or heads (t % length heads) no_head).count

-- a list of `count` digests has reached its `capacity`, or has at least eight digests for each of `buckets` buckets
abbrev pub HasToGrow : ℕ → ℕ → ℕ → Type 0
HasToGrow count capacity buckets = (capacity ≤ count) ⊎ (buckets ≤ count / 8)

-- the number of slots that are taken in the bucket of `digest`
abbrev pub taken_for : Digests → List ℕ → ℕ
taken_for s digest = slice_index_or s.taken (tag digest % length s.taken) 0

-- Inserting `digest` may need memory: the list or the table has to grow, or the digest goes into the tree. It goes into
-- the tree if each slot of its bucket is taken, or if the list is too long for a 32-bit index.
abbrev pub MayGrow : Digests → List ℕ → Type 0
MayGrow s digest =
    HasToGrow s.listed s.room (length s.taken) ⊎ ((16 ≤ taken_for s digest) ⊎ (2 ^ 32 - 1 ≤ s.listed))

-- The growth from `old` to `new` by `digest`. A full list of `n` digests gets capacity for at least `n / 8 + 16` more.
-- A table that had to grow has a bucket, and at least twice as many buckets as before. If the bucket of `digest` had a
-- free slot, and the list had fewer than 2^32 - 1 digests, the list is longer by one.
pub record HasGrown (old new : Digests) (digest : List ℕ) : Type 0 where
  pub room : old.room ≤ new.room
  pub list : old.room ≤ old.listed → old.listed + (old.listed / 8 + 16) ≤ new.room
  pub buckets : length old.taken ≤ length new.taken
  pub table : length old.taken ≤ old.listed / 8 → (0 < length new.taken) × (2 * length old.taken ≤ length new.taken)
  pub listed : taken_for old digest < 16 → old.listed < 2 ^ 32 - 1 → new.listed ≡ old.listed + 1
