-- The relations between the input and the output of single steps of packing and unpacking.
use Rattle.std.specs.Prelude.{ℕ, ◌≡◌, ◌+◌, ◌-◌, ◌*◌, ◌<◌, ◌≤◌, ◌++◌, List, length, take, drop, slice_range, replicate}
use Rattle.std.specs.Prelude.{Option, Some, None, Result, Ok, Err}
use Rattle.std.specs.List.{AllByRecursion}
use Rattle.capn_pack.specs.Packed.{Group, IsGroup, group_text, group_bytes, group_words, texts, contents, word_count}
use Rattle.capn_pack.specs.Chosen.{AllDense, IsChoice, IsChosenRow}
use Rattle.capn_pack.specs.UnpackRefusal.{IsCut, IsTooLong, StartsWithin}
use Rattle.capn_pack.specs.declared.block.Block.{Block}
use Rattle.capn_pack.specs.declared.unpack_block.TheConstants.{REACH}
use Rattle.capn_pack.specs.declared.unpack_group.TheConstants.{GROUP}
use Rattle.capn_pack.specs.declared.unpack_group.Stop.{Stop}
use Rattle.capn_pack.specs.declared.unpack_group.Stop.TheVariants.{Memory, Cut, TooLong}
use Rattle.capn_pack.specs.declared.unpack_group.Taken.{Taken}

-- The group at the front of `rest` has `taken` bytes and `count` words, at most `room`. The bytes of the words,
-- appended to `old`, give `new`.
pub record Takes (rest : List ℕ) (room taken count : ℕ) (old new : List ℕ) : Type 0 where
  pub group : Group
  pub is_group : IsGroup group
  pub within : taken ≤ length rest
  pub text : take taken rest ≡ group_text group
  pub counted : count ≡ group_words group
  pub fits : count ≤ room
  pub content : new ≡ old ++ group_bytes group

-- The result of reading the group at the front of `rest`. For `Ok`, the group's words were appended to `old`. For an
-- error, nothing was appended, and `StartsWithin`, `IsCut` or `IsTooLong` holds of `rest` and `room`.
abbrev pub TakeGives : List ℕ → ℕ → List ℕ → Result Taken Stop → List ℕ → Type 0
TakeGives rest room old (Ok taken) new = Takes rest room taken.bytes taken.words old new
TakeGives rest room old (Err Memory) new = StartsWithin rest room × (new ≡ old)
TakeGives rest room old (Err Cut) new = IsCut room rest × (length rest < GROUP) × (new ≡ old)
TakeGives rest room old (Err TooLong) new = IsTooLong room rest × (new ≡ old)

-- The group at offset `at` of `text` has `count` words, at most 8, and at most `REACH` bytes, and ends at `f.at`. The
-- group's words fill the block `new` from `fill` to `f.fill`.
pub record Fills (text : List ℕ) (at fill count : ℕ) (old new : List ℕ) (f : Block) : Type 0 where
  pub forward : at < f.at
  pub reach : f.at ≤ at + REACH
  pub takes : Takes (slice_range text at (length text)) 8 (f.at - at) count (take fill old) (take f.fill new)

-- The result of reading one group into a block. For `Some`, the group's words fill the block from `fill` on. For
-- `None`, the block is unchanged.
abbrev pub FillGives : List ℕ → ℕ → ℕ → List ℕ → List ℕ → Option Block → Type 0
FillGives text at fill old new (Some f) = (count : ℕ) × Fills text at fill count old new f
FillGives text at fill old new None = new ≡ old

-- The first `taken` bytes of `rest` are complete groups. The bytes of their words, appended to `old`, give `new`.
pub record TakesRow (rest : List ℕ) (taken : ℕ) (old new : List ℕ) : Type 0 where
  pub groups : List Group
  pub each : AllByRecursion IsGroup groups
  pub within : taken ≤ length rest
  pub text : take taken rest ≡ texts groups
  pub content : new ≡ old ++ contents groups

-- The group that the packer chooses for the words from offset `at` to `next` was appended to `old`, which gives `new`.
pub record Puts (bytes : List ℕ) (at next : ℕ) (old new : List ℕ) : Type 0 where
  pub group : Group
  pub is_group : IsGroup group
  pub choice : IsChoice group (drop next bytes)
  pub span : next ≡ at + 8 * group_words group
  pub inside : next ≤ length bytes
  pub content : drop at bytes ≡ group_bytes group ++ drop next bytes
  pub text : new ≡ old ++ group_text group

-- The groups that the packer chooses for the words from offset `at` to `next` were appended to `old`, which gives
-- `new`.
pub record PutsRow (bytes : List ℕ) (at next : ℕ) (old new : List ℕ) : Type 0 where
  pub groups : List Group
  pub chosen : (more : List Group) → contents more ≡ drop next bytes → IsChosenRow more → IsChosenRow (groups ++ more)
  pub span : next ≡ at + 8 * word_count groups
  pub inside : next ≤ length bytes
  pub content : drop at bytes ≡ contents groups ++ drop next bytes
  pub text : new ≡ old ++ texts groups

-- The `count` words from offset `start` on are zero, and `count` is at most 255.
pub record IsZeroRun (bytes : List ℕ) (start count : ℕ) : Type 0 where
  pub most : count ≤ 255
  pub inside : start + 8 * count ≤ length bytes
  pub zeros : drop start bytes ≡ replicate (8 * count) 0 ++ drop (start + 8 * count) bytes

-- The `count` words from offset `start` on are dense, and `count` is at most `limit`.
pub record IsDenseRun (bytes : List ℕ) (start limit count : ℕ) : Type 0 where
  pub most : count ≤ limit
  pub inside : start + 8 * count ≤ length bytes
  pub dense : AllDense count (slice_range bytes start (start + 8 * count))
