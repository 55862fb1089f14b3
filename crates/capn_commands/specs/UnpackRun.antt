-- Unpacking a stream: the words of its complete groups, and the result if the last group is cut off. (Page: packing;
-- the rest is our own.)
use Rattle.std.specs.Prelude.{◌≡◌, ℕ, ◌+◌, ◌<◌, List, [], ◌∷◌, length, drop, replicate, refl, Bool, true, false, Option}
use Rattle.std.specs.Prelude.{Result, Ok, Err}
use Rattle.std.specs.Io.KnownBytes.{Appends}
use Rattle.capn_pack.specs.Packed.{Group, contents, texts}
use Rattle.capn_pack.specs.Packed.Group.{Named, Zeros}
use Rattle.capn_pack.specs.PackedPieces as packing
use Rattle.capn_pack.specs.PackedPieces.{Splits}
use Rattle.capn_pack.specs.WholeGroups.{UnpacksSome, most_group}
use Rattle.capn_pack.specs.declared.whole_groups.Progress.{Progress}
use Rattle.capn_commands.specs.declared.flow_fault.FlowFault.{FlowFault}
use Rattle.capn_commands.specs.declared.flow_fault.FlowFault.TheVariants as faults
use Rattle.capn_commands.specs.Flow.{Ending, Flow, Stops}

-- The result of unpacking. It is `InputTooLong` if the first argument is true. Otherwise it is `Cut offset` if bytes of
-- a group are left, and `Ok` if no bytes are left.
abbrev pub ending_of : Bool → List ℕ → ℕ → Ending
ending_of true group offset = Err faults.InputTooLong
ending_of false [] offset = Ok tt
ending_of false (b ∷ group) offset = Err (faults.Cut offset)

-- `bytes` are complete groups, which unpack to `words`, and then `group`, an unfinished group or nothing. `ending` is
-- the result of unpacking.
pub record IsUnpacked (bytes : List ℕ) (is_longer : Bool) (words : List ℕ) (ending : Ending) : Type 0 where
  pub group : List ℕ
  pub offset : ℕ
  pub split : Splits bytes group [] words offset
  pub ends : ending ≡ ending_of is_longer group offset

-- The complete groups at the front of `bytes` unpack to `words`.
abbrev pub UnpacksTo : List ℕ → List ℕ → Type 0
UnpacksTo bytes words = (group : List ℕ) × (offset : ℕ) × Splits bytes group [] words offset

-- Unpacking as a `Flow`. The words of all complete groups are written before each read, and at the end.
abbrev pub unpacking : Flow
unpacking = record { gives = IsUnpacked; settles = UnpacksTo; begins = λ bytes words. packing.Begins bytes [] words }

-- Example: a group of one word, and then a group of two zero words.
abbrev two_groups : List Group
two_groups = Named 81 (8 ∷ 0 ∷ 0 ∷ 0 ∷ 3 ∷ 0 ∷ 2 ∷ 0 ∷ []) ∷ Zeros 1 ∷ []

their_text : texts two_groups ≡ 81 ∷ 8 ∷ 3 ∷ 2 ∷ 0 ∷ 1 ∷ []
their_text = refl

their_words : contents two_groups ≡ 8 ∷ 0 ∷ 0 ∷ 0 ∷ 3 ∷ 0 ∷ 2 ∷ 0 ∷ replicate 16 0
their_words = refl

a_cut_behind_them : ending_of false (16 ∷ 9 ∷ []) (length (texts two_groups)) ≡ Err (faults.Cut 6)
a_cut_behind_them = refl

nothing_behind_them : ending_of false [] 6 ≡ Ok tt
nothing_behind_them = refl

-- ---- the progress of unpacking

-- The greatest number of words that a run holds at once.
abbrev pub most_words : ℕ
most_words = 16384

-- After `Ok p`, the `words` of the first complete groups of `bytes` were written, as `UnpacksSome` states for `p`.
-- After `Err`, the run stopped with `fault` (`Stops`).
abbrev pub WritesSome : List ℕ → Option (List ℕ) → Option (List ℕ) → Bool → Result Progress FlowFault → Type 0
WritesSome bytes c d failed (Ok p) =
    (words : List ℕ) × UnpacksSome bytes most_words [] words p.bytes p.words p.next × Appends c d words
    × (failed ≡ false)
WritesSome bytes c d failed (Err fault) = Stops unpacking bytes c d failed fault

-- After `Ok at`, the first `at` bytes of `bytes` are its complete groups, and the `words` of these groups were written.
-- After `Err`, the run stopped with `fault` (`Stops`).
abbrev pub WritesGroups : List ℕ → Option (List ℕ) → Option (List ℕ) → Bool → Result ℕ FlowFault → Type 0
WritesGroups bytes c d failed (Ok at) =
    (words : List ℕ) × Splits bytes (drop at bytes) [] words at × (length bytes < at + most_group) × Appends c d words
    × (failed ≡ false)
WritesGroups bytes c d failed (Err fault) = Stops unpacking bytes c d failed fault
