-- The indexes of small messages, computed from the definitions.
use Rattle.std.proofs.Common.{◌≡◌, ℕ, zero, suc, List, [], ◌∷◌, refl, arith}
use Rattle.capn_words.specs.Pointers.{pointer_of}
use Rattle.capn_value.specs.NumberWidth.{byte}
use Rattle.capn_value.specs.Tree.{node, numbers, no_trees, tree}
use Rattle.capn_value.specs.declared.tariff.Tariff.TheVariants.{Strict}
use Rattle.capn_walk.specs.declared.entry.Entry.{Entry}
use Rattle.capn_walk.specs.declared.kind.Kind.TheVariants as kinds
use Rattle.capn_target.specs.Target.{target}
use Rattle.capn_walk.specs.Limits.{Bounds}
use Rattle.capn_walk.specs.ValueAt.{AreElements}
use Rattle.capn_walk.specs.Index.{entries, index_of}
use Rattle.capn_walk.specs.IndexValues.{IsReadAt}

abbrev usual : Bounds
usual = record { message_words = 8388608; budget = 8388608; depth = 64; tariff = Strict }

-- the entry of a null slot
abbrev null : Entry
null = record { start = 0; segment = 0; count = 0; span = 1; words = 0; slots = 0; kind = kinds.Nil }

-- the entry of a struct in segment 0
abbrev struct : ℕ → ℕ → ℕ → ℕ → Entry
struct start words slots span =
    record { start = start; segment = 0; count = 0; span = span; words = words; slots = slots; kind = kinds.Node }

null_root : index_of ((0 ∷ []) ∷ []) usual ≡ null ∷ []
unfolding entries target pointer_of
null_root = refl

-- a struct of one slot, which names a list of three bytes
abbrev text : List (List ℕ)
text = (0x1000000000000 ∷ 0x1a00000001 ∷ 0xffffffffff636261 ∷ []) ∷ []

abbrev text_entries : List Entry
text_entries =
    record { start = 1; segment = 0; count = 0; span = 2; words = 0; slots = 1; kind = kinds.Node }
    ∷ record { start = 2; segment = 0; count = 3; span = 1; words = 0; slots = 0; kind = kinds.Bytes } ∷ []

text_index : index_of text usual ≡ text_entries
unfolding entries target pointer_of
text_index = refl

-- the three elements of the list are the letters `abc`
letters : AreElements 8 8 (0xffffffffff636261 ∷ []) (0x61 ∷ 0x62 ∷ 0x63 ∷ [])
letters zero h = refl
letters (suc zero) h = refl
letters (suc (suc zero)) h = refl
letters (suc (suc (suc i))) h = absurd (omega arith)

text_value : IsReadAt text text_entries 0 (node [] (tree (numbers byte (0x61 ∷ 0x62 ∷ 0x63 ∷ [])) no_trees))
text_value = record {
  segment = 0;
  start = 1;
  is = refl;
  inside = (refl, (record { segment = 0; start = 2; is = refl; inside = letters }, tt));
}

-- a list of two rows, each of one word and one slot. The first slot is null, and the second names a struct without
-- words.
two_rows : index_of
    ((0x1000000000000 ∷ 0x2700000001 ∷ 0x1000100000008 ∷ 7 ∷ 0 ∷ 8 ∷ 0xfffffffc ∷ []) ∷ []) usual
    ≡ struct 1 0 1 4 ∷ record { start = 2; segment = 0; count = 2; span = 3; words = 1; slots = 1; kind = kinds.Rows }
    ∷ null ∷ struct 6 0 0 1 ∷ []
unfolding entries target pointer_of
two_rows = refl

-- a struct that two slots name has two entries
shared : index_of ((0x2000000000000 ∷ 0x100000004 ∷ 0x100000000 ∷ 9 ∷ []) ∷ []) usual
    ≡ struct 1 0 2 3 ∷ struct 3 1 0 1 ∷ struct 3 1 0 1 ∷ []
unfolding entries target pointer_of
shared = refl
