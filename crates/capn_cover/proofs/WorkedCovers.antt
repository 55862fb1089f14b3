-- Worked covers of messages, each within four levels of objects.
use Rattle.std.proofs.Common.{◌≡◌, ℕ, zero, suc, false, true, if◌then◌else◌, List, [], ◌∷◌, refl}
use Rattle.capn_words.specs.Pointers.{pointer_of}
use Rattle.capn_value.specs.declared.tariff.Tariff.TheVariants as tariffs
use Rattle.capn_target.specs.Target.{target}
use Rattle.capn_walk.specs.Visits.{visits}
use Rattle.capn_walk.specs.Accepted.{root_visits}
use Rattle.capn_walk.specs.Limits.{Bounds}
use Rattle.capn_cover.specs.declared.covered.Covered.{Covered}
use Rattle.capn_cover.specs.declared.covered.Role.{Role}
use Rattle.capn_cover.specs.declared.covered.Role.TheVariants as roles
use Rattle.capn_cover.specs.Parts.{differs}
use Rattle.capn_cover.specs.Cuts.{is_cut}
use Rattle.capn_cover.specs.Covers.{coverings, cover_at, is_read, unreached}

limits : Bounds
limits = record { message_words = 100; budget = 100; depth = 4; tariff = tariffs.Plain }

-- what the coverings make of `n` words from the number `w` on
abbrev words : List (List ℕ) → (w n : ℕ) → List Covered
words m w zero = []
words m w (suc n) = cover_at m (coverings m limits) w ∷ words m (suc w) n

-- a word that is covered `n` times, first by the visit of the slot with the given number, which is the holder if the
-- word is a slot in that role
abbrev covered : (n slot : ℕ) → Role → Covered
covered n slot role = record {
  times = n;
  slot = slot;
  holder = if is_read role then slot else 0;
  role = role;
  overlap = false;
  is_followed = false;
  cut = false;
}

-- a slot that leads to words
abbrev followed : (n slot : ℕ) → Role → Covered
followed n slot role = record (covered n slot role) { is_followed = true }

-- a word that canonical bytes leave out of its object
abbrev cut : Covered → Covered
cut x = record x { cut = true }

-- a struct with a number and a list of three bytes
one_each : words ((0x1_0001_0000_0000 ∷ 5 ∷ 0x1a_0000_0001 ∷ 0x6261 ∷ []) ∷ []) 0 4
    ≡ followed 1 0 roles.Root ∷ covered 1 0 roles.Data ∷ followed 1 0 roles.Slot ∷ covered 1 2 roles.Numbers ∷ []
unfolding limits visits root_visits target pointer_of differs is_cut
one_each = refl

-- a text that was set twice, so that nothing reaches the first one any longer
set_twice : words ((0x1_0000_0000_0000 ∷ 0x32_0000_0005 ∷ 0x61_6441 ∷ 0x65_6361_7247 ∷ []) ∷ []) 0 4
    ≡ followed 1 0 roles.Root ∷ followed 1 0 roles.Slot ∷ unreached ∷ covered 1 1 roles.Numbers ∷ []
unfolding limits visits root_visits target pointer_of differs is_cut
set_twice = refl

-- a landing pad, a text that two slots share, and a word and a slot that canonical bytes leave out
shared : words ((0x1_0000_0002 ∷ []) ∷ (0x3_0001_0000_0000 ∷ 0 ∷ 0x1a_0000_0009 ∷ 0x1a_0000_0005 ∷ 0 ∷ 0x6968
    ∷ []) ∷ []) 0 7
    ≡ followed 1 0 roles.Root ∷ covered 1 0 roles.Pad ∷ cut (covered 1 0 roles.Data) ∷ followed 1 0 roles.Slot
    ∷ followed 1 0 roles.Slot ∷ cut (covered 1 0 roles.Slot) ∷ covered 2 3 roles.Numbers ∷ []
unfolding limits visits root_visits target pointer_of differs is_cut
shared = refl

-- the row that is a list of numbers too
overlap : Covered
overlap = record (covered 2 1 roles.Data) { overlap = true }

-- two rows of one word, of which the second is a list of two u32 too, and a word behind them
rows : words ((0x2_0000_0000_0000 ∷ 0x1f_0000_0005 ∷ 0x14_0000_0009 ∷ 0x1_0000_0008 ∷ 7 ∷ 9
    ∷ 0xffff_ffff_ffff_ffff ∷ []) ∷ []) 0 7
    ≡ followed 1 0 roles.Root ∷ followed 1 0 roles.Slot ∷ followed 1 0 roles.Slot ∷ covered 1 1 roles.Tag
    ∷ covered 1 1 roles.Data ∷ overlap ∷ covered 1 1 roles.Slack ∷ []
unfolding limits overlap visits root_visits target pointer_of differs is_cut
rows = refl

-- two rows of two words and one slot each: the zero of the second row stands where the first row has a number
even_rows : words ((0x37_0000_0001 ∷ 0x1_0002_0000_0008 ∷ 7 ∷ 0 ∷ 0 ∷ 0 ∷ 0 ∷ 0 ∷ []) ∷ []) 0 8
    ≡ followed 1 0 roles.Root ∷ covered 1 0 roles.Tag ∷ covered 1 0 roles.Data ∷ cut (covered 1 0 roles.Data)
    ∷ cut (covered 1 0 roles.Slot) ∷ covered 1 0 roles.Data ∷ cut (covered 1 0 roles.Data)
    ∷ cut (covered 1 0 roles.Slot) ∷ []
unfolding limits visits root_visits target pointer_of differs is_cut
even_rows = refl

-- the word of a struct, which a later list of pointers reads as a slot
read_later : Covered
read_later = record (covered 2 1 roles.Data) { overlap = true; holder = 2; cut = true }

-- a struct of a zero word, and a list of one pointer at that word
late_slot : words ((0x2_0000_0000_0000 ∷ 0x1_0000_0004 ∷ 0xe_0000_0001 ∷ 0 ∷ []) ∷ []) 0 4
    ≡ followed 1 0 roles.Root ∷ followed 1 0 roles.Slot ∷ followed 1 0 roles.Slot ∷ read_later ∷ []
unfolding limits read_later visits root_visits target pointer_of differs is_cut
late_slot = refl

-- the second slot of a struct, which is the one slot of the object of the first slot too
reached_first : Covered
reached_first = record (followed 2 0 roles.Slot) { overlap = true; holder = 1 }

-- a slot that the walk first comes to through another object than the one to which it belongs
early_slot : words ((0x2_0000_0000_0000 ∷ 0x1_0000_0000_0000 ∷ 0x1_0000_0000 ∷ 7 ∷ []) ∷ []) 0 4
    ≡ followed 1 0 roles.Root ∷ followed 1 0 roles.Slot ∷ reached_first ∷ covered 2 2 roles.Data ∷ []
unfolding limits reached_first visits root_visits target pointer_of differs is_cut
early_slot = refl
