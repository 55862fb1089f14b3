-- The walks of small messages, computed from the definitions.
use Rattle.std.proofs.Common.{◌≡◌, ℕ, List, [], ◌∷◌, refl}
use Rattle.capn_words.specs.declared.space.Place.{Place}
use Rattle.capn_words.specs.Pointers.{pointer_of}
use Rattle.capn_value.specs.Cost.{base}
use Rattle.capn_value.specs.declared.tariff.Tariff.TheVariants.{Strict, Plain}
use Rattle.capn_target.specs.declared.target.Fault.TheVariants as faults
use Rattle.capn_target.specs.Target.{target}
use Rattle.capn_walk.specs.Visits.{visits}
use Rattle.capn_walk.specs.Accepted.{root_visits}
use Rattle.capn_walk.specs.inner.Verdict.{Verdict, accepted, refused, verdict}

abbrev at : ℕ → ℕ → Place
at s w = record { segment = s; word = w }

-- the verdict under the strict tariff and the usual limits
abbrev usual : List (List ℕ) → Verdict
usual message = verdict message (base Strict) 8388608 64

-- the verdict under the plain tariff and the usual limits
abbrev plain : List (List ℕ) → Verdict
plain message = verdict message (base Plain) 8388608 64

null_root : usual ((0 ∷ []) ∷ []) ≡ accepted 0 1
unfolding verdict root_visits visits target pointer_of
null_root = refl

empty_struct_root : usual ((0xfffffffc ∷ []) ∷ []) ≡ accepted 1 1
unfolding verdict root_visits visits target pointer_of
empty_struct_root = refl

struct_of_one_word : usual ((0x100000000 ∷ 5 ∷ []) ∷ []) ≡ accepted 2 1
unfolding verdict root_visits visits target pointer_of
struct_of_one_word = refl

struct_with_trailing_zero_word : usual ((0x200000000 ∷ 5 ∷ 0 ∷ []) ∷ []) ≡ accepted 3 1
unfolding verdict root_visits visits target pointer_of
struct_with_trailing_zero_word = refl

struct_of_one_zero_word : usual ((0x100000000 ∷ 0 ∷ []) ∷ []) ≡ accepted 2 1
unfolding verdict root_visits visits target pointer_of
struct_of_one_zero_word = refl

struct_that_is_its_own_slot : usual ((0x10000fffffffc ∷ []) ∷ []) ≡ refused faults.TooDeep (at 0 0) 128 65
unfolding verdict root_visits visits target pointer_of
struct_that_is_its_own_slot = refl

struct_that_is_its_own_slot_at_the_budget : verdict ((0x10000fffffffc ∷ []) ∷ []) 1 128 64
    ≡ refused faults.TooDeep (at 0 0) 128 65
unfolding verdict root_visits visits target pointer_of
struct_that_is_its_own_slot_at_the_budget = refl

struct_that_is_its_own_slot_one_below_the_budget : verdict ((0x10000fffffffc ∷ []) ∷ []) 1 127 64
    ≡ refused faults.OverBudget (at 0 0) 126 64
unfolding verdict root_visits visits target pointer_of
struct_that_is_its_own_slot_one_below_the_budget = refl

struct_that_is_its_own_slot_with_budget_9 : verdict ((0x10000fffffffc ∷ []) ∷ []) 1 9 64
    ≡ refused faults.OverBudget (at 0 0) 8 5
unfolding verdict root_visits visits target pointer_of
struct_that_is_its_own_slot_with_budget_9 = refl

struct_that_is_its_own_slot_256_deep : verdict ((0x10000fffffffc ∷ []) ∷ []) 1 8388608 256
    ≡ refused faults.TooDeep (at 0 0) 512 257
unfolding verdict root_visits visits target pointer_of
struct_that_is_its_own_slot_256_deep = refl

far_pointer : usual ((0x100000002 ∷ []) ∷ (0x100000000 ∷ 5 ∷ []) ∷ []) ≡ accepted 3 1
unfolding verdict root_visits visits target pointer_of
far_pointer = refl

list_of_536870911_voids : usual ((0x1000000000000 ∷ 0xfffffff800000001 ∷ []) ∷ [])
    ≡ refused faults.OverBudget (at 0 1) 2 2
unfolding verdict root_visits visits target pointer_of
list_of_536870911_voids = refl

double_far_pointer : usual ((0x100000006 ∷ []) ∷ (0x200000002 ∷ 0x100000000 ∷ []) ∷ (5 ∷ []) ∷ []) ≡ accepted 4 1
unfolding verdict root_visits visits target pointer_of
double_far_pointer = refl

rows_of_which_the_last_is_zero : usual ((0x1000000000000 ∷ 0x1700000001 ∷ 0x100000008 ∷ 7 ∷ 0 ∷ []) ∷ []) ≡ accepted 6 2
unfolding verdict root_visits visits target pointer_of
rows_of_which_the_last_is_zero = refl

rows_all_zero : usual ((0x1000000000000 ∷ 0x1700000001 ∷ 0x100000008 ∷ 0 ∷ 0 ∷ []) ∷ []) ≡ accepted 6 2
unfolding verdict root_visits visits target pointer_of
rows_all_zero = refl

rows_of_no_words : usual ((0x1000000000000 ∷ 0x700000001 ∷ 8 ∷ []) ∷ []) ≡ accepted 6 2
unfolding verdict root_visits visits target pointer_of
rows_of_no_words = refl

rows_past_the_pointers_count : usual ((0x1000000000000 ∷ 0x1700000001 ∷ 0x10000000c ∷ 7 ∷ 0 ∷ []) ∷ [])
    ≡ refused faults.TagOverrun (at 0 1) 2 2
unfolding verdict root_visits visits target pointer_of
rows_past_the_pointers_count = refl

three_bytes_and_junk_behind_them : usual ((0x1000000000000 ∷ 0x1a00000001 ∷ 0xffffffffff636261 ∷ []) ∷ [])
    ≡ accepted 4 2
unfolding verdict root_visits visits target pointer_of
three_bytes_and_junk_behind_them = refl

shared_struct : usual ((0x2000000000000 ∷ 0x100000004 ∷ 0x100000000 ∷ 9 ∷ []) ∷ []) ≡ accepted 7 3
unfolding verdict root_visits visits target pointer_of
shared_struct = refl

capability_in_a_slot : usual ((0x1000000000000 ∷ 0x200000003 ∷ []) ∷ []) ≡ accepted 2 2
unfolding verdict root_visits visits target pointer_of
capability_in_a_slot = refl

no_bytes : usual ([] ∷ []) ≡ refused faults.NoRoot (at 0 0) 0 0
unfolding verdict root_visits visits target pointer_of
no_bytes = refl

struct_past_the_segments_end : usual ((0x100000004 ∷ 5 ∷ []) ∷ []) ≡ refused faults.Range (at 0 0) 0 1
unfolding verdict root_visits visits target pointer_of
struct_past_the_segments_end = refl

list_as_root : usual ((0x200000001 ∷ []) ∷ []) ≡ accepted 1 1
unfolding verdict root_visits visits target pointer_of
list_as_root = refl

rows_as_root : usual ((0xf00000001 ∷ 0x100000004 ∷ 0 ∷ []) ∷ []) ≡ accepted 3 1
unfolding verdict root_visits visits target pointer_of
rows_as_root = refl

list_of_slots_as_root : verdict ((0xe00000001 ∷ 0xfffffffc ∷ []) ∷ []) 1 8388608 1 ≡ refused faults.TooDeep (at 0 1) 2 2
unfolding verdict root_visits visits target pointer_of
list_of_slots_as_root = refl

capability_as_root : usual ((0x200000003 ∷ []) ∷ []) ≡ refused faults.RootKind (at 0 0) 0 1
unfolding verdict root_visits visits target pointer_of
capability_as_root = refl

reserved_root : usual ((7 ∷ []) ∷ []) ≡ refused faults.Reserved (at 0 0) 0 1
unfolding verdict root_visits visits target pointer_of
reserved_root = refl

far_pointer_to_no_segment : usual ((0x100000002 ∷ []) ∷ []) ≡ refused faults.NoSegment (at 0 0) 0 1
unfolding verdict root_visits visits target pointer_of
far_pointer_to_no_segment = refl

pad_behind_the_segments_end : usual ((0xa ∷ []) ∷ []) ≡ refused faults.PadRange (at 0 0) 0 1
unfolding verdict root_visits visits target pointer_of
pad_behind_the_segments_end = refl

pad_that_is_the_far_pointer_itself : usual ((2 ∷ []) ∷ []) ≡ refused faults.BadPad (at 0 0) 0 1
unfolding verdict root_visits visits target pointer_of
pad_that_is_the_far_pointer_itself = refl

pad_of_zeros : usual ((0x100000002 ∷ []) ∷ (0 ∷ []) ∷ []) ≡ refused faults.BadPad (at 0 0) 0 1
unfolding verdict root_visits visits target pointer_of
pad_of_zeros = refl

composite_tag_that_is_a_list_pointer : usual ((0x1000000000000 ∷ 0x700000001 ∷ 1 ∷ []) ∷ [])
    ≡ refused faults.BadTag (at 0 1) 2 2
unfolding verdict root_visits visits target pointer_of
composite_tag_that_is_a_list_pointer = refl

trailing_pointer_to_an_empty_struct : usual ((0x1000000000000 ∷ 0xfffffffc ∷ []) ∷ []) ≡ accepted 3 2
unfolding verdict root_visits visits target pointer_of
trailing_pointer_to_an_empty_struct = refl

empty_composite_list_with_sizes : usual ((0x1000000000000 ∷ 0x700000001 ∷ 0x3000200000000 ∷ []) ∷ []) ≡ accepted 4 2
unfolding verdict root_visits visits target pointer_of
empty_composite_list_with_sizes = refl

ten_bits_and_junk_behind_them : usual ((0x1000000000000 ∷ 0x5100000001 ∷ 0xffff ∷ []) ∷ []) ≡ accepted 4 2
unfolding verdict root_visits visits target pointer_of
ten_bits_and_junk_behind_them = refl

list_of_two_null_pointers : usual ((0x1000000000000 ∷ 0x1600000001 ∷ 0 ∷ 0 ∷ []) ∷ []) ≡ accepted 5 4
unfolding verdict root_visits visits target pointer_of
list_of_two_null_pointers = refl

empty_byte_list_before_a_struct : usual ((0x2000000000000 ∷ 0x200000001 ∷ 0x100000000 ∷ 9 ∷ []) ∷ []) ≡ accepted 6 3
unfolding verdict root_visits visits target pointer_of
empty_byte_list_before_a_struct = refl

two_words_of_slack : usual ((0x1000000000000 ∷ 0x1f00000001 ∷ 0x100000004 ∷ 7 ∷ 8 ∷ 9 ∷ []) ∷ []) ≡ accepted 7 2
unfolding verdict root_visits visits target pointer_of
two_words_of_slack = refl

no_slack : usual ((0x1000000000000 ∷ 0xf00000001 ∷ 0x100000004 ∷ 7 ∷ []) ∷ []) ≡ accepted 5 2
unfolding verdict root_visits visits target pointer_of
no_slack = refl

-- ---- the same messages under the plain tariff

plain-null_root : plain ((0 ∷ []) ∷ []) ≡ accepted 0 1
unfolding verdict root_visits visits target pointer_of
plain-null_root = refl

plain-empty_struct_root : plain ((0xfffffffc ∷ []) ∷ []) ≡ accepted 0 1
unfolding verdict root_visits visits target pointer_of
plain-empty_struct_root = refl

plain-struct_of_one_word : plain ((0x100000000 ∷ 5 ∷ []) ∷ []) ≡ accepted 1 1
unfolding verdict root_visits visits target pointer_of
plain-struct_of_one_word = refl

plain-struct_that_is_its_own_slot : plain ((0x10000fffffffc ∷ []) ∷ []) ≡ refused faults.TooDeep (at 0 0) 64 65
unfolding verdict root_visits visits target pointer_of
plain-struct_that_is_its_own_slot = refl

plain-far_pointer : plain ((0x100000002 ∷ []) ∷ (0x100000000 ∷ 5 ∷ []) ∷ []) ≡ accepted 2 1
unfolding verdict root_visits visits target pointer_of
plain-far_pointer = refl

plain-list_of_536870911_voids : plain ((0x1000000000000 ∷ 0xfffffff800000001 ∷ []) ∷ [])
    ≡ refused faults.OverBudget (at 0 1) 1 2
unfolding verdict root_visits visits target pointer_of
plain-list_of_536870911_voids = refl

plain-double_far_pointer : plain ((0x100000006 ∷ []) ∷ (0x200000002 ∷ 0x100000000 ∷ []) ∷ (5 ∷ []) ∷ []) ≡ accepted 3 1
unfolding verdict root_visits visits target pointer_of
plain-double_far_pointer = refl

plain-rows_of_which_the_last_is_zero : plain ((0x1000000000000 ∷ 0x1700000001 ∷ 0x100000008 ∷ 7 ∷ 0 ∷ []) ∷ [])
    ≡ accepted 4 2
unfolding verdict root_visits visits target pointer_of
plain-rows_of_which_the_last_is_zero = refl

plain-rows_of_no_words : plain ((0x1000000000000 ∷ 0x700000001 ∷ 8 ∷ []) ∷ []) ≡ accepted 4 2
unfolding verdict root_visits visits target pointer_of
plain-rows_of_no_words = refl

plain-shared_struct : plain ((0x2000000000000 ∷ 0x100000004 ∷ 0x100000000 ∷ 9 ∷ []) ∷ []) ≡ accepted 4 3
unfolding verdict root_visits visits target pointer_of
plain-shared_struct = refl

plain-list_of_two_null_pointers : plain ((0x1000000000000 ∷ 0x1600000001 ∷ 0 ∷ 0 ∷ []) ∷ []) ≡ accepted 3 4
unfolding verdict root_visits visits target pointer_of
plain-list_of_two_null_pointers = refl

plain-struct_that_is_its_own_slot_with_budget_9 : verdict ((0x10000fffffffc ∷ []) ∷ []) (base Plain) 9 64
    ≡ refused faults.OverBudget (at 0 0) 9 10
unfolding verdict root_visits visits target pointer_of
plain-struct_that_is_its_own_slot_with_budget_9 = refl
