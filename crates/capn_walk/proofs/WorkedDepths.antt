-- The depths of small messages, computed from the definitions.
use Rattle.std.proofs.Common.{◌≡◌, ℕ, List, [], ◌∷◌, refl}
use Rattle.capn_words.specs.Pointers.{pointer_of}
use Rattle.capn_target.specs.Target.{target}
use Rattle.capn_walk.specs.Accepted.{root}
use Rattle.capn_walk.specs.inner.Reach.{reach}

-- the depth of a message under the usual limits
abbrev usual : List (List ℕ) → ℕ
usual message = reach message 64 root

null_root : usual ((0 ∷ []) ∷ []) ≡ 0
unfolding reach target pointer_of
null_root = refl

empty_struct_root : usual ((0xfffffffc ∷ []) ∷ []) ≡ 1
unfolding reach target pointer_of
empty_struct_root = refl

null_in_a_slot : usual ((0x1000000000000 ∷ 0 ∷ []) ∷ []) ≡ 1
unfolding reach target pointer_of
null_in_a_slot = refl

capability_in_a_slot : usual ((0x1000000000000 ∷ 0x200000003 ∷ []) ∷ []) ≡ 1
unfolding reach target pointer_of
capability_in_a_slot = refl

shared_struct : usual ((0x2000000000000 ∷ 0x100000004 ∷ 0x100000000 ∷ 9 ∷ []) ∷ []) ≡ 2
unfolding reach target pointer_of
shared_struct = refl

three_bytes_in_a_slot : usual ((0x1000000000000 ∷ 0x1a00000001 ∷ 0x636261 ∷ []) ∷ []) ≡ 2
unfolding reach target pointer_of
three_bytes_in_a_slot = refl

double_far_pointer : usual ((0x100000006 ∷ []) ∷ (0x200000002 ∷ 0x100000000 ∷ []) ∷ (5 ∷ []) ∷ []) ≡ 1
unfolding reach target pointer_of
double_far_pointer = refl
