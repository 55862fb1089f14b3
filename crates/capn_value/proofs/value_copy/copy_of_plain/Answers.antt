use Rattle.std.proofs.Common.{ap, map}
use Rattle.std.specs.Int.{from_bool}
use Rattle.capn_value.specs.Views.{tree_of-Bits, tree_of-Bytes, tree_of-Pairs, tree_of-Quads, tree_of-Octs}
use Rattle.capn_value.proofs.Copies.{nil_kept, voids_kept, numbers_kept, cap_kept, no_parts}
use Rattle.capn_value.proofs.Lists.{is_bits, is_bytes, is_pairs, is_quads, is_octs}
use Rattle.capn_value.proofs.value_copy.copy_of_plain.Goals as goal

pub returns-in-Nil : goal.returns-in-Nil
returns-in-Nil g c = nil_kept _ _ c.in-Nil.is

pub returns-in-Voids : goal.returns-in-Voids
returns-in-Voids g c = voids_kept _ _ c.in-Voids.is

pub returns-in_ok-copied-in-Bits : goal.returns-in_ok-copied-in-Bits
returns-in_ok-copied-in-Bits g c =
    numbers_kept _ (tree_of-Bits _ _) (ap (map from_bool) c.in_ok-copied-in-Bits.ensures) (is_bits c.in-Bits.is)

pub returns-in_ok-copied-in-Bytes : goal.returns-in_ok-copied-in-Bytes
returns-in_ok-copied-in-Bytes g c =
    numbers_kept _ (tree_of-Bytes _ _) c.in_ok-copied-in-Bytes.ensures (is_bytes c.in-Bytes.is)

pub returns-in_ok-copied-in-Pairs : goal.returns-in_ok-copied-in-Pairs
returns-in_ok-copied-in-Pairs g c =
    numbers_kept _ (tree_of-Pairs _ _) c.in_ok-copied-in-Pairs.ensures (is_pairs c.in-Pairs.is)

pub returns-in_ok-copied-in-Quads : goal.returns-in_ok-copied-in-Quads
returns-in_ok-copied-in-Quads g c =
    numbers_kept _ (tree_of-Quads _ _) c.in_ok-copied-in-Quads.ensures (is_quads c.in-Quads.is)

pub returns-in_ok-copied-in-Octs : goal.returns-in_ok-copied-in-Octs
returns-in_ok-copied-in-Octs g c =
    numbers_kept _ (tree_of-Octs _ _) c.in_ok-copied-in-Octs.ensures (is_octs c.in-Octs.is)

pub returns-in-Cap : goal.returns-in-Cap
returns-in-Cap g c = cap_kept _ _ c.in-Cap.is

pub unreachable-requires : goal.unreachable-requires
unreachable-requires g c =
    no_parts _ c.requires.no_struct c.requires.no_pointers c.requires.no_rows c.in-Node.is
