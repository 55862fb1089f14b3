use Rattle.std.proofs.Common.{refl}
use Rattle.capn_value.proofs.Cases.{short, voids_long, numbers_long, links_long}
use Rattle.capn_value.proofs.Lists.{is_bits, is_bytes, is_pairs, is_quads, is_octs}
use Rattle.capn_value.proofs.shared.Bits.{bits_long}
use Rattle.capn_value.proofs.part_flaws.is_long.Goals as goal

pub returns-in-Nil : goal.returns-in-Nil
returns-in-Nil g c = short _ c.in-Nil.is

pub returns-in-Nil-2 : goal.returns-in-Nil-2
returns-in-Nil-2 g c = short _ c.in-Nil.is

pub returns-in-Nil-3 : goal.returns-in-Nil-3
returns-in-Nil-3 g c = short _ c.in-Nil.is

pub returns-in-Voids : goal.returns-in-Voids
returns-in-Voids g c = voids_long _ c.in-Voids.is refl

pub returns-in-Bits : goal.returns-in-Bits
returns-in-Bits g c = numbers_long _ (is_bits c.in-Bits.is) (bits_long _ c.len.ensures)

pub returns-in-Bytes : goal.returns-in-Bytes
returns-in-Bytes g c = numbers_long _ (is_bytes c.in-Bytes.is) c.len-in-Bytes.ensures

pub returns-in-Pairs : goal.returns-in-Pairs
returns-in-Pairs g c = numbers_long _ (is_pairs c.in-Pairs.is) c.len-in-Pairs.ensures

pub returns-in-Quads : goal.returns-in-Quads
returns-in-Quads g c = numbers_long _ (is_quads c.in-Quads.is) c.len-in-Quads.ensures

pub returns-in-Octs : goal.returns-in-Octs
returns-in-Octs g c = numbers_long _ (is_octs c.in-Octs.is) c.len-in-Octs.ensures

pub returns-in-Links : goal.returns-in-Links
returns-in-Links g c = links_long _ _ c.in-Links.is c.len-in-Links.ensures
