use Rattle.std.proofs.Common.{◌*◌, length, map, ap, ◌∙◌, subst, arith}
use Rattle.std.specs.Int.{from_bool}
use Rattle.capn_target.specs.Target.{words_for}
use Rattle.capn_layout.specs.declared.tree_slots.TreeNumbers.{TreeNumbers}
use Rattle.capn_layout.specs.inner.TreeSlots.{PacksNumbers}
use Rattle.capn_layout.proofs.shared.LayLengths.{length-packed}
use Rattle.capn_layout.proofs.tree_slots.TreeSlotsSource.append_numbers.Goals as goal

pub extend_bits-requires : goal.extend_bits-requires
extend_bits-requires g c =
    let xs = c.in-Bits.xs.now in
    let p = subst (λ (x : TreeNumbers). PacksNumbers x c.requires.0) c.in-Bits.is c.requires.1 in
    let l = ap length p ∙ length-packed 64 1 (words_for (length xs)) (map from_bool xs) in
    let r = c.requires.2 in
    omega arith

pub extend_bytes-requires : goal.extend_bytes-requires
extend_bytes-requires g c =
    let xs = c.in-Bytes.xs.now in
    let p = subst (λ (x : TreeNumbers). PacksNumbers x c.requires.0) c.in-Bytes.is c.requires.1 in
    let l = ap length p ∙ length-packed 8 8 (words_for (8 * length xs)) xs in
    let r = c.requires.2 in
    omega arith

pub extend_pairs-requires : goal.extend_pairs-requires
extend_pairs-requires g c =
    let xs = c.in-Pairs.xs.now in
    let p = subst (λ (x : TreeNumbers). PacksNumbers x c.requires.0) c.in-Pairs.is c.requires.1 in
    let l = ap length p ∙ length-packed 4 16 (words_for (16 * length xs)) xs in
    let r = c.requires.2 in
    omega arith

pub extend_quads-requires : goal.extend_quads-requires
extend_quads-requires g c =
    let xs = c.in-Quads.xs.now in
    let p = subst (λ (x : TreeNumbers). PacksNumbers x c.requires.0) c.in-Quads.is c.requires.1 in
    let l = ap length p ∙ length-packed 2 32 (words_for (32 * length xs)) xs in
    let r = c.requires.2 in
    omega arith
