use Rattle.std.proofs.Common.{◌*◌, length, map, ap, ◌∙◌, subst, arith}
use Rattle.std.specs.Int.{from_bool}
use Rattle.capn_target.specs.Target.{words_for}
use Rattle.capn_layout.specs.declared.tree_slots.TreeNumbers.{TreeNumbers}
use Rattle.capn_layout.specs.inner.TreeSlots.{PacksNumbers}
use Rattle.capn_layout.proofs.shared.LayLengths.{length-packed}
use Rattle.capn_layout.proofs.tree_slots.TreeSlotsSource.count_words.Goals as goal

pub overflow_cast-result : goal.overflow_cast-result
overflow_cast-result g c =
    let xs = c.in-Bits.xs.now in
    let p = subst (λ (x : TreeNumbers). PacksNumbers x c.requires.0) c.in-Bits.is c.requires.1 in
    let l = ap length p ∙ length-packed 64 1 (words_for (length xs)) (map from_bool xs) in
    let d = c.div_ceil.ensures in
    let r = c.requires.2 in
    omega arith

pub returns-in-Bits : goal.returns-in-Bits
returns-in-Bits g c ws h =
    let xs = c.in-Bits.xs.now in
    let p = subst (λ (x : TreeNumbers). PacksNumbers x ws) c.in-Bits.is h in
    let l = ap length p ∙ length-packed 64 1 (words_for (length xs)) (map from_bool xs) in
    let d = c.div_ceil.ensures in
    omega arith

pub overflow_cast-result-in-Bytes : goal.overflow_cast-result-in-Bytes
overflow_cast-result-in-Bytes g c =
    let xs = c.in-Bytes.xs.now in
    let p = subst (λ (x : TreeNumbers). PacksNumbers x c.requires.0) c.in-Bytes.is c.requires.1 in
    let l = ap length p ∙ length-packed 8 8 (words_for (8 * length xs)) xs in
    let d = c.div_ceil-in-Bytes.ensures in
    let r = c.requires.2 in
    omega arith

pub returns-in-Bytes : goal.returns-in-Bytes
returns-in-Bytes g c ws h =
    let xs = c.in-Bytes.xs.now in
    let p = subst (λ (x : TreeNumbers). PacksNumbers x ws) c.in-Bytes.is h in
    let l = ap length p ∙ length-packed 8 8 (words_for (8 * length xs)) xs in
    let d = c.div_ceil-in-Bytes.ensures in
    omega arith

pub overflow_cast-result-in-Pairs : goal.overflow_cast-result-in-Pairs
overflow_cast-result-in-Pairs g c =
    let xs = c.in-Pairs.xs.now in
    let p = subst (λ (x : TreeNumbers). PacksNumbers x c.requires.0) c.in-Pairs.is c.requires.1 in
    let l = ap length p ∙ length-packed 4 16 (words_for (16 * length xs)) xs in
    let d = c.div_ceil-in-Pairs.ensures in
    let r = c.requires.2 in
    omega arith

pub returns-in-Pairs : goal.returns-in-Pairs
returns-in-Pairs g c ws h =
    let xs = c.in-Pairs.xs.now in
    let p = subst (λ (x : TreeNumbers). PacksNumbers x ws) c.in-Pairs.is h in
    let l = ap length p ∙ length-packed 4 16 (words_for (16 * length xs)) xs in
    let d = c.div_ceil-in-Pairs.ensures in
    omega arith

pub overflow_cast-result-in-Quads : goal.overflow_cast-result-in-Quads
overflow_cast-result-in-Quads g c =
    let xs = c.in-Quads.xs.now in
    let p = subst (λ (x : TreeNumbers). PacksNumbers x c.requires.0) c.in-Quads.is c.requires.1 in
    let l = ap length p ∙ length-packed 2 32 (words_for (32 * length xs)) xs in
    let d = c.div_ceil-in-Quads.ensures in
    let r = c.requires.2 in
    omega arith

pub returns-in-Quads : goal.returns-in-Quads
returns-in-Quads g c ws h =
    let xs = c.in-Quads.xs.now in
    let p = subst (λ (x : TreeNumbers). PacksNumbers x ws) c.in-Quads.is h in
    let l = ap length p ∙ length-packed 2 32 (words_for (32 * length xs)) xs in
    let d = c.div_ceil-in-Quads.ensures in
    omega arith
