use Rattle.std.proofs.Common.{◌≡◌, ◌∙◌, ◌-◌, ap, sym, ℕ, length, drop, map, get_or, false, arith, List, Bool}
use Rattle.std.proofs.lemmas.List.{drop_all}
use Rattle.std.specs.Int.{from_bool}
use Rattle.capn_layout.specs.Layout.{number}
use Rattle.capn_layout.proofs.writer.PackedBits.{bits-next, bit-below, fits-word, one-bit}
use Rattle.capn_layout.proofs.bits.word_of_bits.Goals as goal

pub loop-i-init : goal.loop-i-init
loop-i-init c =
    let bits = c.args.bits.now in
    record {
      rest = sym (ap (λ (bs : List Bool). number 2 (map from_bool bs)) (drop_all (length bits - 0) bits (omega arith)));
      small = omega arith;
    }

pub overflow_mul-word : goal.overflow_mul-word
overflow_mul-word c =
    let r = c.requires in
    let t = c.loop-i-test.true in
    let f = fits-word c.loop-i.word c.loop-i.i c.loop-i.invariant.small (omega arith) in
    omega arith

pub overflow_add-word : goal.overflow_add-word
overflow_add-word c =
    let r = c.requires in
    let t = c.loop-i-test.true in
    let f = fits-word c.loop-i.word c.loop-i.i c.loop-i.invariant.small (omega arith) in
    let o = one-bit (get_or c.args.bits.now (length c.args.bits.now - 1 - c.loop-i.i) false) in
    omega arith

pub loop-i-preserved : goal.loop-i-preserved
loop-i-preserved c =
    let bits = c.args.bits.now in
    let n = bits-next bits c.loop-i.i c.loop-i-test.true in
    let r = c.loop-i.invariant.rest in
    record {
      rest = omega arith;
      small = bit-below c.loop-i.word c.loop-i.i (get_or bits (length bits - 1 - c.loop-i.i) false)
          c.loop-i.invariant.small;
    }

pub returns : goal.returns
returns c =
    let bits = c.args.bits.now in
    let a = c.loop-i.auto.i-end in
    let t = c.loop-i-test.false in
    let z : length bits - c.loop-i.i ≡ 0 = omega arith in
    c.loop-i.invariant.rest ∙ ap (λ (k : ℕ). number 2 (map from_bool (drop k bits))) z
