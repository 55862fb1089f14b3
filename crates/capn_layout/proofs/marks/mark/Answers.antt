use Rattle.std.proofs.Common.{◌≡◌, ◌∙◌, ◌/◌, ◌%◌, ◌*◌, ◌^◌, ap, arith, ℕ}
use Rattle.std.specs.Prelude.{◌==◌, slice_index, bit_or}
use Rattle.std.specs.Int.{w64, bit_at}
use Rattle.std.proofs.lemmas.List.{get_or_read}
use Rattle.std.proofs.lemmas.Nat.Bits.{bit_at_set_same, bit_at_set_other}
use Rattle.capn_layout.proofs.writer.Flags.{marked-here, marked-others}
use Rattle.capn_layout.proofs.marks.mark.Goals as goal

pub returns-clause-here : goal.returns-clause-here
returns-clause-here g c =
    let r = c.args.word % 64 in
    let new = bit_or c.index_mut.result.now (1 * 2 ^ r % 18446744073709551616) in
    marked-here c.args.marks.now.items c.args.word new c.requires
    ∙ ap (λ (b : ℕ). b == 1) (bit_at_set_same w64 c.index_mut.result.now r (omega arith))

pub returns-clause-others : goal.returns-clause-others
returns-clause-others g c =
    let r = c.args.word % 64 in
    let new = bit_or c.index_mut.result.now (1 * 2 ^ r % 18446744073709551616) in
    let e : c.index_mut.result.now ≡ slice_index c.args.marks.now.items (c.args.word / 64) =
    get_or_read c.args.marks.now.items (c.args.word / 64) c.index_mut.result.now (omega arith) c.index_mut.ensures.value
    0 in
    marked-others c.args.marks.now.items c.args.word new c.requires
    (λ i lt ne. bit_at_set_other w64 c.index_mut.result.now r (omega arith) i ne ∙ ap (λ (m : ℕ). bit_at m i) e)
