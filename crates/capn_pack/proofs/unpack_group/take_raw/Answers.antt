use Rattle.std.proofs.Common.{arith, ap, ◌∙◌, refl, ◌∷◌, ◌++◌, get_or, slice_range, append_assoc, ◌+◌, ◌*◌}
use Rattle.capn_pack.proofs.shared.GroupLemmas.{take_raw_text, raw_is_group}
use Rattle.capn_pack.proofs.StartLemmas.{memory_gives}
use Rattle.capn_pack.specs.Packed.Group.{Raw}
use Rattle.capn_pack.proofs.unpack_group.take_raw.Goals as goal

pub returns : goal.returns
returns g c =
    let rest = c.args.rest.now in
    let more = get_or rest 9 0 in
    record {
      group = Raw (slice_range rest 1 9) more (slice_range rest 10 (10 + 8 * more));
      is_group = raw_is_group rest more (omega arith) (omega (arith, c.type_inv.rest 9));
      within = omega arith;
      text = take_raw_text rest more (omega arith)
          ∙ ap (λ b. b ∷ slice_range rest 1 9 ++ more ∷ slice_range rest 10 (10 + 8 * more)) c.requires.tag;
      counted = refl;
      fits = omega arith;
      content = c.in_ok-extend_from_slice-2.ensures.items
          ∙ rw (c.in_ok-extend_from_slice.ensures.items, append_assoc, c.reserve.ensures.items) refl;
    }

pub returns-in_err-reserve : goal.returns-in_err-reserve
returns-in_err-reserve g c =
    let rest = c.args.rest.now in
    let more = get_or rest 9 0 in
    let word = slice_range rest 1 9 in
    let copied = slice_range rest 10 (10 + 8 * more) in
    memory_gives rest (10 + 8 * more) c.args.room (Raw word more copied) _ _ c.from_residual.result
    (raw_is_group rest more (omega arith) (omega (arith, c.type_inv.rest 9)))
    (take_raw_text rest more (omega arith) ∙ ap (λ b. b ∷ word ++ more ∷ copied) c.requires.tag)
    (omega arith) c.in_err-reserve.ensures.items c.from_residual.ensures.1
