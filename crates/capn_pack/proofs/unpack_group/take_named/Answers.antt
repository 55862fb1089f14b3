use Rattle.std.proofs.Common.{arith, ap, sym, ◌∙◌, refl, ◌∷◌, ◌+◌, get_or}
use Rattle.std.specs.Prelude.{count_ones}
use Rattle.capn_pack.proofs.shared.GroupLemmas.{take_first, take_tail}
use Rattle.capn_pack.proofs.StartLemmas.{memory_gives}
use Rattle.capn_pack.specs.Packed.Group.{Named}
use Rattle.capn_pack.proofs.unpack_group.take_named.Goals as goal

pub returns : goal.returns
returns g c =
    let rest = c.args.rest.now in
    let tag = get_or rest 0 0 in
    record {
      group = Named tag c.spread-word.result;
      is_group = (omega arith, omega arith, omega arith, c.spread-word.ensures.named);
      within = omega arith;
      text = take_first _ rest (omega arith)
          ∙ ap (λ l. tag ∷ l) (sym (take_tail _ rest) ∙ sym c.spread-word.ensures.bytes);
      counted = refl;
      fits = omega arith;
      content = c.in_ok-extend_from_slice.ensures.items;
    }

pub returns-in_err-extend_from_slice : goal.returns-in_err-extend_from_slice
returns-in_err-extend_from_slice g c =
    let rest = c.args.rest.now in
    let tag = get_or rest 0 0 in
    memory_gives rest (1 + count_ones tag) c.args.room (Named tag c.spread-word.result) _ _ c.from_residual.result
    (omega arith, omega arith, omega arith, c.spread-word.ensures.named)
    (take_first _ rest (omega arith)
    ∙ ap (λ l. tag ∷ l) (sym (take_tail _ rest) ∙ sym c.spread-word.ensures.bytes)) (omega arith)
    c.in_err-extend_from_slice.ensures.items c.from_residual.ensures.1
