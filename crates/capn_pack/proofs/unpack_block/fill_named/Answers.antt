use Rattle.std.proofs.Common.{arith, ap, sym, subst, ◌≡◌, ◌<◌, ◌≤◌, ◌∙◌, refl, ◌∷◌, get_or, take, length}
use Rattle.std.proofs.Common.{slice_range, ◌+◌, ◌-◌, ◌^◌}
use Rattle.std.specs.Prelude.{count_ones}
use Rattle.capn_pack.specs.Packed.Group.{Named}
use Rattle.capn_pack.specs.inner.Steps.{Takes}
use Rattle.capn_pack.proofs.shared.GroupLemmas.{take_first, take_tail, length_rest, byte_of_rest}
use Rattle.capn_pack.proofs.LaneLemmas.{eight_ones}
use Rattle.capn_pack.proofs.unpack_block.fill_named.Goals as goal

pub returns-clause-fills : goal.returns-clause-fills
returns-clause-fills c =
    let text = c.args.text.now in
    let at = c.args.at in
    let rest = slice_range text at (length text) in
    let tag = get_or rest 0 0 in
    let front = take c.args.fill c.args.block.now in
    let new = take (c.args.fill + 8) c.store_word.new.block in
    let fits : tag < 2 ^ 8 = byte_of_rest text at 0 (λ k. omega (arith, c.type_inv.text k)) in
    let long : 17 ≤ length rest = omega (arith, length_rest text at) in
    let taken : 1 + count_ones tag ≡ at + 1 + count_ones tag - at = omega arith in
    let step : Takes rest 8 (1 + count_ones tag) 1 front new = record {
      group = Named tag c.spread_far-word.result;
      is_group = (omega arith, omega arith, omega arith, c.spread_far-word.ensures.named);
      within = omega (arith, eight_ones tag (omega arith));
      text = take_first _ rest (omega arith)
          ∙ ap (λ l. tag ∷ l) (sym (take_tail _ rest) ∙ sym c.spread_far-word.ensures.bytes);
      counted = refl;
      fits = omega arith;
      content = c.store_word.ensures;
    } in
    record {
      forward = omega arith;
      reach = omega (arith, eight_ones tag (omega arith));
      takes = subst (λ n. Takes rest 8 n 1 front new) taken step;
    }
