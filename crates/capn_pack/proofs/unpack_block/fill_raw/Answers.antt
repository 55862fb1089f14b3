use Rattle.std.proofs.Common.{arith, ap, subst, ◌≡◌, ◌<◌, ◌∙◌, refl, ◌∷◌, ◌++◌, get_or, take, length, slice_range}
use Rattle.std.proofs.Common.{◌+◌, ◌-◌, ◌*◌, ◌^◌, ◌≤◌}
use Rattle.capn_pack.specs.Packed.Group.{Raw}
use Rattle.capn_pack.specs.inner.Steps.{Takes}
use Rattle.capn_pack.proofs.shared.GroupLemmas.{take_raw_text, raw_is_group, byte_of_rest}
use Rattle.capn_pack.proofs.SpanLemmas.{raw_unpacked}
use Rattle.capn_pack.proofs.unpack_block.fill_raw.Goals as goal

pub returns-clause-gives : goal.returns-clause-gives
returns-clause-gives c =
    let text = c.args.text.now in
    let at = c.args.at in
    let rest = slice_range text at (length text) in
    let more = get_or rest 9 0 in
    let end = c.args.fill + 8 + 8 * more in
    let front = take c.args.fill c.args.block.now in
    let new = take end c.store_bytes-2.new.block in
    let word = slice_range rest 1 9 in
    let copied = slice_range rest 10 (10 + 8 * more) in
    let fits : more < 2 ^ 8 = byte_of_rest text at 9 (λ k. omega (arith, c.type_inv.text k)) in
    let long : 74 ≤ length rest = omega arith in
    let taken : 10 + 8 * more ≡ at + 10 + 8 * more - at = omega arith in
    let step : Takes rest 8 (10 + 8 * more) (1 + more) front new = record {
      group = Raw word more copied;
      is_group = raw_is_group rest more (omega arith) fits;
      within = omega arith;
      text = take_raw_text rest more (omega arith) ∙ ap (λ b. b ∷ word ++ more ∷ copied) c.requires.tag;
      counted = refl;
      fits = omega arith;
      content = raw_unpacked rest c.args.block.now c.store_bytes.new.block c.store_bytes-2.new.block more c.args.fill
          (omega arith) long (omega arith) c.store_bytes.ensures c.store_bytes-2.ensures;
    } in
    let takes = subst (λ n. Takes rest 8 n (1 + more) front new) taken step in
    (1 + more, record { forward = omega arith; reach = omega arith; takes = takes })
