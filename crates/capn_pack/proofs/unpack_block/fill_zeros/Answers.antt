use Rattle.std.proofs.Common.{arith, ap, subst, ◌≡◌, ◌<◌, ◌∙◌, refl, ◌∷◌, [], get_or, take, length, slice_range}
use Rattle.std.proofs.Common.{replicate, ◌+◌, ◌-◌, ◌*◌, ◌^◌, ◌≤◌}
use Rattle.std.proofs.lemmas.List.{take-replicate}
use Rattle.capn_pack.specs.Packed.Group.{Zeros}
use Rattle.capn_pack.specs.inner.Steps.{Takes}
use Rattle.capn_pack.proofs.shared.GroupLemmas.{take_two, length_rest, byte_of_rest}
use Rattle.capn_pack.proofs.LaneLemmas.{stored}
use Rattle.capn_pack.proofs.unpack_block.fill_zeros.Goals as goal

pub returns-clause-gives : goal.returns-clause-gives
returns-clause-gives c =
    let text = c.args.text.now in
    let at = c.args.at in
    let rest = slice_range text at (length text) in
    let more = get_or rest 1 0 in
    let end = c.args.fill + 8 + 8 * more in
    let front = take c.args.fill c.args.block.now in
    let new = take end c.store_zeros.new.block in
    let fits : more < 2 ^ 8 = byte_of_rest text at 1 (λ k. omega (arith, c.type_inv.text k)) in
    let long : 17 ≤ length rest = omega (arith, length_rest text at) in
    let taken : 2 ≡ at + 2 - at = omega arith in
    let step : Takes rest 8 2 (1 + more) front new = record {
      group = Zeros more;
      is_group = omega arith;
      within = omega arith;
      text = take_two rest (omega arith) ∙ ap (λ b. b ∷ more ∷ []) c.requires.tag;
      counted = refl;
      fits = omega arith;
      content = stored c.args.block.now (replicate 64 0) c.store_zeros.new.block (replicate (8 * (1 + more)) 0)
          c.args.fill 64 (8 * (1 + more)) end (omega arith) (omega arith) (omega arith) c.store_zeros.ensures
          (take-replicate (8 * (1 + more)) 64 0 (omega arith));
    } in
    let takes = subst (λ n. Takes rest 8 n (1 + more) front new) taken step in
    (1 + more, record { forward = omega arith; reach = omega arith; takes = takes })
