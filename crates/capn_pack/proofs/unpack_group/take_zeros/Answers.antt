use Rattle.std.proofs.Common.{arith, ap, ◌∙◌, refl, ◌∷◌, [], get_or, vec_len, ◌*◌, ◌+◌}
use Rattle.capn_pack.proofs.shared.GroupLemmas.{take_two, resized}
use Rattle.capn_pack.proofs.StartLemmas.{memory_gives}
use Rattle.capn_pack.specs.Packed.Group.{Zeros}
use Rattle.capn_pack.proofs.unpack_group.take_zeros.Goals as goal

pub returns : goal.returns
returns g c =
    let rest = c.args.rest.now in
    record {
      group = Zeros (get_or rest 1 0);
      is_group = omega (arith, c.type_inv.rest 1);
      within = omega arith;
      text = take_two rest (omega arith) ∙ ap (λ b. b ∷ get_or rest 1 0 ∷ []) c.requires.tag;
      counted = refl;
      fits = omega arith;
      content = c.in_ok-resize.ensures.items
          ∙ rw c.len-len.ensures
          (resized c.args.out.now.items (vec_len c.args.out.now) (8 * (1 + get_or rest 1 0))
          (omega (arith, c.args.out.now.ok.0)));
    }

pub returns-in_err-resize : goal.returns-in_err-resize
returns-in_err-resize g c =
    let rest = c.args.rest.now in
    memory_gives rest 2 c.args.room (Zeros (get_or rest 1 0)) _ _ c.from_residual.result
    (omega (arith, c.type_inv.rest 1))
    (take_two rest (omega arith) ∙ ap (λ b. b ∷ get_or rest 1 0 ∷ []) c.requires.tag) (omega arith)
    c.in_err-resize.ensures.items c.from_residual.ensures.1
