use Rattle.std.proofs.Common.{ℕ, ◌*◌, ◌++◌, ◌∷◌, [], get_or, take, replicate, ap, ◌∙◌, arith}
use Rattle.capn_pack.specs.Packed.Group.{Zeros}
use Rattle.capn_pack.proofs.shared.GroupLemmas.{take_two}
use Rattle.capn_scratch.proofs.group.put_zeros.Goals as goal

pub returns-clause-takes : goal.returns-clause-takes
returns-clause-takes g c =
    let rest = c.args.rest.now in
    let more = get_or rest 1 0 in
    record {
      group = Zeros more;
      is_group = omega (arith, c.bounds.ensures 1);
      within = omega arith;
      text = ap (λ (n : ℕ). take n rest) c.requires.bytes ∙ take_two rest (omega arith)
          ∙ ap (λ (b : ℕ). b ∷ more ∷ []) c.requires.tag;
      counted = c.requires.words;
      content = c.store_zeros.ensures.text
          ∙ ap (λ (n : ℕ). take c.args.fill c.args.out.now ++ replicate (8 * n) 0) c.requires.words;
    }
