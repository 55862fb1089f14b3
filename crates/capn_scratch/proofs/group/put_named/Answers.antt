use Rattle.std.proofs.Common.{◌≡◌, ℕ, List, ◌+◌, ◌*◌, ◌∷◌, get_or, length, take, drop, ap, sym, ◌∙◌, arith}
use Rattle.std.specs.Prelude.{count_ones}
use Rattle.capn_pack.specs.Packed.Group.{Named}
use Rattle.capn_pack.proofs.shared.GroupLemmas.{take_first, take_tail}
use Rattle.capn_scratch.proofs.group.put_named.Goals as goal

pub returns-clause-takes : goal.returns-clause-takes
returns-clause-takes g c =
    let rest = c.args.rest.now in
    let tag = c.args.tag in
    let end : c.args.fill + 8 * c.args.size.words ≡ c.args.fill + length c.spread-word.result =
    omega (arith, c.requires.words) in
    record {
      group = Named tag c.spread-word.result;
      is_group = (omega arith, omega arith, omega arith, c.spread-word.ensures.named);
      within = c.requires.inside;
      text = ap (λ (n : ℕ). take n rest) c.requires.bytes ∙ take_first _ rest (omega arith)
          ∙ ap (λ (b : ℕ). b ∷ take (count_ones tag) (drop 1 rest)) (sym c.requires.tag)
          ∙ ap (λ (l : List ℕ). tag ∷ l) (sym (take_tail _ rest)
          ∙ ap (λ (l : List ℕ). take (count_ones tag) l) (sym c.rest.ensures) ∙ sym c.spread-word.ensures.bytes);
      counted = c.requires.words;
      content = ap (λ (n : ℕ). take n c.store.new.self) end ∙ c.store.ensures.text;
    }
