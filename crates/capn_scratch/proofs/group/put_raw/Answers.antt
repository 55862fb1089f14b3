use Rattle.std.proofs.Common.{◌≡◌, ℕ, ◌+◌, ◌*◌, ◌≤◌, ◌++◌, ◌∷◌, List}
use Rattle.std.proofs.Common.{get_or, length, take, slice_range, sym, ap, ◌∙◌, arith}
use Rattle.std.proofs.Common.{append_assoc}
use Rattle.capn_pack.specs.Packed.Group.{Raw}
use Rattle.capn_pack.proofs.shared.GroupLemmas.{take_raw_text, raw_is_group}
use Rattle.capn_scratch.proofs.group.put_raw.Goals as goal

pub returns-clause-takes : goal.returns-clause-takes
returns-clause-takes g c =
    let rest = c.args.rest.now in
    let more = get_or rest 9 0 in
    let word = slice_range rest 1 9 in
    let copied = slice_range rest 10 (10 + 8 * more) in
    let inside : 10 + 8 * more ≤ length rest = omega (arith, c.requires.bytes, c.requires.inside) in
    let is = raw_is_group rest more inside (omega (arith, c.bounds.ensures 9)) in
    let front = take c.args.fill c.args.out.now in
    let mid = c.copy_to.new.text in
    let second : c.part-2.result ≡ copied =
    c.part-2.ensures ∙ ap (λ (n : ℕ). slice_range rest 10 n) c.requires.bytes in
    let first : take (c.args.fill + 8) mid ≡ front ++ word =
    ap (λ (n : ℕ). take (c.args.fill + n) mid) (sym (ap length c.part.ensures ∙ is.0)) ∙ c.copy_to.ensures.text
    ∙ ap (λ (l : List ℕ). front ++ l) c.part.ensures in
    let end : c.args.fill + 8 * c.args.size.words ≡ c.args.fill + 8 + length c.part-2.result =
    omega (arith, c.requires.words, is.2, ap length second) in
    record {
      group = Raw word more copied;
      is_group = is;
      within = c.requires.inside;
      text = ap (λ (n : ℕ). take n rest) c.requires.bytes ∙ take_raw_text rest more inside
          ∙ ap (λ (b : ℕ). b ∷ word ++ more ∷ copied) c.requires.tag;
      counted = c.requires.words;
      content = ap (λ (n : ℕ). take n c.copy_to-2.new.text) end ∙ c.copy_to-2.ensures.text
          ∙ ap (λ (l : List ℕ). l ++ c.part-2.result) first
          ∙ append_assoc front word c.part-2.result
          ∙ ap (λ (l : List ℕ). front ++ (word ++ l)) second;
    }
