use Rattle.std.proofs.Common.{ℕ, List, [], ap, sym, ◌∙◌}
use Rattle.capn_pack.proofs.shared.ChosenLaws as chosen
use Rattle.capn_pack.proofs.shared.SplitLaws.{one_split}
use Rattle.capn_commands.specs.PackRun.{whole_of}
use Rattle.capn_commands.specs.UnpackRun.{ending_of}
use Rattle.capn_commands.proofs.laws.one_text.Goals as goal

pub returns-clause-packing : goal.returns-clause-packing
returns-clause-packing c bytes text other is_longer r s h k =
    (chosen.one_text text other (whole_of bytes) h.chosen k.chosen, h.ends ∙ sym k.ends)

pub returns-clause-unpacking : goal.returns-clause-unpacking
returns-clause-unpacking c bytes text other is_longer r s h k =
    let same = one_split bytes h.group k.group [] text other h.offset k.offset h.split k.split in (
      same.1.0,
      h.ends ∙ ap (λ (l : List ℕ). ending_of is_longer l h.offset) same.0
          ∙ ap (λ (n : ℕ). ending_of is_longer k.group n) same.1.1 ∙ sym k.ends,
    )
