use Rattle.std.proofs.Common.{◌∙◌, sym}
use Rattle.capn_commands.proofs.shared.OneShown.{one_shown}
use Rattle.capn_tool.proofs.laws.one_text.Goals as goal

pub returns : goal.returns
returns c show path p q h k input t u r s y z a b =
    one_shown show.limits.message_words show.form p q
    (record {
      numbers = h.numbers ∙ sym k.numbers;
      form = h.form ∙ sym k.form;
      limits = h.limits ∙ sym k.limits;
      style = h.style ∙ sym k.style;
      offsets = h.offsets ∙ sym k.offsets;
      ways = h.ways ∙ sym k.ways;
    }) input t u r s y z a b
