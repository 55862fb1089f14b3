use Rattle.std.proofs.Common.{sym, ◌∙◌}
use Rattle.capn_tool.proofs.OneAlone.{shown_alone}
use Rattle.capn_tool.proofs.laws.one_alone.Goals as goal

pub returns : goal.returns
returns c show path p q h k frame input is_longer t u r s a b =
    shown_alone show.limits p q
    (record {
      numbers = h.numbers ∙ sym k.numbers;
      form = h.form ∙ sym k.form;
      limits = h.limits ∙ sym k.limits;
      style = h.style ∙ sym k.style;
      offsets = h.offsets ∙ sym k.offsets;
      ways = h.ways ∙ sym k.ways;
    }) frame input is_longer t u r s a b
