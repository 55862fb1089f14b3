use Rattle.capn_make.proofs.Decided.{refused_is_stuck}
use Rattle.capn_make.proofs.laws.stuck.Goals as goal

pub returns : goal.returns
returns c =
    refused_is_stuck c.texts.ensures.apart c.texts.ensures.showable c.refusals.ensures.high
    c.whole_lines.ensures.wrong c.whole_lines.ensures.none c.whole_lines.ensures.deep c.whole_lines.ensures.first
