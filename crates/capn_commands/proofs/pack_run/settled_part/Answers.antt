use Rattle.std.proofs.Common.{◌-◌, length, ap, ◌∙◌}
use Rattle.capn_pack.specs.Chosen.{zero_count}
use Rattle.capn_pack.proofs.shared.GroupLemmas.{rest_is}
use Rattle.capn_commands.proofs.LastWord.{named_text}
use Rattle.capn_commands.proofs.Settled.{settled_none}
use Rattle.capn_commands.proofs.pack_run.settled_part.Goals as goal

pub returns : goal.returns
returns g c =
    let bs = c.args.words.now in
    named_text c.args.text.now bs c.zeros_of-zeros.result c.requires.chosen c.if-words-lt8.false
    (c.zeros_of-zeros.ensures ∙ ap zero_count (rest_is bs (length bs - 8))) c.if-zeros-lt2.false c.if-zeros-eq8.false

pub returns-then-words-lt8 : goal.returns-then-words-lt8
returns-then-words-lt8 g c = settled_none c.args.text.now c.args.words.now c.requires.chosen c.if-words-lt8.true
