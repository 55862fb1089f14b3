use Rattle.std.proofs.Common.{◌∙◌}
use Rattle.clap.specs.Words.{found_of}
use Rattle.capn_args.proofs.Sources.{source-rows}
use Rattle.capn_args.proofs.option_values.origin_of.Goals as goal

pub returns : goal.returns
returns c = c.value_source.ensures ∙ source-rows (found_of c.args.matches.now) c.args.id.now
