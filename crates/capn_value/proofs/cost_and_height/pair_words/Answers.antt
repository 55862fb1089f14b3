use Rattle.std.proofs.Common.{◌^◌, arith}
use Rattle.capn_value.proofs.shared.Ranges.{below_from}
use Rattle.capn_value.proofs.cost_and_height.pair_words.Goals as goal

pub returns-clause-in_range : goal.returns-clause-in_range
returns-clause-in_range c = below_from (2 ^ 16) c.args.xs.now (λ k. let fits = c.type_inv.xs k in omega arith)
