use Rattle.capn_args.proofs.OneMeaning.{means_one}
use Rattle.capn_args.proofs.laws.command.Goals as goal

pub returns : goal.returns
returns c = means_one
