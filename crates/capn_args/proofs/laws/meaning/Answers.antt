use Rattle.capn_args.proofs.OneInvocation.{means_one_invocation}
use Rattle.capn_args.proofs.laws.meaning.Goals as goal

pub returns : goal.returns
returns c = means_one_invocation
