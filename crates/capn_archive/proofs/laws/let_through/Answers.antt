use Rattle.capn_archive.proofs.FilteredListed.{filtered_listed, filters_accepted}
use Rattle.capn_archive.proofs.laws.let_through.Goals as goal

pub returns-clause-accepted : goal.returns-clause-accepted
returns-clause-accepted c order input text r other through = filters_accepted order input text r other through

pub returns-clause-listed : goal.returns-clause-listed
returns-clause-listed c order input text lines r s other through listed =
    filtered_listed order input text lines r s other through listed
