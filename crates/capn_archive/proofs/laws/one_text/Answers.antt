use Rattle.std.proofs.Common.{refl}
use Rattle.capn_archive.specs.ArchiveRun as archives
use Rattle.capn_archive.specs.UniqRun as uniqs
use Rattle.capn_archive.specs.FilterRun as filters
use Rattle.capn_archive.proofs.OneArchive.{archive_one_way}
use Rattle.capn_archive.proofs.OneUniq.{uniq_one_way}
use Rattle.capn_archive.proofs.OneFilter.{filter_one_way}
use Rattle.capn_archive.proofs.OneWhole.{one_whole}
use Rattle.capn_archive.proofs.laws.one_text.Goals as goal

pub returns-clause-archive : goal.returns-clause-archive
returns-clause-archive c order input t u r s h k =
    one_whole archives.archive_finish (λ y at why came. refl) (archives.archive_fold order) (archive_one_way order)
    (archives.first_run order) order.form input t u r s h k

pub returns-clause-uniq : goal.returns-clause-uniq
returns-clause-uniq c order input t u r s h k =
    one_whole uniqs.uniq_finish (λ y at why came. refl) (uniqs.uniq_fold order) (uniq_one_way order)
    (uniqs.first_run order) order.form input t u r s h k

pub returns-clause-filter : goal.returns-clause-filter
returns-clause-filter c order input t u r s h k =
    one_whole filters.filter_finish (λ y at why came. refl) (filters.filter_fold order) (filter_one_way order)
    (filters.first_run order) order.form input t u r s h k
