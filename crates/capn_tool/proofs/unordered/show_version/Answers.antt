use Rattle.capn_tool.proofs.Shown.{version_not_shown, version_shown}
use Rattle.capn_tool.proofs.unordered.show_version.Goals as goal

pub returns-in_err-write_all : goal.returns-in_err-write_all
returns-in_err-write_all g c =
    let wrote = c.in_err-write_all.ensures in
    version_not_shown _ _ _ _ c.from_residual.result wrote.begun c.requires wrote.failed c.from_residual.ensures.1

pub returns : goal.returns
returns g c =
    let wrote = c.in_ok-write_all.ensures in
    version_shown _ _ _ _ _ _ _ wrote.ok c.requires wrote.failed c.flush_after.ensures.kept c.flush_after.ensures.ended
