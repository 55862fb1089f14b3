use Rattle.capn_archive.specs.Tasks.{refuses, serves}
use Rattle.capn_serve.proofs.shared.Adding.{does_then_flush}
use Rattle.capn_archive.proofs.archive_service.ArchiveServiceService.serve.Goals as goal

pub returns : goal.returns
returns g c =
    does_then_flush serves refuses c.args.self.now c.add_message.new.self c.args.at c.args.frame.now
    (g.S.Space.message c.args.message.now) _ _ _ _ _ c.flush_long.result c.in_ok-add_message.ensures
    c.flush_long.ensures
