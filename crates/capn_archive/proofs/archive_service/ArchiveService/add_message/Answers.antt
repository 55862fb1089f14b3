use Rattle.std.proofs.Common.{rules}
use Rattle.capn_words.specs.Watched.{inner_of, has_failed}
use Rattle.capn_serve.specs.Outgoing.{outgoing}
use Rattle.capn_archive.proofs.ArchiveServed.{served_does}
use Rattle.capn_archive.proofs.archive_service.ArchiveService.add_message.Goals as goal

pub returns-in_default-2 : goal.returns-in_default-2
returns-in_default-2 g c =
    let self = c.args.self.now in
    let is = c.in_default.served-is in
    served_does self.order self.tally c.args.at c.args.frame.now (g.S.Space.message c.args.message.now)
    c.serve_task-served.new.tally (outgoing (g.W.Write.contents (inner_of c.args.writer.now)) c.args.text.now.items)
    (outgoing (g.W.Write.contents (inner_of c.serve_task-served.new.writer)) c.serve_task-served.new.text.items)
    (has_failed c.serve_task-served.new.writer) c.serve_task-served.result c.serve_task-served.ensures
    (search (rules, is))
