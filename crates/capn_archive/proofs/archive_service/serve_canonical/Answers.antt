use Rattle.std.proofs.Common.{Err, ap}
use Rattle.capn_words.specs.Watched.{inner_of, has_failed}
use Rattle.capn_canon.specs.declared.refusal.Refusal.{Refusal}
use Rattle.capn_serve.specs.Outgoing.{outgoing}
use Rattle.capn_archive.proofs.FramesAdded.{frame_added, frame_unmade}
use Rattle.capn_archive.proofs.archive_service.serve_canonical.Goals as goal

pub returns-in-Some : goal.returns-in-Some
returns-in-Some g c tally at frame =
    frame_added c.args.limits tally at frame (g.S.Space.message c.args.message.now) c.in-Some.own.bytes.now
    c.in-Some.own.paid c.in-Some.ensures.own
    (outgoing (g.W.Write.contents (inner_of c.args.writer.now)) c.args.text.now.items)
    (outgoing (g.W.Write.contents (inner_of c.add_frame.new.writer)) c.add_frame.new.text.items)
    (has_failed c.add_frame.new.writer) c.add_frame.result c.add_frame.ensures

pub returns-in-Err-Memory : goal.returns-in-Err-Memory
returns-in-Err-Memory g c tally at frame =
    frame_unmade c.args.limits tally at frame (g.S.Space.message c.args.message.now)
    (c.in-Err-Memory.ensures.memory (ap (λ (e : Refusal). Err e) c.in-Err-Memory.field-0-is))
    (outgoing (g.W.Write.contents (inner_of c.args.writer.now)) c.args.text.now.items) (has_failed c.args.writer.now)
    c.requires
