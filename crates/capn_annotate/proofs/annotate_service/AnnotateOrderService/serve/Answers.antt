use Rattle.capn_words.specs.Watched.{has_failed, inner_of}
use Rattle.capn_serve.specs.Outgoing.{outgoing}
use Rattle.capn_annotate.proofs.Served.{does_annotation, does_stop}
use Rattle.capn_annotate.proofs.annotate_service.AnnotateOrderService.serve.Goals as goal

pub returns-in-Ok : goal.returns-in-Ok
returns-in-Ok g c =
    does_annotation c.args.self.now c.args.at c.args.frame.now (g.S.Space.message c.args.message.now)
    (outgoing (g.W.Write.contents (inner_of c.args.writer.now)) c.args.text.now.items)
    (outgoing (g.W.Write.contents (inner_of c.add_annotation.new.writer)) c.add_annotation.new.text.items)
    (has_failed c.add_annotation.new.writer) c.add_annotation.result c.in-Ok.ensures.surveyed.is.accepted
    c.add_annotation.ensures

pub returns-in-Err : goal.returns-in-Err
returns-in-Err g c =
    does_stop c.args.self.now c.args.at c.args.frame.now (g.S.Space.message c.args.message.now)
    (outgoing (g.W.Write.contents (inner_of c.args.writer.now)) c.args.text.now.items) (has_failed c.args.writer.now)
    c.requires.fine c.in-Err.stopped c.fault_of_stop.result c.fault_of_stop.ensures c.in-Err.ensures.refused
    c.in-Err.ensures.no_memory
