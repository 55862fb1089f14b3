use Rattle.std.proofs.Common.{ap, sym}
use Rattle.capn_words.specs.Watched.{inner_of}
use Rattle.capn_serve.specs.Outgoing.{outgoing}
use Rattle.capn_serve.proofs.Added.{added_stop, told_at}
use Rattle.capn_serve.proofs.message.add_message.Goals as goal

pub returns-in-Err-Memory : goal.returns-in-Err-Memory
returns-in-Err-Memory g c most =
    added_stop g.S.Service.serves g.S.Service.refuses g.S.Service.done most c.args.run.now c.args.run.now
    c.args.frame.now (g.M.Space.message c.args.message.now) _ _ _ c.serve.new.self c.in-Err-Memory.field-0 _
    (ap (told_at c.args.run.now.at) (sym c.in-Err-Memory.field-0-is)) c.in-Err-Memory.ensures

pub returns-in-Err-Io : goal.returns-in-Err-Io
returns-in-Err-Io g c most =
    added_stop g.S.Service.serves g.S.Service.refuses g.S.Service.done most c.args.run.now c.args.run.now
    c.args.frame.now
    (g.M.Space.message c.args.message.now) (outgoing (g.W.Write.contents (inner_of c.args.writer.now))
    c.args.text.now.items) (outgoing (g.W.Write.contents (inner_of c.serve.new.writer)) c.serve.new.text.items) _
    c.serve.new.self c.in-Err-Io.field-0 _
    (ap (told_at c.args.run.now.at) (sym c.in-Err-Io.field-0-is)) c.in-Err-Io.ensures
