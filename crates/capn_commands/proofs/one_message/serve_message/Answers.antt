use Rattle.capn_words.specs.Watched.{inner_of, has_failed}
use Rattle.capn_commands.proofs.OneRead.{message_broken, message_memory}
use Rattle.capn_commands.proofs.one_message.serve_message.Goals as goal

pub returns-in-Ok : goal.returns-in-Ok
returns-in-Ok g c =
    message_broken g.S.Service.serves g.S.Service.refuses c.args.service c.serve.new.self c.args.frame.now
    (g.M.Space.message c.args.message.now) (g.W.Write.contents (inner_of c.args.writer.now))
    (g.W.Write.contents (inner_of c.serve.new.writer)) c.new-text.result.items c.serve.new.text.items
    (has_failed c.serve.new.writer) c.new-text.ensures.items
    (g.W.Write.contents (inner_of c.write_all.new.self)) c.deref.result.now (has_failed c.write_all.new.self)
    c.in-Ok.ensures c.deref.ensures.value c.in-Err.ensures.begun c.in-Err.ensures.failed

pub returns-in-Err-Memory : goal.returns-in-Err-Memory
returns-in-Err-Memory g c =
    message_memory g.S.Service.serves g.S.Service.refuses c.args.service c.serve.new.self c.args.frame.now
    (g.M.Space.message c.args.message.now) (g.W.Write.contents (inner_of c.args.writer.now))
    (g.W.Write.contents (inner_of c.serve.new.writer)) c.new-text.result.items c.serve.new.text.items
    (has_failed c.serve.new.writer) c.new-text.ensures.items
    c.in-Err-Memory.field-0 c.in-Err-Memory.field-0-is c.in-Err-Memory.ensures
