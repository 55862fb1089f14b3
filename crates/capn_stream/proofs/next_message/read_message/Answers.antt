use Rattle.capn_stream.proofs.ReadFirst.{only_first, read_gives, reads_first, wants_first}
use Rattle.capn_stream.proofs.next_message.read_message.Goals as goal

pub returns-clause-exact : goal.returns-clause-exact
returns-clause-exact g c =
    reads_first _ _ c.args.max_words _ c.receive.result (read_gives _ _ _ c.args.max_words _ c.receive.ensures.gives)

pub returns-clause-only : goal.returns-clause-only
returns-clause-only g c =
    only_first _ _ c.args.max_words _ c.receive.result (read_gives _ _ _ c.args.max_words _ c.receive.ensures.gives)

pub returns-clause-gives : goal.returns-clause-gives
returns-clause-gives g c = read_gives _ _ _ c.args.max_words _ c.receive.ensures.gives

pub returns-clause-memory : goal.returns-clause-memory
returns-clause-memory g c = wants_first _ _ _ c.args.max_words _ c.receive.ensures.gives
