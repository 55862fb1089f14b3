use Rattle.capn_stream.proofs.Waiting.{feed_gives, unfinished_stage}
use Rattle.capn_stream.proofs.framer.Framer.feed.Goals as goal

pub returns-clause-gives : goal.returns-clause-gives
returns-clause-gives g c =
    rw (← c.self.view_is)
    (feed_gives c.self.inside.frame.items c.args.piece.now c.self.inside.max_words c.fill-fed.result
    c.fill-fed.new.stage c.fill-fed.new.bytes.items c.fill-fed.new.ends.items c.self.inside.failed
    c.is_err-self-inside.result
    c.self.invariant.small c.if-self.false c.is_err-self-inside.ensures.value c.fill-fed.ensures.filled
    c.fill-fed.ensures.refused)

pub returns-clause-memory : goal.returns-clause-memory
returns-clause-memory g c =
    rw (← c.self.view_is) (λ h.
    let lacked = c.fill-fed.ensures.memory h in (
      lacked.0,
      unfinished_stage c.self.inside.stage c.self.inside.frame.items c.self.inside.max_words c.self.inside.ends.items
          (c.self.invariant.is c.if-self.false) lacked.1,
    ))

pub returns-clause-kept : goal.returns-clause-kept
returns-clause-kept g c = rw (← c.self.view_is) c.fill-fed.ensures.kept
