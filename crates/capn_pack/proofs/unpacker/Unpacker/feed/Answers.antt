use Rattle.capn_pack.proofs.unpacker.Unpacker.feed.Goals as goal

pub returns-in-Ok-clause-fed : goal.returns-in-Ok-clause-fed
returns-in-Ok-clause-fed g c =
    rw (← c.self.view_is) (record {
      len = c.in-Ok.fed.taken;
      split = c.in-Ok.ensures.1;
      offset = c.saturating_add-self-inside.ensures;
      was_good = c.if-self.false;
      is_good = c.if-self.false;
    })
