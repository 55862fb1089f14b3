use Rattle.capn_words.specs.Message.{total}
use Rattle.capn_cover.proofs.Together.{fresh-together}
use Rattle.capn_cover.proofs.message_cover.cover_all.Goals as goal

pub cover_slot-requires-clause-known : goal.cover_slot-requires-clause-known
cover_slot-requires-clause-known g c =
    let m = g.S.Space.message c.args.space.now in
    let e = c.cover_word.ensures in
    let f = c.requires.fresh in
    rw e (rw f (fresh-together m (total m)))
