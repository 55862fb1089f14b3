use Rattle.std.proofs.lemmas.Result.{on_ok_weaker}
use Rattle.capn_annotate.proofs.Climbs.{climbed}
use Rattle.capn_annotate.proofs.ways.+climb.Goals as goal

pub returns : goal.returns
returns g t c =
    on_ok_weaker c.push_slot.result
    (climbed (g.S.Space.message c.args.space.now) c.args.words.now c.args.levels c.args.slot c.if-levels-eq0.false
    c.if-slot-eq0.false c.covered_at-holder.result c.covered_at-holder.ensures c.args.path.now.items
    c.climb.new.path.items c.push_slot.new.path.items c.in_ok-climb.ensures)
    c.push_slot.ensures
