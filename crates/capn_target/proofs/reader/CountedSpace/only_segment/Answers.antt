use Rattle.std.proofs.Common.{sym, arith}
use Rattle.capn_target.proofs.shared.OneBare.{read-alone}
use Rattle.capn_target.proofs.reader.CountedSpace.only_segment.Goals as goal

pub returns-clause-one : goal.returns-clause-one
returns-clause-one g c =
    let k = c.if-segments-ne1.false in
    let l = c.segments.ensures.count in
    read-alone (g.S.Space.message c.self.inside.space.now) c.args.self.now c.words.result c.unwrap_or-words.result
    c.bytes.result.now c.in-Ok.words (sym c.self.view_is) c.self.invariant (omega arith) c.words.ensures.words
    c.unwrap_or-words.ensures c.bytes.ensures c.in-Ok.ensures.exact
