use Rattle.std.proofs.Common.{length, ap, arith}
use Rattle.std.proofs.lemmas.Option.{IfSome_then}
use Rattle.capn_canon.proofs.calls.OnlySegment.{own_short}
use Rattle.capn_canon.proofs.one_segment.own_canonical.Goals as goal

pub returns-in-Some-clause-short : goal.returns-in-Some-clause-short
returns-in-Some-clause-short g c =
    let only = c.in-Some.ensures.one in
    let few = own_short c.in-Some.bytes.now only.0 only.2 in
    IfSome_then c.own_words.result c.own_words.ensures.same (λ own same. let e = ap length same in omega arith)
