use Rattle.std.proofs.Common.{arith, refl}
use Rattle.capn_pack.proofs.FirstLemmas.{all_eight, each_zeros, zeros_first}
use Rattle.capn_pack.proofs.signs.first_zeros.Goals as goal

pub returns-then-tags-eq0-clause-zeros : goal.returns-then-tags-eq0-clause-zeros
returns-then-tags-eq0-clause-zeros c =
    each_zeros 8 c.args.bytes.now
    (zeros_first c.args.bytes.now _ 8 (omega arith) c.eight_tags-tags.ensures (all_eight _ c.if-tags-eq0.true)).1

pub returns-clause-zeros : goal.returns-clause-zeros
returns-clause-zeros c =
    each_zeros _ c.args.bytes.now (zeros_first c.args.bytes.now _ _ (omega arith) c.eight_tags-tags.ensures refl).1

pub returns-clause-last : goal.returns-clause-last
returns-clause-last c = (zeros_first c.args.bytes.now _ _ (omega arith) c.eight_tags-tags.ensures refl).2
