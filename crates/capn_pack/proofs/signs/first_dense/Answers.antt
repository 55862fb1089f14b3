use Rattle.std.proofs.Common.{arith, ap, refl}
use Rattle.capn_pack.proofs.FirstLemmas.{all_eight, dense_first, each_dense, gaps}
use Rattle.capn_pack.proofs.signs.first_dense.Goals as goal

pub returns-then-gaps-eq0-clause-dense : goal.returns-then-gaps-eq0-clause-dense
returns-then-gaps-eq0-clause-dense c =
    each_dense 8 c.args.bytes.now
    (dense_first c.args.bytes.now (gaps 8 c.eight_tags-tags.result) 8 (omega arith)
    (ap (gaps 8) c.eight_tags-tags.ensures) (all_eight (gaps 8 c.eight_tags-tags.result) c.if-gaps-eq0.true)).1

pub returns-clause-dense : goal.returns-clause-dense
returns-clause-dense c =
    each_dense _ c.args.bytes.now
    (dense_first c.args.bytes.now (gaps 8 c.eight_tags-tags.result) _ (omega arith)
    (ap (gaps 8) c.eight_tags-tags.ensures) refl).1

pub returns-clause-last : goal.returns-clause-last
returns-clause-last c =
    (dense_first c.args.bytes.now (gaps 8 c.eight_tags-tags.result) _ (omega arith)
    (ap (gaps 8) c.eight_tags-tags.ensures) refl).2
