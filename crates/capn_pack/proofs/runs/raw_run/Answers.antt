use Rattle.std.proofs.Common.{arith, drop}
use Rattle.std.proofs.lemmas.List.{take-take}
use Rattle.capn_pack.proofs.RunLemmas.{dense_here, dense_two, not_dense}
use Rattle.capn_pack.proofs.runs.raw_run.Goals as goal

pub returns-then-bytes-start-clause-run : goal.returns-then-bytes-start-clause-run
returns-then-bytes-start-clause-run c =
    let few = c.few_dense.ensures.run in
    record { most = omega (arith, few.most); inside = few.inside; dense = few.dense }

pub returns-then-bytes-start-clause-last : goal.returns-then-bytes-start-clause-last
returns-then-bytes-start-clause-last c less d =
    c.few_dense.ensures.last (omega (arith, c.few_dense.ensures.run.inside)) d

pub returns-then-first_tag-lt7-clause-last : goal.returns-then-first_tag-lt7-clause-last
returns-then-first_tag-lt7-clause-last c less d =
    let two = take-take 8 16 (drop c.args.start c.args.bytes.now) (omega arith) in
    not_dense _ (rw (c.first_tag.ensures, c.two_at.ensures, two) at c.if-first_tag-lt7.true)
    (dense_here c.args.bytes.now c.args.start d)

pub returns-clause-run : goal.returns-clause-run
returns-clause-run c =
    dense_two c.args.bytes.now c.args.start c.raw_step-first.result c.raw_step.result
    (omega (arith, c.raw_step-first.ensures.run.most)) c.raw_step-first.ensures.run c.raw_step.ensures.run
