use Rattle.std.proofs.Common.{arith}
use Rattle.capn_canon.proofs.calls.OfMessages.{answered_short, answered_form}
use Rattle.capn_canon.proofs.canonical.canonical_of_counted.Goals as goal

pub returns-clause-short : goal.returns-clause-short
returns-clause-short g c =
    answered_short c.canonical_by_segments.result (λ a. a.bytes.items) (λ a. a.paid) c.args.space.now c.args.limits
    c.bounds.ensures (omega arith) (omega arith) c.canonical_by_segments.ensures.told.found

pub returns-clause-reads_back : goal.returns-clause-reads_back
returns-clause-reads_back g c =
    answered_form c.canonical_by_segments.result (λ a. a.bytes.items) (λ a. a.paid) c.args.space.now c.args.limits _
    (λ a v h. h.reads_back) c.bounds.ensures (omega arith) (omega arith) c.canonical_by_segments.ensures.told.found

pub returns-clause-pays : goal.returns-clause-pays
returns-clause-pays g c =
    answered_form c.canonical_by_segments.result (λ a. a.bytes.items) (λ a. a.paid) c.args.space.now c.args.limits _
    (λ a v h. h.pays) c.bounds.ensures (omega arith) (omega arith) c.canonical_by_segments.ensures.told.found

pub returns-clause-own : goal.returns-clause-own
returns-clause-own g c =
    answered_form c.canonical_by_segments.result (λ a. a.bytes.items) (λ a. a.paid) c.args.space.now c.args.limits _
    (λ a v h. h.own) c.bounds.ensures (omega arith) (omega arith) c.canonical_by_segments.ensures.told.found

pub returns-clause-exactly : goal.returns-clause-exactly
returns-clause-exactly g c =
    answered_form c.canonical_by_segments.result (λ a. a.bytes.items) (λ a. a.paid) c.args.space.now c.args.limits _
    (λ a v h. h.exactly) c.bounds.ensures (omega arith) (omega arith) c.canonical_by_segments.ensures.told.found
