use Rattle.std.proofs.Common.{arith}
use Rattle.capn_canon.proofs.calls.OfMessages.{answered_short, answered_form}
use Rattle.capn_canon.proofs.canonical.canonical_of.Goals as goal

pub returns-clause-short : goal.returns-clause-short
returns-clause-short g c =
    answered_short c.ask.result (λ a. a.bytes.items) (λ a. a.paid) (g.M.Asked.message c.args.space) c.args.limits
    c.ask.ensures.0 (omega arith) (omega arith) c.ask.ensures.1.found

pub returns-clause-reads_back : goal.returns-clause-reads_back
returns-clause-reads_back g c =
    answered_form c.ask.result (λ a. a.bytes.items) (λ a. a.paid) (g.M.Asked.message c.args.space) c.args.limits _
    (λ a v h. h.reads_back) c.ask.ensures.0 (omega arith) (omega arith) c.ask.ensures.1.found

pub returns-clause-pays : goal.returns-clause-pays
returns-clause-pays g c =
    answered_form c.ask.result (λ a. a.bytes.items) (λ a. a.paid) (g.M.Asked.message c.args.space) c.args.limits _
    (λ a v h. h.pays) c.ask.ensures.0 (omega arith) (omega arith) c.ask.ensures.1.found

pub returns-clause-own : goal.returns-clause-own
returns-clause-own g c =
    answered_form c.ask.result (λ a. a.bytes.items) (λ a. a.paid) (g.M.Asked.message c.args.space) c.args.limits _
    (λ a v h. h.own) c.ask.ensures.0 (omega arith) (omega arith) c.ask.ensures.1.found

pub returns-clause-exactly : goal.returns-clause-exactly
returns-clause-exactly g c =
    answered_form c.ask.result (λ a. a.bytes.items) (λ a. a.paid) (g.M.Asked.message c.args.space) c.args.limits _
    (λ a v h. h.exactly) c.ask.ensures.0 (omega arith) (omega arith) c.ask.ensures.1.found
