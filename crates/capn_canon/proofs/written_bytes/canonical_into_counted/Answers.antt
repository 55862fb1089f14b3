use Rattle.std.proofs.Common.{take, arith}
use Rattle.capn_canon.proofs.calls.OfMessages.{answered_form}
use Rattle.capn_canon.proofs.calls.IntoBuffers.{into_answered, found_into, past_into, inside_into, short_into}
use Rattle.capn_canon.proofs.written_bytes.canonical_into_counted.Goals as goal

pub returns-clause-answered : goal.returns-clause-answered
returns-clause-answered g c =
    let told = c.write_by_segments.ensures.into in
    into_answered c.args.space.now c.args.limits c.args.out.now c.write_by_segments.new.out
    c.write_by_segments.result told.written told.refused

pub returns-clause-found : goal.returns-clause-found
returns-clause-found g c =
    found_into c.args.space.now c.args.limits c.args.out.now c.write_by_segments.new.out
    c.write_by_segments.result c.write_by_segments.ensures.into.written

pub returns-clause-past : goal.returns-clause-past
returns-clause-past g c =
    past_into c.args.space.now c.args.limits c.args.out.now c.write_by_segments.new.out
    c.write_by_segments.result c.write_by_segments.ensures.into.written

pub returns-clause-inside : goal.returns-clause-inside
returns-clause-inside g c =
    inside_into c.args.space.now c.args.limits c.args.out.now c.write_by_segments.new.out
    c.write_by_segments.result c.write_by_segments.ensures.into.written

pub returns-clause-short : goal.returns-clause-short
returns-clause-short g c =
    short_into c.args.space.now c.args.limits c.args.out.now c.write_by_segments.new.out
    c.write_by_segments.result c.write_by_segments.ensures.into.written c.bounds.ensures (omega arith) (omega arith)

pub returns-clause-reads_back : goal.returns-clause-reads_back
returns-clause-reads_back g c =
    let m = c.args.space.now in
    let told = c.write_by_segments.ensures.into in
    answered_form c.write_by_segments.result (λ w. take w.length c.write_by_segments.new.out) (λ w. w.paid) m
    c.args.limits _ (λ w v h. h.reads_back) c.bounds.ensures (omega arith) (omega arith)
    (found_into m c.args.limits c.args.out.now c.write_by_segments.new.out c.write_by_segments.result told.written)

pub returns-clause-pays : goal.returns-clause-pays
returns-clause-pays g c =
    let m = c.args.space.now in
    let told = c.write_by_segments.ensures.into in
    answered_form c.write_by_segments.result (λ w. take w.length c.write_by_segments.new.out) (λ w. w.paid) m
    c.args.limits _ (λ w v h. h.pays) c.bounds.ensures (omega arith) (omega arith)
    (found_into m c.args.limits c.args.out.now c.write_by_segments.new.out c.write_by_segments.result told.written)

pub returns-clause-own : goal.returns-clause-own
returns-clause-own g c =
    let m = c.args.space.now in
    let told = c.write_by_segments.ensures.into in
    answered_form c.write_by_segments.result (λ w. take w.length c.write_by_segments.new.out) (λ w. w.paid) m
    c.args.limits _ (λ w v h. h.own) c.bounds.ensures (omega arith) (omega arith)
    (found_into m c.args.limits c.args.out.now c.write_by_segments.new.out c.write_by_segments.result told.written)

pub returns-clause-exactly : goal.returns-clause-exactly
returns-clause-exactly g c =
    let m = c.args.space.now in
    let told = c.write_by_segments.ensures.into in
    answered_form c.write_by_segments.result (λ w. take w.length c.write_by_segments.new.out) (λ w. w.paid) m
    c.args.limits _ (λ w v h. h.exactly) c.bounds.ensures (omega arith) (omega arith)
    (found_into m c.args.limits c.args.out.now c.write_by_segments.new.out c.write_by_segments.result told.written)
