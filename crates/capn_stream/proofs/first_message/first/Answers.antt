use Rattle.std.proofs.Common.{◌∙◌, arith}
use Rattle.std.proofs.lemmas.Result.{err_from_is_err_and}
use Rattle.capn_stream.specs.inner.KeptEnds.{kept}
use Rattle.capn_stream.proofs.shared.FrameLaws.{one_frame, refused_whole, whole_of}
use Rattle.capn_stream.proofs.shared.WholeFrames.{read_ends, read_stands, sum-sizes_read}
use Rattle.capn_stream.proofs.first_message.first.Goals as goal

pub returns-in_err-head-clause-only : goal.returns-in_err-head-clause-only
returns-in_err-head-clause-only g c message taken h =
    let p = err_from_is_err_and c.from_residual.result c.from_residual.ensures.1 in
    let memory = refused_whole c.args.bytes.now c.args.max_words c.in_err-head.field-0.0
    (whole_of c.args.bytes.now c.args.max_words message taken h) c.in_err-head.ensures.refused in
    rw (p.1, p.2) memory

pub read_ends-requires-clause-room : goal.read_ends-requires-clause-room
read_ends-requires-clause-room g c =
    let sizes = sum-sizes_read c.args.bytes.now c.in_ok-head.head.segments c.in_ok-head.ensures.segments in
    omega (arith, sizes, c.in_ok-head.ensures.whole.1, c.requires)

pub new-requires-in-Ok-clause-ends : goal.new-requires-in-Ok-clause-ends
new-requires-in-Ok-clause-ends g c =
    read_ends c.args.bytes.now c.args.max_words c.in_ok-head.head.segments c.in_ok-head.head.words
    c.head_of-start.result (kept c.in_ok-ends.ends) c.in-Ok.words
    c.requires (λ i. omega (arith, c.type_inv.bytes i)) c.in_ok-head.ensures.whole c.in_ok-head.ensures.segments
    c.in_ok-head.ensures.words c.head_of-start.ensures c.in_ok-ends.ensures.ends c.in-Ok.ensures.exact

pub returns-clause-found : goal.returns-clause-found
returns-clause-found g c =
    let stands = read_stands c.args.bytes.now c.args.max_words c.in_ok-head.head.segments c.in_ok-head.head.words
    c.head_of-start.result (kept c.in_ok-ends.ends) c.in-Ok.words
    c.requires (λ i. omega (arith, c.type_inv.bytes i)) c.in_ok-head.ensures.whole c.in_ok-head.ensures.segments
    c.in_ok-head.ensures.words c.head_of-start.ensures c.in_ok-ends.ensures.ends c.in-Ok.ensures.exact in
    rw c.new-in-Ok.ensures stands

pub returns-clause-only : goal.returns-clause-only
returns-clause-only g c message taken h =
    let stands = read_stands c.args.bytes.now c.args.max_words c.in_ok-head.head.segments c.in_ok-head.head.words
    c.head_of-start.result (kept c.in_ok-ends.ends) c.in-Ok.words
    c.requires (λ i. omega (arith, c.type_inv.bytes i)) c.in_ok-head.ensures.whole c.in_ok-head.ensures.segments
    c.in_ok-head.ensures.words c.head_of-start.ensures c.in_ok-ends.ensures.ends c.in-Ok.ensures.exact in
    let same = one_frame c.args.bytes.now c.args.max_words c.args.max_words _ message _ taken stands h in
    (c.new-in-Ok.ensures ∙ same.0, same.1)
