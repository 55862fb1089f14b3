use Rattle.std.proofs.Common.{◌≡◌, ◌+◌, ◌*◌, ◌/◌, ◌%◌, ◌≤◌, ℕ, length, take, ap, arith, ◌∙◌}
use Rattle.std.proofs.lemmas.Result.{on_ok_weaker, IfErr-weaker}
use Rattle.std.specs.Prelude.{slice_index}
use Rattle.std.specs.Int.{from_bool}
use Rattle.std.proofs.lemmas.List.{length-map}
use Rattle.capn_value.specs.Text.{digits_of}
use Rattle.capn_walk.specs.ValueAt.{words_from}
use Rattle.capn_show.specs.Outgoing.{outgoing}
use Rattle.capn_show.proofs.shared.Appended.{passed, same, otherwise}
use Rattle.capn_show.proofs.BitDigits.{whole-bits, first-bits}
use Rattle.capn_show.proofs.Grown.{bits-more, bits-cut, bits-all}
use Rattle.capn_show.proofs.bits.push_bits.Goals as goal

pub loop-i-init : goal.loop-i-init
loop-i-init g c xs h n =
    let old = outgoing g.W.Write.contents c.args.writer.now c.args.text.now.items in
    same old

pub loop-i-preserved : goal.loop-i-preserved
loop-i-preserved g c xs h n =
    let old = outgoing g.W.Write.contents c.args.writer.now c.args.text.now.items in
    let now = outgoing g.W.Write.contents c.loop-i.writer c.loop-i.text.items in
    let new = outgoing g.W.Write.contents c.put.new.writer c.put.new.text.items in
    let ws = words_from (g.S.Space.message c.args.space.now) c.args.start.segment c.args.start.word in
    let i = c.loop-i.i in
    let lt = c.loop-i-test.true in
    let room : 64 * i + 64 ≤ length xs = omega arith in
    let step : 64 * i + 64 ≡ 64 * (i + 1) = omega arith in
    otherwise old new _ _ (ap (λ (k : ℕ). digits_of (take k xs)) step)
    (bits-more old now xs new (64 * i) 64 c.word_bits.result
    (whole-bits ws xs i c.number_at-word.result c.word_bits.result h (length-map xs from_bool)
    c.word_bits.ensures.each c.word_bits.ensures.size c.number_at-word.ensures
    room)
    (c.loop-i.invariant xs h n) c.in_ok-put.ensures.shown)

pub returns-in_err-put-clause-cut : goal.returns-in_err-put-clause-cut
returns-in_err-put-clause-cut g c =
    passed c.from_residual.result c.in_err-put.field-0.0 _ c.from_residual.ensures.1
    (λ xs h n. let old = outgoing g.W.Write.contents c.args.writer.now c.args.text.now.items in
    let now = outgoing g.W.Write.contents c.loop-i.writer c.loop-i.text.items in
    let new = outgoing g.W.Write.contents c.put.new.writer c.put.new.text.items in
    let ws = words_from (g.S.Space.message c.args.space.now) c.args.start.segment c.args.start.word in
    let i = c.loop-i.i in
    let lt = c.loop-i-test.true in
    let room : 64 * i + 64 ≤ length xs = omega arith in
    bits-cut old now xs new _ (64 * i) 64 c.word_bits.result
    (whole-bits ws xs i c.number_at-word.result c.word_bits.result h (length-map xs from_bool)
    c.word_bits.ensures.each c.word_bits.ensures.size c.number_at-word.ensures room)
    (c.loop-i.invariant xs h n) c.in_err-put.ensures.cut)

pub returns-then-left-eq0-clause-shown : goal.returns-then-left-eq0-clause-shown
returns-then-left-eq0-clause-shown g c xs h n =
    let old = outgoing g.W.Write.contents c.args.writer.now c.args.text.now.items in
    let now = outgoing g.W.Write.contents c.loop-i.writer c.loop-i.text.items in
    let none = c.if-left-eq0.true in
    bits-all old now xs (64 * c.loop-i.i) (omega arith) (c.loop-i.invariant xs h n)

pub returns-clause-shown : goal.returns-clause-shown
returns-clause-shown g c =
    on_ok_weaker c.put-2.result
    (λ k xs h n. let old = outgoing g.W.Write.contents c.args.writer.now c.args.text.now.items in
    let now = outgoing g.W.Write.contents c.loop-i.writer c.loop-i.text.items in
    let new = outgoing g.W.Write.contents c.put-2.new.writer c.put-2.new.text.items in
    let ws = words_from (g.S.Space.message c.args.space.now) c.args.start.segment c.args.start.word in
    let i = c.loop-i.i in
    let left = c.args.count % 64 in
    let last : c.args.count / 64 ≡ i = omega arith in
    let room : 64 * i + left ≤ length xs = omega arith in
    bits-all old new xs (64 * i + left) (omega arith)
    (bits-more old now xs new (64 * i) left (take left c.word_bits-2.result)
    (first-bits ws xs i left c.number_at-last.result c.word_bits-2.result h (length-map xs from_bool)
    c.word_bits-2.ensures.each c.word_bits-2.ensures.size
    (c.number_at-last.ensures ∙ ap (slice_index ws) last) (omega arith) room) (c.loop-i.invariant xs h n) k))
    c.put-2.ensures.shown

pub returns-clause-cut : goal.returns-clause-cut
returns-clause-cut g c =
    IfErr-weaker c.put-2.result _ _
    (λ e k xs h n. let old = outgoing g.W.Write.contents c.args.writer.now c.args.text.now.items in
    let now = outgoing g.W.Write.contents c.loop-i.writer c.loop-i.text.items in
    let new = outgoing g.W.Write.contents c.put-2.new.writer c.put-2.new.text.items in
    let ws = words_from (g.S.Space.message c.args.space.now) c.args.start.segment c.args.start.word in
    let i = c.loop-i.i in
    let left = c.args.count % 64 in
    let last : c.args.count / 64 ≡ i = omega arith in
    let room : 64 * i + left ≤ length xs = omega arith in
    bits-cut old now xs new e (64 * i) left (take left c.word_bits-2.result)
    (first-bits ws xs i left c.number_at-last.result c.word_bits-2.result h (length-map xs from_bool)
    c.word_bits-2.ensures.each c.word_bits-2.ensures.size
    (c.number_at-last.ensures ∙ ap (slice_index ws) last) (omega arith) room) (c.loop-i.invariant xs h n) k)
    c.put-2.ensures.cut
