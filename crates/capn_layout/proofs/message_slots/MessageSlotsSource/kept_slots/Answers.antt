use Rattle.std.proofs.Common.{◌≡◌, ℕ, ◌+◌, ◌*◌, ◌≤◌, length, List, ap, sym, ◌∙◌, arith}
use Rattle.capn_words.specs.Message.{segment_at}
use Rattle.capn_target.proofs.shared.Segments.{segment-room}
use Rattle.capn_layout.specs.RowWords.{kept_each}
use Rattle.capn_layout.proofs.shared.EachRow.{kept-rows-slots}
use Rattle.capn_value.specs.Tree.{count_rows}
use Rattle.capn_layout.proofs.shared.Counted.{rows-words}
use Rattle.capn_layout.proofs.message_slots.MessageSlotsSource.kept_slots.Goals as goal

pub overflow_add-step : goal.overflow_add-step
overflow_add-step g c = let h = c.requires.1.narrow in omega arith

pub kept_each_counted-requires-clause-message : goal.kept_each_counted-requires-clause-message
kept_each_counted-requires-clause-message g c = rw c.again.ensures (c.requires.1.message)

pub kept_each_counted-requires-clause-content : goal.kept_each_counted-requires-clause-content
kept_each_counted-requires-clause-content g c = rw c.again.ensures (c.requires.1.content)

pub returns-clause-kept : goal.returns-clause-kept
returns-clause-kept g c bs h =
    let m = c.args.rows.now.space in
    let r = c.args.rows.now in
    c.kept_each_counted.ensures.kept
    ∙ ap
    (λ (y : List (List ℕ)). kept_each y r.start.segment (r.start.word + r.words) r.slots (r.words + r.slots) r.count)
    c.again.ensures
    ∙ sym (kept-rows-slots m bs r.words r.slots r.start.segment r.start.word r.count h.rows h.number h.content.within)

pub overflow_add-below : goal.overflow_add-below
overflow_add-below g c =
    let h = c.requires.1.content in
    let w = h.within in
    let r = c.args.rows.now in
    let e : r.count * (r.words + r.slots) ≡ 1 * (r.words + r.slots) =
    ap (λ n. n * (r.words + r.slots)) c.if-rows-eq1.true in
    let all = segment-room r.space r.start.segment c.requires.1.message h.exists in
    omega arith

pub kept_above-requires-clause-message : goal.kept_above-requires-clause-message
kept_above-requires-clause-message g c = c.requires.1.message

pub kept_above-requires-clause-content : goal.kept_above-requires-clause-content
kept_above-requires-clause-content g c =
    let h = c.requires.1.content in
    let w = h.within in
    let r = c.args.rows.now in
    let e : r.count * (r.words + r.slots) ≡ 1 * (r.words + r.slots) =
    ap (λ n. n * (r.words + r.slots)) c.if-rows-eq1.true in
    record { exists = h.exists; within = omega arith }

pub returns-then-rows-eq1-clause-kept : goal.returns-then-rows-eq1-clause-kept
returns-then-rows-eq1-clause-kept g c bs h =
    let r = c.args.rows.now in
    let m = r.space in
    let w = h.content.within in
    let e : r.count * (r.words + r.slots) ≡ 1 * (r.words + r.slots) =
    ap (λ n. n * (r.words + r.slots)) c.if-rows-eq1.true in
    let inside : r.start.word + 1 * (r.words + r.slots) ≤ length (segment_at m r.start.segment) = omega arith in
    let k = kept-rows-slots m bs r.words r.slots r.start.segment r.start.word 1 h.rows (h.number ∙ c.if-rows-eq1.true)
    inside in
    let z = c.kept_above.ensures.kept in
    omega arith

pub returns-clause-reads : goal.returns-clause-reads
returns-clause-reads g c bs h =
    let r = c.args.rows.now in
    let w = rows-words r.space bs r.words r.slots r.start.segment r.start.word h.rows in
    let e = ap (λ (n : ℕ). n * (r.words + r.slots)) h.number in
    let d : r.count * (r.words + r.slots) ≡ r.count * r.words + r.count * r.slots = omega arith in
    let n = h.number in
    let k = c.kept_each_counted.ensures.reads in
    omega arith

pub returns-then-rows-eq1-clause-reads : goal.returns-then-rows-eq1-clause-reads
returns-then-rows-eq1-clause-reads g c bs h =
    let r = c.args.rows.now in
    let w = rows-words r.space bs r.words r.slots r.start.segment r.start.word h.rows in
    let e : count_rows bs * (r.words + r.slots) ≡ 1 * (r.words + r.slots) =
    ap (λ (n : ℕ). n * (r.words + r.slots)) (h.number ∙ c.if-rows-eq1.true) in
    let k = c.kept_above.ensures.reads in
    omega arith
