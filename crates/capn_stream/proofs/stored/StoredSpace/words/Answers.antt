use Rattle.std.proofs.Common.{◌<◌, Some, length, ap, sym, ◌∙◌, arith}
use Rattle.capn_stream.proofs.shared.Cutting.{seen_count, seen_order, seen_size, words_of-none, words_of-some}
use Rattle.capn_stream.proofs.stored.StoredSpace.words.Goals as goal

pub returns-then-segment-len : goal.returns-then-segment-len
returns-then-segment-len g c =
    let count = seen_count c.self.inside.ends.items c.self.inside.words c.args.self.now c.self.view_is
    c.self.invariant in
    sym (words_of-none c.args.self.now c.args.segment (omega (arith, count)))

pub overflow_sub-result : goal.overflow_sub-result
overflow_sub-result g c =
    let count = seen_count c.self.inside.ends.items c.self.inside.words c.args.self.now c.self.view_is
    c.self.invariant in
    let here : c.args.segment < length c.args.self.now = omega (arith, count) in
    let order = seen_order c.self.inside.ends.items c.self.inside.words c.args.self.now c.self.view_is c.self.invariant
    c.args.segment here in
    let all = c.len-all.ensures in
    let start = rw c.deref-2.ensures.value at c.start_of.ensures in
    let end = rw (c.deref.ensures.value, all) at c.end_of.ensures in
    omega (arith, order, start, end)

pub returns : goal.returns
returns g c =
    let count = seen_count c.self.inside.ends.items c.self.inside.words c.args.self.now c.self.view_is
    c.self.invariant in
    let here : c.args.segment < length c.args.self.now = omega (arith, count) in
    let size = seen_size c.self.inside.ends.items c.self.inside.words c.args.self.now c.self.view_is c.self.invariant
    c.args.segment here in
    let all = c.len-all.ensures in
    let start = rw c.deref-2.ensures.value at c.start_of.ensures in
    let end = rw (c.deref.ensures.value, all) at c.end_of.ensures in
    ap Some (omega (arith, size, start, end)) ∙ sym (words_of-some c.args.self.now c.args.segment here)
