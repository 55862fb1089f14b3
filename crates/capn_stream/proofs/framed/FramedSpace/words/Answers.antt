use Rattle.std.proofs.Common.{◌≡◌, ◌<◌, Some, length, ap, sym, ◌∙◌, arith}
use Rattle.capn_stream.specs.inner.KeptEnds.{kept}
use Rattle.capn_stream.proofs.shared.Cutting.{seen_count, seen_order, seen_size, words_of-none, words_of-some}
use Rattle.capn_stream.proofs.framed.FramedSpace.words.Goals as goal

pub returns-then-segment-count : goal.returns-then-segment-count
returns-then-segment-count g c =
    let count = seen_count (kept c.self.inside.ends) c.self.inside.words c.args.self.now c.self.view_is
    c.self.invariant.1 in
    sym (words_of-none c.args.self.now c.args.segment (omega (arith, c.count.ensures, count)))

pub overflow_sub-result : goal.overflow_sub-result
overflow_sub-result g c =
    let count = seen_count (kept c.self.inside.ends) c.self.inside.words c.args.self.now c.self.view_is
    c.self.invariant.1 in
    let here : c.args.segment < length c.args.self.now = omega (arith, c.count.ensures, count) in
    let order = seen_order (kept c.self.inside.ends) c.self.inside.words c.args.self.now c.self.view_is
    c.self.invariant.1 c.args.segment here in
    let all : c.unwrap_or-all.result ≡ length c.self.inside.words = cc in
    let end = rw all at c.end_of.ensures in
    omega (arith, order, c.start_of.ensures, end)

pub returns : goal.returns
returns g c =
    let count = seen_count (kept c.self.inside.ends) c.self.inside.words c.args.self.now c.self.view_is
    c.self.invariant.1 in
    let here : c.args.segment < length c.args.self.now = omega (arith, c.count.ensures, count) in
    let size = seen_size (kept c.self.inside.ends) c.self.inside.words c.args.self.now c.self.view_is c.self.invariant.1
    c.args.segment here in
    let all : c.unwrap_or-all.result ≡ length c.self.inside.words = cc in
    let end = rw all at c.end_of.ensures in
    ap Some (omega (arith, size, c.start_of.ensures, end)) ∙ sym (words_of-some c.args.self.now c.args.segment here)
