use Rattle.std.proofs.Common.{◌≡◌, ℕ, ◌<◌, ◌^◌, ◌∷◌, ◌++◌, []}
use Rattle.std.proofs.Common.{Some, length, slice_index, ap, sym, subst, ◌∙◌, arith}
use Rattle.capn_stream.proofs.shared.Cutting.{seen_order, seen_size, words_of-none, words_of-some}
use Rattle.capn_scratch.specs.inner.Ends.{numbers}
use Rattle.capn_scratch.proofs.EndWords.{cut_count, end_small, start_small}
use Rattle.capn_scratch.proofs.scratch_segments.ScratchSegmentsSpace.words.Goals as goal

pub returns-then-segment-self : goal.returns-then-segment-self
returns-then-segment-self c =
    let i = c.self.inside in
    sym (words_of-none c.args.self.now c.args.segment
    (omega (arith, cut_count i.ends.now i.words c.args.self.now c.self.view_is c.self.invariant 0)))

pub end_of-requires-clause-small : goal.end_of-requires-clause-small
end_of-requires-clause-small c =
    let i = c.self.inside in
    let all : c.unwrap_or-all.result ≡ length i.words = cc in
    subst (λ (n : ℕ). slice_index (numbers i.ends.now ++ n ∷ []) c.args.segment < 2 ^ 32) (sym all)
    (end_small i.ends.now i.words c.args.self.now c.self.view_is c.self.invariant c.args.segment (omega arith))

pub start_of-requires-clause-small : goal.start_of-requires-clause-small
start_of-requires-clause-small c =
    let i = c.self.inside in
    let count = cut_count i.ends.now i.words c.args.self.now c.self.view_is c.self.invariant 0 in
    start_small i.ends.now i.words c.args.self.now c.self.view_is c.self.invariant c.args.segment (omega (arith, count))

pub overflow_sub-result : goal.overflow_sub-result
overflow_sub-result c =
    let i = c.self.inside in
    let count = cut_count i.ends.now i.words c.args.self.now c.self.view_is c.self.invariant 0 in
    let here : c.args.segment < length c.args.self.now = omega (arith, count) in
    let order = seen_order (numbers i.ends.now) i.words c.args.self.now c.self.view_is c.self.invariant c.args.segment
    here in
    let all : c.unwrap_or-all.result ≡ length i.words = cc in
    let end = rw all at c.end_of.ensures in
    omega (arith, order, c.start_of.ensures, end)

pub returns : goal.returns
returns c =
    let i = c.self.inside in
    let count = cut_count i.ends.now i.words c.args.self.now c.self.view_is c.self.invariant 0 in
    let here : c.args.segment < length c.args.self.now = omega (arith, count) in
    let size = seen_size (numbers i.ends.now) i.words c.args.self.now c.self.view_is c.self.invariant c.args.segment
    here in
    let all : c.unwrap_or-all.result ≡ length i.words = cc in
    let end = rw all at c.end_of.ensures in
    ap Some (omega (arith, size, c.start_of.ensures, end)) ∙ sym (words_of-some c.args.self.now c.args.segment here)
