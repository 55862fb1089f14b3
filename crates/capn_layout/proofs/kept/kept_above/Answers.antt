use Rattle.std.proofs.Common.{◌≡◌, ◌≢◌, ℕ, List, ◌+◌, ◌-◌, ◌<◌, ◌∙◌, max, ap, sym, take, slice_index, arith}
use Rattle.capn_words.specs.Message.{segment_at}
use Rattle.capn_value.specs.Trim.{kept_words}
use Rattle.capn_walk.specs.ValueAt.{words_from}
use Rattle.capn_layout.proofs.shared.Cut.{kept-found, kept-least, last-cut}
use Rattle.capn_layout.proofs.kept.kept_above.Goals as goal

pub returns-then-count-least-clause-kept : goal.returns-then-count-least-clause-kept
returns-then-count-least-clause-kept g c =
    let e = c.if-count-least.true in
    kept-least (segment_at c.args.space.now c.args.at.segment) c.args.at.word c.args.count c.args.least c.args.count
    (omega arith) (omega arith) (λ k l m. absurd (omega arith))

pub returns-then-word-ne0-clause-kept : goal.returns-then-word-ne0-clause-kept
returns-then-word-ne0-clause-kept g c =
    let ne : slice_index (segment_at c.args.space.now c.args.at.segment) (c.args.at.word + (c.args.count - 1)) ≢ 0 =
    λ z. c.if-word-ne0.true (c.word.ensures.word ∙ z) in
    let r = c.requires.least in
    let f = c.if-count-least.false in
    let lt : c.args.least < c.args.count = omega arith in
    kept-found (segment_at c.args.space.now c.args.at.segment) c.args.at.word c.args.count c.args.least c.args.count lt
    (omega arith) (λ k l m. absurd (omega arith)) ne

pub kept_below-requires-clause-content : goal.kept_below-requires-clause-content
kept_below-requires-clause-content g c =
    let w = c.requires.content.within in
    rw c.again.ensures (record { exists = c.requires.content.exists; within = omega arith })

pub returns-clause-kept : goal.returns-clause-kept
returns-clause-kept g c =
    let m = c.args.space.now in
    let at = c.args.at in
    let n = c.args.count in
    let r = c.requires.least in
    let f = c.if-count-least.false in
    let some : 0 < n = omega arith in
    let z : slice_index (segment_at m at.segment) (at.word + (n - 1)) ≡ 0 =
    sym c.word.ensures.word ∙ c.if-word-ne0.false in
    c.kept_below.ensures.kept
    ∙ ap (λ (s : List (List ℕ)). max c.args.least (kept_words (take (n - 1) (words_from s at.segment at.word))))
    c.again.ensures
    ∙ ap (max c.args.least) (last-cut (segment_at m at.segment) at.word n some z)
