use Rattle.std.proofs.Common.{◌≡◌, ◌∷◌, ◌++◌, ◌∙◌, List, ℕ, ap, sym}
use Rattle.capn_cmp.proofs.Lines.{alike_more, found_same}
use Rattle.capn_cmp.proofs.lines_apart.lines_apart.Goals as goal

pub loop-first-preserved : goal.loop-first-preserved
loop-first-preserved c =
    let first = c.in-Some.first.now in
    let second = c.in-Some-split_line.second.now in
    let same : first ≡ second = found_same first second c.ne.result c.ne.ensures c.if-ne.false in
    alike_more c.args.text.now c.args.other.now c.loop-first.rest.now c.loop-first.left.now first c.in-Some.after.now
    c.in-Some-split_line.behind.now c.loop-first.invariant c.in-Some.ensures.0
    (c.in-Some-split_line.ensures.0 ∙ ap (λ (l : List ℕ). l ++ 10 ∷ c.in-Some-split_line.behind.now) (sym same))
    c.in-Some.ensures.1
