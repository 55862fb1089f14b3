-- Lemmas for `levels_at`: the levels of a line are counted two spaces at a time.
use Rattle.std.proofs.Common.{◌≡◌, ℕ, suc, ◌+◌, ◌==◌, ◌&&◌, cond, List, [], ◌∷◌, codes, Some, sym, ap, ap₂, ◌∙◌, arith}
use Rattle.capn_text.specs.inner.Tokens.{strip}
use Rattle.capn_text.specs.inner.QuotedLines.{levels_at}
use Rattle.capn_text.proofs.Steps.{guard_read, some_is}

-- The pair `p` of a number of levels and bytes, with `n` added to the number.
abbrev pub added : ℕ → ℕ × List ℕ → ℕ × List ℕ
added n p = (n + p.0, p.1)

pub level_more : (n : ℕ) (t after : List ℕ) (total : ℕ × List ℕ) → strip (codes "  ") t ≡ Some after
    → added n (levels_at t) ≡ total → added (n + 1) (levels_at after) ≡ total
level_more n [] after total e so_far = absurd cc
level_more n (c ∷ []) after total e so_far =
    let g = guard_read (32 == c) (strip (32 ∷ []) []) after e in
    let h = g.1 in
    absurd cc
level_more n (c ∷ d ∷ cs) after total e so_far =
    let g = guard_read (32 == c) (strip (32 ∷ []) (d ∷ cs)) after e in
    let h = guard_read (32 == d) (strip [] cs) after g.1 in
    let here : levels_at (c ∷ d ∷ cs) ≡ (suc (levels_at after).0, (levels_at after).1) =
    ap₂ (λ x y. cond (x && y) (suc (levels_at cs).0, (levels_at cs).1) (0, c ∷ d ∷ cs)) g.0 h.0
    ∙ ap (λ (r : List ℕ). (suc (levels_at r).0, (levels_at r).1)) (some_is cs after h.1) in
    let count : n + 1 + (levels_at after).0 ≡ n + suc (levels_at after).0 = omega arith in
    ap (λ (k : ℕ). (k, (levels_at after).1)) count ∙ sym (ap (added n) here) ∙ so_far
