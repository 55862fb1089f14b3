use Rattle.std.proofs.Common.{◌≡◌, List, ℕ, [], ◌∷◌, ap, sym, ◌∙◌}
use Rattle.capn_canon.proofs.one_segment.alone.Goals as goal

pub returns-in-Ok-clause-one : goal.returns-in-Ok-clause-one
returns-in-Ok-clause-one g c =
    let only = c.in-Some.ensures.one in
    let read = c.in-Ok.ensures.only only.0 only.2 in
    let same : c.in-Ok.bare ≡ only.0 = cc in
    only.1 ∙ ap (λ (ws : List ℕ). ws ∷ []) (sym same)

pub returns-in-Err-clause-other : goal.returns-in-Err-clause-other
returns-in-Err-clause-other g c =
    let only = c.in-Some.ensures.one in let read = c.in-Err.ensures.only only.0 only.2 in absurd (cc)
