use Rattle.std.proofs.Common.{◌≡◌, inl, inr, ℕ, List, [], ◌∷◌, length, ap, refl}
use Rattle.capn_serve.proofs.stream_run.end_of_input.Goals as goal

none : (rest : List ℕ) → length rest ≡ 0 → rest ≡ []
none [] is = refl
none (b ∷ rest) is = absurd (cc)

pub returns-then-is_empty : goal.returns-then-is_empty
returns-then-is_empty g c = ap (λ (l : List ℕ). length l) (c.is_empty.ensures.0 c.if-is_empty.true)

pub returns : goal.returns
returns g c =
    elim c.requires.part [
      | inl empty ↦ absurd (let is = c.is_empty.ensures.1 (none _ empty) in let not = c.if-is_empty.false in cc)
      | inr cut ↦ (cut, refl)
    ]
