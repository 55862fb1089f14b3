-- Lemmas on the marks of the line `end`. (For `add_marked_end` and the functions that it calls.)
use Rattle.std.proofs.Common.{◌≡◌, ℕ, ◌+◌, ◌-◌, ◌≤◌, List, [], ◌∷◌, ◌++◌, length, take, drop, codes}
use Rattle.std.proofs.Common.{Bool, true, false, not, refl, sym, ap, ◌∙◌, arith, append_assoc}
use Rattle.std.specs.Prelude.{if◌then◌else◌}
use Rattle.std.proofs.lemmas.List.{length-append, take_all}

pub all_written : (n s : ℕ) (b d rest : List ℕ) → drop s b ≡ d ++ rest → s + length d + length rest ≡ n
    → take (n - s) (drop s b) ≡ d ++ rest
all_written n s b d rest e size =
    let both : length (d ++ rest) ≡ length d + length rest = length-append d rest in
    let short : length (d ++ rest) ≤ n - s = omega arith in
    ap (λ (l : List ℕ). take (n - s) l) e ∙ take_all (n - s) (d ++ rest) short

module _ (d : List ℕ) where
  -- Case: `offsets` is false.
  pub path_alone : (offsets ways : Bool) → not offsets ≡ true
      → (if ways then 9 ∷ [] else []) ++ (codes "end" ++ 10 ∷ [])
      ≡ (if offsets then d ++ 9 ∷ [] else []) ++ ((if ways then 9 ∷ [] else []) ++ (codes "end" ++ 10 ∷ []))
  path_alone true ways off = absurd (cc)
  path_alone false ways off = refl

  -- Case: `offsets` and `ways` are true.
  pub byte_and_path : (offsets ways : Bool) → not offsets ≡ false → ways ≡ true
      → d ++ codes "\t\tend\n"
      ≡ (if offsets then d ++ 9 ∷ [] else []) ++ ((if ways then 9 ∷ [] else []) ++ (codes "end" ++ 10 ∷ []))
  byte_and_path false ways on path = absurd (cc)
  byte_and_path true false on path = absurd (cc)
  byte_and_path true true on path = sym (append_assoc d (9 ∷ []) (9 ∷ (codes "end" ++ 10 ∷ [])))

  -- Case: `offsets` is true, and `ways` is false.
  pub byte_alone : (offsets ways : Bool) → not offsets ≡ false → ways ≡ false
      → d ++ codes "\tend\n"
      ≡ (if offsets then d ++ 9 ∷ [] else []) ++ ((if ways then 9 ∷ [] else []) ++ (codes "end" ++ 10 ∷ []))
  byte_alone false ways on path = absurd (cc)
  byte_alone true true on path = absurd (cc)
  byte_alone true false on path = sym (append_assoc d (9 ∷ []) (codes "end" ++ 10 ∷ []))
