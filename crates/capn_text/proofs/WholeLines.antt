-- Lemmas on complete lines, and on the first lines of a text. (For `FirstWrong`, `LineBytes`, `LostTexts` and others.)
use Rattle.std.proofs.Common.{◌≡◌, ◌+◌, ◌==◌, ℕ, zero, suc, Bool, true, false, cond, List, [], ◌∷◌, ◌++◌, replicate}
use Rattle.std.proofs.Common.{refl, sym, ap, ◌∙◌, append_assoc, arith, ◌*◌}
use Rattle.capn_value.specs.Text.{line}
use Rattle.capn_text.specs.Streams.{first_lines, ended_lines}
use Rattle.capn_text.specs.inner.Stops.{AreLines}
use Rattle.capn_text.proofs.LineCounts.{lines_append}

-- ---- complete lines

pub are_none : AreLines []
are_none n y = ap (λ k. first_lines k y) (omega arith)

pub are_both : (x z : List ℕ) → AreLines x → AreLines z → AreLines (x ++ z)
are_both x z p q n y =
    let count = lines_append x z in
    let k : ended_lines (x ++ z) + n ≡ ended_lines x + (ended_lines z + n) = omega arith in
    ap (λ m. first_lines m ((x ++ z) ++ y)) k
    ∙ ap (first_lines (ended_lines x + (ended_lines z + n))) (append_assoc x z y)
    ∙ p (ended_lines z + n) (z ++ y) ∙ ap (λ t. x ++ t) (q n y) ∙ sym (append_assoc x z (first_lines n y))

no_end : (b : Bool) (k : ℕ) → cond b 1 0 + k ≡ 0 → (b ≡ false) × (k ≡ 0)
no_end true k e = absurd (omega arith)
no_end false k e = (refl, omega arith)

goes_past : (x : List ℕ) (n : ℕ) (y : List ℕ) → ended_lines x ≡ 0
    → first_lines (suc n) ((x ++ 10 ∷ []) ++ y) ≡ (x ++ 10 ∷ []) ++ first_lines n y
goes_past [] n y e = refl
goes_past (c ∷ cs) n y e =
    let p = no_end (c == 10) (ended_lines cs) e in
    ap (λ b. c ∷ cond b (first_lines n ((cs ++ 10 ∷ []) ++ y)) (first_lines (suc n) ((cs ++ 10 ∷ []) ++ y))) p.0
    ∙ ap (λ t. c ∷ t) (goes_past cs n y p.1)

pub is_line : (x : List ℕ) → ended_lines x ≡ 0 → AreLines (x ++ 10 ∷ []) × (ended_lines (x ++ 10 ∷ []) ≡ 1)
is_line x e =
    let count : ended_lines (x ++ 10 ∷ []) ≡ ended_lines x + 1 = lines_append x (10 ∷ []) in (
      λ n y. let k : ended_lines (x ++ 10 ∷ []) + n ≡ suc n = omega arith in
          ap (λ m. first_lines m ((x ++ 10 ∷ []) ++ y)) k ∙ goes_past x n y e,
      omega arith,
    )

spaces : (n : ℕ) → ended_lines (replicate n 32) ≡ 0
spaces zero = refl
spaces (suc n) = let h = spaces n in omega arith

pub line_is_one : (level : ℕ) (x : List ℕ) → ended_lines x ≡ 0
    → AreLines (line level x) × (ended_lines (line level x) ≡ 1)
unfolding line
line_is_one level x e =
    let indent = replicate {A = ℕ} (2 * level) 32 in
    let count : ended_lines (indent ++ x) ≡ 0 =
    lines_append indent x ∙ (let a = spaces (2 * level) in omega arith) in
    let p = is_line (indent ++ x) count in
    rw (← append_assoc indent x (10 ∷ [])) p

-- ---- first lines

either : (b : Bool) (t x y : List ℕ) → ((r : List ℕ) × (t ≡ x ++ r)) → ((r : List ℕ) × (t ≡ y ++ r))
    → (r : List ℕ) × (t ≡ cond b x y ++ r)
either true t x y p q = p
either false t x y p q = q

pub first_front : (n : ℕ) (t : List ℕ) → (r : List ℕ) × (t ≡ first_lines n t ++ r)
first_front zero t = (t, refl)
first_front (suc n) [] = ([], refl)
first_front (suc n) (c ∷ cs) =
    let p = either (c == 10) cs (first_lines n cs) (first_lines (suc n) cs) (first_front n cs)
    (first_front (suc n) cs) in
    (p.0, ap (λ t. c ∷ t) p.1)

cancel : (x y z : List ℕ) → x ++ y ≡ x ++ z → y ≡ z
cancel [] y z e = e
cancel (c ∷ cs) y z e = cancel cs y z cc

-- If `t` and `front ++ rest` have the same lines up to the line after `front`, `t` begins with `front`.
pub same_front : (front rest t : List ℕ) → AreLines front
    → first_lines (ended_lines front + 1) t ≡ first_lines (ended_lines front + 1) (front ++ rest)
    → (z : List ℕ) × (t ≡ front ++ z) × (first_lines 1 z ≡ first_lines 1 rest)
same_front front rest t lines e =
    let n = ended_lines front + 1 in
    let p = first_front n t in
    let z = first_lines 1 rest ++ p.0 in
    let first : first_lines n t ≡ front ++ first_lines 1 rest = e ∙ lines 1 rest in
    let whole : t ≡ front ++ z = p.1 ∙ ap (λ x. x ++ p.0) first ∙ append_assoc front (first_lines 1 rest) p.0 in
    let again : front ++ first_lines 1 z ≡ front ++ first_lines 1 rest =
    sym (lines 1 z) ∙ ap (first_lines n) (sym whole) ∙ first in
    (z, whole, cancel front (first_lines 1 z) (first_lines 1 rest) again)
