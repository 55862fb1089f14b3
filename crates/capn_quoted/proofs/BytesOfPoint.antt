-- Lemmas for `quoted_texts`: the UTF-8 of a code point is the bytes that have its value.
use Rattle.std.proofs.Common.{◌≡◌, ℕ, ◌+◌, ◌-◌, ◌*◌, ◌%◌, ◌≤◌, [], ◌∷◌, ap, ap₂, ◌∙◌, arith}
use lib.Utf8.{encode}
use Rattle.capn_quoted.proofs.Shapes.{Shape, of1, of2, of3, of4}

pub two_bytes : (c a b : ℕ) → 128 ≤ c → 128 ≤ b → b ≤ 191 → 194 ≤ a → a ≤ 223 → c ≡ (a - 192) * 64 + b % 64 → Shape c
    → encode c ≡ a ∷ b ∷ []
two_bytes c a b least l h la ha is (of1 k e) = absurd (omega arith)
two_bytes c a b least l h la ha is (of2 x y big lx hx f g e) =
    let y1 = f.0 in
    let y2 = f.1 in
    let same : x ≡ a = omega arith in
    let also : y ≡ b = omega arith in
    e ∙ ap₂ (λ (i j : ℕ). i ∷ j ∷ []) same also
two_bytes c a b least l h la ha is (of3 x y z big lx hx f f2 g e) = absurd (omega arith)
two_bytes c a b least l h la ha is (of4 x y z o big lx hx f f2 f3 g e) = absurd (omega arith)

pub three_bytes : (c a b d : ℕ) → 2048 ≤ c → 128 ≤ b → b ≤ 191 → 128 ≤ d → d ≤ 191 → 224 ≤ a → a ≤ 239
    → c ≡ ((a - 224) * 64 + b % 64) * 64 + d % 64 → Shape c → encode c ≡ a ∷ b ∷ d ∷ []
three_bytes c a b d least l h ld hd la ha is (of1 k e) = absurd (omega arith)
three_bytes c a b d least l h ld hd la ha is (of2 x y big lx hx f g e) =
    let y1 = f.0 in
    let y2 = f.1 in
    absurd (omega arith)
three_bytes c a b d least l h ld hd la ha is (of3 x y z big lx hx f f2 g e) =
    let y1 = f.0 in
    let y2 = f.1 in
    let z1 = f2.0 in
    let z2 = f2.1 in
    let same : x ≡ a = omega arith in
    let also : y ≡ b = omega arith in
    let last : z ≡ d = omega arith in
    e ∙ ap₂ (λ (i j : ℕ). i ∷ j ∷ z ∷ []) same also ∙ ap (λ (k : ℕ). a ∷ b ∷ k ∷ []) last
three_bytes c a b d least l h ld hd la ha is (of4 x y z o big lx hx f f2 f3 g e) = absurd (omega arith)

pub four_bytes : (c a b d o : ℕ) → 65536 ≤ c → 128 ≤ b → b ≤ 191 → 128 ≤ d → d ≤ 191 → 128 ≤ o → o ≤ 191 → 240 ≤ a
    → c ≡ (((a - 240) * 64 + b % 64) * 64 + d % 64) * 64 + o % 64 → Shape c → encode c ≡ a ∷ b ∷ d ∷ o ∷ []
four_bytes c a b d o least l h ld hd lo ho la is (of1 k e) = absurd (omega arith)
four_bytes c a b d o least l h ld hd lo ho la is (of2 x y big lx hx f g e) =
    let y1 = f.0 in
    let y2 = f.1 in
    absurd (omega arith)
four_bytes c a b d o least l h ld hd lo ho la is (of3 x y z big lx hx f f2 g e) =
    let y2 = f.1 in
    let z2 = f2.1 in
    absurd (omega arith)
four_bytes c a b d o least l h ld hd lo ho la is (of4 x y z u big lx hx f f2 f3 g e) =
    let y1 = f.0 in
    let y2 = f.1 in
    let z1 = f2.0 in
    let z2 = f2.1 in
    let u1 = f3.0 in
    let u2 = f3.1 in
    let same : x ≡ a = omega arith in
    let also : y ≡ b = omega arith in
    let third : z ≡ d = omega arith in
    let last : u ≡ o = omega arith in
    e ∙ ap₂ (λ (i j : ℕ). i ∷ j ∷ z ∷ u ∷ []) same also ∙ ap₂ (λ (i j : ℕ). a ∷ b ∷ i ∷ j ∷ []) third last
