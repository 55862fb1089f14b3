-- Lemmas for `quoted_texts`: the bytes of a code point in UTF-8.
use Rattle.std.proofs.Common.{◌≡◌, ℕ, ◌+◌, ◌*◌, ◌/◌, ◌≤◌, ◌<◌, ◌⊎◌, inl, inr, Bool, true, cond, List, [], ◌∷◌, refl, ap}
use Rattle.std.proofs.Common.{ap₂, ◌∙◌, arith, nat_lt}
use Rattle.std.proofs.lemmas.Bool.{lt-ltb, le-ltb, cases_lt}
use lib.Utf8.{scalar, next, encode, scalar_cases}

abbrev pub Follows : ℕ → Type 0
Follows b = (128 ≤ b) × (b < 192)

-- The bytes of the code point `c`.
pub data Shape (c : ℕ) : Type 0 where
  of1 : c < 128 → encode c ≡ c ∷ [] → Shape c
  of2 : (a b : ℕ) → 128 ≤ c → 194 ≤ a → a < 224 → Follows b → c + 12416 ≡ a * 64 + b → encode c ≡ a ∷ b ∷ [] → Shape c
  of3 : (a b d : ℕ) → 2048 ≤ c → 224 ≤ a → a < 240 → Follows b → Follows d → c + 925824 ≡ a * 4096 + b * 64 + d
      → encode c ≡ a ∷ b ∷ d ∷ [] → Shape c
  of4 : (a b d e : ℕ) → 65536 ≤ c → 240 ≤ a → a ≤ 244 → Follows b → Follows d → Follows e
      → c + 63447168 ≡ a * 262144 + b * 4096 + d * 64 + e → encode c ≡ a ∷ b ∷ d ∷ e ∷ [] → Shape c

abbrev bytes_by : (x y z : Bool) → ℕ → List ℕ
bytes_by x y z c = cond x (c ∷ []) (cond y ((192 + c / 64) ∷ next c ∷ [])
    (cond z ((224 + c / 4096) ∷ next (c / 64) ∷ next c ∷ [])
    ((240 + c / 262144) ∷ next (c / 4096) ∷ next (c / 64) ∷ next c ∷ [])))

bytes_are : (c : ℕ) (x y z : Bool) → nat_lt c 128 ≡ x → nat_lt c 2048 ≡ y → nat_lt c 65536 ≡ z
    → encode c ≡ bytes_by x y z c
unfolding encode
bytes_are c x y z e f g =
    ap (λ (u : Bool). bytes_by u (nat_lt c 2048) (nat_lt c 65536) c) e
    ∙ ap₂ (λ (u v : Bool). bytes_by x u v c) f g

follows : (x : ℕ) → Follows (next x)
follows x = (omega arith, omega arith)

top_of : (c : ℕ) → scalar c ≡ true → c < 1114112
top_of c s = by (scalar_cases c s) where
  by : (c < 55296) ⊎ ((57344 ≤ c) × (c < 1114112)) → c < 1114112
  by (inl h) = omega arith
  by (inr h) = h.1

pub shape_of : (c : ℕ) → scalar c ≡ true → Shape c
shape_of c s = by (cases_lt c 128) (cases_lt c 2048) (cases_lt c 65536) where
  by : (c < 128) ⊎ (128 ≤ c) → (c < 2048) ⊎ (2048 ≤ c) → (c < 65536) ⊎ (65536 ≤ c) → Shape c
  by (inl h) y z = of1 h (bytes_are c true _ _ (lt-ltb c 128 h) refl refl)
  by (inr l) (inl h) z =
      of2 (192 + c / 64) (next c) l (omega arith) (omega arith) (follows c) (omega arith)
      (bytes_are c _ _ _ (le-ltb c 128 l) (lt-ltb c 2048 h) refl)
  by (inr k) (inr l) (inl h) =
      of3 (224 + c / 4096) (next (c / 64)) (next c) l (omega arith) (omega arith) (follows (c / 64)) (follows c)
      (omega arith) (bytes_are c _ _ _ (le-ltb c 128 k) (le-ltb c 2048 l) (lt-ltb c 65536 h))
  by (inr j) (inr k) (inr l) =
      let top = top_of c s in
      of4 (240 + c / 262144) (next (c / 4096)) (next (c / 64)) (next c) l (omega arith) (omega arith)
      (follows (c / 4096)) (follows (c / 64)) (follows c) (omega arith)
      (bytes_are c _ _ _ (le-ltb c 128 j) (le-ltb c 2048 k) (le-ltb c 65536 l))
