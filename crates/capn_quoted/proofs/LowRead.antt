-- Lemmas for `quoted_texts`: what is written of a byte below 128 is read as that byte.
use Rattle.std.proofs.Common.{◌≡◌, ℕ, ◌<◌, ◌==◌, ◌||◌, ◌&&◌, Bool, true, false, not, cond, List, [], ◌∷◌}
use Rattle.std.proofs.Common.{◌++◌, Some, None, refl, sym, ap, ap₂, ◌∙◌, arith, nat_lt, nat_le}
use Rattle.std.proofs.lemmas.Bool.{lt-ltb, le-leb, leb-true, leb-false, eqb-true, eqb-false, and_parts, and_from}
use Rattle.std.proofs.lemmas.Bool.{or_parts}
use Rattle.capn_quoted.specs.Texts.{is_printable, is_control}
use Rattle.capn_quoted.specs.Escapes.{escaped}
use Rattle.capn_quoted.specs.declared.stage.Stage.TheVariants as stages
use Rattle.capn_quoted.specs.Reading.{after_lead, between, follow, gives, preceded, read_from}
use Rattle.capn_quoted.proofs.ReadBack.{none_before, on}

not_control : (c : ℕ) → is_control c ≡ false → (c == 9) ≡ false → (c == 10) ≡ false → (c == 13) ≡ false → c < 128
    → is_printable c ≡ true
not_control c e f g h l =
    let parts = or_parts (nat_le c 31 && not (c == 9 || (c == 10 || c == 13))) (c == 127) e in
    let other = eqb-false c 127 parts.1 in
    let least = leb-false c 31 (by (nat_le c 31) (c == 9) (c == 10) (c == 13) f g h parts.0) in
    and_from (nat_le 32 c) (nat_le c 126) (le-leb 32 c least) (le-leb c 126 (omega arith)) where
      by : (x u v w : Bool) → u ≡ false → v ≡ false → w ≡ false → (x && not (u || (v || w))) ≡ false → x ≡ false
      by false u v w p q r k = refl
      by true false false false p q r k = k
      by true true v w p q r k = absurd cc
      by true false true w p q r k = absurd cc
      by true false false true p q r k = absurd cc

bare_follow : (w : Bool) (c : ℕ) → (c == 34) ≡ false → (c == 92) ≡ false → is_printable c ≡ true
    → follow (stages.Next w) c ≡ Some (stages.Next w)
bare_follow w c e f p =
    let parts = and_parts (nat_le 32 c) (nat_le c 126) p in
    let low = leb-true c 126 parts.1 in
    ap (λ (b : Bool). cond b (cond w None (Some stages.Closed)) (between w c)) e
    ∙ ap (λ (b : Bool). cond b (Some (stages.Marked w))
    (cond (nat_lt c 128) (cond (is_printable c) (Some (stages.Next w)) None) (after_lead c))) f
    ∙ ap₂ (λ (x y : Bool). cond x (cond y (Some (stages.Next w)) None) (after_lead c)) (lt-ltb c 128 (omega arith)) p

pub bare_gives : (w : Bool) (c : ℕ) → (c == 34) ≡ false → (c == 92) ≡ false → gives (stages.Next w) c ≡ c ∷ []
bare_gives w c e f = ap₂ (λ (x y : Bool). cond (x || y) [] (c ∷ [])) f e

bare_read : (w : Bool) (c : ℕ) (t : List ℕ) → (c == 34) ≡ false → (c == 92) ≡ false → is_printable c ≡ true
    → read_from (stages.Next w) (c ∷ t) ≡ preceded (c ∷ []) (read_from (stages.Next w) t)
bare_read w c t e f p =
    on (stages.Next w) (stages.Next w) c t (bare_follow w c e f p)
    ∙ ap (λ (l : List ℕ). preceded l (read_from (stages.Next w) t)) (bare_gives w c e f)

-- Case: a backslash stands before the byte `d`, and both stand for the byte `c`.
marked_read : (w v : Bool) (c d n : ℕ) (t : List ℕ) → c ≡ n
    → read_from (stages.Next w) (92 ∷ d ∷ t) ≡ preceded [] (preceded (n ∷ []) (read_from (stages.Next v) t))
    → read_from (stages.Next w) (92 ∷ d ∷ t) ≡ preceded (c ∷ []) (read_from (stages.Next v) t)
marked_read w v c d n t is e =
    e ∙ none_before (preceded (n ∷ []) (read_from (stages.Next v) t))
    ∙ ap (λ (k : ℕ). preceded (k ∷ []) (read_from (stages.Next v) t)) (sym is)

-- The bytes that stand for the byte `c`, by the tests on `c`.
abbrev pub escaped_by : (u v x y z o : Bool) → ℕ → List ℕ
escaped_by u v x y z o c = cond u (92 ∷ 34 ∷ []) (cond v (92 ∷ 92 ∷ []) (cond x (92 ∷ 116 ∷ []) (cond y (92 ∷ 110 ∷ [])
    (cond z (92 ∷ 114 ∷ []) (cond o (92 ∷ 48 ∷ []) (c ∷ []))))))

pub printable_read : (w : Bool) (c : ℕ) (t : List ℕ) → is_printable c ≡ true
    → read_from (stages.Next w) (escaped c ++ t) ≡ preceded (c ∷ []) (read_from (stages.Next w) t)
printable_read w c t p =
    by (c == 34) (c == 92) (c == 9) (c == 10) (c == 13) (c == 0) refl refl refl refl refl refl where
      by : (u v x y z o : Bool) → (c == 34) ≡ u → (c == 92) ≡ v → (c == 9) ≡ x → (c == 10) ≡ y → (c == 13) ≡ z
          → (c == 0) ≡ o → read_from (stages.Next w) (escaped_by u v x y z o c ++ t)
          ≡ preceded (c ∷ []) (read_from (stages.Next w) t)
      by true v x y z o e f g h i j = marked_read w w c 34 34 t (eqb-true c 34 e) refl
      by false true x y z o e f g h i j = marked_read w w c 92 92 t (eqb-true c 92 f) refl
      by false false true y z o e f g h i j =
          let k : is_printable 9 ≡ true = sym (ap is_printable (eqb-true c 9 g)) ∙ p in absurd cc
      by false false false true z o e f g h i j =
          let k : is_printable 10 ≡ true = sym (ap is_printable (eqb-true c 10 h)) ∙ p in absurd cc
      by false false false false true o e f g h i j =
          let k : is_printable 13 ≡ true = sym (ap is_printable (eqb-true c 13 i)) ∙ p in absurd cc
      by false false false false false true e f g h i j =
          let k : is_printable 0 ≡ true = sym (ap is_printable (eqb-true c 0 j)) ∙ p in absurd cc
      by false false false false false false e f g h i j = bare_read w c t e f p

-- What is written of `c` is read as `bytes`, and then the bytes are read on between two code points.
abbrev pub IsRead : Bool → List ℕ → List ℕ → List ℕ → Type 0
IsRead w text bytes t =
    (v : Bool) × (read_from (stages.Next w) (text ++ t) ≡ preceded bytes (read_from (stages.Next v) t))

pub low_read : (w : Bool) (c : ℕ) (t : List ℕ) → c < 128 → is_control c ≡ false → IsRead w (escaped c) (c ∷ []) t
low_read w c t l clear =
    by (c == 34) (c == 92) (c == 9) (c == 10) (c == 13) (c == 0) refl refl refl refl refl refl where
      by : (u v x y z o : Bool) → (c == 34) ≡ u → (c == 92) ≡ v → (c == 9) ≡ x → (c == 10) ≡ y → (c == 13) ≡ z
          → (c == 0) ≡ o → IsRead w (escaped_by u v x y z o c) (c ∷ []) t
      by true v x y z o e f g h i j = (w, marked_read w w c 34 34 t (eqb-true c 34 e) refl)
      by false true x y z o e f g h i j = (w, marked_read w w c 92 92 t (eqb-true c 92 f) refl)
      by false false true y z o e f g h i j = (true, marked_read w true c 116 9 t (eqb-true c 9 g) refl)
      by false false false true z o e f g h i j = (true, marked_read w true c 110 10 t (eqb-true c 10 h) refl)
      by false false false false true o e f g h i j = (true, marked_read w true c 114 13 t (eqb-true c 13 i) refl)
      by false false false false false true e f g h i j =
          let k : is_control 0 ≡ false = sym (ap is_control (eqb-true c 0 j)) ∙ clear in absurd cc
      by false false false false false false e f g h i j = (w, bare_read w c t e f (not_control c clear g h i l))
