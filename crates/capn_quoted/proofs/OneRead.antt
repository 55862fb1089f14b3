-- Lemmas for `quoted_texts`: what is written of one code point is read as the bytes of that code point.
use Rattle.std.proofs.Common.{◌≡◌, ℕ, ◌+◌, ◌-◌, ◌*◌, ◌%◌, ◌≤◌, ◌<◌, ◌==◌, ◌||◌, ◌&&◌, Bool, true, false, not, cond}
use Rattle.std.proofs.Common.{List, [], ◌∷◌, ◌++◌, Option, Some, None, refl, sym, ap, ap₂, ◌∙◌, arith, nat_lt, nat_le}
use Rattle.std.proofs.Common.{inl, inr, ◌⊎◌}
use Rattle.std.proofs.lemmas.Bool.{lt-ltb, le-ltb, ne_eqb, lt-leb, le-leb, leb-true, leb-false, and_parts, and_from}
use Rattle.std.proofs.lemmas.Bool.{or_parts, cases_Bool}
use lib.Utf8.{scalar, encode, scalar_cases}
use Rattle.capn_quoted.specs.Texts.{is_printable, is_control}
use Rattle.capn_quoted.specs.Hidden.{is_from, is_hidden, numbered}
use Rattle.capn_quoted.specs.Escapes.{escaped, written}
use Rattle.capn_quoted.specs.declared.stage.Stage.TheVariants as stages
use Rattle.capn_quoted.specs.Reading.{stands, leads, inside, after_lead, between, after_inside, follow, gives, preceded}
use Rattle.capn_quoted.specs.Reading.{read_from}
use Rattle.capn_quoted.proofs.Shapes.{Shape, of1, of2, of3, of4}
use Rattle.capn_quoted.proofs.CodePoints.{is_control_point}
use Rattle.capn_quoted.proofs.ReadBack.{two_before, on, numbered_read}
use Rattle.capn_quoted.proofs.LowRead.{bare_gives, IsRead, low_read}

pub lead_follow : (w : Bool) (a : ℕ) → 128 ≤ a → follow (stages.Next w) a ≡ after_lead a
lead_follow w a l =
    ap (λ (b : Bool). cond b (cond w None (Some stages.Closed)) (between w a)) (ne_eqb a 34 (λ e. omega arith))
    ∙ ap₂ (λ (x y : Bool). cond x (Some (stages.Marked w))
    (cond y (cond (is_printable a) (Some (stages.Next w)) None) (after_lead a))) (ne_eqb a 92 (λ e. omega arith))
    (le-ltb a 128 l)

lead_gives : (w : Bool) (a : ℕ) → 128 ≤ a → gives (stages.Next w) a ≡ a ∷ []
lead_gives w a l = bare_gives w a (ne_eqb a 34 (λ e. omega arith)) (ne_eqb a 92 (λ e. omega arith))

within : (low high c : ℕ) → low ≤ c → c ≤ high → is_from low high c ≡ true
within low high c l h = and_from (nat_le low c) (nat_le c high) (le-leb low c l) (le-leb c high h)

below : (low high c : ℕ) → c < low → is_from low high c ≡ false
below low high c h = ap (λ (x : Bool). x && nat_le c high) (lt-leb low c h)

past : (low high c : ℕ) → high < c → is_from low high c ≡ false
past low high c h = none (nat_le low c) ∙ refl where
  none : (x : Bool) → (x && nat_le c high) ≡ false
  none true = lt-leb c high h
  none false = refl

-- A code point that is not hidden, and is no control character, stands as it is.
stands_true : (least c : ℕ) → least ≤ c → 160 ≤ c → scalar c ≡ true → is_hidden c ≡ false → stands least c ≡ true
stands_true least c l h s e =
    and_from _ _ (and_from _ _ (le-leb least c l) (le-leb 160 c h)) (and_from _ _ (range (scalar_cases c s)) (ap not e))
  where
    range : (c < 55296) ⊎ ((57344 ≤ c) × (c < 1114112)) → (nat_lt c 55296 || is_from 57344 1114111 c) ≡ true
    range (inl k) = ap (λ (x : Bool). x || is_from 57344 1114111 c) (lt-ltb c 55296 k)
    range (inr k) =
        let top = k.1 in
        up (nat_lt c 55296) (within 57344 1114111 c k.0 (omega arith)) where
          up : (x : Bool) → is_from 57344 1114111 c ≡ true → (x || is_from 57344 1114111 c) ≡ true
          up true r = refl
          up false r = r

no_control_least : (c : ℕ) → is_control_point c ≡ false → 128 ≤ c → 160 ≤ c
no_control_least c e l =
    let parts = or_parts (is_control c) (is_from 128 159 c) e in
    let high = by (nat_le 128 c) (le-leb 128 c l) parts.1 in
    let k = leb-false c 159 high in
    omega arith where
      by : (x : Bool) → x ≡ true → (x && nat_le c 159) ≡ false → nat_le c 159 ≡ false
      by true p q = q
      by false p q = absurd cc

-- The byte `b` ends the code point `c`.
last_follow : (least left code b c : ℕ) → left ≡ 1 → 128 ≤ b → b < 192 → code * 64 + b % 64 ≡ c → stands least c ≡ true
    → follow (stages.Inside least left code) b ≡ Some (stages.Next true)
last_follow least left code b c one l h is s =
    ap (λ (k : ℕ). after_inside least k code b) one
    ∙ ap₂ (λ (x y : Bool). cond (x && y) (Some (stages.Next true)) None) (within 128 191 b l (omega arith))
    (ap (stands least) is ∙ s)

-- The byte `b` is not the last of its code point.
more_follow : (least left code b : ℕ) → 128 ≤ b → b < 192 → leads least (left - 1) (code * 64 + b % 64) ≡ true
    → follow (stages.Inside least left code) b ≡ Some (inside least (left - 1) (code * 64 + b % 64))
more_follow least left code b l h s =
    ap₂ (λ (x y : Bool). cond (x && y) (Some (inside least (left - 1) (code * 64 + b % 64))) None)
    (within 128 191 b l (omega arith)) s

-- No code point stands as it is in this block of 64, in which each is hidden.
tag_hidden : (c : ℕ) → is_from 0xe0000 0xe007f c ≡ true → is_hidden c ≡ true
tag_hidden c e = up (c == 0xad) (up (c == 0x61c) (up (c == 0x180e) (up (is_from 0x200b 0x200f c)
    (up (is_from 0x2028 0x202e c) (up (is_from 0x2060 0x206f c) (up (c == 0xfeff) (up (is_from 0xfff9 0xfffb c) e)))))))
  where
    up : (x : Bool) {y : Bool} → y ≡ true → (x || y) ≡ true
    up true p = refl
    up false p = p

block_leads : (least code c r : ℕ) → code * 64 + r ≡ c → r < 64 → least ≤ code * 64 → scalar c ≡ true
    → is_hidden c ≡ false → leads least 1 code ≡ true
block_leads least code c r is small l s e =
    and_from _ _ (le-leb least (code * 64) l) (and_from _ _ (range (scalar_cases c s)) (ap not (no_tag (cases_Bool _))))
  where
    range : (c < 55296) ⊎ ((57344 ≤ c) × (c < 1114112))
        → (nat_lt (code * 64) 55296 || is_from 57344 1114111 (code * 64)) ≡ true
    range (inl k) = ap (λ (x : Bool). x || is_from 57344 1114111 (code * 64)) (lt-ltb (code * 64) 55296 (omega arith))
    range (inr k) =
        let low = k.0 in
        let top = k.1 in
        up (nat_lt (code * 64) 55296) (within 57344 1114111 (code * 64) (omega arith) (omega arith)) where
          up : (x : Bool) → is_from 57344 1114111 (code * 64) ≡ true
              → (x || is_from 57344 1114111 (code * 64)) ≡ true
          up true r = refl
          up false r = r

    no_tag : (is_from 917504 917631 (code * 64) ≡ true) ⊎ (is_from 917504 917631 (code * 64) ≡ false)
        → is_from 917504 917631 (code * 64) ≡ false
    no_tag (inr k) = k
    no_tag (inl k) =
        let parts = and_parts (nat_le 917504 (code * 64)) (nat_le (code * 64) 917631) k in
        let low = leb-true 917504 (code * 64) parts.0 in
        let top = leb-true (code * 64) 917631 parts.1 in
        let hidden = tag_hidden c (within 0xe0000 0xe007f c (omega arith) (omega arith)) in
        absurd cc

two_read : (w : Bool) (c a b : ℕ) (t : List ℕ) → 194 ≤ a → a < 224 → 128 ≤ b → b < 192 → c + 12416 ≡ a * 64 + b
    → 160 ≤ c → stands 128 c ≡ true
    → read_from (stages.Next w) (a ∷ b ∷ t) ≡ preceded (a ∷ b ∷ []) (read_from (stages.Next true) t)
two_read w c a b t l h p q is least s =
    let code : (a - 192) * 64 + b % 64 ≡ c = omega arith in
    let r = read_from (stages.Next true) t in
    on (stages.Next w) (stages.Inside 128 1 (a - 192)) a (b ∷ t) (lead_follow w a (omega arith)
    ∙ ap (λ (x : Bool). cond x (Some (stages.Inside 128 1 (a - 192))) (cond (is_from 224 239 a)
    (Some (stages.Inside 2048 2 (a - 224))) (cond (is_from 240 244 a) (Some (stages.Inside 65536 3 (a - 240))) None)))
    (within 194 223 a (omega arith) (omega arith)))
    ∙ ap₂ (λ (x : List ℕ) (y : Option (List ℕ)). preceded x y) (lead_gives w a (omega arith))
    (on (stages.Inside 128 1 (a - 192)) (stages.Next true) b t (last_follow 128 1 (a - 192) b c refl p q code s))
    ∙ two_before (a ∷ []) (b ∷ []) r

three_read : (w : Bool) (c a b d : ℕ) (t : List ℕ) → 224 ≤ a → a < 240 → 128 ≤ b → b < 192 → 128 ≤ d → d < 192
    → c + 925824 ≡ a * 4096 + b * 64 + d → 2048 ≤ c → scalar c ≡ true → is_hidden c ≡ false
    → read_from (stages.Next w) (a ∷ b ∷ d ∷ t) ≡ preceded (a ∷ b ∷ d ∷ []) (read_from (stages.Next true) t)
three_read w c a b d t l h p q p2 q2 is least s e =
    let code = (a - 224) * 64 + b % 64 in
    let whole : code * 64 + d % 64 ≡ c = omega arith in
    let r = read_from (stages.Next true) t in
    on (stages.Next w) (stages.Inside 2048 2 (a - 224)) a (b ∷ d ∷ t) (lead_follow w a (omega arith)
    ∙ ap₂ (λ (x y : Bool). cond x (Some (stages.Inside 128 1 (a - 192))) (cond y
    (Some (stages.Inside 2048 2 (a - 224))) (cond (is_from 240 244 a) (Some (stages.Inside 65536 3 (a - 240))) None)))
    (past 194 223 a (omega arith)) (within 224 239 a l (omega arith)))
    ∙ ap₂ (λ (x : List ℕ) (y : Option (List ℕ)). preceded x y) (lead_gives w a (omega arith))
    (on (stages.Inside 2048 2 (a - 224)) (stages.Inside 2048 1 code) b (d ∷ t) (more_follow 2048 2 (a - 224) b p q
    (block_leads 2048 code c (d % 64) whole (omega arith) (omega arith) s e))
    ∙ ap (λ (y : Option (List ℕ)). preceded (b ∷ []) y)
    (on (stages.Inside 2048 1 code) (stages.Next true) d t (last_follow 2048 1 code d c refl p2 q2 whole
    (stands_true 2048 c least (omega arith) s e)))
    ∙ two_before (b ∷ []) (d ∷ []) r)
    ∙ two_before (a ∷ []) (b ∷ d ∷ []) r

four_read : (w : Bool) (c a b d x : ℕ) (t : List ℕ) → 240 ≤ a → 128 ≤ b → b < 192 → 128 ≤ d → d < 192 → 128 ≤ x
    → x < 192 → c + 63447168 ≡ a * 262144 + b * 4096 + d * 64 + x → 65536 ≤ c → c < 1114112 → scalar c ≡ true
    → is_hidden c ≡ false
    → read_from (stages.Next w) (a ∷ b ∷ d ∷ x ∷ t) ≡ preceded (a ∷ b ∷ d ∷ x ∷ []) (read_from (stages.Next true) t)
four_read w c a b d x t l p q p2 q2 p3 q3 is least top s e =
    let high = (a - 240) * 64 + b % 64 in
    let code = high * 64 + d % 64 in
    let whole : code * 64 + x % 64 ≡ c = omega arith in
    let low : 65536 ≤ high * 4096 = omega arith in
    let under : high * 4096 < 1114112 = omega arith in
    let r = read_from (stages.Next true) t in
    on (stages.Next w) (stages.Inside 65536 3 (a - 240)) a (b ∷ d ∷ x ∷ t) (lead_follow w a (omega arith)
    ∙ ap₂ (λ (u v : Bool). cond u (Some (stages.Inside 128 1 (a - 192))) (cond v
    (Some (stages.Inside 2048 2 (a - 224))) (cond (is_from 240 244 a) (Some (stages.Inside 65536 3 (a - 240))) None)))
    (past 194 223 a (omega arith)) (past 224 239 a (omega arith))
    ∙ ap (λ (u : Bool). cond u (Some (stages.Inside 65536 3 (a - 240))) None) (within 240 244 a l (omega arith)))
    ∙ ap₂ (λ (u : List ℕ) (y : Option (List ℕ)). preceded u y) (lead_gives w a (omega arith))
    (on (stages.Inside 65536 3 (a - 240)) (stages.Inside 65536 2 high) b (d ∷ x ∷ t)
    (more_follow 65536 3 (a - 240) b p q
    (and_from _ _ (le-leb 65536 (high * 4096) low) (lt-ltb (high * 4096) 1114112 under)))
    ∙ ap (λ (y : Option (List ℕ)). preceded (b ∷ []) y)
    (on (stages.Inside 65536 2 high) (stages.Inside 65536 1 code) d (x ∷ t) (more_follow 65536 2 high d p2 q2
    (block_leads 65536 code c (x % 64) whole (omega arith) (omega arith) s e))
    ∙ ap (λ (y : Option (List ℕ)). preceded (d ∷ []) y)
    (on (stages.Inside 65536 1 code) (stages.Next true) x t (last_follow 65536 1 code x c refl p3 q3 whole
    (stands_true 65536 c least (omega arith) s e)))
    ∙ two_before (d ∷ []) (x ∷ []) r)
    ∙ two_before (b ∷ []) (d ∷ x ∷ []) r)
    ∙ two_before (a ∷ []) (b ∷ d ∷ x ∷ []) r

scalar_top : (c : ℕ) → scalar c ≡ true → c < 1114112
scalar_top c s = by (scalar_cases c s) where
  by : (c < 55296) ⊎ ((57344 ≤ c) × (c < 1114112)) → c < 1114112
  by (inl h) = omega arith
  by (inr h) = h.1

-- Case: the code point `c` has several bytes, and `bare` reads them as they are.
wide_read : (w : Bool) (c : ℕ) (t : List ℕ) → 128 ≤ c
    → (is_hidden c ≡ false
    → read_from (stages.Next w) (encode c ++ t) ≡ preceded (encode c) (read_from (stages.Next true) t))
    → IsRead w (written c) (encode c) t
wide_read w c t l bare = (
  true,
  ap (λ (x : Bool). read_from (stages.Next w)
      (cond x (escaped c) (cond (is_hidden c) (numbered c) (encode c)) ++ t))
      (le-ltb c 128 l) ∙ by (is_hidden c) refl,
) where
  by : (x : Bool) → is_hidden c ≡ x → read_from (stages.Next w) (cond x (numbered c) (encode c) ++ t)
      ≡ preceded (encode c) (read_from (stages.Next true) t)
  by true e = numbered_read w c t e
  by false e = bare e

pub one_read : (w : Bool) (c : ℕ) (t : List ℕ) → Shape c → scalar c ≡ true → is_control_point c ≡ false
    → IsRead w (written c) (encode c) t
one_read w c t (of1 h e) s clear =
    let parts = or_parts (is_control c) (is_from 128 159 c) clear in
    let r = low_read w c t h parts.0 in (
      r.0,
      ap (λ (x : Bool). read_from (stages.Next w)
          (cond x (escaped c) (cond (is_hidden c) (numbered c) (encode c)) ++ t))
          (lt-ltb c 128 h) ∙ r.1 ∙ ap (λ (l : List ℕ). preceded l (read_from (stages.Next r.0) t)) (sym e),
    )
one_read w c t (of2 a b big l h f g e) s clear =
    let least = no_control_least c clear big in
    wide_read w c t big (λ k. ap (λ (u : List ℕ). read_from (stages.Next w) (u ++ t)) e
    ∙ two_read w c a b t l h f.0 f.1 g least (stands_true 128 c big least s k)
    ∙ ap (λ (u : List ℕ). preceded u (read_from (stages.Next true) t)) (sym e))
one_read w c t (of3 a b d big l h f f2 g e) s clear =
    wide_read w c t (omega arith) (λ k. ap (λ (u : List ℕ). read_from (stages.Next w) (u ++ t)) e
    ∙ three_read w c a b d t l h f.0 f.1 f2.0 f2.1 g big s k
    ∙ ap (λ (u : List ℕ). preceded u (read_from (stages.Next true) t)) (sym e))
one_read w c t (of4 a b d x big l h f f2 f3 g e) s clear =
    wide_read w c t (omega arith) (λ k. ap (λ (u : List ℕ). read_from (stages.Next w) (u ++ t)) e
    ∙ four_read w c a b d x t l f.0 f.1 f2.0 f2.1 f3.0 f3.1 g big (scalar_top c s) s k
    ∙ ap (λ (u : List ℕ). preceded u (read_from (stages.Next true) t)) (sym e))
