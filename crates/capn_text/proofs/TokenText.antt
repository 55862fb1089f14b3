-- Lemmas on the tokens of a line: a reader reads exactly the text of the token that it gives, and reads each token from
-- its own text. (For `levels_at`.)
use Rattle.std.proofs.Common.{◌≡◌, ℕ, zero, suc, ◌+◌, ◌-◌, ◌*◌, ◌/◌, ◌%◌, ◌^◌, ◌≤◌, ◌<◌, Bool, true, false, cond}
use Rattle.std.proofs.Common.{List, [], ◌∷◌, ◌++◌}
use Rattle.std.proofs.Common.{get_or, Option, Some, None, codes, replicate, refl, sym, ap, ap₂, subst, ◌∙◌}
use Rattle.std.proofs.Common.{append_assoc, arith}
use Rattle.std.proofs.Common.{inl, inr}
use Rattle.std.specs.Prelude.{nat_le, nat_lt, ◌==◌, ◌&&◌, slice_index, unwrap_or}
use Rattle.std.specs.List.{AllByRecursion}
use Rattle.std.specs.Fmt.{decimal}
use Rattle.std.specs.Int.{from_be_bytes, to_be_bytes, w64}
use Rattle.std.proofs.lemmas.Bool.{eqb-true, eqb-false, eq-eqb, ne_eqb, lt-ltb, ltb-true, leb-true, le-leb, and_parts}
use Rattle.std.proofs.lemmas.Bool.{and_from}
use Rattle.std.proofs.lemmas.Bool.{agree_below, agree_below_at}
use Rattle.std.proofs.lemmas.Fmt.{decimal_digit, decimal_step, decimal_by_steps}
use Rattle.std.proofs.lemmas.Nat.{be_bytes_8, from_be_bytes-to_be_bytes_8}
use Rattle.hex.specs.Hex.{encode_lower, encode_with, lower_digits}
use Rattle.capn_value.specs.Text.{hex16}
use Rattle.capn_text.specs.inner.Tokens.{◌>>=◌, strip, indent_at, is_digit, digits_at, decimal_at, nibble, byte_at}
use Rattle.capn_text.specs.inner.Tokens.{many}
use Rattle.capn_text.specs.inner.Tokens.{word_at}
use Rattle.capn_text.proofs.Steps.{bind_some, guard_some, guard_read, chosen, some_is, many_again, many_takes}

-- ---- fixed text

pub strip_takes : (front t rest : List ℕ) → strip front t ≡ Some rest → t ≡ front ++ rest
strip_takes [] t rest e = some_is t rest e
strip_takes (c ∷ cs) [] rest e = absurd cc
strip_takes (c ∷ cs) (d ∷ ds) rest e =
    let g = guard_read (c == d) (strip cs ds) rest e in
    ap₂ (λ x xs. x ∷ xs) (sym (eqb-true c d g.0)) (strip_takes cs ds rest g.1)

pub strip_again : (front rest : List ℕ) → strip front (front ++ rest) ≡ Some rest
strip_again [] rest = refl
strip_again (c ∷ cs) rest = rw (eq-eqb c c refl) (strip_again cs rest)

pub two_more : (level : ℕ) → replicate {A = ℕ} (2 * suc level) 32 ≡ 32 ∷ 32 ∷ replicate (2 * level) 32
two_more level = let e : 2 * suc level ≡ suc (suc (2 * level)) = omega arith in ap (λ (k : ℕ). replicate {A = ℕ} k 32) e

pub indent_takes : (level : ℕ) (t rest : List ℕ) → indent_at level t ≡ Some rest → t ≡ replicate (2 * level) 32 ++ rest
indent_takes zero t rest e = some_is t rest e
indent_takes (suc level) t rest e =
    let a = bind_some (strip (codes "  ") t) (indent_at level) rest e in
    strip_takes (codes "  ") t a.0 a.1 ∙ ap (λ x. 32 ∷ 32 ∷ x) (indent_takes level a.0 rest a.2)
    ∙ ap (λ x. x ++ rest) (sym (two_more level))

pub indent_again : (level : ℕ) (rest : List ℕ) → indent_at level (replicate (2 * level) 32 ++ rest) ≡ Some rest
indent_again zero rest = refl
indent_again (suc level) rest = rw (two_more level) (indent_again level rest)

-- ---- decimal numbers

is_digit_from : (c : ℕ) → 48 ≤ c → c ≤ 57 → is_digit c ≡ true
is_digit_from c low high = and_from (nat_le 48 c) (nat_le c 57) (le-leb 48 c low) (le-leb c 57 high)

one_more : (n d : ℕ) (rest : List ℕ) → d < 10 → n * 10 + d < 2 ^ 64
    → digits_at n ((48 + d) ∷ rest) ≡ digits_at (n * 10 + d) rest
one_more n d rest lt fits =
    let same : 48 + d - 48 ≡ d = omega arith in
    let below : nat_lt (n * 10 + (48 + d - 48)) (2 ^ 64) ≡ true = lt-ltb _ _ (omega arith) in
    let digit = is_digit_from (48 + d) (omega arith) (omega arith) in
    ap (λ b. cond b (cond (nat_lt (n * 10 + (48 + d - 48)) (2 ^ 64)) (digits_at (n * 10 + (48 + d - 48)) rest) None)
    (Some (n, (48 + d) ∷ rest))) digit
    ∙ ap (λ b. cond b (digits_at (n * 10 + (48 + d - 48)) rest) None) below
    ∙ ap (λ k. digits_at (n * 10 + k) rest) same

begins : (d : ℕ) (rest : List ℕ) → 0 < d → d < 10 → decimal_at ((48 + d) ∷ rest) ≡ digits_at d rest
begins d rest low lt =
    let other : (48 + d == 48) ≡ false = ne_eqb (48 + d) 48 (λ e. omega arith) in
    let digit = is_digit_from (48 + d) (omega arith) (omega arith) in
    let same : 0 * 10 + d ≡ d = omega arith in
    ap (λ b. cond b (Some (0, rest)) (cond (is_digit (48 + d)) (digits_at 0 ((48 + d) ∷ rest)) None)) other
    ∙ ap (λ b. cond b (digits_at 0 ((48 + d) ∷ rest)) None) digit
    ∙ one_more 0 d rest lt (omega arith) ∙ ap (λ k. digits_at k rest) same

abbrev Fronts : ℕ → List ℕ → Type 0
Fronts n ds = 0 < n → n < 2 ^ 64 → (rest : List ℕ) → decimal_at (ds ++ rest) ≡ digits_at n rest

fronts_more : (n : ℕ) (ds : List ℕ) → 10 ≤ n → Fronts (n / 10) ds → Fronts n (ds ++ ((48 + n % 10) ∷ []))
fronts_more n ds ten so_far low fits rest =
    let whole : n / 10 * 10 + n % 10 ≡ n = omega arith in
    ap decimal_at (append_assoc ds ((48 + n % 10) ∷ []) rest)
    ∙ so_far (omega arith) (omega arith) ((48 + n % 10) ∷ rest)
    ∙ one_more (n / 10) (n % 10) rest (omega arith) (omega arith) ∙ ap (λ k. digits_at k rest) whole

fronts : (n : ℕ) → n < 2 ^ 64 → Fronts n (decimal n)
fronts n fits = decimal_by_steps Fronts (λ m lt low _ rest. begins m rest low lt) fronts_more n fits

pub decimal_again : (n c : ℕ) (rest : List ℕ) → n < 2 ^ 64 → is_digit c ≡ false
    → decimal_at (decimal n ++ c ∷ rest) ≡ Some (n, c ∷ rest)
decimal_again zero c rest fits other = ap (λ ds. decimal_at (ds ++ c ∷ rest)) (decimal_digit 0 (omega arith))
decimal_again (suc n) c rest fits other =
    fronts (suc n) fits (omega arith) fits (c ∷ rest)
    ∙ ap (λ b. cond b (cond (nat_lt (suc n * 10 + (c - 48)) (2 ^ 64)) (digits_at (suc n * 10 + (c - 48)) rest) None)
    (Some (suc n, c ∷ rest))) other

digits_take : (t : List ℕ) (m : ℕ) → 0 < m → m < 2 ^ 64 → (n : ℕ) (rest : List ℕ) → digits_at m t ≡ Some (n, rest)
    → (decimal m ++ t ≡ decimal n ++ rest) × (n < 2 ^ 64)
digits_take [] m low fits n rest e =
    let p = some_is (m, []) (n, rest) e in
    subst (λ (y : ℕ × List ℕ). (decimal m ++ [] ≡ decimal y.0 ++ y.1) × (y.0 < 2 ^ 64)) p (refl, fits)
digits_take (c ∷ cs) m low fits n rest e =
    elim (chosen (is_digit c) (cond (nat_lt (m * 10 + (c - 48)) (2 ^ 64)) (digits_at (m * 10 + (c - 48)) cs) None)
    (Some (m, c ∷ cs)) (n, rest) e) [
      | inl h ↦
          let g = guard_read (nat_lt (m * 10 + (c - 48)) (2 ^ 64)) (digits_at (m * 10 + (c - 48)) cs) (n, rest) h.1 in
          let small = ltb-true (m * 10 + (c - 48)) (2 ^ 64) g.0 in
          let parts = and_parts (nat_le 48 c) (nat_le c 57) h.0 in
          let from = leb-true 48 c parts.0 in
          let to = leb-true c 57 parts.1 in
          let others = digits_take cs (m * 10 + (c - 48)) (omega arith) small n rest g.1 in
          let high : (m * 10 + (c - 48)) / 10 ≡ m = omega arith in
          let last : 48 + (m * 10 + (c - 48)) % 10 ≡ c = omega arith in
          let step : decimal (m * 10 + (c - 48)) ≡ decimal m ++ c ∷ [] =
          decimal_step (m * 10 + (c - 48)) (omega arith) small ∙ ap₂ (λ a b. decimal a ++ b ∷ []) high last in
          (sym (append_assoc (decimal m) (c ∷ []) cs) ∙ ap (λ x. x ++ cs) (sym step) ∙ others.0, others.1)
      | inr h ↦
          subst (λ (y : ℕ × List ℕ). (decimal m ++ c ∷ cs ≡ decimal y.0 ++ y.1) × (y.0 < 2 ^ 64))
          (some_is (m, c ∷ cs) (n, rest) h.1) (refl, fits)
    ]

pub decimal_takes : (t : List ℕ) (n : ℕ) (rest : List ℕ) → decimal_at t ≡ Some (n, rest)
    → (t ≡ decimal n ++ rest) × (n < 2 ^ 64)
decimal_takes [] n rest e = absurd cc
decimal_takes (c ∷ cs) n rest e =
    elim (chosen (c == 48) (Some (0, cs)) (cond (is_digit c) (digits_at 0 (c ∷ cs)) None) (n, rest) e) [
      | inl h ↦
          let first : c ∷ cs ≡ decimal 0 ++ cs =
          ap (λ x. x ∷ cs) (eqb-true c 48 h.0) ∙ ap (λ ds. ds ++ cs) (sym (decimal_digit 0 (omega arith))) in
          subst (λ (y : ℕ × List ℕ). (c ∷ cs ≡ decimal y.0 ++ y.1) × (y.0 < 2 ^ 64)) (some_is (0, cs) (n, rest) h.1)
          (first, omega arith)
      | inr h ↦
          let g = guard_read (is_digit c) (digits_at 0 (c ∷ cs)) (n, rest) h.1 in
          let parts = and_parts (nat_le 48 c) (nat_le c 57) g.0 in
          let from = leb-true 48 c parts.0 in
          let to = leb-true c 57 parts.1 in
          let other = eqb-false c 48 h.0 in
          let low : 0 < c - 48 = grind arith in
          let is : 48 + (c - 48) ≡ c = omega arith in
          let zero_on : 0 * 10 + (c - 48) ≡ c - 48 = omega arith in
          let read : digits_at (c - 48) cs ≡ Some (n, rest) =
          ap (λ k. digits_at k cs) (sym zero_on) ∙ sym (one_more 0 (c - 48) cs (omega arith) (omega arith))
          ∙ ap (λ k. digits_at 0 (k ∷ cs)) is ∙ g.1 in
          let all = digits_take cs (c - 48) low (omega arith) n rest read in
          (ap (λ k. k ∷ cs) (sym is) ∙ ap (λ ds. ds ++ cs) (sym (decimal_digit (c - 48) (omega arith))) ∙ all.0, all.1)
    ]

-- ---- hexadecimal digits

abbrev pub glyph : ℕ → ℕ
glyph d = slice_index lower_digits d

always : ℕ → Bool
always d = true

reads_back : ℕ → Bool
reads_back d = unwrap_or (nibble (glyph d)) 99 == d

some_from : (o : Option ℕ) (d : ℕ) → d < 16 → unwrap_or o 99 ≡ d → o ≡ Some d
some_from (Some v) d lt e = ap Some e
some_from None d lt e = absurd (omega arith)

all_back : agree_below reads_back always 16 ≡ true
unfolding reads_back always
all_back = refl

nibble_again : (d : ℕ) → d < 16 → nibble (glyph d) ≡ Some d
unfolding reads_back always
nibble_again d lt = some_from (nibble (glyph d)) d lt
    (eqb-true (unwrap_or (nibble (glyph d)) 99) d (agree_below_at reads_back always 16 d all_back lt))

is_figure : ℕ → Bool
is_figure d = glyph d == 48 + d

is_letter : ℕ → Bool
is_letter d = glyph (10 + d) == 97 + d

figures : agree_below is_figure always 10 ≡ true
unfolding is_figure always
figures = refl

letters : agree_below is_letter always 6 ≡ true
unfolding is_letter always
letters = refl

figure : (d : ℕ) → d < 10 → glyph d ≡ 48 + d
unfolding is_figure always
figure d lt = eqb-true (glyph d) (48 + d) (agree_below_at is_figure always 10 d figures lt)

letter : (d : ℕ) → d < 6 → glyph (10 + d) ≡ 97 + d
unfolding is_letter always
letter d lt = eqb-true (glyph (10 + d)) (97 + d) (agree_below_at is_letter always 6 d letters lt)

nibble_takes : (c d : ℕ) → nibble c ≡ Some d → (c ≡ glyph d) × (d < 16)
nibble_takes c d e =
    elim (chosen (nat_le 48 c && nat_le c 57) (Some (c - 48))
    (cond (nat_le 97 c && nat_le c 102) (Some (c - 87)) None) d e) [
      | inl h ↦
          let parts = and_parts (nat_le 48 c) (nat_le c 57) h.0 in
          let from = leb-true 48 c parts.0 in
          let to = leb-true c 57 parts.1 in
          let is = some_is (c - 48) d h.1 in
          let f = figure d (omega arith) in
          (omega arith, omega arith)
      | inr h ↦
          let g = guard_some (nat_le 97 c && nat_le c 102) (c - 87) d h.1 in
          let parts = and_parts (nat_le 97 c) (nat_le c 102) g.0 in
          let from = leb-true 97 c parts.0 in
          let to = leb-true c 102 parts.1 in
          let is = g.1 in
          let f = letter (d - 10) (omega arith) in
          let at : 10 + (d - 10) ≡ d = omega arith in
          let f2 : glyph d ≡ 97 + (d - 10) = ap glyph (sym at) ∙ f in
          (omega arith, omega arith)
    ]

pub encode_one : (b : ℕ) → encode_lower (b ∷ []) ≡ glyph (b / 16) ∷ glyph (b % 16) ∷ []
unfolding encode_with
encode_one b = refl

pub encode_none : encode_lower [] ≡ []
unfolding encode_with
encode_none = refl

pub encode_more : (b : ℕ) (bs : List ℕ) → encode_lower (b ∷ bs) ≡ encode_lower (b ∷ []) ++ encode_lower bs
unfolding encode_with
encode_more b bs = refl

abbrev pub one_byte : ℕ → List ℕ
one_byte b = encode_lower (b ∷ [])

pub byte_again : (b : ℕ) (rest : List ℕ) → b < 2 ^ 8 → byte_at (one_byte b ++ rest) ≡ Some (b, rest)
byte_again b rest lt =
    let whole : b / 16 * 16 + b % 16 ≡ b = omega arith in
    ap (λ x. byte_at (x ++ rest)) (encode_one b)
    ∙ ap₂ (λ (x y : Option ℕ). x >>= λ p. y >>= λ q. Some (p * 16 + q, rest))
    (nibble_again (b / 16) (omega arith)) (nibble_again (b % 16) (omega arith))
    ∙ ap (λ k. Some (k, rest)) whole

pub byte_takes : (t : List ℕ) (b : ℕ) (rest : List ℕ) → byte_at t ≡ Some (b, rest)
    → (t ≡ one_byte b ++ rest) × (b < 2 ^ 8)
byte_takes [] b rest e = absurd cc
byte_takes (h ∷ []) b rest e = absurd cc
byte_takes (h ∷ l ∷ t) b rest e =
    let p = bind_some (nibble h) (λ x. nibble l >>= λ y. Some (x * 16 + y, t)) (b, rest) e in
    let q = bind_some (nibble l) (λ y. Some (p.0 * 16 + y, t)) (b, rest) p.2 in
    let high = nibble_takes h p.0 p.1 in
    let low = nibble_takes l q.0 q.1 in
    let lt0 = high.1 in
    let lt1 = low.1 in
    let first : (p.0 * 16 + q.0) / 16 ≡ p.0 = omega arith in
    let second : (p.0 * 16 + q.0) % 16 ≡ q.0 = omega arith in
    let spelled : h ∷ l ∷ t ≡ one_byte (p.0 * 16 + q.0) ++ t =
    ap₂ (λ x y. x ∷ y ∷ t) (high.0 ∙ ap glyph (sym first)) (low.0 ∙ ap glyph (sym second))
    ∙ ap (λ x. x ++ t) (sym (encode_one (p.0 * 16 + q.0))) in
    subst (λ (y : ℕ × List ℕ). (h ∷ l ∷ t ≡ one_byte y.0 ++ y.1) × (y.0 < 2 ^ 8))
    (some_is (p.0 * 16 + q.0, t) (b, rest) q.2) (spelled, omega arith)

-- ---- words

pub bytes_below : (n : ℕ) → AllByRecursion (λ b. b < 2 ^ 8) (to_be_bytes w64 n)
bytes_below n = (
  omega arith,
  (
    omega arith,
    (omega arith, (omega arith, (omega arith, (omega arith, (omega arith, (omega arith, tt)))))),
  ),
)

below_at : (bs : List ℕ) → AllByRecursion (λ b. b < 2 ^ 8) bs → (i : ℕ) → get_or bs i 0 < 256
below_at [] all i = omega arith
below_at (b ∷ bs) all zero = all.0
below_at (b ∷ bs) all (suc i) = below_at bs all.1 i

pub word_again : (n : ℕ) (rest : List ℕ) → n < 2 ^ 64 → word_at (hex16 n ++ rest) ≡ Some (n, rest)
word_again n rest fits =
    let eight = many_again byte_at one_byte encode_lower (λ b. b < 2 ^ 8) encode_none encode_more byte_again
    (to_be_bytes w64 n) rest (bytes_below n) in
    ap (λ (r : Option (List ℕ × List ℕ)). r >>= λ bs. Some (from_be_bytes w64 bs.0, bs.1)) eight
    ∙ ap (λ k. Some (k, rest)) (from_be_bytes-to_be_bytes_8 n fits)

pub word_takes : (t : List ℕ) (n : ℕ) (rest : List ℕ) → word_at t ≡ Some (n, rest)
    → (t ≡ hex16 n ++ rest) × (n < 2 ^ 64)
word_takes t n rest e =
    let a = bind_some (many byte_at 8 t) (λ bs. Some (from_be_bytes w64 bs.0, bs.1)) (n, rest) e in
    let m = many_takes byte_at one_byte encode_lower
    (λ b. b < 2 ^ 8) encode_none encode_more byte_takes 8 t a.0.0 a.0.1 a.1 in
    let low = below_at a.0.0 m.2 in
    let back = be_bytes_8 a.0.0 (from_be_bytes w64 a.0.0) m.1 low refl in
    let small : from_be_bytes w64 a.0.0 < 2 ^ 64 =
    omega (arith, low 0, low 1, low 2, low 3, low 4, low 5, low 6, low 7) in
    subst (λ (y : ℕ × List ℕ). (t ≡ hex16 y.0 ++ y.1) × (y.0 < 2 ^ 64))
    (some_is (from_be_bytes w64 a.0.0, a.0.1) (n, rest) a.2)
    (m.0 ∙ ap (λ bs. encode_lower bs ++ a.0.1) (sym back), small)
