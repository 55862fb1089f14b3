-- Lemmas for `head_at`, `number_line_at` and `word_line_at`: lines that no bytes can complete, and lines that some
-- bytes can complete.
use Rattle.std.proofs.Common.{◌≡◌, ◌+◌, ◌*◌, ◌≤◌, ◌<◌, ◌^◌, ℕ, suc, Bool, true, false, cond}
use Rattle.std.proofs.Common.{List, [], ◌∷◌, ◌++◌, length, replicate, Option, Some, None, codes}
use Rattle.std.proofs.Common.{refl, sym, ap, ◌∙◌, arith}
use Rattle.std.specs.Prelude.{nat_lt}
use Rattle.std.specs.Fmt.{decimal}
use Rattle.std.proofs.lemmas.Fmt.{length-decimal-le}
use Rattle.std.proofs.lemmas.Bool.{ltb-true, ltb-false}
use Rattle.std.proofs.lemmas.List.{length-append, append-nil, length-replicate}
use Rattle.capn_value.specs.Text.{line, hex16}
use Rattle.capn_text.specs.Streams.{few}
use Rattle.capn_text.specs.inner.Stops.{LineFails, IsLineLost, stop_in}
use Rattle.capn_text.specs.inner.Tokens.{word_line_at, number_line_at}
use Rattle.capn_text.specs.inner.Values.{Holds, head_at}
use Rattle.capn_text.specs.declared.fault.Stop.TheVariants as stops
use Rattle.capn_text.specs.declared.heads.Leaf.TheVariants as leaves
use Rattle.capn_text.specs.declared.heads.Name.{Name}
use Rattle.capn_text.specs.declared.heads.Name.TheVariants as names
use Rattle.capn_text.specs.declared.heads.Head.{Head}
use Rattle.capn_text.specs.declared.heads.Head.TheVariants as heads
use Rattle.capn_text.proofs.HeadText.{name_text, head_text, head_again, head_takes, number_below}
use Rattle.capn_text.proofs.Numbers.{word_text, word_line_again, word_line_takes, number_text, number_line_again}
use Rattle.capn_text.proofs.Numbers.{number_line_takes}
use Rattle.capn_text.proofs.TokenText.{encode_one, encode_none, encode_more}
use Rattle.hex.specs.Hex.{encode_lower}
use Rattle.std.specs.Int.{to_be_bytes, w64}

-- If `t ++ z` begins with `x`, and `t` is at least as long as `x`, then `t` begins with `x`.
pub split : (t x s z : List ℕ) → t ++ z ≡ x ++ s → length x ≤ length t → (u : List ℕ) × (t ≡ x ++ u)
split t [] s z e low = (t, refl)
split [] (c ∷ cs) s z e low = absurd (omega arith)
split (d ∷ ds) (c ∷ cs) s z e low =
    let first : d ≡ c = cc in
    let rest : ds ++ z ≡ cs ++ s = cc in
    let fewer : length cs ≤ length ds = omega arith in
    let p = split ds cs s z rest fewer in
    (p.0, ap (λ a. a ∷ ds) first ∙ ap (λ u. c ∷ u) p.1)

module _ {X : Type 0} (read : List ℕ → Option (X × List ℕ)) (show : X → List ℕ) (P : X → Type 0)
    (takes : (t : List ℕ) (x : X) (rest : List ℕ) → read t ≡ Some (x, rest) → (t ≡ show x ++ rest) × P x)
    (again : (x : X) (rest : List ℕ) → P x → read (show x ++ rest) ≡ Some (x, rest)) where
  by_answer : (t z : List ℕ) → read t ≡ None → ((x : X) → P x → length (show x) ≤ length t)
      → (o : Option (X × List ℕ)) → read (t ++ z) ≡ o → read (t ++ z) ≡ None
  by_answer t z none long (Some y) is =
      let p = takes (t ++ z) y.0 y.1 is in
      let u = split t (show y.0) y.1 z p.0 (long y.0 p.1) in
      let some = sym none ∙ ap read u.1 ∙ again y.0 u.0 p.1 in
      absurd cc
  by_answer t z none long None is = is

  -- Let `t` be at least as long as each line that `show` writes. If nothing is read from `t`, nothing is read from
  -- `t ++ z`, for any bytes `z`.
  pub long_lost : (t : List ℕ) → read t ≡ None → ((x : X) → P x → length (show x) ≤ length t) → IsLineLost read t
  long_lost t none long z = by_answer t z none long (read (t ++ z)) refl

  by_length : (b : Bool) (t : List ℕ) → nat_lt (length t) few ≡ b → (some : X) → P some → read t ≡ None
      → ((x : X) → P x → length (show x) ≤ few)
      → LineFails (cond b (stops.Cut (length t)) (stops.Left (length t))) read t
  by_length true t is some p none short =
      let low = ltb-true (length t) few is in
      let whole = ap read (sym (append-nil (show some))) ∙ again some [] p in
      (none, refl, ([], t, refl, omega arith, show some, some, whole))
  by_length false t is some p none short =
      let high = ltb-false (length t) few is in
      (none, refl, long_lost t none (λ x q. let s = short x q in omega arith))

  -- Let some line exist, and let each line have at most `few` bytes. If nothing is read from `t`, the stop on `t` is
  -- `stop_in t`.
  pub line_stop : (some : X) → P some → ((x : X) → P x → length (show x) ≤ few) → (t : List ℕ) → read t ≡ None
      → LineFails (stop_in t) read t
  line_stop some p short t none = by_length (nat_lt (length t) few) t refl some p none short

-- ---- the length of lines

line_length : (level : ℕ) (x : List ℕ) → length (line level x) ≡ 2 * level + (length x + 1)
unfolding line
line_length level x =
    let a = length-append (replicate {A = ℕ} (2 * level) 32) (x ++ 10 ∷ []) in
    let b = length-append x (10 ∷ []) in
    let c = length-replicate {A = ℕ} (2 * level) 32 in
    let one : length {A = ℕ} (10 ∷ []) ≡ 1 = refl in
    omega arith

decimal_short : (n : ℕ) → n < 2 ^ 64 → length (decimal n) ≤ 20
decimal_short n fits = length-decimal-le 20 n (omega arith) (omega arith) fits

name_short : (name : Name) → length (name_text name) ≤ 10
name_short names.Links = omega arith
name_short names.Rows = omega arith
name_short names.Cap = omega arith
name_short (names.Leaf leaves.Voids) = omega arith
name_short (names.Leaf leaves.Bits) = omega arith
name_short (names.Leaf leaves.Bytes) = omega arith
name_short (names.Leaf leaves.Pairs) = omega arith
name_short (names.Leaf leaves.Quads) = omega arith
name_short (names.Leaf leaves.Octs) = omega arith

head_short : (h : Head) → Holds h → length (head_text h) ≤ 60
head_short heads.Null p = omega arith
head_short (heads.Struct w s) p =
    let a = length-append (codes "struct ") (decimal w ++ 32 ∷ decimal s) in
    let b = length-append (decimal w) (32 ∷ decimal s) in
    let c : length (codes "struct ") ≡ 7 = refl in
    let d = decimal_short w p.0 in
    let e = decimal_short s p.1 in
    omega arith
head_short (heads.Named name n) p =
    let most = number_below name in
    let a = length-append (name_text name) (32 ∷ decimal n) in
    let b = name_short name in
    let d = decimal_short n (omega arith) in
    omega arith

encode_length : (bs : List ℕ) → length (encode_lower bs) ≡ 2 * length bs
encode_length [] = ap length encode_none
encode_length (b ∷ bs) =
    let more = ap length (encode_more b bs) ∙ length-append (encode_lower (b ∷ [])) (encode_lower bs) in
    let one = ap length (encode_one b) in
    let rest = encode_length bs in
    omega arith

hex16_length : (w : ℕ) → length (hex16 w) ≡ 16
hex16_length w =
    let a = encode_length (to_be_bytes w64 w) in
    let b : length (to_be_bytes w64 w) ≡ 8 = refl in
    omega arith

module _ (level : ℕ) (low : level ≤ 600) where
  pub head_stop : (t : List ℕ) → head_at level t ≡ None → LineFails (stop_in t) (head_at level) t
  head_stop =
      line_stop (head_at level) (λ h. line level (head_text h)) Holds (head_takes level) (head_again level) heads.Null
      tt (λ h p. let a = line_length level (head_text h) in let b = head_short h p in omega arith)

  pub word_stop : (t : List ℕ) → word_line_at level t ≡ None → LineFails (stop_in t) (word_line_at level) t
  word_stop =
      line_stop (word_line_at level) (word_text level) (λ w. w < 2 ^ 64) (word_line_takes level)
      (word_line_again level) 0 (omega arith) (λ w p.
      let a = line_length level (codes "word " ++ hex16 w) in
      let b = length-append (codes "word ") (hex16 w) in
      let c : length (codes "word ") ≡ 5 = refl in
      let d = hex16_length w in
      omega arith)

  pub number_stop : (greatest : ℕ) → greatest < 2 ^ 64 → (t : List ℕ) → number_line_at greatest level t ≡ None
      → LineFails (stop_in t) (number_line_at greatest level) t
  number_stop greatest top =
      line_stop (number_line_at greatest level) (number_text level) (λ n. n < suc greatest)
      (number_line_takes greatest level) (number_line_again greatest level top) 0 (omega arith) (λ n p.
      let a = line_length level (decimal n) in
      let b = decimal_short n (omega arith) in
      omega arith)
