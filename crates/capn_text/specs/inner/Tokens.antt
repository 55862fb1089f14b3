-- The reading of the tokens of a line, from left to right. Each token is given with the bytes after it. (Our own.)
use Rattle.std.specs.Prelude.{◌≡◌, ℕ, zero, suc, ◌+◌, ◌-◌, ◌*◌, ◌^◌, List, [], ◌∷◌, Option, Some, None, Result, Ok}
use Rattle.std.specs.Prelude.{Err, Bool}
use Rattle.std.specs.Prelude.{nat_lt, nat_le, ◌==◌, ◌&&◌, ◌||◌, cond, codes, ⊤}
use Rattle.std.specs.Int.{from_be_bytes, w64}
use Rattle.capn_text.specs.declared.fault.Stop.{Stop}
use Rattle.capn_text.specs.declared.fault.Stop.TheVariants as stops

-- `f x` if the first argument is `Some x`, and `None` if it is `None`.
infixl 10 ◌>>=◌
abbrev pub ◌>>=◌ : {A B : Type 0} → Option A → (A → Option B) → Option B
(Some x) >>= f = f x
None >>= f = None

-- If the stop is not `Memory`, `read` is `None`. The stop `Memory` says nothing about `read`.
abbrev pub Fails : {Y : Type 0} → Stop → Option Y → Type 0
Fails stops.Memory read = ⊤
Fails (stops.Left n) read = read ≡ None
Fails (stops.Cut n) read = read ≡ None
Fails stops.Deep read = read ≡ None

-- If the result is `Ok x`, `read` is `Some (view x)`. If the result is `Err e`, `read` fails with the stop `e`
-- (`Fails`).
abbrev pub Gives : {X Y : Type 0} → (X → Y) → Result X Stop → Option Y → Type 0
Gives view (Ok x) read = read ≡ Some (view x)
Gives view (Err e) read = Fails e read

-- `read` is `None`, and the stop is not `Memory`.
abbrev pub FailsIdly : {Y : Type 0} → Stop → Option Y → Type 0
FailsIdly stops.Memory read = ⊥
FailsIdly (stops.Left n) read = read ≡ None
FailsIdly (stops.Cut n) read = read ≡ None
FailsIdly stops.Deep read = read ≡ None

-- If the result is `Ok x`, `read` is `Some (view x)`. If the result is `Err e`, `read` is `None`, and `e` is not
-- `Memory`.
abbrev pub GivesIdly : {X Y : Type 0} → (X → Y) → Result X Stop → Option Y → Type 0
GivesIdly view (Ok x) read = read ≡ Some (view x)
GivesIdly view (Err e) read = FailsIdly e read

-- The bytes of `text` after the prefix in the first argument, or `None` if `text` does not begin with that prefix.
abbrev pub strip : List ℕ → List ℕ → Option (List ℕ)
strip [] text = Some text
strip (c ∷ cs) [] = None
strip (c ∷ cs) (d ∷ ds) = cond (c == d) (strip cs ds) None

-- The bytes of `text` after an indent of two spaces for each level, or `None` if `text` has no such indent.
abbrev pub indent_at : ℕ → List ℕ → Option (List ℕ)
indent_at zero text = Some text
indent_at (suc level) text = strip (codes "  ") text >>= indent_at level

-- True if `c` is a decimal digit.
abbrev pub is_digit : ℕ → Bool
is_digit c = nat_le 48 c && nat_le c 57

-- The number with the digits of `n` and then the digits at the front of the bytes. `None` for 2^64 or more.
abbrev pub digits_at : ℕ → List ℕ → Option (ℕ × List ℕ)
digits_at n [] = Some (n, [])
digits_at n (c ∷ cs) = cond (is_digit c)
    (cond (nat_lt (n * 10 + (c - 48)) (2 ^ 64)) (digits_at (n * 10 + (c - 48)) cs) None)
    (Some (n, c ∷ cs))

-- The number in decimal digits at the front of the bytes, or `None`. If the first digit is 0, only that digit is read.
abbrev pub decimal_at : List ℕ → Option (ℕ × List ℕ)
decimal_at [] = None
decimal_at (c ∷ cs) = cond (c == 48) (Some (0, cs)) (cond (is_digit c) (digits_at 0 (c ∷ cs)) None)

-- The value of `c` as a hexadecimal digit in lower case, or `None` if `c` is no such digit.
abbrev pub nibble : ℕ → Option ℕ
nibble c = cond (nat_le 48 c && nat_le c 57) (Some (c - 48))
    (cond (nat_le 97 c && nat_le c 102) (Some (c - 87)) None)

-- The byte that the hexadecimal digits `h` and `l` at the front show, or `None`.
abbrev pub byte_at : List ℕ → Option (ℕ × List ℕ)
byte_at [] = None
byte_at (h ∷ []) = None
byte_at (h ∷ l ∷ rest) = nibble h >>= λ a. nibble l >>= λ b. Some (a * 16 + b, rest)

-- The bit that the digit `c` at the front shows, or `None` if `c` is neither 1 nor 0.
abbrev pub bit_at : List ℕ → Option (Bool × List ℕ)
bit_at [] = None
bit_at (c ∷ cs) = cond (c == 49) (Some (Bool.true, cs)) (cond (c == 48) (Some (Bool.false, cs)) None)

-- The `n` items that `one` reads from `text`, one after the other, or `None`.
module _ {X : Type 0} (one : List ℕ → Option (X × List ℕ)) where
  unfoldable pub many : ℕ → List ℕ → Option (List X × List ℕ)
  many zero text = Some ([], text)
  many (suc n) text = one text >>= λ x. many n x.1 >>= λ xs. Some (x.0 ∷ xs.0, xs.1)

-- The number that the 16 hexadecimal digits at the front of `text` show, or `None`.
abbrev pub word_at : List ℕ → Option (ℕ × List ℕ)
word_at text = many byte_at 8 text >>= λ bs. Some (from_be_bytes w64 bs.0, bs.1)

-- The data word whose line, at `level`, is at the front of `text`, or `None`.
unfoldable pub word_line_at : ℕ → List ℕ → Option (ℕ × List ℕ)
word_line_at level text =
    indent_at level text >>= λ line. strip (codes "word ") line >>= λ digits. word_at digits
    >>= λ n. strip (10 ∷ []) n.1 >>= λ rest. Some (n.0, rest)

-- The number whose line, at `level`, is at the front of `text`, or `None`. The number has to be at most `greatest`.
unfoldable pub number_line_at : ℕ → ℕ → List ℕ → Option (ℕ × List ℕ)
number_line_at greatest level text =
    indent_at level text >>= λ line. decimal_at line >>= λ n. strip (10 ∷ []) n.1
    >>= λ rest. cond (nat_le n.0 greatest) (Some (n.0, rest)) None

-- True if `is` is true of each byte of the list.
abbrev pub are_all : (ℕ → Bool) → List ℕ → Bool
are_all is [] = Bool.true
are_all is (c ∷ cs) = is c && are_all is cs

-- True if `c` is a hexadecimal digit in lower case.
abbrev pub is_hex : ℕ → Bool
is_hex c = (nat_le 48 c && nat_le c 57) || (nat_le 97 c && nat_le c 102)

-- True if `c` is the digit 1 or the digit 0.
abbrev pub is_bit : ℕ → Bool
is_bit c = (c == 49) || (c == 48)

-- The `n` items that `one` reads from a line at `level` at the front of `text`, or `None`. If `n` is 0, there is no
-- line and no item.
unfoldable pub row_line_at : {X : Type 0} → (List ℕ → Option (X × List ℕ)) → ℕ → ℕ → List ℕ → Option (List X × List ℕ)
row_line_at one level n text = cond (n == 0) (Some ([], text))
    (indent_at level text >>= λ line. many one n line >>= λ xs. strip (10 ∷ []) xs.1 >>= λ rest. Some (xs.0, rest))
