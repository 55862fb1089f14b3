-- Lemmas for `LineStops`, `OwnLines` and `PartStops`: a line that is written has only one newline, which is its last
-- byte.
use Rattle.std.proofs.Common.{◌≡◌, ◌+◌, ◌/◌, ◌%◌, ◌^◌, ◌<◌, ◌==◌, ℕ, suc, Bool, true, false, cond, List, [], ◌∷◌, ◌++◌}
use Rattle.std.proofs.Common.{length, codes, refl, ap, ap₂, ◌∙◌, arith}
use Rattle.std.specs.List.{AllByRecursion}
use Rattle.std.specs.Fmt.{decimal}
use Rattle.std.specs.Int.{to_be_bytes, w64}
use Rattle.std.proofs.lemmas.Bool.{ne_eqb, agree_below, agree_below_at}
use Rattle.std.proofs.lemmas.Fmt.{decimal_by_steps}
use Rattle.hex.specs.Hex.{encode_lower}
use Rattle.capn_value.specs.Text.{line, hex16, digits_of, one_line}
use Rattle.capn_text.specs.Streams.{ended_lines}
use Rattle.capn_text.specs.inner.Stops.{AreLines}
use Rattle.capn_text.specs.inner.Values.{Holds}
use Rattle.capn_text.specs.declared.heads.Leaf.TheVariants as leaves
use Rattle.capn_text.specs.declared.heads.Name.{Name}
use Rattle.capn_text.specs.declared.heads.Name.TheVariants as names
use Rattle.capn_text.specs.declared.heads.Head.{Head}
use Rattle.capn_text.specs.declared.heads.Head.TheVariants as heads
use Rattle.capn_text.proofs.LineCounts.{lines_append}
use Rattle.capn_text.proofs.TokenText.{glyph, encode_one, encode_none, encode_more, bytes_below}
use Rattle.capn_text.proofs.HeadText.{name_text, head_text, number_below}
use Rattle.capn_text.proofs.Numbers.{word_text, number_text}
use Rattle.capn_text.proofs.WholeLines.{are_none, line_is_one}

-- No line ends in the bytes `x`.
abbrev pub IsQuiet : List ℕ → Type 0
IsQuiet x = ended_lines x ≡ 0

quiet_both : (x y : List ℕ) → IsQuiet x → IsQuiet y → IsQuiet (x ++ y)
quiet_both x y p q = let h = lines_append x y in omega arith

quiet_one : (c : ℕ) → (c ≡ 10 → ⊥) → IsQuiet (c ∷ [])
quiet_one c other = ap (λ b. cond b 1 0 + 0) (ne_eqb c 10 other)

after_space : (x : List ℕ) → IsQuiet x → IsQuiet (32 ∷ x)
after_space x p = quiet_both (32 ∷ []) x refl p

quiet_decimal : (n : ℕ) → n < 2 ^ 64 → IsQuiet (decimal n)
quiet_decimal n fits =
    decimal_by_steps (λ m ds. IsQuiet ds) (λ m lt. quiet_one (48 + m) (λ e. omega arith))
    (λ m ds ten h. quiet_both ds ((48 + m % 10) ∷ []) h (quiet_one (48 + m % 10) (λ e. omega arith))) n fits

never : ℕ → Bool
never d = false

is_end : ℕ → Bool
is_end d = glyph d == 10

none_ends : agree_below is_end never 16 ≡ true
unfolding is_end never
none_ends = refl

quiet_glyph : (d : ℕ) → d < 16 → (glyph d == 10) ≡ false
unfolding is_end never
quiet_glyph d lt = agree_below_at is_end never 16 d none_ends lt

quiet_bytes : (bs : List ℕ) → AllByRecursion (λ b. b < 2 ^ 8) bs → IsQuiet (encode_lower bs)
quiet_bytes [] all = ap ended_lines encode_none
quiet_bytes (b ∷ bs) all =
    let low = all.0 in
    let first : IsQuiet (encode_lower (b ∷ [])) =
    ap ended_lines (encode_one b)
    ∙ ap₂ (λ p q. cond p 1 0 + (cond q 1 0 + 0)) (quiet_glyph (b / 16) (omega arith))
    (quiet_glyph (b % 16) (omega arith)) in
    ap ended_lines (encode_more b bs) ∙ quiet_both (encode_lower (b ∷ [])) (encode_lower bs) first
    (quiet_bytes bs all.1)

quiet_bits : (xs : List Bool) → IsQuiet (digits_of xs)
quiet_bits [] = refl
quiet_bits (true ∷ xs) = quiet_both (49 ∷ []) (digits_of xs) refl (quiet_bits xs)
quiet_bits (false ∷ xs) = quiet_both (48 ∷ []) (digits_of xs) refl (quiet_bits xs)

quiet_name : (name : Name) → IsQuiet (name_text name)
quiet_name names.Links = refl
quiet_name names.Rows = refl
quiet_name names.Cap = refl
quiet_name (names.Leaf leaves.Voids) = refl
quiet_name (names.Leaf leaves.Bits) = refl
quiet_name (names.Leaf leaves.Bytes) = refl
quiet_name (names.Leaf leaves.Pairs) = refl
quiet_name (names.Leaf leaves.Quads) = refl
quiet_name (names.Leaf leaves.Octs) = refl

quiet_head : (h : Head) → Holds h → IsQuiet (head_text h)
quiet_head heads.Null p = refl
quiet_head (heads.Struct w s) p =
    quiet_both (codes "struct ") (decimal w ++ 32 ∷ decimal s) refl
    (quiet_both (decimal w) (32 ∷ decimal s) (quiet_decimal w p.0) (after_space (decimal s) (quiet_decimal s p.1)))
quiet_head (heads.Named name n) p =
    let most = number_below name in
    quiet_both (name_text name) (32 ∷ decimal n) (quiet_name name)
    (after_space (decimal n) (quiet_decimal n (omega arith)))

pub head_is_line : (level : ℕ) (h : Head) → Holds h
    → AreLines (line level (head_text h)) × (ended_lines (line level (head_text h)) ≡ 1)
head_is_line level h p = line_is_one level (head_text h) (quiet_head h p)

pub word_is_line : (level w : ℕ) → w < 2 ^ 64 → AreLines (word_text level w) × (ended_lines (word_text level w) ≡ 1)
word_is_line level w p =
    line_is_one level (codes "word " ++ hex16 w)
    (quiet_both (codes "word ") (hex16 w) refl (quiet_bytes (to_be_bytes w64 w) (bytes_below w)))

pub number_is_line : (level n : ℕ) → n < 2 ^ 64
    → AreLines (number_text level n) × (ended_lines (number_text level n) ≡ 1)
number_is_line level n p = line_is_one level (decimal n) (quiet_decimal n p)

pub bits_are_lines : (level : ℕ) (xs : List Bool) → AreLines (one_line level (length xs) (digits_of xs))
bits_are_lines level [] = are_none
bits_are_lines level (x ∷ xs) = (line_is_one level (digits_of (x ∷ xs)) (quiet_bits (x ∷ xs))).0

pub bits_are_line : (level n : ℕ) (xs : List Bool) → length xs ≡ suc n
    → AreLines (one_line level (length xs) (digits_of xs)) ×
    (ended_lines (one_line level (length xs) (digits_of xs)) ≡ 1)
bits_are_line level n [] e = absurd (omega (arith, e))
bits_are_line level n (x ∷ xs) e = line_is_one level (digits_of (x ∷ xs)) (quiet_bits (x ∷ xs))

pub bytes_are_lines : (level : ℕ) (xs : List ℕ) → AllByRecursion (λ b. b < 2 ^ 8) xs
    → AreLines (one_line level (length xs) (encode_lower xs))
bytes_are_lines level [] p = are_none
bytes_are_lines level (x ∷ xs) p = (line_is_one level (encode_lower (x ∷ xs)) (quiet_bytes (x ∷ xs) p)).0

pub bytes_are_line : (level n : ℕ) (xs : List ℕ) → length xs ≡ suc n → AllByRecursion (λ b. b < 2 ^ 8) xs
    → AreLines (one_line level (length xs) (encode_lower xs)) ×
    (ended_lines (one_line level (length xs) (encode_lower xs)) ≡ 1)
bytes_are_line level n [] e p = absurd (omega (arith, e))
bytes_are_line level n (x ∷ xs) e p = line_is_one level (encode_lower (x ∷ xs)) (quiet_bytes (x ∷ xs) p)
