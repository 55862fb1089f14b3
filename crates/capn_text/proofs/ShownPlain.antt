-- Lemmas for `plain_forms`: the plain form of a text with lists of bytes between quotes is the text without quotes.
use Rattle.std.proofs.Common.{◌≡◌, ◌+◌, ◌*◌, ◌/◌, ◌%◌, ◌^◌, ◌<◌, ◌≤◌, ◌==◌, ◌&&◌, ℕ, zero, suc, Bool, true, false, cond}
use Rattle.std.proofs.Common.{not, List, [], ◌∷◌, ◌++◌, length, codes, replicate, map, refl, sym, ap, ap₂, ◌∙◌}
use Rattle.std.proofs.Common.{append_assoc, arith, inl, inr}
use Rattle.std.specs.List.{AllByRecursion}
use Rattle.std.specs.Fmt.{decimal}
use Rattle.std.specs.Int.{to_be_bytes, w64}
use Rattle.std.proofs.lemmas.Bool.{ne_eqb, and_parts, and_from, agree_below, agree_below_at}
use Rattle.std.proofs.lemmas.Fmt.{decimal_by_steps}
use Rattle.hex.specs.Hex.{encode_lower}
use Rattle.capn_value.specs.NumberWidth.{bit, byte, pair, quad, oct, is_set}
use Rattle.capn_value.specs.Tree.{Tree, nil, node, voids, numbers, links, rows, cap, Trees, no_trees, tree, Bodies}
use Rattle.capn_value.specs.Tree.{no_bodies, body, count, count_rows}
use Rattle.capn_value.specs.Text.{line, named, hex16, digits_of, one_line, word_lines, number_lines, body_line, shown}
use Rattle.capn_value.specs.Text.{shown_each, shown_rows}
use Rattle.capn_quoted.specs.Texts.{is_text}
use Rattle.capn_quoted.specs.Escapes.{escapes}
use Rattle.capn_show.specs.Quoting.{quoted_line, plain_bytes, quoted_bytes, shown_by, shown_each_by, shown_rows_by}
use Rattle.capn_text.specs.Showable.{IsShowable, EachShowable, RowsShowable}
use Rattle.capn_text.specs.Streams.{ended_lines, end_line, stream_text}
use Rattle.capn_text.specs.Quoted.{IsPlain}
use Rattle.capn_text.specs.PlainLaws.{quoted_stream}
use Rattle.capn_text.proofs.LineCounts.{lines_append}
use Rattle.capn_text.proofs.QuietTexts.{escapes_quiet}
use Rattle.capn_text.proofs.TokenText.{glyph, encode_one, encode_none, encode_more, bytes_below}
use Rattle.capn_text.proofs.QuotedLines.{spaces, inside, with_count, counted, counted_line, has_quote}

-- ---- bytes without newlines and quotes

abbrev is_clean : ℕ → Bool
is_clean c = not (c == 10) && not (c == 34)

abbrev clean : List ℕ → Bool
clean [] = true
clean (c ∷ cs) = is_clean c && clean cs

abbrev IsClean : List ℕ → Type 0
IsClean x = clean x ≡ true

both : (x y : List ℕ) → IsClean x → IsClean y → IsClean (x ++ y)
both [] y p q = q
both (c ∷ cs) y p q =
    let parts = and_parts (is_clean c) (clean cs) p in
    and_from (is_clean c) (clean (cs ++ y)) parts.0 (both cs y parts.1 q)

one : (c : ℕ) → (c ≡ 10 → ⊥) → (c ≡ 34 → ⊥) → IsClean (c ∷ [])
one c e f = ap₂ (λ (x y : Bool). (not x && not y) && true) (ne_eqb c 10 e) (ne_eqb c 34 f)

blanks : (n : ℕ) → IsClean (replicate n 32)
blanks zero = refl
blanks (suc n) = blanks n

of_decimal : (n : ℕ) → n < 2 ^ 64 → IsClean (decimal n)
of_decimal n fits =
    decimal_by_steps (λ m ds. IsClean ds) (λ m lt. one (48 + m) (λ e. omega arith) (λ e. omega arith))
    (λ m ds ten h. both ds ((48 + m % 10) ∷ []) h (one (48 + m % 10) (λ e. omega arith) (λ e. omega arith))) n fits

of_named : (name : List ℕ) (n : ℕ) → IsClean name → n < 2 ^ 64 → IsClean (named name n)
of_named name n p fits = both name (32 ∷ decimal n) p (of_decimal n fits)

always : ℕ → Bool
always d = true

clean_glyph : ℕ → Bool
clean_glyph d = is_clean (glyph d)

all_clean : agree_below clean_glyph always 16 ≡ true
unfolding clean_glyph always
all_clean = refl

of_glyph : (d : ℕ) → d < 16 → is_clean (glyph d) ≡ true
unfolding clean_glyph always
of_glyph d lt = agree_below_at clean_glyph always 16 d all_clean lt

of_bytes : (bs : List ℕ) → AllByRecursion (λ b. b < 2 ^ 8) bs → IsClean (encode_lower bs)
of_bytes [] all = ap clean encode_none
of_bytes (b ∷ bs) all =
    let low = all.0 in
    let first : IsClean (encode_lower (b ∷ [])) =
    ap clean (encode_one b)
    ∙ ap₂ (λ (p q : Bool). p && (q && true)) (of_glyph (b / 16) (omega arith)) (of_glyph (b % 16) (omega arith)) in
    ap clean (encode_more b bs) ∙ both (encode_lower (b ∷ [])) (encode_lower bs) first (of_bytes bs all.1)

of_bits : (xs : List Bool) → IsClean (digits_of xs)
of_bits [] = refl
of_bits (true ∷ xs) = of_bits xs
of_bits (false ∷ xs) = of_bits xs

quiet : (x : List ℕ) → IsClean x → ended_lines x ≡ 0
quiet [] p = refl
quiet (c ∷ cs) p =
    let parts = and_parts (is_clean c) (clean cs) p in
    let h = quiet cs parts.1 in
    let none = no_end (c == 10) (not (c == 34)) parts.0 in
    omega arith where
      no_end : (x y : Bool) → (not x && y) ≡ true → ◌≡◌ {A = ℕ} (cond x 1 0) 0
      no_end true y e = absurd cc
      no_end false y e = refl

rest_is : (d c : ℕ) (x y : List ℕ) → ◌≡◌ {A = List ℕ} (d ∷ x) (c ∷ y) → x ≡ y
rest_is d c x y e = cc

no_quote : (x a b : List ℕ) → IsClean x → x ≡ a ++ 34 ∷ b → ⊥
no_quote x [] b p e = let q : IsClean (34 ∷ b) = sym (ap clean e) ∙ p in absurd cc
no_quote [] (c ∷ cs) b p e = absurd cc
no_quote (d ∷ ds) (c ∷ cs) b p e =
    let parts = and_parts (is_clean d) (clean ds) p in
    no_quote ds cs b parts.1 (rest_is d c ds (cs ++ 34 ∷ b) e)

-- ---- lines before a text

abbrev Keeps : List ℕ → List ℕ → Type 0
Keeps x y = (rest : List ℕ) (form : List ℕ) → IsPlain rest form → IsPlain (x ++ rest) (y ++ form)

kept_none : Keeps [] []
kept_none rest form h = h

kept_both : (x y u v : List ℕ) → Keeps x y → Keeps u v → Keeps (x ++ u) (y ++ v)
kept_both x y u v first second rest form h =
    rw (append_assoc x u rest, append_assoc y v form) (first (u ++ rest) (v ++ form) (second rest form h))

-- A line of bytes `x` without newlines and quotes is its own plain form.
kept_line : (level : ℕ) (x : List ℕ) → IsClean x → Keeps (line level x) (line level x)
unfolding line
kept_line level x p rest form (fronts, h) =
    let front = spaces level ++ x in
    let all : IsClean (spaces level ++ x) = both (spaces level) x (blanks (2 * level)) p in
    let spelled : (z : List ℕ) → (spaces level ++ (x ++ 10 ∷ [])) ++ z ≡ (spaces level ++ x) ++ 10 ∷ z =
    λ z. ap (λ (l : List ℕ). l ++ z) (sym (append_assoc (spaces level) x (10 ∷ [])))
    ∙ append_assoc (spaces level ++ x) (10 ∷ []) z in (
      (spaces level ++ x) ∷ fronts,
      (
        quiet (spaces level ++ x) all,
        (spaces level ++ x) ++ 10 ∷ [],
        rest,
        form,
        spelled rest,
        inr (
          refl,
          λ lv xs q. let k = has_quote lv (spaces level ++ x) xs q in
              no_quote (spaces level ++ x) k.0 k.1 all k.2,
        ),
        h,
        ap (λ (l : List ℕ). l ++ form) (sym (append_assoc (spaces level) x (10 ∷ []))),
      ),
    )

-- ---- a line of bytes between quotes

quiet_both : (x y : List ℕ) → ended_lines x ≡ 0 → ended_lines y ≡ 0 → ended_lines (x ++ y) ≡ 0
quiet_both x y p q = let h = lines_append x y in omega arith

counted_quiet : (level : ℕ) (xs : List ℕ) → length xs < 2 ^ 64 → is_text xs ≡ true → ended_lines (counted level xs) ≡ 0
counted_quiet level xs fits p =
    quiet_both (spaces level) (codes "bytes " ++ with_count (length xs) (inside xs))
    (quiet (spaces level) (blanks (2 * level)))
    (quiet_both (codes "bytes ") (with_count (length xs) (inside xs)) refl
    (quiet_both (decimal (length xs)) (32 ∷ 34 ∷ inside xs) (quiet (decimal (length xs)) (of_decimal (length xs) fits))
    (quiet_both (32 ∷ 34 ∷ []) (inside xs) refl (quiet_both (escapes xs) (34 ∷ []) (escapes_quiet xs) refl))))

kept_text : (level : ℕ) (xs : List ℕ) → length xs < 2 ^ 64 → is_text xs ≡ true
    → Keeps (quoted_line level xs) (plain_bytes level xs)
kept_text level xs fits p rest form (fronts, h) = (
  counted level xs ∷ fronts,
  (
    counted_quiet level xs fits p,
    plain_bytes level xs,
    rest,
    form,
    ap (λ (l : List ℕ). l ++ rest) (counted_line level xs) ∙ append_assoc (counted level xs) (10 ∷ []) rest,
    inl (level, xs, (p, inl (sym (counted_line level xs))), refl),
    h,
    refl,
  ),
)

-- ---- the lines of a value

kept_bytes : (level : ℕ) (xs : List ℕ) → length xs < 2 ^ 64 → AllByRecursion (λ b. b < 2 ^ 8) xs
    → Keeps (plain_bytes level xs) (plain_bytes level xs)
kept_bytes level [] fits all =
    kept_both (line level (named (codes "bytes") 0)) (line level (named (codes "bytes") 0)) [] []
    (kept_line level (named (codes "bytes") 0) (of_named (codes "bytes") 0 refl fits)) kept_none
kept_bytes level (x ∷ xs) fits all =
    let head = named (codes "bytes") (length (x ∷ xs)) in
    let digits = encode_lower (x ∷ xs) in
    kept_both (line level head) (line level head) (line (level + 1) digits) (line (level + 1) digits)
    (kept_line level head (of_named (codes "bytes") (length (x ∷ xs)) refl fits))
    (kept_line (level + 1) digits (of_bytes (x ∷ xs) all))

kept_quoted : (level : ℕ) (xs : List ℕ) → length xs < 2 ^ 64 → AllByRecursion (λ b. b < 2 ^ 8) xs
    → Keeps (quoted_bytes level xs) (plain_bytes level xs)
kept_quoted level xs fits all = by_text (is_text xs) refl where
  by_text : (b : Bool) → is_text xs ≡ b
      → Keeps (cond b (quoted_line level xs) (plain_bytes level xs)) (plain_bytes level xs)
  by_text true e = kept_text level xs fits e
  by_text false e = kept_bytes level xs fits all

kept_words : (level : ℕ) (ws : List ℕ) → Keeps (word_lines level ws) (word_lines level ws)
kept_words level [] = kept_none
kept_words level (w ∷ ws) =
    let x = codes "word " ++ hex16 w in
    kept_both (line level x) (line level x) (word_lines level ws) (word_lines level ws)
    (kept_line level x (both (codes "word ") (hex16 w) refl (of_bytes (to_be_bytes w64 w) (bytes_below w))))
    (kept_words level ws)

kept_numbers : (most level : ℕ) (ns : List ℕ) → most ≤ 2 ^ 64 → AllByRecursion (λ n. n < most) ns
    → Keeps (number_lines level ns) (number_lines level ns)
kept_numbers most level [] le all = kept_none
kept_numbers most level (n ∷ ns) le all =
    let low = all.0 in
    kept_both (line level (decimal n)) (line level (decimal n)) (number_lines level ns) (number_lines level ns)
    (kept_line level (decimal n) (of_decimal n (omega arith))) (kept_numbers most level ns le all.1)

kept_bits : (level : ℕ) (xs : List Bool) (n : ℕ)
    → Keeps (one_line level n (digits_of xs)) (one_line level n (digits_of xs))
kept_bits level xs zero = kept_none
kept_bits level xs (suc n) = kept_line level (digits_of xs) (of_bits xs)

kept_body : (level w s : ℕ) → w < 2 ^ 64 → s < 2 ^ 64 → Keeps (body_line level w s) (body_line level w s)
kept_body level w s a b =
    kept_line level (codes "struct " ++ (decimal w ++ 32 ∷ decimal s))
    (both (codes "struct ") (decimal w ++ 32 ∷ decimal s) refl
    (both (decimal w) (32 ∷ decimal s) (of_decimal w a) (of_decimal s b)))

kept_head : (level : ℕ) (name : List ℕ) (n : ℕ) → IsClean name → n < 2 ^ 64
    → Keeps (line level (named name n)) (line level (named name n))
kept_head level name n p fits = kept_line level (named name n) (of_named name n p fits)

mutual
  pub kept_tree : (level : ℕ) (v : Tree) → IsShowable v → Keeps (shown_by quoted_bytes level v) (shown level v)
  kept_tree level nil s = kept_line level (codes "null") refl
  kept_tree level (node ws ss) s =
      kept_both (body_line level (length ws) (count ss)) (body_line level (length ws) (count ss))
      (word_lines (level + 1) ws ++ shown_each_by quoted_bytes (level + 1) ss)
      (word_lines (level + 1) ws ++ shown_each (level + 1) ss) (kept_body level (length ws) (count ss) s.0 s.1)
      (kept_both (word_lines (level + 1) ws) (word_lines (level + 1) ws)
      (shown_each_by quoted_bytes (level + 1) ss) (shown_each (level + 1) ss)
      (kept_words (level + 1) ws) (kept_each (level + 1) ss s.3))
  kept_tree level (voids n) s = kept_head level (codes "void") n refl (omega (arith, s))
  kept_tree level (numbers bit xs) s =
      kept_both (line level (named (codes "bits") (length xs))) (line level (named (codes "bits") (length xs)))
      (one_line (level + 1) (length xs) (digits_of (map is_set xs)))
      (one_line (level + 1) (length xs) (digits_of (map is_set xs)))
      (kept_head level (codes "bits") (length xs) refl s.0) (kept_bits (level + 1) (map is_set xs) (length xs))
  kept_tree level (numbers byte xs) s = kept_quoted level xs s.0 s.1
  kept_tree level (numbers pair xs) s =
      kept_both (line level (named (codes "u16") (length xs))) (line level (named (codes "u16") (length xs)))
      (number_lines (level + 1) xs) (number_lines (level + 1) xs)
      (kept_head level (codes "u16") (length xs) refl s.0) (kept_numbers (2 ^ 16) (level + 1) xs (omega arith) s.1)
  kept_tree level (numbers quad xs) s =
      kept_both (line level (named (codes "u32") (length xs))) (line level (named (codes "u32") (length xs)))
      (number_lines (level + 1) xs) (number_lines (level + 1) xs)
      (kept_head level (codes "u32") (length xs) refl s.0) (kept_numbers (2 ^ 32) (level + 1) xs (omega arith) s.1)
  kept_tree level (numbers oct xs) s =
      kept_both (line level (named (codes "u64") (length xs))) (line level (named (codes "u64") (length xs)))
      (number_lines (level + 1) xs) (number_lines (level + 1) xs)
      (kept_head level (codes "u64") (length xs) refl s.0) (kept_numbers (2 ^ 64) (level + 1) xs (omega arith) s.1)
  kept_tree level (links ts) s =
      kept_both (line level (named (codes "pointers") (count ts))) (line level (named (codes "pointers") (count ts)))
      (shown_each_by quoted_bytes (level + 1) ts) (shown_each (level + 1) ts)
      (kept_head level (codes "pointers") (count ts) refl s.0) (kept_each (level + 1) ts s.1)
  kept_tree level (rows bs) s =
      kept_both (line level (named (codes "rows") (count_rows bs))) (line level (named (codes "rows") (count_rows bs)))
      (shown_rows_by quoted_bytes (level + 1) bs) (shown_rows (level + 1) bs)
      (kept_head level (codes "rows") (count_rows bs) refl s.0) (kept_rows (level + 1) bs s.1)
  kept_tree level (cap k) s = kept_head level (codes "capability") k refl (omega (arith, s))

  kept_each : (level : ℕ) (ts : Trees) → EachShowable ts
      → Keeps (shown_each_by quoted_bytes level ts) (shown_each level ts)
  kept_each level no_trees s = kept_none
  kept_each level (tree t ts) s =
      kept_both (shown_by quoted_bytes level t) (shown level t) (shown_each_by quoted_bytes level ts)
      (shown_each level ts) (kept_tree level t s.0) (kept_each level ts s.1)

  kept_rows : (level : ℕ) (bs : Bodies) → RowsShowable bs
      → Keeps (shown_rows_by quoted_bytes level bs) (shown_rows level bs)
  kept_rows level no_bodies s = kept_none
  kept_rows level (body ws ss bs) s =
      kept_both (body_line level (length ws) (count ss)) (body_line level (length ws) (count ss))
      (word_lines (level + 1) ws ++ (shown_each_by quoted_bytes (level + 1) ss ++ shown_rows_by quoted_bytes level bs))
      (word_lines (level + 1) ws ++ (shown_each (level + 1) ss ++ shown_rows level bs))
      (kept_body level (length ws) (count ss) s.0 s.1)
      (kept_both (word_lines (level + 1) ws) (word_lines (level + 1) ws)
      (shown_each_by quoted_bytes (level + 1) ss ++ shown_rows_by quoted_bytes level bs)
      (shown_each (level + 1) ss ++ shown_rows level bs) (kept_words (level + 1) ws)
      (kept_both (shown_each_by quoted_bytes (level + 1) ss) (shown_each (level + 1) ss)
      (shown_rows_by quoted_bytes level bs) (shown_rows level bs)
      (kept_each (level + 1) ss s.3) (kept_rows level bs s.4)))

kept_end : Keeps end_line end_line
unfolding line
kept_end = kept_line 0 (codes "end") refl

pub stream_kept : (vs : List Tree) → AllByRecursion IsShowable vs → IsPlain (quoted_stream vs) (stream_text vs)
stream_kept [] all = ([], (refl, refl))
stream_kept (v ∷ vs) all =
    kept_tree 0 v all.0 (end_line ++ quoted_stream vs) (end_line ++ stream_text vs)
    (kept_end (quoted_stream vs) (stream_text vs) (stream_kept vs all.1))
