-- Lemmas for `count_to` and `plain_forms`: the line of a text to which a line of its plain form belongs.
use Rattle.std.proofs.Common.{◌≡◌, ℕ, zero, suc, ◌+◌, ◌-◌, ◌^◌, ◌<◌, ◌≤◌, ◌==◌, Bool, true, false, cond, nat_le, List}
use Rattle.std.proofs.Common.{[], ◌∷◌, ◌++◌, length, Option, Some, None, refl, sym, ap, ap₂, ◌∙◌, append_assoc, arith}
use Rattle.std.proofs.Common.{inl, inr, ◌⊎◌}
use Rattle.std.proofs.lemmas.Bool.{le-leb, lt-leb}
use Rattle.std.proofs.lemmas.List.{append-nil, length-append}
use Rattle.capn_quoted.specs.Texts.{is_text}
use Rattle.capn_quoted.proofs.shared.QuotedTexts.{low_text}
use Rattle.capn_show.specs.Quoting.{plain_bytes}
use Rattle.capn_text.specs.Streams.{ended_lines}
use Rattle.capn_text.specs.Quoted.{IsPlainBy, IsOwnBy}
use Rattle.capn_text.specs.PlainForm.{plain_or, plain_line, is_quoted, is_there, lines_of, digits_of, digits_after}
use Rattle.capn_text.specs.PlainForm.{count_to}
use Rattle.capn_text.specs.inner.QuotedLines.{quoted_at}
use Rattle.capn_text.specs.declared.heads.Head.TheVariants as heads
use Rattle.capn_text.specs.declared.heads.Name.TheVariants as names
use Rattle.capn_text.specs.declared.heads.Leaf.TheVariants as leaves
use Rattle.capn_text.proofs.LineCounts.{lines_append}
use Rattle.capn_text.proofs.LineBytes.{head_is_line, bytes_are_line}
use Rattle.capn_text.proofs.QuotedLines.{was_read, has_size}
use Rattle.capn_text.proofs.PlainTexts.{plain_is_line}

-- ---- the number of elements that are at most `n`

counted : (q n : ℕ) → q ≤ n → (qs : List ℕ) → count_to n (q ∷ qs) ≡ 1 + count_to n qs
counted q n below qs = ap (λ (b : Bool). cond b 1 0 + count_to n qs) (le-leb q n below)

skipped : (q n : ℕ) → n < q → (qs : List ℕ) → count_to n (q ∷ qs) ≡ count_to n qs
skipped q n above qs =
    ap (λ (b : Bool). cond b 1 0 + count_to n qs) (lt-leb q n above) ∙ none where
      none : 0 + count_to n qs ≡ count_to n qs
      none = omega arith

one_at_most : (b : Bool) → cond b 1 0 ≤ 1
one_at_most true = omega arith
one_at_most false = omega arith

pub count_within : (n : ℕ) (qs : List ℕ) → count_to n qs ≤ length qs
count_within n [] = omega arith
count_within n (q ∷ qs) =
    let h = count_within n qs in
    let k : cond (nat_le q n) 1 0 ≤ 1 = one_at_most (nat_le q n) in
    omega arith

-- ---- line by line

pub digits_split : (n : ℕ) (before front after : List ℕ) → ended_lines front ≡ 0
    → digits_after n before (front ++ 10 ∷ after)
    ≡ digits_of n (before ++ front) ++ digits_after (n + lines_of (before ++ front)) [] after
digits_split n before [] after quiet =
    ap (λ (l : List ℕ). digits_of n l ++ digits_after (n + lines_of l) [] after) (sym (append-nil before))
digits_split n before (c ∷ cs) after quiet =
    split-by (c == 10) refl (λ q. digits_split n (before ++ c ∷ []) cs after q) where
      split-by : (b : Bool) → (c == 10) ≡ b
          → (ended_lines cs ≡ 0 → digits_after n (before ++ c ∷ []) (cs ++ 10 ∷ after)
          ≡ digits_of n ((before ++ c ∷ []) ++ cs)
          ++ digits_after (n + lines_of ((before ++ c ∷ []) ++ cs)) [] after)
          → digits_after n before (c ∷ cs ++ 10 ∷ after)
          ≡ digits_of n (before ++ c ∷ cs) ++ digits_after (n + lines_of (before ++ c ∷ cs)) [] after
      split-by true e below =
          let one : ◌≡◌ {A = ℕ} (cond (c == 10) 1 0) 1 = ap (λ (b : Bool). cond {A = ℕ} b 1 0) e in
          absurd (omega arith)
      split-by false e below =
          let zero_lines : ◌≡◌ {A = ℕ} (cond (c == 10) 1 0) 0 = ap (λ (b : Bool). cond {A = ℕ} b 1 0) e in
          ap (λ b. cond b (digits_of n before ++ digits_after (n + lines_of before) [] (cs ++ 10 ∷ after))
          (digits_after n (before ++ c ∷ []) (cs ++ 10 ∷ after))) e
          ∙ below (omega arith)
          ∙ ap (λ (l : List ℕ). digits_of n l ++ digits_after (n + lines_of l) [] after)
          (append_assoc before (c ∷ []) cs)

digits_last : (n : ℕ) (before text : List ℕ) → ended_lines text ≡ 0 → digits_after n before text ≡ []
digits_last n before [] quiet = refl
digits_last n before (c ∷ cs) quiet = last-by (c == 10) refl (digits_last n (before ++ c ∷ []) cs) where
  last-by : (b : Bool) → (c == 10) ≡ b
      → (ended_lines cs ≡ 0 → digits_after n (before ++ c ∷ []) cs ≡ [])
      → digits_after n before (c ∷ cs) ≡ []
  last-by true e below =
      let one : ◌≡◌ {A = ℕ} (cond (c == 10) 1 0) 1 = ap (λ (b : Bool). cond {A = ℕ} b 1 0) e in
      absurd (omega arith)
  last-by false e below =
      let zero_lines : ◌≡◌ {A = ℕ} (cond (c == 10) 1 0) 0 = ap (λ (b : Bool). cond {A = ℕ} b 1 0) e in
      ap (λ b. cond b (digits_of n before ++ digits_after (n + lines_of before) [] cs)
      (digits_after n (before ++ c ∷ []) cs)) e
      ∙ below (omega arith)

-- ---- the places of lines of digits

-- The numbers of the lines of digits for a line and for the bytes `cs` after it. `q` is true if the line has bytes
-- between quotes. The plain form of the line begins at line `n`.
abbrev step : Bool → ℕ → List ℕ → List ℕ
step q n cs = cond q ((n + 1) ∷ []) [] ++ digits_after (n + cond q 2 1) [] cs

-- If the plain form begins at line `l`, each line of digits that it adds is after line `l`.
pub none_before : (text before : List ℕ) (l n : ℕ) → n ≤ l → count_to n (digits_after l before text) ≡ 0
none_before [] before l n low = refl
none_before (c ∷ cs) before l n low =
    by (c == 10) (is_quoted before) (none_before cs [] (l + 2) n) (none_before cs [] (l + 1) n)
    (none_before cs (before ++ c ∷ []) l n low) where
      by : (b q : Bool) → (n ≤ l + 2 → count_to n (digits_after (l + 2) [] cs) ≡ 0)
          → (n ≤ l + 1 → count_to n (digits_after (l + 1) [] cs) ≡ 0)
          → count_to n (digits_after l (before ++ c ∷ []) cs) ≡ 0
          → count_to n (cond b (step q l cs) (digits_after l (before ++ c ∷ []) cs)) ≡ 0
      by false q two one on = on
      by true true two one on = skipped (l + 1) n (omega arith) (digits_after (l + 2) [] cs) ∙ two (omega arith)
      by true false two one on = one (omega arith)

abbrev Few : List ℕ → Type 0
Few cs = (m j : ℕ) → count_to (m + j) (digits_after m [] cs) ≤ j

-- If the plain form begins at line `l`, it adds at most `i` lines of digits from line `l` to line `l + i`.
pub few_within : (text before : List ℕ) (l i : ℕ) → count_to (l + i) (digits_after l before text) ≤ i
few_within [] before l i = omega arith
few_within (c ∷ cs) before l i =
    by (c == 10) (is_quoted before) i (few_within cs (before ++ c ∷ []) l i) (λ m j. few_within cs [] m j) where
      two : Few cs → (i : ℕ) → count_to (l + i) ((l + 1) ∷ digits_after (l + 2) [] cs) ≤ i
      two h zero =
          let a = skipped (l + 1) (l + zero) (omega arith) (digits_after (l + 2) [] cs) in
          let b = none_before cs [] (l + 2) (l + zero) (omega arith) in
          omega arith
      two h (suc zero) =
          let a = counted (l + 1) (l + suc zero) (omega arith) (digits_after (l + 2) [] cs) in
          let b = none_before cs [] (l + 2) (l + suc zero) (omega arith) in
          omega arith
      two h (suc (suc j)) =
          let a = counted (l + 1) (l + suc (suc j)) (omega arith) (digits_after (l + 2) [] cs) in
          let same : l + suc (suc j) ≡ (l + 2) + j = omega arith in
          let b = h (l + 2) j in
          let d = ap (λ m. count_to m (digits_after (l + 2) [] cs)) same in
          omega arith

      one : Few cs → (i : ℕ) → count_to (l + i) (digits_after (l + 1) [] cs) ≤ i
      one h zero = let b = none_before cs [] (l + 1) (l + zero) (omega arith) in omega arith
      one h (suc j) =
          let same : l + suc j ≡ (l + 1) + j = omega arith in
          let b = h (l + 1) j in
          let d = ap (λ m. count_to m (digits_after (l + 1) [] cs)) same in
          omega arith

      by : (b q : Bool) (i : ℕ) → count_to (l + i) (digits_after l (before ++ c ∷ []) cs) ≤ i → Few cs
          → count_to (l + i) (cond b (step q l cs) (digits_after l (before ++ c ∷ []) cs)) ≤ i
      by false q i on h = on
      by true true i on h = two h i
      by true false i on h = one h i

-- ---- the plain form of a line has one line or two

some_text : (xs : List ℕ) → is_text xs ≡ true → (n : ℕ) × (length xs ≡ suc n)
some_text [] p = absurd cc
some_text (x ∷ xs) p = (length xs, refl)

two_lines : (level : ℕ) (xs : List ℕ) → length xs < 2 ^ 64 → is_text xs ≡ true → ended_lines (plain_bytes level xs) ≡ 2
two_lines level xs fits p =
    let some = some_text xs p in
    let head = head_is_line level (heads.Named (names.Leaf leaves.Bytes) (length xs)) (omega arith) in
    let digits = bytes_are_line (level + 1) some.0 xs some.1 (low_text xs p) in
    lines_append _ _ ∙ ap₂ (λ (a b : ℕ). a + b) head.1 digits.1

line_lines : (front : List ℕ) (r : Option (ℕ × List ℕ)) → length front < 2 ^ 64 → ended_lines front ≡ 0
    → quoted_at front ≡ r → ended_lines (plain_line front) ≡ cond (is_there r) 2 1
line_lines front (Some q) fits quiet e =
    let h = was_read front q.0 q.1 e in
    ap (λ s. ended_lines (plain_or s front)) e
    ∙ two_lines q.0 q.1 (has_size q.0 front q.1 fits h) h.0
line_lines front None fits quiet e =
    ap (λ s. ended_lines (plain_or s front)) e ∙ lines_append front (10 ∷ []) ∙ ap (λ (n : ℕ). n + 1) quiet

first_lines_of : (front first : List ℕ) → length front < 2 ^ 64 → ended_lines front ≡ 0 → first ≡ plain_line front
    → ended_lines first ≡ lines_of front
first_lines_of front first fits quiet e = ap ended_lines e ∙ line_lines front (quoted_at front) fits quiet refl

-- ---- the line of the text

-- The line of `text` to which line `l + i` of the plain form belongs. The plain form of `text` begins at line `l`.
abbrev own_after : ℕ → List ℕ → ℕ → ℕ
own_after l text i = suc i - count_to (l + i) (digits_after l [] text)

abbrev Others : List (List ℕ) → List ℕ → Type 0
Others fronts after = (m k : ℕ) → length after < 2 ^ 64 → IsOwnBy fronts (suc k) (own_after m after k)

pub own_by : (fronts : List (List ℕ)) (text form : List ℕ) (l i : ℕ) → length text < 2 ^ 64
    → IsPlainBy fronts text form → IsOwnBy fronts (suc i) (own_after l text i)
own_by [] text form l i fits (quiet, e) =
    let none = ap (count_to (l + i)) (digits_last l [] text quiet) in
    omega arith
own_by (front ∷ fronts) text form l i fits (quiet, first, after, rest, is, one, others, e) =
    (first, one, by (is_quoted front) refl i (λ m k below. own_by fronts after rest m k below others)) where
      size : length text ≡ length front + suc (length after)
      size = ap length is ∙ length-append front (10 ∷ after)

      lines : ended_lines first ≡ lines_of front
      lines =
          first_lines_of front first (omega (arith, size)) quiet (plain_is_line front first (omega (arith, size)) one)

      here : digits_after l [] text ≡ digits_of l front ++ digits_after (l + lines_of front) [] after
      here = ap (digits_after l []) is ∙ digits_split l [] front after quiet

      found : (q : Bool) → is_quoted front ≡ q → (j : ℕ) → count_to (l + j) (digits_after l [] text)
          ≡ count_to (l + j) (step q l after)
      found q e j = ap (count_to (l + j)) (here ∙ ap (λ r. step r l after) e)

      size_is : (q : Bool) → is_quoted front ≡ q → ended_lines first ≡ cond q 2 1
      size_is q e = lines ∙ ap (λ (r : Bool). cond {A = ℕ} r 2 1) e

      below : length after < 2 ^ 64
      below = omega (arith, size)

      by : (q : Bool) → is_quoted front ≡ q → (i : ℕ) → Others fronts after
          → ((suc i ≤ ended_lines first) × (own_after l text i ≡ 1))
          ⊎ ((k : ℕ) × (j : ℕ) × (suc i ≡ ended_lines first + suc k) × (own_after l text i ≡ suc j)
          × IsOwnBy fronts (suc k) j)
      by false e zero h =
          let a = found false e zero in
          let b = none_before after [] (l + 1) (l + zero) (omega arith) in
          let s = size_is false e in
          inl (omega arith, omega arith)
      by false e (suc k) h =
          let a = found false e (suc k) in
          let same : l + suc k ≡ (l + 1) + k = omega arith in
          let d = ap (λ m. count_to m (digits_after (l + 1) [] after)) same in
          let few = few_within after [] (l + 1) k in
          let s = size_is false e in
          inr (k, own_after (l + 1) after k, omega arith, omega arith, h (l + 1) k below)
      by true e zero h =
          let a = found true e zero in
          let b = skipped (l + 1) (l + zero) (omega arith) (digits_after (l + 2) [] after) in
          let d = none_before after [] (l + 2) (l + zero) (omega arith) in
          let s = size_is true e in
          inl (omega arith, omega arith)
      by true e (suc zero) h =
          let a = found true e (suc zero) in
          let b = counted (l + 1) (l + suc zero) (omega arith) (digits_after (l + 2) [] after) in
          let d = none_before after [] (l + 2) (l + suc zero) (omega arith) in
          let s = size_is true e in
          inl (omega arith, omega arith)
      by true e (suc (suc k)) h =
          let a = found true e (suc (suc k)) in
          let b = counted (l + 1) (l + suc (suc k)) (omega arith) (digits_after (l + 2) [] after) in
          let same : l + suc (suc k) ≡ (l + 2) + k = omega arith in
          let d = ap (λ m. count_to m (digits_after (l + 2) [] after)) same in
          let few = few_within after [] (l + 2) k in
          let s = size_is true e in
          inr (k, own_after (l + 2) after k, omega arith, omega arith, h (l + 2) k below)
