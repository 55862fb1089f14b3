-- Lemmas for `plain_forms` and `plain_text`: the function `plain` gives the only plain form of a text.
use Rattle.std.proofs.Common.{◌≡◌, ℕ, suc, ◌+◌, ◌^◌, ◌<◌, ◌==◌, Bool, true, false, cond}
use Rattle.std.proofs.Common.{List, [], ◌∷◌, ◌++◌, length, Option, Some, None, refl, sym, ap, ap₂, ◌∙◌}
use Rattle.std.proofs.Common.{append_assoc, arith, inl, inr, subst}
use Rattle.std.proofs.lemmas.Bool.{eqb-true}
use Rattle.std.proofs.lemmas.List.{append-nil, length-append}
use Rattle.capn_text.specs.Streams.{ended_lines}
use Rattle.capn_text.specs.Quoted.{IsPlainLine, IsPlainBy, IsPlain}
use Rattle.capn_text.specs.inner.QuotedLines.{quoted_at}
use Rattle.capn_text.specs.PlainForm.{plain_or, plain_line, plain_after, plain}
use Rattle.capn_text.proofs.LineCounts.{lines_append}
use Rattle.capn_text.proofs.QuotedLines.{is_read, was_read, has_size}

abbrev none : List ℕ
none = []

abbrev pair : ℕ × List ℕ → Option (ℕ × List ℕ)
pair q = Some q

some_not : (q : ℕ × List ℕ) → pair q ≡ None → ⊥
some_not q e = absurd cc

line_by : (text : List ℕ) → length text < 2 ^ 64 → (r : Option (ℕ × List ℕ)) → quoted_at text ≡ r
    → IsPlainLine (text ++ 10 ∷ []) (plain_or r text)
line_by text fits (Some q) e = inl (q.0, q.1, was_read text q.0 q.1 e, refl)
line_by text fits None e =
    inr (refl, λ level xs h. some_not (level, xs) (sym (is_read level text xs (has_size level text xs fits h) h) ∙ e))

pub line_is_plain : (text : List ℕ) → length text < 2 ^ 64 → IsPlainLine (text ++ 10 ∷ []) (plain_line text)
line_is_plain text fits = line_by text fits (quoted_at text) refl

pub plain_is_line : (text first : List ℕ) → length text < 2 ^ 64 → IsPlainLine (text ++ 10 ∷ []) first
    → first ≡ plain_line text
plain_is_line text first fits (inl (level, xs, h, e)) =
    e ∙ sym (ap (λ (r : Option (ℕ × List ℕ)). plain_or r text)
    (is_read level text xs (has_size level text xs fits h) h))
plain_is_line text first fits (inr (e, other_than)) = other (quoted_at text) refl where
  other : (r : Option (ℕ × List ℕ)) → quoted_at text ≡ r → first ≡ plain_or r text
  other (Some q) k = absurd (other_than q.0 q.1 (was_read text q.0 q.1 k))
  other None k = e

-- ---- line by line

-- The plain form of a text is the plain form of its first line, `before ++ front`, and then the plain form of `after`.
pub plain_split : (before front after : List ℕ) → ended_lines front ≡ 0
    → plain_after before (front ++ 10 ∷ after) ≡ plain_line (before ++ front) ++ plain after
plain_split before [] after quiet =
    ap (λ (l : List ℕ). plain_line l ++ plain after) (sym (append-nil before))
plain_split before (c ∷ cs) after quiet =
    split-by (c == 10) refl (λ q. plain_split (before ++ c ∷ []) cs after q) where
      split-by : (b : Bool) → (c == 10) ≡ b → (ended_lines cs ≡ 0 → plain_after (before ++ c ∷ []) (cs ++ 10 ∷ after)
          ≡ plain_line ((before ++ c ∷ []) ++ cs) ++ plain after)
          → plain_after before (c ∷ cs ++ 10 ∷ after) ≡ plain_line (before ++ c ∷ cs) ++ plain after
      split-by true e below =
          let one : ◌≡◌ {A = ℕ} (cond (c == 10) 1 0) 1 = ap (λ (b : Bool). cond {A = ℕ} b 1 0) e in
          absurd (omega arith)
      split-by false e below =
          let zero_lines : ◌≡◌ {A = ℕ} (cond (c == 10) 1 0) 0 = ap (λ (b : Bool). cond {A = ℕ} b 1 0) e in
          ap (λ b. cond b (plain_line before ++ plain (cs ++ 10 ∷ after))
          (plain_after (before ++ c ∷ []) (cs ++ 10 ∷ after))) e
          ∙ below (omega arith)
          ∙ ap (λ (l : List ℕ). plain_line l ++ plain after) (append_assoc before (c ∷ []) cs)

pub plain_last : (before text : List ℕ) → ended_lines text ≡ 0 → plain_after before text ≡ before ++ text
plain_last before [] quiet = sym (append-nil before)
plain_last before (c ∷ cs) quiet = last-by (c == 10) refl (plain_last (before ++ c ∷ []) cs) where
  last-by : (b : Bool) → (c == 10) ≡ b
      → (ended_lines cs ≡ 0 → plain_after (before ++ c ∷ []) cs ≡ (before ++ c ∷ []) ++ cs)
      → plain_after before (c ∷ cs) ≡ before ++ c ∷ cs
  last-by true e below =
      let one : ◌≡◌ {A = ℕ} (cond (c == 10) 1 0) 1 = ap (λ (b : Bool). cond {A = ℕ} b 1 0) e in
      absurd (omega arith)
  last-by false e below =
      let zero_lines : ◌≡◌ {A = ℕ} (cond (c == 10) 1 0) 0 = ap (λ (b : Bool). cond {A = ℕ} b 1 0) e in
      ap (λ b. cond b (plain_line before ++ plain cs) (plain_after (before ++ c ∷ []) cs)) e
      ∙ below (omega arith)
      ∙ append_assoc before (c ∷ []) cs

-- ---- a complete text

-- Each plain form of a `text` of fewer than 2^64 bytes equals `plain text`.
pub is_plain : (fronts : List (List ℕ)) (text form : List ℕ) → length text < 2 ^ 64 → IsPlainBy fronts text form
    → form ≡ plain text
is_plain [] text form fits (quiet, e) = e ∙ sym (plain_last [] text quiet)
is_plain (front ∷ fronts) text form fits (quiet, first, after, rest, is, one, others, e) =
    let size : length text ≡ length front + suc (length after) = ap length is ∙ length-append front (10 ∷ after) in
    e ∙ ap₂ (λ (x y : List ℕ). x ++ y) (plain_is_line front first (omega arith) one)
    (is_plain fronts after rest (omega arith) others)
    ∙ sym (ap plain is ∙ plain_split [] front after quiet)

pub plain_more : (text form front after first : List ℕ) → ended_lines front ≡ 0 → text ≡ front ++ 10 ∷ after
    → IsPlainLine (front ++ 10 ∷ []) first → (rest : List ℕ) → form ≡ first ++ rest → IsPlain after rest
    → IsPlain text form
plain_more text form front after first quiet is one rest e (fronts, others) =
    (front ∷ fronts, (quiet, first, after, rest, is, one, others, e))

pub plain_is : (before text : List ℕ) → ended_lines before ≡ 0 → length before + length text < 2 ^ 64
    → IsPlain (before ++ text) (plain_after before text)
plain_is before [] quiet fits =
    let same = append-nil before in
    ([], (ap ended_lines same ∙ quiet, sym same))
plain_is before (c ∷ cs) quiet fits =
    is-by (c == 10) refl (plain_is [] cs refl) (plain_is (before ++ c ∷ []) cs) where
      is-by : (b : Bool) → (c == 10) ≡ b → (length none + length cs < 2 ^ 64 → IsPlain cs (plain cs))
          → (ended_lines (before ++ c ∷ []) ≡ 0 → length (before ++ c ∷ []) + length cs < 2 ^ 64
          → IsPlain ((before ++ c ∷ []) ++ cs) (plain_after (before ++ c ∷ []) cs))
          → IsPlain (before ++ c ∷ cs) (plain_after before (c ∷ cs))
      is-by true e anew on =
          plain_more (before ++ c ∷ cs) (plain_after before (c ∷ cs)) before cs (plain_line before) quiet
          (ap (λ (k : ℕ). before ++ k ∷ cs) (eqb-true c 10 e)) (line_is_plain before (omega arith)) (plain cs)
          (ap (λ b. cond b (plain_line before ++ plain cs) (plain_after (before ++ c ∷ []) cs)) e) (anew (omega arith))
      is-by false e anew on =
          let zero_lines : ◌≡◌ {A = ℕ} (cond (c == 10) 1 0) 0 = ap (λ (b : Bool). cond {A = ℕ} b 1 0) e in
          let lines = lines_append before (c ∷ []) in
          let size = length-append before (c ∷ []) in
          let below = on (omega arith) (omega arith) in
          let form = ap (λ b. cond b (plain_line before ++ plain cs) (plain_after (before ++ c ∷ []) cs)) e in
          subst (λ (t : List ℕ). IsPlain t (plain_after before (c ∷ cs))) (append_assoc before (c ∷ []) cs)
          (subst (λ (t : List ℕ). IsPlain ((before ++ c ∷ []) ++ cs) t) (sym form) below)
