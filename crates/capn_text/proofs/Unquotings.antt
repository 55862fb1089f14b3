-- Lemmas for `unquoter.rt`: the plain form of a text that arrives in chunks.
use Rattle.std.proofs.Common.{◌≡◌, ℕ, ◌+◌, ◌-◌, ◌<◌, ◌≤◌, ◌==◌, Bool, true, false, cond, nat_le, List, [], ◌∷◌, ◌++◌}
use Rattle.std.proofs.Common.{length, take, drop, get_or, refl, sym, ap, ap₂, ◌∙◌, if◌then◌else◌, append_assoc, arith}
use Rattle.std.proofs.Common.{subst}
use Rattle.std.specs.Prelude.{slice_index}
use Rattle.std.proofs.lemmas.Bool.{le-leb}
use Rattle.std.proofs.lemmas.List.{append-nil, take_more, take-append-drop, length-take-le}
use Rattle.std.proofs.Math.Seq.{drop-cons, drop-length}
use Rattle.capn_text.specs.Streams.{ended_lines}
use Rattle.capn_text.specs.Beginnings.{looked_at, may_begin}
use Rattle.capn_text.specs.PlainForm.{plain_line, plain_after, plain_through, plain, lines_of, digits_of, digits_after}
use Rattle.capn_text.specs.PlainForm.{digits_through, count_to}
use Rattle.capn_text.specs.Unquoting.{Unquoting, Unquotes, Forgets, StartFrom, plain_on, digits_on}
use Rattle.capn_text.proofs.LineCounts.{lines_append}
use Rattle.capn_text.proofs.Beginnings.{digits_past_through, never, never_digits, never_plain, through_past}
use Rattle.capn_text.proofs.shared.Counts.{count_append}

-- ---- numbers counted

pub gone_more : (qs : List ℕ) (i line : ℕ) → i < length qs → slice_index qs i < line
    → ((n : ℕ) → line ≤ n → count_to n (take i qs) ≡ i) → (n : ℕ) → line ≤ n → count_to n (take (i + 1) qs) ≡ i + 1
gone_more qs i line below low so_far n at =
    let more = ap (count_to n) (take_more qs i 0 below) in
    let both = count_append n (take i qs) (get_or qs i 0 ∷ []) in
    let one : cond (nat_le (get_or qs i 0) n) 1 0 + 0 ≡ 1 =
    ap (λ (b : Bool). cond b 1 0 + 0) (le-leb (get_or qs i 0) n (omega arith)) in
    let before = so_far n at in
    omega arith

pub starts_here : (qs : List ℕ) (i line : ℕ) → i < length qs → line ≤ slice_index qs i → StartFrom line (drop i qs)
starts_here qs i line below high = subst (StartFrom line) (sym (drop-cons qs i 0 below)) high

pub none_starts : (qs : List ℕ) (i line : ℕ) → i ≡ length qs → StartFrom line (drop i qs)
none_starts qs i line e =
    subst (StartFrom line) (sym (ap (λ k. drop k qs) e ∙ drop-length qs)) tt

-- ---- bytes without a newline

pub plain_past : (before x more : List ℕ) → ended_lines x ≡ 0
    → plain_after before (x ++ more) ≡ plain_after (before ++ x) more
plain_past before [] more quiet = ap (λ (l : List ℕ). plain_after l more) (sym (append-nil before))
plain_past before (c ∷ cs) more quiet = past-by (c == 10) refl (plain_past (before ++ c ∷ []) cs more) where
  past-by : (b : Bool) → (c == 10) ≡ b → (ended_lines cs ≡ 0 → plain_after (before ++ c ∷ []) (cs ++ more)
      ≡ plain_after ((before ++ c ∷ []) ++ cs) more)
      → plain_after before (c ∷ cs ++ more) ≡ plain_after (before ++ c ∷ cs) more
  past-by true e below =
      let one : ◌≡◌ {A = ℕ} (cond (c == 10) 1 0) 1 = ap (λ (b : Bool). cond {A = ℕ} b 1 0) e in
      absurd (omega arith)
  past-by false e below =
      let zero_lines : ◌≡◌ {A = ℕ} (cond (c == 10) 1 0) 0 = ap (λ (b : Bool). cond {A = ℕ} b 1 0) e in
      ap (λ b. cond b (plain_line before ++ plain (cs ++ more)) (plain_after (before ++ c ∷ []) (cs ++ more))) e
      ∙ below (omega arith)
      ∙ ap (λ (l : List ℕ). plain_after l more) (append_assoc before (c ∷ []) cs)

pub digits_past : (n : ℕ) (before x more : List ℕ) → ended_lines x ≡ 0
    → digits_after n before (x ++ more) ≡ digits_after n (before ++ x) more
digits_past n before [] more quiet = ap (λ (l : List ℕ). digits_after n l more) (sym (append-nil before))
digits_past n before (c ∷ cs) more quiet = past-by (c == 10) refl (digits_past n (before ++ c ∷ []) cs more) where
  past-by : (b : Bool) → (c == 10) ≡ b → (ended_lines cs ≡ 0 → digits_after n (before ++ c ∷ []) (cs ++ more)
      ≡ digits_after n ((before ++ c ∷ []) ++ cs) more)
      → digits_after n before (c ∷ cs ++ more) ≡ digits_after n (before ++ c ∷ cs) more
  past-by true e below =
      let one : ◌≡◌ {A = ℕ} (cond (c == 10) 1 0) 1 = ap (λ (b : Bool). cond {A = ℕ} b 1 0) e in
      absurd (omega arith)
  past-by false e below =
      let zero_lines : ◌≡◌ {A = ℕ} (cond (c == 10) 1 0) 0 = ap (λ (b : Bool). cond {A = ℕ} b 1 0) e in
      ap (λ b. cond b (digits_of n before ++ digits_after (n + lines_of before) [] (cs ++ more))
      (digits_after n (before ++ c ∷ []) (cs ++ more))) e
      ∙ below (omega arith)
      ∙ ap (λ (l : List ℕ). digits_after n l more) (append_assoc before (c ∷ []) cs)

-- ---- chunks

-- Cases of `plain_on` and `digits_on`: `through` is false, or `through` is true.
on_kept : (u : Unquoting) (more : List ℕ) → u.through ≡ false → plain_on u more ≡ plain_after u.front more
on_kept u more e = ap (λ b. cond b (plain_through more) (plain_after u.front more)) e

on_given : (u : Unquoting) (more : List ℕ) → u.through ≡ true → plain_on u more ≡ plain_through more
on_given u more e = ap (λ b. cond b (plain_through more) (plain_after u.front more)) e

digits_kept : (u : Unquoting) (more : List ℕ) → u.through ≡ false
    → digits_on u more ≡ digits_after u.line u.front more
digits_kept u more e = ap (λ b. cond b (digits_through u.line more) (digits_after u.line u.front more)) e

digits_given : (u : Unquoting) (more : List ℕ) → u.through ≡ true → digits_on u more ≡ digits_through u.line more
digits_given u more e = ap (λ b. cond b (digits_through u.line more) (digits_after u.line u.front more)) e

pub no_piece : (u : Unquoting) → Unquotes u u [] []
no_piece u = record { plain = λ more. refl; digits = λ more. refl; passed = refl }

pub both_pieces : (u v w : Unquoting) (a b x y : List ℕ) → Unquotes u v a x → Unquotes v w b y
    → Unquotes u w (a ++ b) (x ++ y)
both_pieces u v w a b x y first next = record {
  plain = λ more.
      ap (plain_on u) (append_assoc a b more) ∙ first.plain (b ++ more)
      ∙ ap (λ (l : List ℕ). x ++ l) (next.plain more)
      ∙ sym (append_assoc x y (plain_on w more));
  digits = λ more.
      ap (λ (l : List ℕ). u.digits ++ digits_on u l) (append_assoc a b more)
      ∙ first.digits (b ++ more) ∙ next.digits more;
  passed = next.passed ∙ first.passed;
}

-- A converter reads `bytes`, goes from the state `u` to the state `v`, and extends the output from `old` to `new`.
abbrev pub Adds : Unquoting → Unquoting → List ℕ → List ℕ → List ℕ → Type 0
Adds u v bytes old new = (added : List ℕ) × (new ≡ old ++ added) × Unquotes u v bytes added

-- Case: the bytes `text`, which have no newline, are appended to the stored `front` of their line.
pub part_kept : (u v : Unquoting) (text old : List ℕ) → ended_lines text ≡ 0 → u.through ≡ false
    → v.through ≡ u.through → v.front ≡ u.front ++ text → v.line ≡ u.line → v.digits ≡ u.digits
    → v.passed ≡ u.passed → Adds u v text old old
part_kept u v text old quiet kept same front line digits passed =
    let held = same ∙ kept in (
      [],
      sym (append-nil old),
      record {
        plain = λ more.
            on_kept u (text ++ more) kept ∙ plain_past u.front text more quiet
            ∙ ap (λ (l : List ℕ). plain_after l more) (sym front) ∙ sym (on_kept v more held);
        digits = λ more.
            ap (λ (l : List ℕ). u.digits ++ l)
            (digits_kept u (text ++ more) kept ∙ digits_past u.line u.front text more quiet)
            ∙ sym (rw (front, line, digits) refl)
            ∙ ap (λ (l : List ℕ). v.digits ++ l) (sym (digits_kept v more held));
        passed = passed;
      },
    )

pub part_given : (u : Unquoting) (text old new : List ℕ) → ended_lines text ≡ 0 → u.through ≡ true
    → new ≡ old ++ text → Adds u u text old new
part_given u text old new quiet given is = (
  text,
  is,
  record {
    plain = λ more.
        on_given u (text ++ more) given ∙ through_past text more quiet
        ∙ ap (λ (l : List ℕ). text ++ l) (sym (on_given u more given));
    digits = λ more.
        ap (λ (l : List ℕ). u.digits ++ l)
        (digits_given u (text ++ more) given ∙ digits_past_through u.line text more quiet
        ∙ sym (digits_given u more given));
    passed = refl;
  },
)

-- Case: the front of a line is added to the output, since the line cannot have bytes between quotes.
pub front_given : (u v : Unquoting) (old new : List ℕ) → u.through ≡ false → v.through ≡ true
    → may_begin (take looked_at u.front) ≡ false → v.line ≡ u.line → v.digits ≡ u.digits → v.passed ≡ u.passed
    → new ≡ old ++ u.front → Adds u v [] old new
front_given u v old new kept given other line digits passed is =
    let none = never u.front other in (
      u.front,
      is,
      record {
        plain = λ more.
            on_kept u more kept ∙ never_plain more u.front none
            ∙ ap (λ (l : List ℕ). u.front ++ l) (sym (on_given v more given));
        digits = λ more.
            ap (λ (l : List ℕ). u.digits ++ l) (digits_kept u more kept ∙ never_digits u.line more u.front none)
            ∙ ap₂ (λ (l : List ℕ) (n : ℕ). l ++ digits_through n more) (sym digits) (sym line)
            ∙ ap (λ (l : List ℕ). v.digits ++ l) (sym (digits_given v more given));
        passed = passed;
      },
    )

-- The lemma `front_given`, with the fields of both states as arguments.
pub given_front : (front cleared digits old new : List ℕ) (line passed : ℕ) (through : Bool) → through ≡ false
    → may_begin (take looked_at front) ≡ false → new ≡ old ++ front
    → Adds (record { front = front; line = line; digits = digits; passed = passed; through = through })
    (record { front = cleared; line = line; digits = digits; passed = passed; through = true }) [] old new
given_front front cleared digits old new line passed through kept other is =
    front_given (record { front = front; line = line; digits = digits; passed = passed; through = through })
    (record { front = cleared; line = line; digits = digits; passed = passed; through = true }) old new kept refl other
    refl refl refl is

pub nothing_given : (u : Unquoting) (old : List ℕ) → Adds u u [] old old
nothing_given u old = ([], sym (append-nil old), no_piece u)

-- ---- the loop over a chunk

-- The converter has read the `bytes` of the chunk `piece` before `rest`.
pub record HasPushed (u v : Unquoting) (piece rest old new : List ℕ) : Type 0 where
  pub bytes : List ℕ
  pub are : piece ≡ bytes ++ rest
  pub adds : Adds u v bytes old new

pub none_pushed : (u : Unquoting) (piece old : List ℕ) → HasPushed u u piece piece old old
none_pushed u piece old = record { bytes = []; are = refl; adds = nothing_given u old }

both_added : (u v w : Unquoting) (a b old mid new : List ℕ) → Adds u v a old mid → Adds v w b mid new
    → Adds u w (a ++ b) old new
both_added u v w a b old mid new first next = (
  first.0 ++ next.0,
  next.1 ∙ ap (λ (l : List ℕ). l ++ next.0) first.1 ∙ append_assoc old first.0 next.0,
  both_pieces u v w a b first.0 next.0 first.2 next.2,
)

-- If `HasPushed` holds before a line `text` of the chunk is read, it holds after that line.
pub step_pushed : (u v m w : Unquoting) (piece rest old new mid next text after : List ℕ)
    → HasPushed u v piece rest old new → (rest ≡ text ++ 10 ∷ after) × (ended_lines text ≡ 0)
    → Adds v m text new mid → Adds m w (10 ∷ []) mid next → HasPushed u w piece after old next
step_pushed u v m w piece rest old new mid next text after h is taken ended = record {
  bytes = h.bytes ++ (text ++ 10 ∷ []);
  are = h.are ∙ ap (λ (l : List ℕ). h.bytes ++ l) (is.0 ∙ sym (append_assoc text (10 ∷ []) after))
      ∙ sym (append_assoc h.bytes (text ++ 10 ∷ []) after);
  adds = both_added u v w h.bytes (text ++ 10 ∷ []) old new next h.adds
      (both_added v m w text (10 ∷ []) new mid next taken ended);
}

pub all_pushed : (u v m w : Unquoting) (piece rest old new mid next : List ℕ) → HasPushed u v piece rest old new
    → Adds v m rest new mid → Adds m w [] mid next → Adds u w piece old next
all_pushed u v m w piece rest old new mid next h taken given =
    let all = both_added u m w (h.bytes ++ rest) [] old mid next
    (both_added u v m h.bytes rest old new mid h.adds taken) given in
    subst (λ (t : List ℕ). Adds u w t old next) (append-nil (h.bytes ++ rest) ∙ sym h.are) all

-- ---- what is added or not

pub quiet_either : (b : Bool) (x y new : List ℕ) → ended_lines x ≡ 0 → ended_lines y ≡ 0
    → new ≡ (if b then x ++ y else x) → ended_lines new ≡ 0
quiet_either true x y new p q e = let h = lines_append x y in let k = ap ended_lines e in omega arith
quiet_either false x y new p q e = ap ended_lines e ∙ p

-- ---- what is forgotten

pub forgotten : (through : Bool) (line at passed k : ℕ) (front digits new : List ℕ) → k ≤ length digits
    → ((n : ℕ) → line ≤ n → count_to n (take k digits) ≡ k) → StartFrom line (drop k digits) → new ≡ drop k digits
    → Forgets line (record { front = front; line = at; digits = digits; passed = passed; through = through })
    (record { front = front; line = at; digits = new; passed = passed + k; through = through })
forgotten through line at passed k front digits new low before next is =
    let size : length (take k digits) ≡ k = length-take-le k digits low in
    record {
      gone = take k digits;
      are = sym (ap (λ (l : List ℕ). take k digits ++ l) is ∙ take-append-drop k digits);
      passed = ap (λ n. passed + n) (sym size);
      before = λ n high. before n high ∙ sym size;
      next = subst (StartFrom line) (sym is) next;
      front = refl;
      at = refl;
      through = refl;
    }
