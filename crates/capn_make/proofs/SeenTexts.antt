-- Lemmas for `UnderTexts`: the plain form of the bytes that were read, and its lines.
use Rattle.std.proofs.Common.{◌≡◌, ◌≢◌, ℕ, ◌+◌, ◌≤◌, Bool, true, false, cond, List, [], ◌++◌, length, Result, Ok, Err}
use Rattle.std.proofs.Common.{refl, sym, ap, ap₂, ◌∙◌, append_assoc, arith}
use Rattle.std.proofs.lemmas.List.{append-nil, length-append}
use Rattle.capn_text.specs.Streams.{ended_lines}
use Rattle.capn_text.specs.PlainForm.{plain, plain_after, plain_through, digits_after, digits_through, count_to}
use Rattle.capn_text.specs.PlainForm.{own_line}
use Rattle.capn_text.specs.Unquoting.{Unquoting, Unquotes, Forgets, digits_on, first_unquoting, own_at, plain_on}
use Rattle.capn_text.proofs.shared.Counts.{count_append}
use Rattle.capn_canon.specs.declared.form.Form.{Form}
use Rattle.capn_make.specs.MadeInput.{Makes}
use Rattle.capn_make.specs.Endings.{IsFrom}
use Rattle.capn_make.specs.MadeTexts.{MakesTexts, at_own}
use Rattle.capn_make.specs.inner.TextsParts.{HasSeen, ending_at}
use Rattle.capn_make.specs.declared.fault.MakeFault.{MakeFault}
use Rattle.capn_make.specs.declared.fault.MakeFault.TheVariants as faults
use Rattle.capn_make.proofs.NextTexts.{none_left}

pub nothing_seen : HasSeen first_unquoting 1 [] []
nothing_seen = record {
  gone = [];
  plain = λ more. refl;
  digits = λ more. refl;
  passed = refl;
  before = λ n at. refl;
  quiet = refl;
  empty = λ given. refl;
}

pub seen_on : (q r : Unquoting) (line : ℕ) (bytes input piece added : List ℕ) → HasSeen q line bytes input
    → Unquotes q r piece added → ended_lines r.front ≡ 0 → (r.through ≡ true → r.front ≡ [])
    → HasSeen r line (bytes ++ piece) (input ++ added)
seen_on q r line bytes input piece added h next quiet empty = record {
  gone = h.gone;
  plain = λ more.
      ap (plain_after []) (append_assoc bytes piece more) ∙ h.plain (piece ++ more)
      ∙ ap (λ (l : List ℕ). input ++ l) (next.plain more) ∙ sym (append_assoc input added (plain_on r more));
  digits = λ more.
      ap (digits_after 1 []) (append_assoc bytes piece more) ∙ h.digits (piece ++ more)
      ∙ ap (λ (l : List ℕ). h.gone ++ l) (next.digits more);
  passed = next.passed ∙ h.passed;
  before = h.before;
  quiet = quiet;
  empty = empty;
}

same_digits : (q r : Unquoting) (more : List ℕ) → r.through ≡ q.through → r.line ≡ q.line → r.front ≡ q.front
    → digits_on r more ≡ digits_on q more
same_digits q r more through line front =
    ap (λ (b : Bool). cond b (digits_through r.line more) (digits_after r.line r.front more)) through
    ∙ ap₂ (λ (n : ℕ) (l : List ℕ). cond q.through (digits_through n more) (digits_after n l more)) line front

last_by : (b : Bool) (front : List ℕ) → (b ≡ true → front ≡ []) → cond b [] front ≡ front
last_by true front empty = sym (empty refl)
last_by false front empty = refl

no_digits : (b : Bool) (x : List ℕ) → x ≡ [] → cond b x x ≡ []
no_digits true x e = e
no_digits false x e = e

-- `HasSeen` stays true for a later line `at` if the converter forgets only lines of digits at or before `at`.
pub forgotten_on : (q r : Unquoting) (line at : ℕ) (bytes input : List ℕ) → line ≤ at → HasSeen q line bytes input
    → Forgets at q r → HasSeen r at bytes input
forgotten_on q r line at bytes input further h f =
    let size = length-append h.gone f.gone in
    let was = h.passed in
    let is = f.passed in
    record {
      gone = h.gone ++ f.gone;
      plain = λ more.
          h.plain more
          ∙ ap₂ (λ (b : Bool) (l : List ℕ). input ++ cond b (plain_through more) (plain_after l more)) (sym f.through)
          (sym f.front);
      digits = λ more.
          h.digits more
          ∙ ap (λ (l : List ℕ). h.gone ++ (l ++ digits_on q more)) f.are
          ∙ ap (λ (l : List ℕ). h.gone ++ l) (append_assoc f.gone r.digits (digits_on q more))
          ∙ sym (append_assoc h.gone f.gone (r.digits ++ digits_on q more))
          ∙ ap (λ (l : List ℕ). (h.gone ++ f.gone) ++ (r.digits ++ l))
          (sym (same_digits q r more f.through f.at f.front));
      passed = omega arith;
      before = λ n high.
          let both = count_append n h.gone f.gone in
          let old = h.before n (omega arith) in
          let new = f.before n high in
          omega arith;
      quiet = ap ended_lines f.front ∙ h.quiet;
      empty = λ given. f.front ∙ h.empty (sym f.through ∙ given);
    }

pub seen_plain : (q : Unquoting) (line : ℕ) (bytes input : List ℕ) → HasSeen q line bytes input
    → plain bytes ≡ input ++ q.front
seen_plain q line bytes input h = ap plain (sym (append-nil bytes)) ∙ h.plain []
    ∙ ap (λ (l : List ℕ). input ++ l) (last_by q.through q.front h.empty)

pub seen_lines : (q : Unquoting) (line : ℕ) (bytes input : List ℕ) → HasSeen q line bytes input
    → (n : ℕ) → line ≤ n → own_at q n ≡ own_line bytes n
seen_lines q line bytes input h n at =
    let all : digits_after 1 [] bytes ≡ h.gone ++ (q.digits ++ []) =
    ap (digits_after 1 []) (sym (append-nil bytes)) ∙ h.digits []
    ∙ ap (λ (l : List ℕ). h.gone ++ (q.digits ++ l)) (no_digits q.through [] refl) in
    let whole : digits_after 1 [] bytes ≡ h.gone ++ q.digits =
    all ∙ ap (λ (l : List ℕ). h.gone ++ l) (append-nil q.digits) in
    let count : count_to n (digits_after 1 [] bytes) ≡ count_to n h.gone + count_to n q.digits =
    ap (count_to n) whole ∙ count_append n h.gone q.digits in
    let before = h.before n at in
    let passed = h.passed in
    omega arith

pub some_seen : (q : Unquoting) (line : ℕ) (bytes input : List ℕ) → HasSeen q line bytes input → q.front ≢ []
    → bytes ≢ []
some_seen q line bytes input h some none =
    let whole : [] ≡ input ++ q.front = sym (ap plain none) ∙ seen_plain q line bytes input h in
    let all = ap length whole in
    let size = length-append input q.front in
    let zero : length {A = ℕ} [] ≡ 0 = refl in
    some (none_left q.front (omega arith))

-- ---- a fault at the line of the input

same_fault : (f g : ℕ → ℕ) (line : ℕ) (fault : MakeFault) → ((n : ℕ) → line ≤ n → f n ≡ g n) → IsFrom line fault
    → at_own f fault ≡ at_own g fault
same_fault f g line faults.Memory same from = refl
same_fault f g line faults.Io same from = refl
same_fault f g line faults.InputTooLong same from = refl
same_fault f g line (faults.NotText n) same from = ap (λ m. faults.NotText m) (same n from)
same_fault f g line (faults.Misfit n m) same from = ap (λ k. faults.Misfit k m) (same n from)
same_fault f g line (faults.Capability n index) same from = ap (λ k. faults.Capability k index) (same n from)
same_fault f g line (faults.Another n) same from = ap (λ m. faults.Another m) (same n from)
same_fault f g line faults.NoText same from = refl

pub of_lines : (form : Form) (own : ℕ → ℕ) (line : ℕ) (bytes all text : List ℕ) (r : Result (Unit {0}) MakeFault)
    → ((n : ℕ) → line ≤ n → own n ≡ own_line bytes n)
    → ((fault : MakeFault) → Makes form (plain all) text (Err fault) → IsFrom line fault)
    → Makes form (plain all) text r → MakesTexts form bytes all text (ending_at own r)
of_lines form own line bytes all text (Ok u) same from makes = makes
of_lines form own line bytes all text (Err fault) same from makes =
    (fault, same_fault own (own_line bytes) line fault same (from fault makes), makes)
