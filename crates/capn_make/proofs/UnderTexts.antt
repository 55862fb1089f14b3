-- Lemmas for `feed` and `finish` of `QuotedTexts`: a run over texts with lists between quotes.
use Rattle.std.proofs.Common.{◌≡◌, ◌≢◌, inl, inr, ℕ, ◌+◌, ◌^◌, ◌≤◌, List, [], ◌∷◌, ◌++◌, length, Bool, true, Option}
use Rattle.std.proofs.Common.{Result, Ok, Err, refl, sym, ap, subst, ◌∙◌, append_assoc, arith}
use Rattle.std.proofs.lemmas.Bool.{cases_lt}
use Rattle.std.proofs.lemmas.List.{append-nil, append_cancel_left, length-append}
use Rattle.capn_value.specs.Text.{show_text}
use Rattle.capn_text.specs.Streams.{end_line, ended_lines}
use Rattle.capn_text.specs.PlainForm.{plain, own_line}
use Rattle.capn_text.specs.Unquoting.{Unquoting, Unquotes, Forgets, first_unquoting, own_at, plain_on}
use Rattle.capn_canon.specs.declared.form.Form.{Form}
use Rattle.capn_make.specs.MadeInput.{IsUnended, Makes}
use Rattle.capn_make.specs.Endings.{IsFrom}
use Rattle.capn_make.specs.Laws.{RefusalStays, OneEnding, RefusedAfter, UnendedIsLast}
use Rattle.capn_make.specs.MakeRun.{AreInTime, EndsAs, HasBegunText, HasServed}
use Rattle.capn_make.specs.MadeTexts.{EndsTexts, IsInTime, at_own}
use Rattle.capn_make.specs.inner.RunParts.{GivesMade, HasCome, IsFresh, IsUnderWay}
use Rattle.capn_make.specs.inner.TextsParts.{GivesTexts, HasSeen, IsUnderTexts, ending_at}
use Rattle.capn_make.specs.inner.SinkRun.{Writes}
use Rattle.capn_make.specs.declared.fault.MakeFault.{MakeFault}
use Rattle.capn_make.specs.declared.fault.MakeFault.TheVariants as faults
use Rattle.capn_make.proofs.FirstTexts.{lines_append}
use Rattle.capn_make.proofs.SeenTexts.{forgotten_on, nothing_seen, of_lines, seen_lines, seen_on, seen_plain, some_seen}
use Rattle.capn_make.proofs.TestedInput.{some_after}
use Rattle.capn_make.proofs.Unended.{front_of}
use Rattle.capn_make.proofs.UnderWay.{begins as begins_plain, begun_by, come_at, served as served_plain, served_by}
use Rattle.capn_make.proofs.UnderWay.{timely as timely_plain}
use Rattle.capn_make.proofs.WhateverFollows.{first_on}

-- ---- an unfinished line ends no text

unended_before : (rest front : List ℕ) → ended_lines front ≡ 0 → IsUnended rest → IsUnended (rest ++ front)
unended_before rest front quiet none v after shows low e =
    let t = show_text v ++ (101 ∷ 110 ∷ 100 ∷ []) in
    let here : t ++ 10 ∷ after ≡ rest ++ front =
    append_assoc (show_text v) (101 ∷ 110 ∷ 100 ∷ []) (10 ∷ after) ∙ sym e in
    let size = length-append t (10 ∷ []) in
    let whole : (t ++ 10 ∷ []) ++ after ≡ rest ++ front = append_assoc t (10 ∷ []) after ∙ here in
    elim (cases_lt (length t) (length rest)) [
      | inl within ↦
          (let p = front_of rest front (t ++ 10 ∷ []) after (sym whole) (omega arith) in
          let is : rest ≡ show_text v ++ (end_line ++ p.0) =
          p.1 ∙ append_assoc t (10 ∷ []) p.0 ∙ append_assoc (show_text v) (101 ∷ 110 ∷ 100 ∷ []) (10 ∷ p.0) in
          none v p.0 shows low is)
      | inr further ↦
          (let p = front_of t (10 ∷ after) rest front here further in
          let left : p.0 ++ 10 ∷ after ≡ front =
          append_cancel_left rest (p.0 ++ 10 ∷ after) front
          (sym (append_assoc rest p.0 (10 ∷ after)) ∙ ap (λ (l : List ℕ). l ++ 10 ∷ after) (sym p.1) ∙ here) in
          let lines = ap ended_lines (sym left) ∙ lines_append p.0 (10 ∷ after) in
          let one : ended_lines (10 ∷ after) ≡ 1 + ended_lines after = refl in
          absurd (omega arith))
    ]

-- ---- a fault at another line

io_back : (own : ℕ → ℕ) (f : MakeFault) → at_own own f ≡ faults.Io → f ≡ faults.Io
io_back own faults.Memory e = absurd cc
io_back own faults.Io e = refl
io_back own faults.InputTooLong e = absurd cc
io_back own (faults.NotText n) e = absurd cc
io_back own (faults.Misfit n m) e = absurd cc
io_back own (faults.Capability n index) e = absurd cc
io_back own (faults.Another n) e = absurd cc
io_back own faults.NoText e = absurd cc

memory_back : (own : ℕ → ℕ) (f : MakeFault) → at_own own f ≡ faults.Memory → f ≡ faults.Memory
memory_back own faults.Memory e = refl
memory_back own faults.Io e = absurd cc
memory_back own faults.InputTooLong e = absurd cc
memory_back own (faults.NotText n) e = absurd cc
memory_back own (faults.Misfit n m) e = absurd cc
memory_back own (faults.Capability n index) e = absurd cc
memory_back own (faults.Another n) e = absurd cc
memory_back own faults.NoText e = absurd cc

pub writes_at : (own : ℕ → ℕ) (c d : Option (List ℕ)) (failed : Bool) (fault : MakeFault)
    → Writes faults.Io c d failed (Err fault) → Writes faults.Io c d failed (Err (at_own own fault))
writes_at own c d failed fault w = (
  w.0,
  (
    λ e.
        let same : at_own own fault ≡ faults.Io = cc in
        w.1.0 (ap (λ x. Err x) (io_back own fault same)),
    λ f.
        let is : fault ≡ faults.Io = (let e = w.1.1 f in cc) in
        ap (λ x. Err (at_own own x)) is,
  ),
)

memory_of : (own : ℕ → ℕ) (r : Result (Unit {0}) MakeFault) → ending_at own r ≡ Err faults.Memory
    → r ≡ Err faults.Memory
memory_of own (Ok u) e = absurd cc
memory_of own (Err fault) e =
    let same : at_own own fault ≡ faults.Memory = cc in ap (λ x. Err x) (memory_back own fault same)

-- ---- from the result for the plain form to the result for the texts

module _ (form : Form) (bytes more input rest : List ℕ) (whole : plain (bytes ++ more) ≡ input ++ rest)
    (own : ℕ → ℕ) (line : ℕ) (same : (n : ℕ) → line ≤ n → own n ≡ own_line bytes n)
    (from : (text : List ℕ) (fault : MakeFault) → Makes form (plain (bytes ++ more)) text (Err fault)
    → IsFrom line fault) (c d : Option (List ℕ)) where
  ends_lines : (r : Result (Unit {0}) MakeFault) → EndsAs form c d r (input ++ rest)
      → EndsTexts form c d (ending_at own r) bytes (bytes ++ more)
  ends_lines (Ok u) h =
      (h.0, subst (λ t. Makes form t h.0 (Ok u)) (sym whole) h.1, h.2)
  ends_lines (Err fault) (inl memory) = inl (ap (at_own own) memory)
  ends_lines (Err fault) (inr (inl io)) = inr (inl (ap (at_own own) io))
  ends_lines (Err fault) (inr (inr (inl long))) =
      let size = ap length whole in
      let least = long.1 in
      inr (inr (inl (ap (at_own own) long.0, omega arith)))
  ends_lines (Err fault) (inr (inr (inr made))) =
      let makes = subst (λ t. Makes form t made.0 (Err fault)) (sym whole) made.1 in
      inr (inr (inr (
        made.0,
        of_lines form own line bytes (bytes ++ more) made.0 (Err fault) same (from made.0) makes,
        made.2,
      )))

  pub gives_lines : (input ≢ [] → bytes ≢ []) → (r : Result (Unit {0}) MakeFault) → GivesMade form input rest c d r
      → GivesTexts form bytes more c d (ending_at own r)
  gives_lines some r h = (
    ends_lines r h.0,
    subst (λ t. HasBegunText form t c d) (sym whole) h.1,
    λ e. some (h.2 (memory_of own r e)),
  )

-- ---- between two chunks

pub begins : OneEnding → (form : Form) (c : Option (List ℕ)) (made rest : List ℕ) (line tested : ℕ) (q : Unquoting)
    → IsFresh made rest line tested → q ≡ first_unquoting
    → IsUnderTexts form [] c c made rest line tested q
begins one form c made rest line tested q fresh is = record {
  input = [];
  seen = rw (is, fresh.2) nothing_seen;
  way = begins_plain one form c made rest line tested fresh;
}

module _ (form : Form) (bytes : List ℕ) (c d : Option (List ℕ)) (made rest : List ℕ) (line tested : ℕ)
    (q : Unquoting) (u : IsUnderTexts form bytes c d made rest line tested q) where
  pub served : HasServed form (plain bytes) c d
  served =
      let w = u.way in
      let m = w.made_so_far in
      subst (λ t. HasServed form t c d) (sym (seen_plain q line bytes u.input u.seen)) (
        m.values,
        rest ++ q.front,
        first_on m.values u.input rest q.front m.first,
        unended_before rest q.front u.seen.quiet w.unended,
        served_by form c d w.written made m.values w.kept m.are m.few w.wrote,
      )

  pub timely : RefusalStays → (piece : List ℕ) → length piece ≤ 65536 → IsInTime form (bytes ++ piece)
  timely stays piece small = (
    bytes,
    piece,
    u.input,
    q.front,
    refl,
    small,
    seen_plain q line bytes u.input u.seen,
    u.seen.quiet,
    subst (AreInTime form) (append-nil u.input)
        (timely_plain form u.input c d made rest line tested u.way stays [] (omega arith)),
  )

  pub begun_at : (more : List ℕ) → HasBegunText form (plain (bytes ++ more)) c d
  begun_at more =
      subst (λ t. HasBegunText form t c d) (sym (u.seen.plain more))
      (begun_by form u.input (plain_on q more) c d (served_plain form u.input c d made rest line tested u.way))

  begun_past : (piece more : List ℕ) → HasBegunText form (plain ((bytes ++ piece) ++ more)) c d
  begun_past piece more =
      subst (λ t. HasBegunText form (plain t) c d) (sym (append_assoc bytes piece more)) (begun_at (piece ++ more))

  pub unheld : (piece : List ℕ) → piece ≢ [] → (more : List ℕ)
      → GivesTexts form (bytes ++ piece) more c d (Err faults.Memory)
  unheld piece some more = (inl refl, begun_past piece more, λ e. some_after bytes piece some)

  -- Case: if memory was refused for `q.front`, the unfinished last line, `GivesTexts` holds for `Memory`.
  pub unheld_last : q.front ≢ [] → GivesTexts form bytes [] c d (Err faults.Memory)
  unheld_last some = (inl refl, begun_at [], λ e. some_seen q line bytes u.input u.seen some)

  pub longer : (piece more : List ℕ) → 2 ^ 64 ≤ length (bytes ++ piece)
      → GivesTexts form (bytes ++ piece) more c d (Err faults.InputTooLong)
  longer piece more long =
      let all = length-append (bytes ++ piece) more in
      (inr (inr (inl (refl, omega arith))), begun_past piece more, λ e. absurd cc)

  -- Case: a chunk `piece` was read, and the converter gave `added` for it.
  module _ (v : Unquoting) (piece added : List ℕ) (some : piece ≢ []) (next : Unquotes q v piece added)
      (quiet : ended_lines v.front ≡ 0) (empty : v.through ≡ true → v.front ≡ []) where
    seen : HasSeen v line (bytes ++ piece) (u.input ++ added)
    seen = seen_on q v line bytes u.input piece added u.seen next quiet empty

    pub come : (new : List ℕ) (before : ℕ) → new ≡ rest ++ added → before ≡ length rest
        → HasCome form (u.input ++ added) c d made new line tested before
    come new before = come_at form u.input c d made rest line tested u.way added new before

    from_here : RefusedAfter → (more text : List ℕ) (fault : MakeFault)
        → Makes form (plain ((bytes ++ piece) ++ more)) text (Err fault) → IsFrom line fault
    from_here after more text fault makes =
        let m = (come (rest ++ added) (length rest) refl refl).made_so_far in
        let first = first_on m.values (u.input ++ added) (rest ++ added) (plain_on v more) m.first in
        subst (λ n. IsFrom n fault) (sym m.line)
        (after form m.values ((u.input ++ added) ++ plain_on v more) ((rest ++ added) ++ plain_on v more) text fault
        first m.few (subst (λ t. Makes form t text (Err fault)) (seen.plain more) makes))

    pub refused : RefusedAfter → (e : Option (List ℕ)) (fault : MakeFault)
        → ((more : List ℕ) → GivesMade form (u.input ++ added) more c e (Err fault)) → (more : List ℕ)
        → GivesTexts form (bytes ++ piece) more c e (Err (at_own (own_at v) fault))
    refused after e fault gives more =
        gives_lines form (bytes ++ piece) more (u.input ++ added) (plain_on v more) (seen.plain more) (own_at v) line
        (seen_lines v line (bytes ++ piece) (u.input ++ added) seen) (from_here after more) c e
        (λ others. some_after bytes piece some) (Err fault) (gives (plain_on v more))

    pub goes_on : UnendedIsLast → (e : Option (List ℕ)) (after left : List ℕ) (at now : ℕ) (w : Unquoting)
        → IsUnderWay form (u.input ++ added) c e after left at now → Forgets at v w
        → IsUnderTexts form (bytes ++ piece) c e after left at now w
    goes_on last e after left at now w way forgets =
        let old = (come (rest ++ added) (length rest) refl refl).made_so_far in
        let new = way.made_so_far in
        let one = old.line in
        let two = new.line in
        let further = last old.values new.values (u.input ++ added) (rest ++ added) left old.first new.first
        way.unended in
        record {
          input = u.input ++ added;
          seen = forgotten_on v w line at (bytes ++ piece) (u.input ++ added) (omega arith) seen forgets;
          way = way;
        }

  -- ---- the input has ended

  pub come_last : (new : List ℕ) → new ≡ rest ++ q.front
      → HasCome form (u.input ++ q.front) c d made new line tested (length rest)
  come_last new grown = come_at form u.input c d made rest line tested u.way q.front new (length rest) grown refl

  last_plain : plain (bytes ++ []) ≡ (u.input ++ q.front) ++ []
  last_plain = ap plain (append-nil bytes) ∙ seen_plain q line bytes u.input u.seen
      ∙ sym (append-nil (u.input ++ q.front))

  from_last : RefusedAfter → (text : List ℕ) (fault : MakeFault) → Makes form (plain (bytes ++ [])) text (Err fault)
      → IsFrom line fault
  from_last after text fault makes =
      let m = (come_last (rest ++ q.front) refl).made_so_far in
      let is = last_plain ∙ append-nil (u.input ++ q.front) in
      subst (λ n. IsFrom n fault) (sym m.line)
      (after form m.values (u.input ++ q.front) (rest ++ q.front) text fault m.first m.few
      (subst (λ t. Makes form t text (Err fault)) is makes))

  some_last : u.input ++ q.front ≢ [] → bytes ≢ []
  some_last some none =
      some (sym (seen_plain q line bytes u.input u.seen) ∙ ap plain none)

  pub ended : RefusedAfter → (e : Option (List ℕ)) (r : Result (Unit {0}) MakeFault)
      → GivesMade form (u.input ++ q.front) [] c e r → GivesTexts form bytes [] c e (ending_at (own_at q) r)
  ended after e r gives =
      gives_lines form bytes [] (u.input ++ q.front) [] last_plain (own_at q) line
      (seen_lines q line bytes u.input u.seen) (from_last after) c e some_last r gives
