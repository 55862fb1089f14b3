-- Lemmas for `run_explain`: a run that keeps its lines until the end has written nothing if it ends with `Memory`.
use Rattle.std.proofs.Common.{◌≡◌, inl, inr, ℕ, List, [], ◌∷◌, ◌++◌, take, Bool, true, false, Option, None, Some}
use Rattle.std.proofs.Common.{Ok, Err, refl, ap, sym, subst, ◌∙◌}
use Rattle.std.proofs.Math.Seq.{take-nil}
use Rattle.std.specs.Io.KnownBytes.{Appends}
use Rattle.std.proofs.KnownBytes.{Appends-trans}
use Rattle.capn_walk.specs.declared.walk_answer.Stopped.{Stopped}
use Rattle.capn_canon.specs.declared.form.Form.{Form}
use Rattle.capn_canon.specs.declared.form.Form.TheVariants as forms
use Rattle.capn_canon.specs.declared.refusal.Refusal.{Refusal}
use Rattle.capn_serve.specs.declared.position.Position.{Position}
use Rattle.capn_serve.specs.declared.service.Run.{Run}
use Rattle.capn_serve.specs.declared.fault.RunFault.{RunFault}
use Rattle.capn_serve.specs.declared.fault.RunFault.TheVariants as faults
use Rattle.capn_serve.specs.Finish.{Ends, PutsLast, PutsText, answer, last_text}
use Rattle.capn_serve.specs.Fold.{AreServed, Part, texts_of}
use Rattle.capn_serve.specs.FormRun.{HasWritten}
use Rattle.capn_serve.specs.WhatCame.{Came}
use Rattle.capn_serve.proofs.shared.Finishes.{finished}
use Rattle.capn_explain.specs.ExplainRun.{Explained, closing, closing_by, ending_by, explain_finish, explain_fold}
use Rattle.capn_explain.specs.ExplainRun.{first_run, rest_ending, rest_text, told}
use Rattle.capn_explain.specs.Reports.{First, Reporting, ServesBy, TellsAcceptedBy, after_refused, order_of}
use Rattle.capn_explain.specs.Reports.{refused_text, wanted_of}
use Rattle.capn_explain.specs.declared.explain.Explain.{Explain}
use Rattle.capn_explain.specs.declared.order.Order.{Order}
use Rattle.capn_explain.specs.declared.order.Wanted.{Wanted}
use Rattle.capn_explain.specs.declared.order.Wanted.TheVariants as wants
use Rattle.capn_explain.specs.declared.outcome.Outcome.{Outcome}
use Rattle.capn_explain.specs.declared.outcome.Outcome.TheVariants as outcomes
use Rattle.capn_explain.proofs.Closings.{Ending, stopped}
use Rattle.capn_explain.proofs.Faithful.{explain_faithful}

-- ---- a message writes nothing

-- No text is written for a refused message during the loop.
abbrev pub KeepsLines : Wanted → Type 0
KeepsLines w = (lines : List ℕ) → refused_text w lines ≡ []

-- `text` is empty, and the options of the states are the same.
abbrev IsQuiet : Reporting → List ℕ → Reporting → Type 0
IsQuiet s text t = (text ≡ []) × (t.order ≡ s.order)

refused_quiet : (w : Wanted) (s t : Reporting) (at : Position) (stopped : Stopped) (lines text : List ℕ) → KeepsLines w
    → text ≡ refused_text w lines → t ≡ after_refused w s at stopped lines → IsQuiet s text t
refused_quiet wants.First s t at stopped lines text kept is same =
    (is, ap (λ (x : Reporting). x.order) same)
refused_quiet (wants.Number number) s t at stopped lines text kept is same =
    (is, ap (λ (x : Reporting). x.order) same)
refused_quiet wants.Each s t at stopped lines text kept is same =
    (is ∙ kept lines, ap (λ (x : Reporting). x.order) same)

accepted_quiet : (w : Wanted) (s t : Reporting) (at : Position) (message : List (List ℕ)) (text : List ℕ)
    → TellsAcceptedBy w s at message text t → IsQuiet s text t
accepted_quiet (wants.Number number) s t at message text (lines, told, none, same) =
    (none, ap (λ (x : Reporting). x.order) same)
accepted_quiet wants.First s t at message text (first, accepted, is, none, same) =
    (none, ap (λ (x : Reporting). x.order) same)
accepted_quiet wants.Each s t at message text (first, accepted, is, none, same) =
    (none, ap (λ (x : Reporting). x.order) same)

message_quiet : (is_before : Bool) (s t : Reporting) (at : Position) (message : List (List ℕ)) (text : List ℕ)
    → KeepsLines s.order.wanted → ServesBy is_before s at message text t → IsQuiet s text t
message_quiet true s t at message text kept (none, same) = (none, ap (λ (x : Reporting). x.order) same)
message_quiet false s t at message text kept (inl (stopped, lines, told, is, same)) =
    refused_quiet s.order.wanted s t at stopped lines text kept is same
message_quiet false s t at message text kept (inr told) = accepted_quiet s.order.wanted s t at message text told

messages_none : (order : Order) (x : Run Reporting) (parts : List Part) (y : Run Reporting)
    → KeepsLines x.service.order.wanted → AreServed (explain_fold order) x parts y → texts_of parts ≡ []
messages_none order x [] y kept served = refl
messages_none order x (p ∷ ps) y kept (mid, part, step, rest) =
    let first = message_quiet _ x.service mid.service x.at p.message p.text kept step.0 in
    let still = subst (λ (o : Order). KeepsLines o.wanted) (sym first.1) kept in
    let others = messages_none order mid ps y still rest in
    λ i. first.0 i ++ others i

begun_none : (c d : Option (List ℕ)) (text : List ℕ) (count : ℕ) → text ≡ [] → Appends c d (take count text)
    → Appends c d []
begun_none c d text count none wrote =
    subst (Appends c d) (ap (λ (l : List ℕ). take count l) none ∙ take-nil count) wrote

pub served_none : (order : Order) (x : Run Reporting) (form : Form) (bytes : List ℕ) (c d : Option (List ℕ))
    → KeepsLines x.service.order.wanted → HasWritten (explain_fold order) x form bytes c d → Appends c d []
served_none order x forms.Stream bytes c d kept (parts, rest, y, count, are, wrote) =
    begun_none c d (texts_of parts) count (messages_none order x parts y kept are.each) wrote
served_none order x forms.Packed bytes c d kept (stream, begins, parts, rest, y, count, are, wrote) =
    begun_none c d (texts_of parts) count (messages_none order x parts y kept are.each) wrote
served_none order x forms.Bare bytes c d kept (inl wrote) = wrote
served_none order x forms.Bare bytes c d kept (inr (text, y, count, (words, is, step), wrote)) =
    begun_none c d text count (message_quiet _ x.service y.service x.at (words ∷ []) text kept step.0).0 wrote

-- ---- the end writes nothing

rest_none : (w : Wanted) (first : Option First) (count : ℕ) → rest_ending w first ≡ Err faults.Memory
    → rest_text w first count ≡ []
rest_none (wants.Number number) first count is = absurd (cc)
rest_none wants.First (Some (Ok text)) count is = absurd (cc)
rest_none wants.First (Some (Err memory)) count is = refl
rest_none wants.First None count is = absurd (cc)
rest_none wants.Each (Some (Ok text)) count is = absurd (cc)
rest_none wants.Each (Some (Err memory)) count is = refl
rest_none wants.Each None count is = absurd (cc)

closing_none : (outcome : Outcome) (lines : List ℕ) (w : Wanted) (first : Option First) (count : ℕ)
    → ending_by outcome w first ≡ Err faults.Memory → closing_by outcome lines w first count ≡ []
closing_none outcomes.Nothing lines w first count is = rest_none w first count is
closing_none (outcomes.Skipped s) lines w first count is = refl
closing_none (outcomes.Refused at s) lines w first count is = absurd (cc)
closing_none outcomes.Accepted lines w first count is = absurd (cc)

nothing_then : (c m d : Option (List ℕ)) → Appends c m [] → d ≡ m → Appends c d []
nothing_then c m d wrote same = subst (λ (n : Option (List ℕ)). Appends c n []) (sym same) wrote

-- Case: if an allocation was refused for `text`, nothing was written.
unclosed_none : (text : List ℕ) (c m d : Option (List ℕ)) (after : Bool) (fault : RunFault) → Appends c m []
    → PutsText text m d after (stopped fault) → stopped fault ≡ Err faults.Memory → Appends c d []
unclosed_none text c m d after fault wrote (some, inl (memory, same, fine)) is = nothing_then c m d wrote same
unclosed_none text c m d after fault wrote (some, inr (io, begun, failed)) is =
    let k : stopped faults.Io ≡ Err faults.Memory = sym (ap stopped io) ∙ is in
    absurd (cc)

module _ (c m d : Option (List ℕ)) (before after : Bool) (y : Run Reporting) (came : Came) (quiet : Appends c m [])
  where
    none_by : (served put : Ending) → PutsLast served (last_text explain_finish served y came) m d before after put
        → answer explain_finish served put y ≡ Err faults.Memory → Appends c d []
    none_by (Ok u) (Ok v) (closed, fine) is =
        let s = y.service in
        Appends-trans c m d [] [] quiet
        (subst (Appends m d) (closing_none s.outcome s.lines s.order.wanted s.first y.at.index is) closed)
    none_by (Ok u) (Err fault) put is = unclosed_none (closing y.service y.at) c m d after fault quiet put is
    none_by (Err (faults.Refused at r)) (Ok v) put is = absurd (cc)
    none_by (Err (faults.Refused at r)) (Err fault) put is =
        unclosed_none (told y.service at r came) c m d after fault quiet put is
    none_by (Err faults.Memory) put (done, same, fine) is = nothing_then c m d quiet same
    none_by (Err faults.Io) put (done, same, fine) is = nothing_then c m d quiet same
    none_by (Err faults.InputTooLong) put (done, same, fine) is = nothing_then c m d quiet same

-- A run that writes no text for a refused message during the loop has written nothing if it ends with `Memory`.
pub nothing_written : (order : Order) → KeepsLines order.wanted → (a b c d : Option (List ℕ)) (reader writer : Bool)
    (r : Ending) → Ends (explain_fold order) (first_run order) explain_finish order.form a b c d reader writer r
    → r ≡ Err faults.Memory → Appends c d []
nothing_written order kept a b c d reader writer r ends is =
    let quiet = served_none order (first_run order) order.form ends.loop.begun.bytes c ends.middle kept
    ends.loop.begun.written in
    none_by c ends.middle d ends.failed writer ends.last ends.came quiet ends.served ends.put ends.puts
    (sym ends.is ∙ is)

kept_of : (number : Option ℕ) → KeepsLines (wanted_of number)
kept_of (Some number) lines = refl
kept_of None lines = refl

pub explained : (explain : Explain) (a b c d : Option (List ℕ)) (reader writer : Bool) (r : Ending)
    → Ends (explain_fold (order_of explain)) (first_run (order_of explain)) explain_finish explain.form a b c d reader
    writer r → Explained explain a b c d reader writer r
explained explain a b c d reader writer r ends =
    let order = order_of explain in
    record {
      run = finished (explain_fold order) (first_run order) explain_finish (explain_faithful order) explain.form a b c d
          reader writer r ends;
      nothing = λ is. nothing_written order (kept_of explain.number) a b c d reader writer r ends is;
    }
