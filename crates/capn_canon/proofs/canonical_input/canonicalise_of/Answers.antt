-- The clauses on the bytes follow from the clauses `found` and `refused`, by the laws of canonical forms.
use Rattle.std.proofs.Common.{arith}
use Rattle.capn_canon.proofs.calls.InEachForm.{found_only, found_short, found_form}
use Rattle.capn_canon.proofs.calls.ReadInput.{canonicalised}
use Rattle.std.proofs.lemmas.Result.{IfOk-weaker}
use Rattle.capn_canon.proofs.theorem.TheTheorem.{answered, equal_exactly, own_form, within_budget}
use Rattle.capn_canon.proofs.canonical_input.canonicalise_of.Goals as goal

pub returns-clause-found : goal.returns-clause-found
returns-clause-found g c =
    let told = canonicalised c.args.form (g.B.AskedInput.bytes c.args.bytes) c.args.limits
    c.ask_message-answer.result.0 _ _ _ _ c.ask_message-answer.ensures in
    told.found

pub returns-clause-refused : goal.returns-clause-refused
returns-clause-refused g c =
    let told = canonicalised c.args.form (g.B.AskedInput.bytes c.args.bytes) c.args.limits
    c.ask_message-answer.result.0 _ _ _ _ c.ask_message-answer.ensures in
    told.refused

pub returns-clause-memory : goal.returns-clause-memory
returns-clause-memory g c =
    let told = canonicalised c.args.form (g.B.AskedInput.bytes c.args.bytes) c.args.limits
    c.ask_message-answer.result.0 _ _ _ _ c.ask_message-answer.ensures in
    told.wanted

pub returns-clause-bounded : goal.returns-clause-bounded
returns-clause-bounded g c =
    let told = canonicalised c.args.form (g.B.AskedInput.bytes c.args.bytes) c.args.limits
    c.ask_message-answer.result.0 _ _ _ _ c.ask_message-answer.ensures in
    told.bounded

pub returns-clause-only : goal.returns-clause-only
returns-clause-only g c =
    let told = canonicalised c.args.form (g.B.AskedInput.bytes c.args.bytes) c.args.limits
    c.ask_message-answer.result.0 _ _ _ _ c.ask_message-answer.ensures in
    found_only c.ask_message-answer.result.0 _ _ c.args.form (g.B.AskedInput.bytes c.args.bytes) c.args.limits
    told.found told.refused

pub returns-clause-short : goal.returns-clause-short
returns-clause-short g c =
    let told = canonicalised c.args.form (g.B.AskedInput.bytes c.args.bytes) c.args.limits
    c.ask_message-answer.result.0 _ _ _ _ c.ask_message-answer.ensures in
    found_short c.ask_message-answer.result.0 _ _ c.args.form (g.B.AskedInput.bytes c.args.bytes) c.args.limits (omega
    arith) (omega arith)
    (omega arith) told.found

pub returns-clause-reads_back : goal.returns-clause-reads_back
returns-clause-reads_back g c =
    let told = canonicalised c.args.form (g.B.AskedInput.bytes c.args.bytes) c.args.limits
    c.ask_message-answer.result.0 _ _ _ _ c.ask_message-answer.ensures in
    found_form c.ask_message-answer.result.0 _ _ c.args.form (g.B.AskedInput.bytes c.args.bytes) c.args.limits _ (λ r
    v h. h.reads_back) (omega arith)
    (omega arith) (omega arith) told.found

pub returns-clause-pays : goal.returns-clause-pays
returns-clause-pays g c =
    let told = canonicalised c.args.form (g.B.AskedInput.bytes c.args.bytes) c.args.limits
    c.ask_message-answer.result.0 _ _ _ _ c.ask_message-answer.ensures in
    found_form c.ask_message-answer.result.0 _ _ c.args.form (g.B.AskedInput.bytes c.args.bytes) c.args.limits _ (λ r
    v h. h.pays) (omega arith)
    (omega arith) (omega arith) told.found

pub returns-clause-own : goal.returns-clause-own
returns-clause-own g c =
    let told = canonicalised c.args.form (g.B.AskedInput.bytes c.args.bytes) c.args.limits
    c.ask_message-answer.result.0 _ _ _ _ c.ask_message-answer.ensures in
    found_form c.ask_message-answer.result.0 _ _ c.args.form (g.B.AskedInput.bytes c.args.bytes) c.args.limits _ (λ r
    v h. h.own) (omega arith)
    (omega arith) (omega arith) told.found

pub returns-clause-exactly : goal.returns-clause-exactly
returns-clause-exactly g c =
    let told = canonicalised c.args.form (g.B.AskedInput.bytes c.args.bytes) c.args.limits
    c.ask_message-answer.result.0 _ _ _ _ c.ask_message-answer.ensures in
    found_form c.ask_message-answer.result.0 _ _ c.args.form (g.B.AskedInput.bytes c.args.bytes) c.args.limits _ (λ r
    v h. h.exactly) (omega arith)
    (omega arith) (omega arith) told.found

pub returns-clause-answered : goal.returns-clause-answered
returns-clause-answered g c =
    let told = canonicalised c.args.form (g.B.AskedInput.bytes c.args.bytes) c.args.limits
    c.ask_message-answer.result.0 _ _ _ _ c.ask_message-answer.ensures in
    answered c.args.form (g.B.AskedInput.bytes c.args.bytes) c.args.limits c.ask_message-answer.result.0 told.found
    told.refused

pub returns-clause-equal : goal.returns-clause-equal
returns-clause-equal g c =
    let told = canonicalised c.args.form (g.B.AskedInput.bytes c.args.bytes) c.args.limits
    c.ask_message-answer.result.0 _ _ _ _ c.ask_message-answer.ensures in
    IfOk-weaker c.ask_message-answer.result.0 _ _
    (λ x h. equal_exactly c.args.form (g.B.AskedInput.bytes c.args.bytes) c.args.limits (omega arith) (omega arith)
    (omega arith) _ _ h)
    told.found

pub returns-clause-second : goal.returns-clause-second
returns-clause-second g c =
    let told = canonicalised c.args.form (g.B.AskedInput.bytes c.args.bytes) c.args.limits
    c.ask_message-answer.result.0 _ _ _ _ c.ask_message-answer.ensures in
    IfOk-weaker c.ask_message-answer.result.0 _ _
    (λ x h. own_form c.args.form (g.B.AskedInput.bytes c.args.bytes) c.args.limits (omega arith) (omega arith)
    (omega arith) x h)
    told.found

pub returns-clause-within : goal.returns-clause-within
returns-clause-within g c =
    let told = canonicalised c.args.form (g.B.AskedInput.bytes c.args.bytes) c.args.limits
    c.ask_message-answer.result.0 _ _ _ _ c.ask_message-answer.ensures in
    within_budget c.args.form (g.B.AskedInput.bytes c.args.bytes) c.args.limits c.ask_message-answer.result.0
    told.found told.refused
