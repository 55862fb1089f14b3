use Rattle.std.proofs.Common.{◌≡◌, ◌∙◌, Bool, true, false, cond, bytes_eq, Option, Some, None, Err, refl, sym, ap}
use Rattle.std.proofs.Common.{subst}
use Rattle.std.specs.Bool.{MatchBool}
use Rattle.std.specs.Prelude.{option_and_then}
use Rattle.std.specs.Str.Parse.{ParsesBool, false_text, true_text}
use Rattle.std.proofs.lemmas.Slice.Eq.{bytes_eq-Decides}
use Rattle.clap.proofs.WalkLemmas.{one_text-rows}
use Rattle.clap.specs.Words.{ReadsOne, Text, found_of, one_text}
use Rattle.capn_args.proofs.ReadValues.{read_some, read_there}
use Rattle.capn_args.specs.OptionValues.{flag_text, flag_value}
use Rattle.capn_args.proofs.option_values.flag_of.Goals as goal

text_of : (text : Text) (given : Bool) → MatchBool given (text ≡ true_text) (text ≡ false_text) → text ≡ flag_text given
text_of text true is = is
text_of text false is = is

not_refused : (E : Type 0) (text : Text) (given : Bool) (e : E) → text ≡ flag_text given
    → ParsesBool {E = E} text (Err e) → ⊥
not_refused E text true e is parses = parses.0 is
not_refused E text false e is parses = parses.1 is

pub returns-clause-read : goal.returns-clause-read
returns-clause-read c =
    let m = found_of c.args.matches.now in
    let got = read_some (λ bs r. ParsesBool bs r) (one_text m c.args.id.now) c.get_one.result c.in_ok-given.given
    c.get_one.ensures.none c.get_one.ensures.value c.in_ok-given.was in
    sym (one_text-rows m c.args.id.now) ∙ got.1 ∙ ap (λ (t : Text). Some t) (text_of got.0 c.in_ok-given.given got.2)

pub returns-in_err-given-clause-served : goal.returns-in_err-given-clause-served
returns-in_err-given-clause-served c given is =
    let m = found_of c.args.matches.now in
    absurd (read_there (λ bs r. ParsesBool bs r) (one_text m c.args.id.now) c.get_one.result (flag_text given)
    (one_text-rows m c.args.id.now ∙ is) c.get_one.ensures.value
    (λ e gives. not_refused _ (flag_text given) given e refl gives) c.in_err-given.was)

valued : (given : Bool) → flag_value (flag_text given) ≡ Some given
valued true = refl
valued false = refl

is_false : (b : Bool) → (b ≡ true → ⊥) → b ≡ false
is_false true never = absurd (never refl)
is_false false never = refl

-- A text other than `true` and `false` stands for no flag.
no_value : (text : Text) → (text ≡ true_text → ⊥) → (text ≡ false_text → ⊥) → flag_value text ≡ None
no_value text never nor =
    ap (λ (b : Bool). cond b (Some true) (cond (bytes_eq text false_text) (Some false) None))
    (is_false (bytes_eq text true_text) (λ e. never ((bytes_eq-Decides text true_text).0 e)))
    ∙ ap (λ (b : Bool). cond b (Some false) None)
    (is_false (bytes_eq text false_text) (λ e. nor ((bytes_eq-Decides text false_text).0 e)))

-- If the result `r` of reading `o` as a flag is `None`, `o` is `None`, or a text that stands for no flag.
not_read : (E : Type 0) (o : Option Text) (r : Option Bool)
    → ((t : Text) → o ≡ Some t → ReadsOne (ParsesBool {E = E}) t r) → r ≡ None → option_and_then flag_value o ≡ None
not_read E None r reads e = refl
not_read E (Some t) r reads e =
    let got = subst (λ (x : Option Bool). ReadsOne (ParsesBool {E = E}) t x) e (reads t refl) in
    no_value t got.1.0 got.1.1

pub returns-clause-value : goal.returns-clause-value
returns-clause-value c = sym (ap (option_and_then flag_value) (returns-clause-read c) ∙ valued c.in_ok-given.given)

pub returns-in_err-given-clause-value : goal.returns-in_err-given-clause-value
returns-in_err-given-clause-value c =
    let m = found_of c.args.matches.now in
    c.from_residual.ensures
    ∙ sym (ap (option_and_then flag_value) (sym (one_text-rows m c.args.id.now))
    ∙ not_read _ (one_text m c.args.id.now) c.get_one.result c.get_one.ensures.value c.in_err-given.was)
