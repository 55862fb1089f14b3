use Rattle.std.proofs.Common.{◌≡◌, sym, ap, ◌∙◌, List, Option, Some, None, ℕ, codes, unwrap_or, option_map, Bor}
use Rattle.clap.proofs.WalkLemmas.{first_value-rows}
use Rattle.clap.specs.Words.{found_of, Text}
use Rattle.capn_canon.specs.declared.form.Form.{Form}
use Rattle.capn_canon.specs.declared.form.Form.TheVariants as forms
use Rattle.capn_args.specs.OptionValues.{form_name}
use Rattle.capn_args.proofs.input_options.form_of.Goals as goal

pub returns-in-stream-clause-named : goal.returns-in-stream-clause-named
returns-in-stream-clause-named c = sym (first_value-rows (found_of c.args.matches.now) (codes "form"))
    ∙ (sym c.in_ok-get_str.ensures ∙ ap (λ (t : List ℕ). Some t) c.in-stream.is)

pub returns-in-packed-clause-named : goal.returns-in-packed-clause-named
returns-in-packed-clause-named c = sym (first_value-rows (found_of c.args.matches.now) (codes "form"))
    ∙ (sym c.in_ok-get_str.ensures ∙ ap (λ (t : List ℕ). Some t) c.in-packed.is)

pub returns-in-bare-clause-named : goal.returns-in-bare-clause-named
returns-in-bare-clause-named c = sym (first_value-rows (found_of c.args.matches.now) (codes "form"))
    ∙ (sym c.in_ok-get_str.ensures ∙ ap (λ (t : List ℕ). Some t) c.in-bare.is)

pub returns-in_err-get_str-clause-served : goal.returns-in_err-get_str-clause-served
returns-in_err-get_str-clause-served c form named =
    let bad : None ≡ Some (form_name form) = ap (option_map (λ (s : Bor (List ℕ)). s.now)) (sym c.in_err-get_str.was)
    ∙ (c.get_str.ensures ∙ (first_value-rows (found_of c.args.matches.now) (codes "form") ∙ named)) in
    absurd cc

abbrev text_in : Option Text → Text
text_in text = unwrap_or text (codes "")

none_named : (text : Text) → (text ≡ codes "stream" → ⊥) → (text ≡ codes "packed" → ⊥) → (text ≡ codes "bare" → ⊥)
    → (form : Form) → text ≡ form_name form → ⊥
none_named text not_stream not_packed not_bare forms.Stream is = not_stream is
none_named text not_stream not_packed not_bare forms.Packed is = not_packed is
none_named text not_stream not_packed not_bare forms.Bare is = not_bare is

pub returns-in_default-clause-served : goal.returns-in_default-clause-served
returns-in_default-clause-served c form named =
    absurd (none_named _ c.in_default.not-stream c.in_default.not-packed c.in_default.not-bare form
    (ap text_in (c.in_ok-get_str.ensures
    ∙ (first_value-rows (found_of c.args.matches.now) (codes "form") ∙ named))))
