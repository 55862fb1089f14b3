use Rattle.std.proofs.Common.{◌≡◌, sym, ap, ◌∙◌, List, Option, Some, None, ℕ, codes, unwrap_or, option_map, Bor}
use Rattle.clap.proofs.WalkLemmas.{first_value-rows}
use Rattle.clap.specs.Words.{found_of, Text}
use Rattle.capn_value.specs.declared.tariff.Tariff.{Tariff}
use Rattle.capn_value.specs.declared.tariff.Tariff.TheVariants as tariffs
use Rattle.capn_args.specs.OptionValues.{tariff_name}
use Rattle.capn_args.proofs.input_options.tariff_of.Goals as goal

pub returns-in-strict-clause-named : goal.returns-in-strict-clause-named
returns-in-strict-clause-named c = sym (first_value-rows (found_of c.args.matches.now) (codes "tariff"))
    ∙ (sym c.in_ok-get_str.ensures ∙ ap (λ (t : List ℕ). Some t) c.in-strict.is)

pub returns-in-plain-clause-named : goal.returns-in-plain-clause-named
returns-in-plain-clause-named c = sym (first_value-rows (found_of c.args.matches.now) (codes "tariff"))
    ∙ (sym c.in_ok-get_str.ensures ∙ ap (λ (t : List ℕ). Some t) c.in-plain.is)

pub returns-in_err-get_str-clause-served : goal.returns-in_err-get_str-clause-served
returns-in_err-get_str-clause-served c tariff named =
    let bad : None ≡ Some (tariff_name tariff) =
    ap (option_map (λ (s : Bor (List ℕ)). s.now)) (sym c.in_err-get_str.was)
    ∙ (c.get_str.ensures ∙ (first_value-rows (found_of c.args.matches.now) (codes "tariff") ∙ named)) in
    absurd cc

abbrev text_in : Option Text → Text
text_in text = unwrap_or text (codes "")

none_named : (text : Text) → (text ≡ codes "strict" → ⊥) → (text ≡ codes "plain" → ⊥) → (tariff : Tariff)
    → text ≡ tariff_name tariff → ⊥
none_named text not_strict not_plain tariffs.Strict is = not_strict is
none_named text not_strict not_plain tariffs.Plain is = not_plain is

pub returns-in_default-clause-served : goal.returns-in_default-clause-served
returns-in_default-clause-served c tariff named =
    absurd (none_named _ c.in_default.not-strict c.in_default.not-plain tariff
    (ap text_in (c.in_ok-get_str.ensures
    ∙ (first_value-rows (found_of c.args.matches.now) (codes "tariff") ∙ named))))
