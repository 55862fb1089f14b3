use Rattle.std.proofs.Common.{◌≡◌, ◌∙◌, Option, Some, None, Bor, IfSome, IfNone, option_map, sym}
use Rattle.clap.proofs.WalkLemmas.{first_value-rows}
use Rattle.clap.specs.Words.{Text, found_of}
use Rattle.capn_args.proofs.option_values.text_in.Goals as goal

given : (o : Option (Bor Text)) (there : Option Text) → option_map (λ s. s.now) o ≡ there
    → IfSome o (λ text. there ≡ Some text.now)
given None there is = tt
given (Some text) there is = sym is

not_given : (o : Option (Bor Text)) (there : Option Text) → option_map (λ s. s.now) o ≡ there
    → IfNone o (there ≡ None)
not_given None there is = sym is
not_given (Some text) there is = tt

pub returns-clause-given : goal.returns-clause-given
returns-clause-given c =
    given c.get_str.result _ (c.get_str.ensures ∙ first_value-rows (found_of c.args.matches.now) c.args.id.now)

pub returns-clause-none : goal.returns-clause-none
returns-clause-none c =
    not_given c.get_str.result _ (c.get_str.ensures ∙ first_value-rows (found_of c.args.matches.now) c.args.id.now)
