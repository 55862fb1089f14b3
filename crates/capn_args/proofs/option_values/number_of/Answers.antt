use Rattle.std.proofs.Common.{◌∙◌, ℕ, ◌<◌, ◌^◌, sym, subst}
use Rattle.std.specs.Str.Parse.{ParsesUnsigned, ExplainsUnsignedError, HasUnsignedDigitsIfOk}
use Rattle.clap.proofs.WalkLemmas.{one_text-rows}
use Rattle.clap.specs.Words.{found_of, one_text}
use Rattle.capn_args.proofs.ReadValues.{read_some, read_there}
use Rattle.capn_args.proofs.option_values.number_of.Goals as goal

pub returns-clause-read : goal.returns-clause-read
returns-clause-read c =
    let m = found_of c.args.matches.now in
    let got = read_some (λ bs r. ParsesUnsigned 64 10 bs r × ExplainsUnsignedError 10 bs r
    × HasUnsignedDigitsIfOk bs r) (one_text m c.args.id.now) c.get_one.result c.in_ok-number.number
    c.get_one.ensures.none c.get_one.ensures.value c.in_ok-number.was in
    (got.0, sym (one_text-rows m c.args.id.now) ∙ got.1, got.2.0.0.0, got.2.0.1)

pub returns-in_err-number-clause-served : goal.returns-in_err-number-clause-served
returns-in_err-number-clause-served c n (text, is, numeral, value) small =
    let m = found_of c.args.matches.now in
    absurd (read_there (λ bs r. ParsesUnsigned 64 10 bs r × ExplainsUnsignedError 10 bs r
    × HasUnsignedDigitsIfOk bs r) (one_text m c.args.id.now) c.get_one.result
    text (one_text-rows m c.args.id.now
    ∙ is) c.get_one.ensures.value (λ e gives. gives.0 (numeral, subst (λ (k : ℕ). k < 2 ^ 64) value small))
    c.in_err-number.was)
