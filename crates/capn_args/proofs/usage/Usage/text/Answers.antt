use Rattle.std.proofs.Common.{◌≡◌, ◌++◌, List, ℕ, true, false, ap, sym, ◌∙◌, string_bytes}
use Rattle.std.proofs.lemmas.Result.{IfOk-from_err}
use Rattle.capn_args.specs.Usage.{IsHelp, help_title}
use Rattle.capn_args.proofs.usage.Usage.text.Goals as goal

helps : (whole title said : List ℕ) → title ≡ help_title → whole ≡ title ++ said → IsHelp whole
helps whole title said is joined = (said, joined ∙ ap (λ (l : List ℕ). l ++ said) is)

pub returns-in_err-said : goal.returns-in_err-said
returns-in_err-said g c = λ help. IfOk-from_err c.from_residual.result _ c.from_residual.ensures.0

pub returns-then-not-is_help : goal.returns-then-not-is_help
returns-then-not-is_help g c =
    λ help. absurd (let bad : true ≡ false = sym (c.is_help.ensures.1 help) ∙ c.if-not-is_help.true in cc)

pub returns-in_err-text : goal.returns-in_err-text
returns-in_err-text g c =
    λ help. IfOk-from_err c.from_residual-in_err-text.result _ c.from_residual-in_err-text.ensures.0

pub returns-in_err-push_str : goal.returns-in_err-push_str
returns-in_err-push_str g c =
    λ help. IfOk-from_err c.from_residual-in_err-push_str.result _ c.from_residual-in_err-push_str.ensures.0

pub returns : goal.returns
returns g c =
    λ help. helps (string_bytes c.push_str.new.self) (string_bytes c.in_ok-text.text) c.as_str.result.now
    c.in_ok-text.ensures.ok c.in_ok-push_str.ensures.bytes
