use Rattle.std.proofs.Common.{◌≡◌, ◌+◌, ◌-◌, zero, suc, [], refl, arith, sym, subst, ◌∙◌}
use Rattle.capn_text.specs.Quoted.{IsOwnBy}
use Rattle.capn_text.proofs.PlainTexts.{is_plain, plain_is}
use Rattle.capn_text.proofs.OwnLines.{own_by}
use Rattle.capn_text.specs.PlainForm.{plain, count_to, digits_after}
use Rattle.capn_text.proofs.ShownPlain.{stream_kept}
use Rattle.capn_text.proofs.laws.plain_forms.Goals as goal

pub returns-clause-shown : goal.returns-clause-shown
returns-clause-shown c vs each = stream_kept vs each

pub returns-clause-one : goal.returns-clause-one
returns-clause-one c text a b fits (xs, x) (ys, y) = is_plain xs text a fits x ∙ sym (is_plain ys text b fits y)

pub returns-clause-found : goal.returns-clause-found
returns-clause-found c text fits = plain_is [] text refl (omega arith)

pub returns-clause-own : goal.returns-clause-own
returns-clause-own c text zero fits some = absurd (omega arith)
returns-clause-own c text (suc i) fits some =
    let p = plain_is [] text refl (omega arith) in
    let same : 1 + i ≡ suc i = omega arith in (
      p.0,
      plain text,
      p.1,
      subst (λ m. IsOwnBy p.0 (suc i) (suc i - count_to m (digits_after 1 [] text))) same
          (own_by p.0 text (plain text) 1 i fits p.1),
    )
