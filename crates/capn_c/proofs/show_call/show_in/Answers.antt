-- An accepted message has only one text in each style, and its only error is `Memory`.
use Rattle.std.proofs.Common.{rules, List, ℕ, inl, inr, ap, subst, ◌∙◌, Err}
use Rattle.capn_canon.proofs.shared.NotUnaccepted.{not_unaccepted}
use Rattle.capn_show.specs.declared.style.Style.{Style}
use Rattle.capn_abi.specs.Calls.{Delivers}
use Rattle.capn_abi.specs.StatusCodes.{code}
use Rattle.capn_c.specs.Shown.{message_text}
use Rattle.capn_c.proofs.Reported.{unaccepted_bytes}
use Rattle.capn_c.proofs.Shown.{text_only}
use Rattle.capn_c.proofs.show_call.show_in.Goals as goal

pub returns-in-Ok-clause-only : goal.returns-in-Ok-clause-only
returns-in-Ok-clause-only c is v d =
    let told : Delivers c.in-Ok.shown.text.items c.deliver.result c.answer_of.result.length c.args.out.now
    c.deliver.new.out = search rules in
    inr (subst (λ (b : List ℕ). Delivers b c.deliver.result c.answer_of.result.length c.args.out.now c.deliver.new.out)
    (text_only c.args.form c.args.bytes.now c.args.limits c.in-Some.style c.in-Ok.shown.text.items
    c.in-Ok.ensures.found v d ∙ ap (λ (s : Style). message_text s v) c.in-Some.ensures.value) told)

pub returns-in-Err-clause-only : goal.returns-in-Err-clause-only
returns-in-Err-clause-only c is v d =
    inl (c.refuse.ensures.status_is ∙ ap code
    (not_unaccepted c.args.form c.args.bytes.now c.args.limits v c.in-Err.refusal d c.in-Err.ensures.refused))

pub returns-in-Err-clause-reported : goal.returns-in-Err-clause-reported
returns-in-Err-clause-reported c =
    let h = c.in-Err.ensures in
    unaccepted_bytes c.args.form c.args.bytes.now c.args.limits c.refuse.result c.refuse.new.report c.in-Err.refusal
    c.refuse.ensures h.bounded (λ k. h.memory (ap Err k)) h.refused
