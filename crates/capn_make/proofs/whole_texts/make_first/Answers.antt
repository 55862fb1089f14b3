use Rattle.std.proofs.Common.{inl, ℕ, Err, ◌++◌, ap, sym, subst, ◌∙◌, append_assoc}
use Rattle.std.proofs.lemmas.Result.{err_from_is_err_and}
use Rattle.capn_canon.specs.declared.form.Form.TheVariants as forms
use Rattle.capn_text.specs.Streams.{Place}
use Rattle.capn_make.specs.inner.RunParts.{GoesOn}
use Rattle.capn_make.specs.declared.fault.MakeFault.TheVariants as faults
use Rattle.capn_make.proofs.NextTexts.{text_left, kept_for, end_tells}
use Rattle.capn_make.proofs.OneText.{later_line, no_text, ends_for_a_reason, first_refused, first_made}
use Rattle.capn_make.proofs.whole_texts.make_first.Goals as goal

pub returns-in_err-piece-clause-made : goal.returns-in_err-piece-clause-made
returns-in_err-piece-clause-made g c = λ input written h.
    let p = err_from_is_err_and c.from_residual.result c.from_residual.ensures.1 in
    rw (p.1, p.2) (first_refused input c.args.texts.now (written ++ c.args.made.now.items) h ℕ c.next_piece.new.texts
    c.in_err-piece.field-0.0 c.requires.first c.in_err-piece.ensures.made)

pub returns-in_default-clause-made : goal.returns-in_default-clause-made
returns-in_default-clause-made g c = λ input written h.
    let next = rw c.in_default.is at c.in_ok-piece.ensures.made in
    subst (λ p. GoesOn forms.Bare input p (written ++ c.args.made.now.items) (Err faults.NoText)) (sym next.1)
    (no_text input c.args.texts.now (written ++ c.args.made.now.items) h c.requires.first next.0)

pub returns-clause-made : goal.returns-clause-made
returns-clause-made g c = λ input written h.
    let next = rw c.in-Some.is at c.in_ok-piece.ensures.made in
    let items = c.in_ok-extend_from_slice.ensures.items ∙ ap (λ t. c.args.made.now.items ++ t) c.deref.ensures.value in
    let all = ap (λ t. written ++ t) items ∙ sym (append_assoc written c.args.made.now.items c.in-Some.piece.items) in
    first_made _ input c.args.texts.now c.next_piece.new.texts (written ++ c.args.made.now.items) _ c.in-Some.piece h
    c.requires.first next all c.end_of_one.result c.end_of_one.ensures.end

pub returns-in_err-extend_from_slice-clause-memory : goal.returns-in_err-extend_from_slice-clause-memory
returns-in_err-extend_from_slice-clause-memory g c = λ refused.
    let next = rw c.in-Some.is at c.in_ok-piece.ensures.made in
    text_left next.0 _ _ next.2

pub returns-clause-memory : goal.returns-clause-memory
returns-clause-memory g c = λ refused.
    absurd (ends_for_a_reason c.next_piece.new.texts c.end_of_one.result c.end_of_one.ensures.end refused)

pub returns-in_err-piece-clause-cut : goal.returns-in_err-piece-clause-cut
returns-in_err-piece-clause-cut g c =
    let p = err_from_is_err_and c.from_residual.result c.from_residual.ensures.1 in
    rw (p.1, p.2) (λ n is.
    let t = c.in_err-piece.ensures.cut n is in
    let same = kept_for ℕ forms.Bare c.args.texts.now c.next_piece.new.texts c.in_err-piece.field-0.0 n
    c.in_err-piece.ensures.made is in
    let first = ap (λ (p : Place). p.line) same ∙ c.requires.first in (
      λ cut. (inl (λ b. first, (t.0 cut).0), (t.0 cut).1),
      λ cut. inl (λ b. first, t.1 cut),
    ))

pub returns-clause-cut : goal.returns-clause-cut
returns-clause-cut g c =
    let next = rw c.in-Some.is at c.in_ok-piece.ensures.made in
    end_tells c.next_piece.new.texts c.end_of_one.new.cut c.end_of_one.result
    (later_line next.0 c.args.texts.now c.next_piece.new.texts next.2 next.4 c.requires.first) c.end_of_one.ensures.cut
