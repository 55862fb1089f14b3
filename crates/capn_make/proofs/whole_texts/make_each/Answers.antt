use Rattle.std.proofs.Common.{◌≡◌, inl, ℕ, ◌++◌, Err, ap, sym, subst, ◌∙◌, append_assoc}
use Rattle.std.proofs.lemmas.Result.{err_from_is_err_and}
use Rattle.capn_make.specs.inner.RunParts.{HasMade}
use Rattle.capn_make.specs.declared.fault.MakeFault.TheVariants as faults
use Rattle.capn_make.proofs.NextTexts.{place_after, one_more, all_made, left_before, next_refused, text_left}
use Rattle.capn_make.proofs.whole_texts.make_each.Goals as goal

pub returns-in_err-piece-clause-after : goal.returns-in_err-piece-clause-after
returns-in_err-piece-clause-after g c =
    place_after c.args.texts.now c.texts.texts c.next_piece.new.texts c.texts.invariant.after
    c.in_err-piece.ensures.after

pub returns-in_err-piece-clause-made : goal.returns-in_err-piece-clause-made
returns-in_err-piece-clause-made g c = λ input written h.
    let p = err_from_is_err_and c.from_residual.result c.from_residual.ensures.1 in
    rw (p.1, p.2) (next_refused c.args.form input ℕ c.texts.texts c.next_piece.new.texts
    (written ++ c.texts.made.items) c.in_err-piece.field-0.0 c.requires.framed (c.texts.invariant.made input written h)
    c.in_err-piece.ensures.made)

pub returns-in_err-extend_from_slice-clause-after : goal.returns-in_err-extend_from_slice-clause-after
returns-in_err-extend_from_slice-clause-after g c =
    place_after c.args.texts.now c.texts.texts c.next_piece.new.texts c.texts.invariant.after
    c.in_ok-piece.ensures.after

pub texts-preserved : goal.texts-preserved
texts-preserved g c =
    let next = rw c.in-Some.is at c.in_ok-piece.ensures.made in
    let items = c.in_ok-extend_from_slice.ensures.items ∙ ap (λ t. c.texts.made.items ++ t) c.deref.ensures.value in
    record {
      after = place_after c.args.texts.now c.texts.texts c.next_piece.new.texts c.texts.invariant.after
          c.in_ok-piece.ensures.after;
      made = λ input written h.
          let all = ap (λ t. written ++ t) items
          ∙ sym (append_assoc written c.texts.made.items c.in-Some.piece.items) in
          subst (HasMade c.args.form input c.next_piece.new.texts) (sym all) (
          one_more c.args.form input _ c.texts.texts c.next_piece.new.texts (written ++ c.texts.made.items)
          c.in-Some.piece (c.texts.invariant.made input written h) next (λ e. absurd (c.requires.framed e))
          );
    }

pub returns-clause-made : goal.returns-clause-made
returns-clause-made g c = λ input written h.
    let next = rw c.in_default.is at c.in_ok-piece.ensures.made in
    all_made c.args.form input c.next_piece.new.texts (written ++ c.texts.made.items) tt c.requires.framed
    (subst (λ p. HasMade c.args.form input p (written ++ c.texts.made.items)) (sym next.1)
    (c.texts.invariant.made input written h)) (ap (λ p. p.rest) next.1 ∙ next.0)

pub returns-in_err-piece-clause-memory : goal.returns-in_err-piece-clause-memory
returns-in_err-piece-clause-memory g c =
    let p = err_from_is_err_and c.from_residual.result c.from_residual.ensures.1 in
    rw (p.1, p.2) (λ refused.
    let same : c.in_err-piece.field-0.0 ≡ faults.Memory = cc in
    left_before c.args.texts.now c.texts.texts c.texts.invariant.after
    (c.in_err-piece.ensures.memory (ap (λ e. Err e) same)))

pub returns-in_err-extend_from_slice-clause-memory : goal.returns-in_err-extend_from_slice-clause-memory
returns-in_err-extend_from_slice-clause-memory g c = λ refused.
    let next = rw c.in-Some.is at c.in_ok-piece.ensures.made in
    left_before c.args.texts.now c.texts.texts c.texts.invariant.after (text_left next.0 _ _ next.2)

pub returns-in_err-piece-clause-cut : goal.returns-in_err-piece-clause-cut
returns-in_err-piece-clause-cut g c =
    let p = err_from_is_err_and c.from_residual.result c.from_residual.ensures.1 in
    rw (p.1, p.2) (λ n is.
    let t = c.in_err-piece.ensures.cut n is in (
      λ cut. (inl (λ b. absurd (c.requires.framed b), (t.0 cut).0), (t.0 cut).1),
      λ cut. inl (λ b. absurd (c.requires.framed b), t.1 cut),
    ))
