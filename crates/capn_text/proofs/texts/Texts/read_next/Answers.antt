use Rattle.std.proofs.Common.{◌+◌, ◌++◌, [], Some, inl, ap, subst, ◌∙◌, arith}
use Rattle.std.proofs.lemmas.List.{append-nil}
use Rattle.std.proofs.lemmas.Result.{err_from_is_err_and}
use Rattle.capn_value.specs.TreeOf.{tree_of}
use Rattle.capn_value.specs.Text.{show_text}
use Rattle.capn_value.proofs.shared.Fitting.{fit_parts}
use Rattle.capn_text.specs.Streams.{end_line, ended_lines, ended_text, IsFirstWrong, Place}
use Rattle.capn_text.specs.inner.Tokens.{strip}
use Rattle.capn_text.proofs.LostTexts.{names_no_memory, no_end_on, end_none, open_end}
use Rattle.capn_text.proofs.ShowableValues.{showable-fit}
use Rattle.capn_text.proofs.LineCounts.{lines_within}
use Rattle.capn_text.proofs.FittingText.{fits_not}
use Rattle.capn_text.proofs.StreamTexts.{lines_counted, room_left, lines_with_end, rest_is, not_none}
use Rattle.capn_text.proofs.texts.Texts.read_next.Goals as goal

pub counted_from-requires : goal.counted_from-requires
counted_from-requires g c n e =
    let p = c.in-Err.ensures.place n e in
    let low = p.0 in
    let high = p.1 in
    let few = lines_within c.self.inside.rest.now in
    let room = c.self.invariant in
    omega arith

pub returns-in-Err-clause-only : goal.returns-in-Err-clause-only
returns-in-Err-clause-only g c v rest f r e =
    c.counted_from.ensures.memory (c.in-Err.ensures.only v (end_line ++ rest) (showable-fit v f r) (fit_parts v f).low
    (ap (λ (p : Place). p.rest) c.self.view_is ∙ e))

pub returns-in_default-clause-only : goal.returns-in_default-clause-only
returns-in_default-clause-only g c v rest f r e =
    let is = c.in-Ok.ensures.only v (end_line ++ rest) (showable-fit v f r) (fit_parts v f).low
    (ap (λ (p : Place). p.rest) c.self.view_is ∙ e) in
    absurd (not_none c.in-Ok.after.now rest is.1 c.in_default.ensures)

pub returns-in_default-clause-end : goal.returns-in_default-clause-end
returns-in_default-clause-end g c v rest s low e n same =
    let is = c.in-Ok.ensures.only v rest s low (ap (λ (p : Place). p.rest) c.self.view_is ∙ e) in
    let lines = c.lines_before.ensures.exact
    ∙ lines_counted c.self.inside.rest.now (tree_of c.in-Ok.value) c.in-Ok.after.now c.in-Ok.ensures.found
    ∙ ap (λ x. ended_lines (show_text x)) is.0 in
    c.end_fault.ensures.named n same
    ∙ ap (λ k. c.self.inside.line + k) lines ∙ ap (λ (p : Place). p.line + ended_lines (show_text v)) c.self.view_is

pub returns-in_default-clause-begun : goal.returns-in_default-clause-begun
returns-in_default-clause-begun g c other = rw (← c.self.view_is) c.in-Ok.ensures.begins

pub returns-in_err-tree-clause-only : goal.returns-in_err-tree-clause-only
returns-in_err-tree-clause-only g c v rest f r e =
    let is = c.in-Ok.ensures.only v (end_line ++ rest) (showable-fit v f r) (fit_parts v f).low
    (ap (λ (p : Place). p.rest) c.self.view_is ∙ e) in
    let p = c.in_err-tree.ensures.misfit in
    absurd (fits_not v (tree_of c.in-Ok.value) p.0 is.0 f p.2)

pub returns-in_err-tree-clause-begun : goal.returns-in_err-tree-clause-begun
returns-in_err-tree-clause-begun g c =
    let p = err_from_is_err_and c.from_residual.result c.from_residual.ensures.1 in
    rw (p.1, p.2) (λ other. rw (← c.self.view_is) c.in-Ok.ensures.begins)

pub overflow_add-self : goal.overflow_add-self
overflow_add-self g c =
    let t = c.self.inside.rest.now in
    let w = tree_of c.in-Ok.value in
    let left = room_left t w c.in-Ok.after.now c.in-Ok.ensures.found c.in-Some.rest.now c.in-Some.ensures in
    let lines = c.lines_before.ensures.exact ∙ lines_counted t w c.in-Ok.after.now c.in-Ok.ensures.found in
    let room = c.self.invariant in
    omega arith

pub invariant_of-self : goal.invariant_of-self
invariant_of-self g c =
    let t = c.self.inside.rest.now in
    let w = tree_of c.in-Ok.value in
    let left = room_left t w c.in-Ok.after.now c.in-Ok.ensures.found c.in-Some.rest.now c.in-Some.ensures in
    let lines = c.lines_before.ensures.exact ∙ lines_counted t w c.in-Ok.after.now c.in-Ok.ensures.found in
    let room = c.self.invariant in
    omega arith

pub returns-clause-only : goal.returns-clause-only
returns-clause-only g c v rest f r e =
    let is = c.in-Ok.ensures.only v (end_line ++ rest) (showable-fit v f r) (fit_parts v f).low
    (ap (λ (p : Place). p.rest) c.self.view_is ∙ e) in (
      ap (λ x. Some x) (c.in_ok-tree.ensures.found ∙ is.0),
      rest_is c.in-Ok.after.now rest is.1 c.in-Some.rest.now c.in-Some.ensures,
    )

pub returns-clause-counted : goal.returns-clause-counted
returns-clause-counted g c =
    let t = c.self.inside.rest.now in
    let w = tree_of c.in-Ok.value in
    let lines = c.lines_before.ensures.exact ∙ lines_counted t w c.in-Ok.after.now c.in-Ok.ensures.found in
    ap (λ n. c.self.inside.line + n + 1 + ended_lines c.in-Some.rest.now) lines
    ∙ lines_with_end t w c.in-Ok.after.now c.in-Ok.ensures.found c.in-Some.rest.now c.in-Some.ensures c.self.inside.line
    ∙ ap (λ (p : Place). p.line + ended_lines p.rest) c.self.view_is

pub returns-in-Err-clause-line : goal.returns-in-Err-clause-line
returns-in-Err-clause-line g c n same v rest s low e =
    let q = c.counted_from.ensures.named n same in
    names_no_memory c.in-Err.fault q.0 q.1 (c.in-Err.ensures.only v (end_line ++ rest) s low
    (ap (λ (p : Place). p.rest) c.self.view_is ∙ e))

pub returns-in-Err-clause-begun : goal.returns-in-Err-clause-begun
returns-in-Err-clause-begun g c =
    rw (← c.self.view_is) (λ other. c.in-Err.ensures.begun (λ named. other (c.counted_from.ensures.first named)))

pub returns-in-Err-clause-first : goal.returns-in-Err-clause-first
returns-in-Err-clause-first g c n same =
    let q = c.counted_from.ensures.named n same in
    let low = (c.in-Err.ensures.place q.0 q.1).0 in
    let is = q.2 in
    rw (← c.self.view_is) ((q.0, omega arith, c.in-Err.ensures.first_ended q.0 q.1))

pub returns-in-Err-clause-lost : goal.returns-in-Err-clause-lost
returns-in-Err-clause-lost g c n same more =
    let q = c.counted_from.ensures.placed n same in
    let low = (c.in-Err.ensures.place q.0 (inl q.1)).0 in
    let is = q.2 in
    rw (← c.self.view_is) ((
      λ v rest s fits e. c.in-Err.ensures.none q.0 q.1 more v (end_line ++ rest) s fits e,
      q.0,
      omega arith,
      c.in-Err.ensures.lost q.0 q.1 more,
    ))

pub returns-in-Err-clause-open : goal.returns-in-Err-clause-open
returns-in-Err-clause-open g c n same =
    let q = c.counted_from.ensures.cut n same in
    rw (← c.self.view_is) (c.in-Err.ensures.open q.0 q.1)

pub returns-in-Err-clause-misfit : goal.returns-in-Err-clause-misfit
returns-in-Err-clause-misfit g c m same =
    let is = c.counted_from.ensures.misfit m same in
    rw (← c.self.view_is) (inl (c.in-Err.ensures.tall m is, c.in-Err.ensures.deep m is))

pub returns-in_default-clause-first : goal.returns-in_default-clause-first
returns-in_default-clause-first g c n same =
    let w = tree_of c.in-Ok.value in
    let t = c.self.inside.rest.now in
    let lines = c.lines_before.ensures.exact ∙ lines_counted t w c.in-Ok.after.now c.in-Ok.ensures.found in
    let is = c.end_fault.ensures.named n same in
    let wrong = c.in-Ok.ensures.no_end [] (ap (strip end_line) (append-nil c.in-Ok.after.now) ∙ c.in_default.ensures) in
    rw (← c.self.view_is) ((
      ended_lines (show_text w) + 1,
      omega arith,
      subst (IsFirstWrong ended_text (ended_lines (show_text w) + 1)) (append-nil t) wrong,
    ))

pub returns-in_default-clause-lost : goal.returns-in_default-clause-lost
returns-in_default-clause-lost g c n same more =
    let w = tree_of c.in-Ok.value in
    let t = c.self.inside.rest.now in
    let lines = c.lines_before.ensures.exact ∙ lines_counted t w c.in-Ok.after.now c.in-Ok.ensures.found in
    let is = c.end_fault.ensures.named n (inl same) in
    let none = no_end_on c.in-Ok.after.now more c.in_default.ensures (c.end_fault.ensures.line n same) in
    rw (← c.self.view_is) ((
      λ v rest s fits e. end_none t w c.in-Ok.after.now more c.in-Ok.ensures.found c.in-Ok.ensures.showable none v rest
          s e,
      ended_lines (show_text w) + 1,
      omega arith,
      c.in-Ok.ensures.no_end more none,
    ))

pub returns-in_default-clause-open : goal.returns-in_default-clause-open
returns-in_default-clause-open g c n same =
    rw (← c.self.view_is) (open_end c.self.inside.rest.now (tree_of c.in-Ok.value) c.in-Ok.after.now
    c.in-Ok.ensures.found c.in-Ok.ensures.showable c.in-Ok.ensures.low (c.end_fault.ensures.cut n same))

pub returns-in-Err-clause-place : goal.returns-in-Err-clause-place
returns-in-Err-clause-place g c n same =
    let q = c.counted_from.ensures.named n same in
    let low = (c.in-Err.ensures.place q.0 q.1).0 in
    let high = (c.in-Err.ensures.place q.0 q.1).1 in
    let is = q.2 in
    rw (← c.self.view_is) ((omega arith, omega arith))

pub returns-in_default-clause-place : goal.returns-in_default-clause-place
returns-in_default-clause-place g c n same =
    let is = c.end_fault.ensures.named n same in
    let high = c.lines_before.ensures.within in
    rw (← c.self.view_is) ((omega arith, omega arith))
