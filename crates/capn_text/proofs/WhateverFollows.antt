-- Lemmas for the law `whole_lines`: facts about the complete lines of a text hold whatever bytes follow.
use Rattle.std.proofs.Common.{◌≡◌, inl, inr, ◌++◌, sym, ap, ◌∙◌, append_assoc, arith}
use Rattle.std.proofs.lemmas.Bool.{cases_lt}
use Rattle.capn_value.specs.Text.{show_text}
use Rattle.capn_text.specs.Streams.{end_line, first_lines, ended_lines, ended_text}
use Rattle.capn_text.specs.Laws.{WrongLineStays, NoTextGoesOn, DeepStays, NoBeginningComes}
use Rattle.capn_text.proofs.LineCounts.{lines_append}
use Rattle.capn_text.proofs.WholeLines.{first_front}
use Rattle.capn_text.proofs.WrongOrDeep.{within, beyond, counted}

pub wrong_stays : WrongLineStays
wrong_stays spell n t more low h =
    let next = h.1 in (
      h.0,
      h.1,
      h.2,
      h.3,
      h.4,
      h.5 ∙ sym (within h.0 t more (omega arith)),
      λ w s e. h.6 w s (e ∙ within n t more low),
    )

pub none_goes_on : NoTextGoesOn
none_goes_on n v t more rest low h s e =
    let ended : t ++ more ≡ ended_text v ++ rest = e ∙ sym (append_assoc (show_text v) end_line rest) in
    let lines : first_lines n (ended_text v ++ rest) ≡ first_lines n t =
    ap (first_lines n) (sym ended) ∙ within n t more low in
    elim (cases_lt (ended_lines (ended_text v)) n) [
      | inl few ↦
          (let p = beyond n (ended_text v) rest few in
          let f = first_front n t in
          let whole : t ≡ ended_text v ++ (p.0 ++ f.0) =
          f.1 ∙ ap (λ x. x ++ f.0) (sym lines ∙ p.1) ∙ append_assoc (ended_text v) p.0 f.0 in
          (p.0 ++ f.0, whole ∙ append_assoc (show_text v) end_line (p.0 ++ f.0)))
      | inr many ↦ absurd (h.6 v s (sym (within n (ended_text v) rest many) ∙ lines))
    ]

pub deep_stays : DeepStays
deep_stays t more h =
    let few = h.1 in
    let count = lines_append t more in (
      h.0,
      omega arith,
      h.2,
      h.3,
      h.4 ∙ sym (within h.0 t more h.1),
      λ w s e. h.5 w s (e ∙ within h.0 t more h.1),
    )

pub none_begins : NoBeginningComes
none_begins t more v some b =
    let long = b.6 in
    let line = first_lines 1 b.1 in
    let f = first_front 1 b.1 in
    let g = first_front 1 t in
    let same : line ≡ first_lines 1 t =
    sym (within 1 b.1 b.2 (omega arith)) ∙ ap (first_lines 1) (sym b.4) ∙ within 1 t more (omega arith) in
    let one = counted 1 b.1 (omega arith) in (
      b.0,
      line,
      g.0,
      f.0 ++ b.3,
      g.1 ∙ ap (λ x. x ++ g.0) (sym same),
      b.5 ∙ ap (λ x. x ++ b.3) f.1 ∙ append_assoc line f.0 b.3,
      omega arith,
    )
