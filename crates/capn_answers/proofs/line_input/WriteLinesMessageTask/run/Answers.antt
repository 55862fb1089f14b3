-- The lines of an accepted message are counted, and then written if they fit.
use Rattle.std.proofs.Common.{rules, ◌≡◌, ◌∙◌, List, length, refl, ap, sym, subst, Ok}
use Rattle.capn_cover.specs.declared.covered.Covered.{Covered}
use Rattle.capn_lines.specs.Lines.{lines_of}
use Rattle.capn_answers.specs.declared.line_record.CapnLine.{CapnLine}
use Rattle.capn_answers.specs.declared.line_input.WriteLines.{WriteLines}
use Rattle.capn_answers.specs.inner.Filled.{IsAnnotated, written_from}
use Rattle.capn_answers.proofs.LinesRead.{all_written, none_written}
use Rattle.capn_answers.proofs.line_input.WriteLinesMessageTask.run.Goals as goal
use Rattle.capn_answers.proofs.line_input.WriteLinesMessageTask.run.Goals.{then-lines-self, else-lines-self}

pub returns : goal.returns
returns g c =
    let m = g.S.Space.message c.args.message.now in
    let old = c.args.self.now.out.now in
    let words = c.in-Ok.words.items in
    let survey = c.in_ok-survey.survey in
    let count = c.put_lines-lines.result in
    let cover = c.in-Ok.ensures.found in
    let counted = c.put_lines-lines.ensures.count
    ∙ ap (λ (ws : List Covered). length (lines_of m ws)) c.deref-2.ensures.value in
    let surveyed = c.in_ok-survey.ensures.found in
    let bounded = c.in_ok-survey.ensures.bounded in
    elim c.if-lines-self.branch [
      | then-lines-self w ↦
          let table = w.bytes_before-table.result in
          let written = w.put_lines.ensures.written
          ∙ ap (λ (ws : List Covered). written_from table m 0 (lines_of m ws) old)
          w.deref-then-lines-self-2.ensures.value
          in
          let all = all_written c.args.self.now.form m c.args.limits old words count survey cover counted surveyed
          bounded table w.bytes_before-table.ensures w.if-lines-self.true in
          subst
          (λ (t : WriteLines). (t.out.ghost_name ≡ c.args.self.now.out.ghost_name) × (t.form ≡ c.args.self.now.form)
          × IsAnnotated c.args.self.now.form m c.args.limits old t.out.now
          (Ok (record { lines = count; survey = survey })))
          (sym w.self-is) (
            refl,
            refl,
            subst
                (λ (out : List CapnLine). IsAnnotated c.args.self.now.form m c.args.limits old out
                (Ok (record { lines = count; survey = survey })))
                (sym written) all,
          )
      | else-lines-self w ↦
          subst
          (λ (t : WriteLines). (t.out.ghost_name ≡ c.args.self.now.out.ghost_name) × (t.form ≡ c.args.self.now.form)
          × IsAnnotated c.args.self.now.form m c.args.limits old t.out.now
          (Ok (record { lines = count; survey = survey })))
          (sym w.self-is) (
            refl,
            refl,
            none_written c.args.self.now.form m c.args.limits old words count survey cover counted surveyed
                bounded w.if-lines-self.false,
          )
    ]
