use Rattle.std.proofs.Common.{List, ℕ, subst, sym}
use Rattle.capn_words.specs.Watched.{has_failed, inner_of}
use Rattle.capn_cmp.specs.ShownText.{IsShownFrom}
use Rattle.capn_cmp.proofs.Beginnings.{begun_of, part_from, whole_from}
use Rattle.capn_cmp.proofs.beginning.begin_text.Goals as goal

pub returns-in-Ok-end_text-clause-found : goal.returns-in-Ok-end_text-clause-found
returns-in-Ok-end_text-clause-found g c =
    let shown = c.in-Ok-show_marked.ensures.shown in
    subst (λ (x : List ℕ). IsShownFrom c.args.canonical.now x) (sym c.kept_by.ensures)
    (whole_from c.args.canonical.now c.in-Ok.message shown.value c.in-Ok.ensures.exact shown.is.is
    (inner_of c.new_writer-writer.result).bytes.items c.new-text.result.items c.new_writer-writer.ensures.empty
    c.new-text.ensures.items (inner_of c.show_marked.new.writer).bytes.items c.show_marked.new.text.items
    (inner_of c.end_text.new.writer).bytes.items (has_failed c.new_writer-writer.result)
    (has_failed c.show_marked.new.writer) shown.text c.end_text.ensures)

pub returns-in-Err-Io-clause-found : goal.returns-in-Err-Io-clause-found
returns-in-Err-Io-clause-found g c =
    let begun = begun_of _ _ _ _ _ _ c.in-Err-Io.field-0-is c.in-Err-Io.ensures.refused in
    subst (λ (x : List ℕ). IsShownFrom c.args.canonical.now x) (sym c.kept_by-in-Err-Io.ensures)
    (part_from c.args.canonical.now c.in-Ok.message begun.value c.in-Ok.ensures.exact begun.is.is
    (inner_of c.new_writer-writer.result).bytes.items c.new-text.result.items c.new_writer-writer.ensures.empty
    c.new-text.ensures.items (inner_of c.show_marked.new.writer).bytes.items c.show_marked.new.text.items
    (has_failed c.new_writer-writer.result) (has_failed c.show_marked.new.writer) begun.text)
