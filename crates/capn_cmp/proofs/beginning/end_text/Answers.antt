use Rattle.std.proofs.Common.{List, ℕ, Some, subst}
use Rattle.capn_words.specs.Watched.{HasBegun, has_failed, inner_of}
use Rattle.capn_cmp.proofs.Beginnings.{ended_broken, ended_written}
use Rattle.capn_cmp.proofs.beginning.end_text.Goals as goal

pub returns-in_err-put : goal.returns-in_err-put
returns-in_err-put g c =
    ended_broken (inner_of c.args.writer.now).bytes.items c.args.text.now.items
    (inner_of c.put.new.writer).bytes.items c.put.new.text.items (has_failed c.args.writer.now)
    (has_failed c.put.new.writer) c.in_err-put.field-0.0 c.in_err-put.ensures.cut

pub returns-in-Err : goal.returns-in-Err
returns-in-Err g c =
    let b = (inner_of c.put.new.writer).bytes.items in
    let last = (inner_of c.write_all.new.self).bytes.items in
    ended_written (inner_of c.args.writer.now).bytes.items c.args.text.now.items b c.put.new.text.items
    (has_failed c.args.writer.now) (has_failed c.put.new.writer) last c.in_ok-put.ensures.shown
    (subst (λ (x : List ℕ). HasBegun (Some b) (Some last) x) c.deref.ensures.value c.in-Err.ensures.begun)
