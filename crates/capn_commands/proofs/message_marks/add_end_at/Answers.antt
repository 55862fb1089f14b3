use Rattle.std.proofs.Common.{rules, codes, List, ℕ, ◌+◌, ap, subst}
use Rattle.std.specs.Fmt.{decimal}
use Rattle.std.proofs.lemmas.Fmt.{length-decimal-le}
use Rattle.capn_show.specs.Outgoing.{outgoing}
use Rattle.capn_commands.specs.inner.AddedParts.{AddsEnd}
use Rattle.capn_commands.proofs.EndLines.{all_written}
use Rattle.capn_commands.proofs.message_marks.add_end_at.Goals as goal

pub write_digits-start-requires : goal.write_digits-start-requires
write_digits-start-requires g c = search (rules, length-decimal-le 20)

pub returns : goal.returns
returns g c =
    subst (λ (l : List ℕ). AddsEnd l (outgoing g.W.Write.contents c.args.writer.now c.args.text.now.items)
    (outgoing g.W.Write.contents c.add_end.new.writer c.add_end.new.text.items) c.add_end.result)
    (all_written 25 c.write_digits-start.result c.write_digits-start.new.buf (decimal c.args.byte) (codes "\tend\n")
    c.write_digits-start.ensures.written (ap (λ (k : ℕ). k + 5) c.write_digits-start.ensures.start)) c.add_end.ensures
