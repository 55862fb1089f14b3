use Rattle.capn_value.specs.Text.{show_text}
use Rattle.capn_show.specs.Outgoing.{outgoing}
use Rattle.capn_show.specs.Style.{end_of}
use Rattle.capn_show.specs.declared.style.Style.TheVariants as styles
use Rattle.capn_commands.proofs.PartServed.{part_fault, part_line}
use Rattle.capn_commands.proofs.message_texts.add_shown.Goals as goal

pub returns-in-Ok : goal.returns-in-Ok
returns-in-Ok g c =
    part_line (g.S.Space.message c.args.message.now) c.args.limits show_text (end_of styles.Lines)
    (outgoing g.W.Write.contents c.args.writer.now c.args.text.now.items)
    (outgoing g.W.Write.contents c.show_message.new.writer c.show_message.new.text.items)
    (outgoing g.W.Write.contents c.add_end.new.writer c.add_end.new.text.items) c.add_end.result
    c.in-Ok.ensures.shown c.add_end.ensures

pub returns-in-Err : goal.returns-in-Err
returns-in-Err g c =
    part_fault (g.S.Space.message c.args.message.now) c.args.limits show_text (end_of styles.Lines) c.in-Err.fault
    (outgoing g.W.Write.contents c.args.writer.now c.args.text.now.items)
    (outgoing g.W.Write.contents c.show_message.new.writer c.show_message.new.text.items) c.fault_of.result
    c.fault_of.ensures c.in-Err.ensures.refused
