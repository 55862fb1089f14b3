use Rattle.std.proofs.Common.{refl}
use Rattle.capn_archive.specs.Lines.{list_line}
use Rattle.capn_archive.specs.declared.message_head.MessageHead.{MessageHead}
use Rattle.capn_archive.specs.declared.task.Task.TheVariants as tasks
use Rattle.capn_archive.proofs.FramesAdded.{line_added}
use Rattle.capn_archive.proofs.archive_service.serve_list.Goals as goal

pub returns : goal.returns
returns g c tally taken =
    let measured = c.in_ok-measured.measured in
    line_added c.args.limits tally c.args.at c.args.frame.now (g.S.Space.message c.args.message.now) tasks.List
    (λ (head : MessageHead). list_line head measured) c.head_of.result c.head_of.ensures
    (measured, c.in_ok-measured.ensures, refl, refl) taken c.args.text.now.items c.put_list_line.new.text.items
    c.put_list_line.result c.put_list_line.ensures
