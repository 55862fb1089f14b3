use Rattle.capn_text.proofs.LostLines.{word_stop}
use Rattle.capn_text.proofs.tokens.word_line_at.Goals as goal

pub returns-in-Err-Left : goal.returns-in-Err-Left
returns-in-Err-Left c =
    let none = rw c.in-Err-Left.field-0-is at c.in-Err-Left.ensures in
    rw c.stop_in.ensures (word_stop c.args.level c.requires c.args.text.now none)

pub returns-in-Err-Cut : goal.returns-in-Err-Cut
returns-in-Err-Cut c =
    let none = rw c.in-Err-Cut.field-0-is at c.in-Err-Cut.ensures in
    rw c.stop_in-in-Err-Cut.ensures (word_stop c.args.level c.requires c.args.text.now none)

pub returns-in-Err-Deep : goal.returns-in-Err-Deep
returns-in-Err-Deep c =
    let none = rw c.in-Err-Deep.field-0-is at c.in-Err-Deep.ensures in
    rw c.stop_in-in-Err-Deep.ensures (word_stop c.args.level c.requires c.args.text.now none)
