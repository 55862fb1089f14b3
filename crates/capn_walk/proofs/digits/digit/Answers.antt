use Rattle.capn_walk.proofs.shared.Shifts.{shifted}
use Rattle.capn_walk.proofs.digits.digit.Goals as goal

pub returns-in-W8 : goal.returns-in-W8
returns-in-W8 c = rw c.in-W8.is (shifted 8 c.args.word c.args.place)

pub returns-in-W16 : goal.returns-in-W16
returns-in-W16 c = rw c.in-W16.is (shifted 16 c.args.word c.args.place)

pub returns-in-W32 : goal.returns-in-W32
returns-in-W32 c = rw c.in-W32.is (shifted 32 c.args.word c.args.place)
