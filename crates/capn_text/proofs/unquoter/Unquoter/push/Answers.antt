use Rattle.capn_text.proofs.Unquotings.{none_pushed, step_pushed, all_pushed}
use Rattle.capn_text.proofs.unquoter.Unquoter.push.Goals as goal

pub loop-line-init : goal.loop-line-init
loop-line-init g c = none_pushed c.args.self.now c.args.piece.now c.args.out.now.items

pub loop-line-preserved : goal.loop-line-preserved
loop-line-preserved g c =
    step_pushed c.args.self.now c.loop-line.self c.take.new.self c.end_line.new.self c.args.piece.now
    c.loop-line.rest.now c.args.out.now.items c.loop-line.out.items c.take.new.out.items c.end_line.new.out.items
    c.in-Some.line.now c.in-Some.after.now c.loop-line.invariant c.in-Some.ensures c.in_ok-take.ensures
    c.in_ok-end_line.ensures

pub returns-clause-read : goal.returns-clause-read
returns-clause-read g c =
    all_pushed c.args.self.now c.loop-line.self c.take-2.new.self c.pass_on.new.self c.args.piece.now
    c.loop-line.rest.now c.args.out.now.items c.loop-line.out.items c.take-2.new.out.items c.pass_on.new.out.items
    c.loop-line.invariant c.in_ok-take-2.ensures c.in_ok-pass_on.ensures.read
