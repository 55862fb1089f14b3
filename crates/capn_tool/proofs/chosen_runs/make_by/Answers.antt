use Rattle.capn_tool.proofs.chosen_runs.make_by.Goals as goal

pub returns-then-order : goal.returns-then-order
returns-then-order g c = rw c.if-order.true c.make_texts.ensures

pub returns-else-order : goal.returns-else-order
returns-else-order g c = rw c.if-order.false c.make.ensures.made
