use Rattle.std.proofs.Common.{arith}
use Rattle.capn_value.proofs.Pairwise.{some_left, none_yet, none_left}
use Rattle.capn_value.proofs.sameness.are_null.Goals as goal

pub returns-then-not-is_null : goal.returns-then-not-is_null
returns-then-not-is_null g c =
    some_left c.args.items.now _ c.loop-v.invariant c.v-item.result (omega arith) c.v-item.is c.is_null.ensures
    c.if-not-is_null.true

pub loop-v-preserved : goal.loop-v-preserved
loop-v-preserved g c =
    none_yet c.args.items.now _ c.loop-v.invariant c.v-item.result (omega arith) c.v-item.is c.is_null.ensures
    c.if-not-is_null.false

pub returns : goal.returns
returns g c = none_left c.args.items.now _ c.loop-v.invariant (omega arith)
