-- `index_in` gets the form and the limits that the caller's numbers name.
use Rattle.std.proofs.Common.{subst}
use Rattle.capn_walk.specs.Limits.{Bounds}
use Rattle.capn_canon.specs.declared.form.Form.{Form}
use Rattle.capn_canon.specs.MemoryNeed.{MayNeedMemory}
use Rattle.capn_abi.specs.Calls.{bounds_of}
use Rattle.capn_c.proofs.OfMessage.{denoted}
use Rattle.capn_c.proofs.index_call.capn_index.Goals as goal

pub returns-in-Ok-clause-only : goal.returns-in-Ok-clause-only
returns-in-Ok-clause-only c f l t v d =
    c.index_in.ensures.indexed.only v (denoted c.in-Some.ensures.value c.in-Ok.ensures.value d)

pub returns-in-Ok-clause-memory : goal.returns-in-Ok-clause-memory
returns-in-Ok-clause-memory c e =
    subst (λ (x : Form). MayNeedMemory x c.args.bytes.now (bounds_of c.args.limits.now)) c.in-Some.ensures.value
    (subst (λ (x : Bounds). MayNeedMemory c.in-Some.form c.args.bytes.now x) c.in-Ok.ensures.value
    (c.index_in.ensures.indexed.reported.memory e))
