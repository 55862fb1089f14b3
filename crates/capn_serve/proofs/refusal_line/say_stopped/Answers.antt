use Rattle.std.proofs.Common.{sym}
use Rattle.capn_serve.proofs.shared.Said.{both}
use Rattle.capn_serve.proofs.refusal_line.say_stopped.Goals as goal

pub returns : goal.returns
returns g c =
    rw (sym c.name_of.ensures) (both _ _ _ _ _ c.put.ensures (both _ _ _ _ _ c.put_named.ensures
    (both _ _ _ _ _ c.put_named-2.ensures (both _ _ _ _ _ c.put_named-3.ensures c.put_named-4.ensures))))
