use Rattle.std.proofs.Common.{arith}
use Rattle.capn_value.proofs.shared.Fitting.{fit_parts}
use Rattle.capn_layout.proofs.shared.Sound.{sound}
use Rattle.capn_layout.proofs.shared.Room.{room}
use Rattle.capn_layout.proofs.writer.TreeItems.{only-value}
use Rattle.capn_layout.proofs.tree_layout.layout.Goals as goal

pub canonical_bytes-requires : goal.canonical_bytes-requires
canonical_bytes-requires g c =
    let t = c.args.tree.now in
    let f = c.value-value.ensures.fits in
    let r = c.value-value.ensures.in_range in
    let s = sound t f r in
    let k = room t f r in
    let n = k.0 in
    let m = k.2 in
    let low = (fit_parts t f).low in
    record {
      value = t;
      is = only-value t c.value-value.result.now c.value-value.ensures.value s;
      sound = s;
      low = omega arith;
      room = omega arith;
    }

pub returns-in-Ok-clause-found : goal.returns-in-Ok-clause-found
returns-in-Ok-clause-found g c =
    let t = c.args.tree.now in
    c.in-Ok.ensures t
    (only-value t c.value-value.result.now c.value-value.ensures.value
    (sound t c.value-value.ensures.fits c.value-value.ensures.in_range))
