use Rattle.std.proofs.Common.{◌-◌, refl}
use Rattle.capn_diagnostics.proofs.PlacesOnPaths.{no-root, has-root, path-there, stopped-in}
use Rattle.capn_diagnostics.proofs.refusal.slot_lines.Goals as goal

pub returns-then-stopped-eq0 : goal.returns-then-stopped-eq0
returns-then-stopped-eq0 g c =
    no-root (g.S.Space.message c.args.space.now) c.args.limits c.args.stopped c.args.path.now c.requires.refused
    c.if-stopped-eq0.true

pub text_of_holder-requires : goal.text_of_holder-requires
text_of_holder-requires g c = record {
  root =
      has-root (g.S.Space.message c.args.space.now) c.args.limits c.args.stopped c.args.path.now c.requires.refused
      c.if-stopped-eq0.false;
}

pub examine-requires : goal.examine-requires
examine-requires g c =
    stopped-in (g.S.Space.message c.args.space.now) c.args.limits c.args.stopped c.args.path.now c.requires.refused
    c.if-stopped-eq0.false

pub returns : goal.returns
returns g c =
    let m = g.S.Space.message c.args.space.now in
    let some = c.if-stopped-eq0.false in
    let e = c.examine.ensures in (
      has-root m c.args.limits c.args.stopped c.args.path.now c.requires.refused some,
      record {
        numbers = refl;
        holder = c.text_of_holder.ensures c.args.limits (c.args.stopped.visits - 1) c.args.stopped.place
            (path-there m c.args.limits c.args.stopped c.args.path.now c.requires.refused some);
        examined = rw (← e.slot, ← e.pad, ← e.tag, ← e.content, ← e.rows, ← e.limit) refl;
      },
    )
