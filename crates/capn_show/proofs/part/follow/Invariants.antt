use Rattle.std.proofs.Common.{◌≡◌, ◌≤◌, drop, Some}
use Rattle.capn_value.specs.Tree.{Tree}
use Rattle.capn_value.specs.Cost.{height}
use Rattle.capn_target.specs.Shapes.{IsInMessage}
use Rattle.capn_walk.specs.ShownValue.{Shows}
use Rattle.capn_show.specs.Part.{follow, at_path}
use Rattle.capn_show.proofs.part.follow.Given as goal

abbrev pub invariant-loop-i : goal.invariant-loop-i
invariant-loop-i g l = record {
  inside : IsInMessage (g.S.Space.message l.space) l.here;
  leads : (v : Tree) → Shows (g.S.Space.message l.space) l.fn.found v → (u : Tree)
      × (at_path v l.path ≡ follow (drop l.i l.path) (Some u))
      × Shows (g.S.Space.message l.space) l.here u
      × (height u ≤ height v);
}
