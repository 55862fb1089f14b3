use Rattle.std.proofs.Common.{◌≡◌, ◌≤◌, drop, Some}
use Rattle.capn_value.specs.Tree.{Tree}
use Rattle.capn_value.specs.Cost.{height}
use Rattle.capn_target.specs.Shapes.{IsContent, IsInMessage}
use Rattle.capn_walk.specs.Accepted.{root}
use Rattle.capn_walk.specs.ShownValue.{Shows}
use Rattle.capn_walk.specs.ValueAt.{IsAt}
use Rattle.capn_marks.specs.MarkedPart.{at_root, led}
use Rattle.capn_marks.proofs.marked_part.lead.Given as goal

abbrev pub invariant-loop-i : goal.invariant-loop-i
invariant-loop-i g l = record {
  inside : IsInMessage (g.S.Space.message l.space) l.part.found;
  lies : IsContent (g.S.Space.message l.space) l.part.at 0;
  leads : (v : Tree) → IsAt (g.S.Space.message l.space) root v → (u : Tree)
      × (led (g.S.Space.message l.space) l.numbers (Some (at_root (g.S.Space.message l.space) v))
      ≡ led (g.S.Space.message l.space) (drop l.i l.numbers) (Some (record {
        at = l.part.at;
        found = l.part.found;
        value = u;
        path = l.path.items;
      })))
      × Shows (g.S.Space.message l.space) l.part.found u
      × (height u ≤ height v);
}
