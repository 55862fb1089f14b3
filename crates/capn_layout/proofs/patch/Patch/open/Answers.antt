use Rattle.std.proofs.Common.{◌/◌, ◌<◌, ◌∙◌, ap, List, Option, None, ℕ, length, set, arith}
use Rattle.capn_layout.proofs.writer.Patched.{length-patched, is-marked, patched-open}
use Rattle.capn_layout.proofs.patch.Patch.open.Goals as goal

pub mark-requires : goal.mark-requires
mark-requires g c =
    let n = length-patched c.self.inside.holes.items c.self.inside.bytes.items in
    let v = ap length c.self.view_is in
    let h = c.requires in
    let r = c.self.invariant.room in
    omega arith

pub invariant_of-self : goal.invariant_of-self
invariant_of-self g c =
    let n = length-patched c.self.inside.holes.items c.self.inside.bytes.items in
    let v = ap length c.self.view_is in
    let h = c.requires in
    let lt : c.args.at < length c.self.inside.bytes.items / 8 = omega arith in
    is-marked c.self.inside.holes.items c.mark.new.marks.items c.self.inside.bytes.items c.args.at c.self.invariant
    lt c.mark.ensures.len c.mark.ensures.others

pub returns : goal.returns
returns g c =
    patched-open c.self.inside.holes.items c.mark.new.marks.items c.self.inside.bytes.items c.args.at
    c.mark.ensures.others c.mark.ensures.here
    ∙ ap (λ (xs : List (Option ℕ)). set xs c.args.at None) c.self.view_is
