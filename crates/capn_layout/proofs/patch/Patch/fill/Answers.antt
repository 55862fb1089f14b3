use Rattle.std.proofs.Common.{◌/◌, ◌<◌, ◌∙◌, ap, List, Option, Some, None, ℕ, length, set, arith}
use Rattle.std.proofs.lemmas.Option.{slice_get_within}
use Rattle.capn_layout.proofs.writer.Patched.{length-patched, is-filled, patched-fill}
use Rattle.capn_layout.proofs.patch.Patch.fill.Goals as goal

pub overflow_mul-at : goal.overflow_mul-at
overflow_mul-at g c =
    let n = length-patched c.self.inside.holes.items c.self.inside.bytes.items in
    let v = ap length c.self.view_is in
    let o0 = c.self.inside.bytes.ok.0 in
    let o1 = c.self.inside.bytes.ok.1 in
    let s = c.self.inside.bytes.small in
    let h = slice_get_within c.args.self.now c.args.at None c.requires in
    omega arith

pub write_at-requires : goal.write_at-requires
write_at-requires g c =
    let n = length-patched c.self.inside.holes.items c.self.inside.bytes.items in
    let v = ap length c.self.view_is in
    let h = slice_get_within c.args.self.now c.args.at None c.requires in
    omega arith

pub unmark-requires : goal.unmark-requires
unmark-requires g c =
    let n = length-patched c.self.inside.holes.items c.self.inside.bytes.items in
    let v = ap length c.self.view_is in
    let h = slice_get_within c.args.self.now c.args.at None c.requires in
    let r = c.self.invariant.room in
    omega arith

pub invariant_of-self : goal.invariant_of-self
invariant_of-self g c =
    let n = length-patched c.self.inside.holes.items c.self.inside.bytes.items in
    let v = ap length c.self.view_is in
    let h = slice_get_within c.args.self.now c.args.at None c.requires in
    let lt : c.args.at < length c.self.inside.bytes.items / 8 = omega arith in
    is-filled c.self.inside.holes.items c.unmark.new.marks.items c.self.inside.bytes.items c.write_at.new.bytes.items
    c.args.at c.args.word
    c.self.invariant lt (omega arith) c.unmark.ensures.len c.write_at.ensures c.unmark.ensures.here
    c.unmark.ensures.others

pub returns : goal.returns
returns g c =
    let n = length-patched c.self.inside.holes.items c.self.inside.bytes.items in
    let v = ap length c.self.view_is in
    let h = slice_get_within c.args.self.now c.args.at None c.requires in
    let lt : c.args.at < length c.self.inside.bytes.items / 8 = omega arith in
    patched-fill c.self.inside.holes.items c.unmark.new.marks.items c.self.inside.bytes.items c.write_at.new.bytes.items
    c.args.at c.args.word
    c.self.invariant lt (omega arith) c.unmark.ensures.len c.write_at.ensures c.unmark.ensures.here
    c.unmark.ensures.others
    ∙ ap (λ (xs : List (Option ℕ)). set xs c.args.at (Some c.args.word)) c.self.view_is
