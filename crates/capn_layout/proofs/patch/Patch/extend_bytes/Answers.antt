use Rattle.std.proofs.Common.{◌*◌, ◌∙◌, ap, refl, length}
use Rattle.std.proofs.Common.{arith}
use Rattle.capn_target.specs.Target.{words_for}
use Rattle.capn_layout.specs.Patch.{patched}
use Rattle.capn_layout.proofs.writer.Patched.{patched-same, grown-length, is-grown, patched-grown, OnErr-always}
use Rattle.capn_layout.proofs.patch.Patch.extend_bytes.Goals as goal

pub returns-in_err-cover-clause-err : goal.returns-in_err-cover-clause-err
returns-in_err-cover-clause-err g c =
    OnErr-always c.from_residual.result
    (patched-same c.self.inside.holes.items c.cover.new.marks.items c.self.inside.bytes.items c.cover.ensures.same
    ∙ c.self.view_is)

pub returns-in_err-append_bytes-clause-err : goal.returns-in_err-append_bytes-clause-err
returns-in_err-append_bytes-clause-err g c =
    OnErr-always c.from_residual-in_err-append_bytes.result
    (ap (patched c.cover.new.marks.items) c.in_err-append_bytes.ensures.err
    ∙ patched-same c.self.inside.holes.items c.cover.new.marks.items c.self.inside.bytes.items c.cover.ensures.same
    ∙ c.self.view_is)

pub invariant_of-self-2 : goal.invariant_of-self-2
invariant_of-self-2 g c =
    let content = c.args.xs.now in
    let k = words_for (8 * length c.args.xs.now) in
    let d = grown-length c.self.inside.holes.items c.cover.new.marks.items c.self.inside.bytes.items content
    c.append_bytes.new.bytes.items k c.self.invariant c.cover.ensures.same
    (omega arith) c.in_ok-append_bytes.ensures.ok in
    let o = c.append_bytes.new.bytes.ok.0 in
    let o1 = c.append_bytes.new.bytes.ok.1 in
    let small = c.append_bytes.new.bytes.small in
    let room = c.in_ok-cover.ensures.room in
    let s = c.saturating_add.ensures in
    let e = c.len-words.ensures in
    let o2 = c.self.inside.bytes.ok.0 in
    let z = c.div_ceil.ensures in
    is-grown c.self.inside.holes.items c.cover.new.marks.items c.self.inside.bytes.items content
    c.append_bytes.new.bytes.items k c.self.invariant c.cover.ensures.same
    (omega arith) c.in_ok-append_bytes.ensures.ok (omega arith) (λ i. omega (arith, c.type_inv.xs i))

pub returns-clause-ok : goal.returns-clause-ok
returns-clause-ok g c =
    let content = c.args.xs.now in
    let k = words_for (8 * length c.args.xs.now) in
    patched-grown c.self.inside.holes.items c.cover.new.marks.items c.self.inside.bytes.items content
    c.append_bytes.new.bytes.items k c.self.invariant c.cover.ensures.same
    (omega arith) c.in_ok-append_bytes.ensures.ok _ _ c.self.view_is refl
