use Rattle.std.proofs.Common.{◌≡◌, ◌+◌, ◌*◌, ◌∙◌, ap, List, Option, Some, ℕ, ◌-◌, ◌++◌, length, take, replicate, arith}
use Rattle.capn_layout.specs.Patch.{patched}
use Rattle.capn_layout.proofs.writer.Patched.{patched-same, patched-zeros, filled_up, OnErr-always}
use Rattle.capn_layout.proofs.patch.Patch.append_zeros.Goals as goal

pub returns-in_err-cover-clause-err : goal.returns-in_err-cover-clause-err
returns-in_err-cover-clause-err g c =
    OnErr-always c.from_residual.result
    (patched-same c.self.inside.holes.items c.cover.new.marks.items c.self.inside.bytes.items c.cover.ensures.same
    ∙ c.self.view_is)

pub returns-in_err-resize-clause-err : goal.returns-in_err-resize-clause-err
returns-in_err-resize-clause-err g c =
    OnErr-always c.from_residual-in_err-resize.result
    (ap (patched c.cover.new.marks.items) c.in_err-resize.ensures.items
    ∙ patched-same c.self.inside.holes.items c.cover.new.marks.items c.self.inside.bytes.items c.cover.ensures.same
    ∙ c.self.view_is)

pub returns-clause-ok : goal.returns-clause-ok
returns-clause-ok g c =
    let l = c.self.inside.bytes.ok.0 in
    let len = c.in_ok-resize.ensures.len in
    let cap = c.resize.new.self.ok.1 in
    let small = c.resize.new.self.small in
    let a = c.len-len.ensures in
    let b = c.saturating_mul.ensures in
    let d = c.saturating_add-2.ensures in
    let to : c.saturating_add-2.result ≡ length c.self.inside.bytes.items + 8 * c.args.n = omega arith in
    ap (patched c.cover.new.marks.items)
    (c.in_ok-resize.ensures.items
    ∙ ap (λ (j : ℕ). take c.saturating_add-2.result c.self.inside.bytes.items
    ++ replicate (c.saturating_add-2.result - j) 0) l
    ∙ filled_up c.self.inside.bytes.items c.saturating_add-2.result (8 * c.args.n) to)
    ∙ patched-zeros c.self.inside.holes.items c.cover.new.marks.items c.self.inside.bytes.items c.args.n
    c.self.invariant c.cover.ensures.same
    ∙ ap (λ (xs : List (Option ℕ)). xs ++ replicate c.args.n (Some 0)) c.self.view_is
