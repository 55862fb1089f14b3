use Rattle.std.proofs.Common.{◌∙◌, ap, List, Option, Some, ℕ, [], ◌∷◌, ◌++◌, arith}
use Rattle.capn_layout.specs.Patch.{patched}
use Rattle.capn_layout.proofs.writer.Patched.{patched-same, patched-push, OnErr-always}
use Rattle.capn_layout.proofs.patch.Patch.push.Goals as goal

pub returns-in_err-cover-clause-err : goal.returns-in_err-cover-clause-err
returns-in_err-cover-clause-err g c =
    OnErr-always c.from_residual.result
    (patched-same c.self.inside.holes.items c.cover.new.marks.items c.self.inside.bytes.items c.cover.ensures.same
    ∙ c.self.view_is)

pub returns-in_err-extend_from_slice-clause-err : goal.returns-in_err-extend_from_slice-clause-err
returns-in_err-extend_from_slice-clause-err g c =
    OnErr-always c.from_residual-in_err-extend_from_slice.result
    (ap (patched c.cover.new.marks.items) c.in_err-extend_from_slice.ensures.items
    ∙ patched-same c.self.inside.holes.items c.cover.new.marks.items c.self.inside.bytes.items c.cover.ensures.same
    ∙ c.self.view_is)

pub returns-clause-ok : goal.returns-clause-ok
returns-clause-ok g c =
    let w = c.bytes_of-word.ensures in
    ap (patched c.cover.new.marks.items)
    (c.in_ok-extend_from_slice.ensures.items ∙ ap (λ (xs : List ℕ). c.self.inside.bytes.items ++ xs) w)
    ∙ patched-push c.self.inside.holes.items c.cover.new.marks.items c.self.inside.bytes.items c.args.word
    c.self.invariant c.cover.ensures.same (omega arith)
    ∙ ap (λ (xs : List (Option ℕ)). xs ++ Some c.args.word ∷ []) c.self.view_is
