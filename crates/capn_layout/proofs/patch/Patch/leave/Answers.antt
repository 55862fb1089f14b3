use Rattle.std.proofs.Common.{◌≡◌, ◌+◌, ◌-◌, ◌++◌, ◌∙◌, ap, ap₂, sym, List, Option, Some, None, ℕ, length, replicate}
use Rattle.std.proofs.Common.{append-nil, length-append, set, arith}
use Rattle.std.proofs.lemmas.List.{length-replicate}
use Rattle.capn_layout.proofs.writer.Patched.{next_hole}
use Rattle.capn_layout.proofs.patch.Patch.leave.Goals as goal

pub loop-i-init : goal.loop-i-init
loop-i-init g c =
    let z : 0 ≡ c.len-at.result - c.len-at.result = omega arith in
    let n : c.args.n ≡ c.args.n - (c.len-at.result - c.len-at.result) = omega arith in
    c.in_ok-append_zeros.ensures.ok
    ∙ ap₂ (λ (i j : ℕ). c.args.self.now ++ (replicate i None ++ replicate j (Some 0))) z n

pub loop-i-preserved : goal.loop-i-preserved
loop-i-preserved g c =
    let at = c.len-at.result in
    let a = c.loop-i.auto.i in
    let z : c.loop-i.i + 1 - at ≡ c.loop-i.i - at + 1 = omega arith in
    let l = ap length c.in_ok-append_zeros.ensures.ok in
    let k = length-append c.args.self.now (replicate c.args.n (Some 0)) in
    let r = length-replicate {A = Option ℕ} c.args.n (Some 0) in
    let e = c.len-at.ensures in
    let f = c.len-end.ensures in
    let t = c.loop-i-test.true in
    c.open.ensures
    ∙ ap (λ (xs : List (Option ℕ)). set xs c.loop-i.i None) c.loop-i.invariant
    ∙ next_hole c.args.self.now c.args.n (c.loop-i.i - at) c.loop-i.i (omega arith) (omega arith)
    ∙ ap (λ (j : ℕ). c.args.self.now ++ (replicate j None ++ replicate (c.args.n - j) (Some 0))) (sym z)

pub open-requires : goal.open-requires
open-requires g c =
    let at = c.len-at.result in
    let a = c.loop-i.auto.i in
    let v = ap length c.loop-i.invariant in
    let k = length-append c.args.self.now
    (replicate (c.loop-i.i - at) None ++ replicate (c.args.n - (c.loop-i.i - at)) (Some 0)) in
    let j = length-append {A =
    Option ℕ} (replicate (c.loop-i.i - at) None) (replicate (c.args.n - (c.loop-i.i - at)) (Some 0)) in
    let r = length-replicate {A = Option ℕ} (c.loop-i.i - at) None in
    let s = length-replicate {A = Option ℕ} (c.args.n - (c.loop-i.i - at)) (Some 0) in
    let l = ap length c.in_ok-append_zeros.ensures.ok in
    let k2 = length-append c.args.self.now (replicate c.args.n (Some 0)) in
    let r2 = length-replicate {A = Option ℕ} c.args.n (Some 0) in
    let e = c.len-at.ensures in
    let f = c.len-end.ensures in
    let t = c.loop-i-test.true in
    omega arith

pub returns-clause-ok : goal.returns-clause-ok
returns-clause-ok g c =
    let at = c.len-at.result in
    let l = ap length c.in_ok-append_zeros.ensures.ok in
    let k2 = length-append c.args.self.now (replicate c.args.n (Some 0)) in
    let r2 = length-replicate {A = Option ℕ} c.args.n (Some 0) in
    let e = c.len-at.ensures in
    let f = c.len-end.ensures in
    let a = c.loop-i.auto.i in
    let b = c.loop-i.auto.i-end in
    let t = c.loop-i-test.false in
    let full : c.loop-i.i - at ≡ c.args.n = omega arith in
    let none : c.args.n - (c.loop-i.i - at) ≡ 0 = omega arith in (
      c.len-at.ensures,
      c.loop-i.invariant
          ∙ ap₂ (λ (i j : ℕ). c.args.self.now ++ (replicate i None ++ replicate j (Some 0))) full none
          ∙ ap (λ (xs : List (Option ℕ)). c.args.self.now ++ xs) (append-nil (replicate c.args.n None)),
    )
