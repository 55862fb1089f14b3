-- The number of reads that a pass may still make, and the result of a step of the pass.
use Rattle.std.specs.Prelude.{ℕ, ◌+◌, ◌-◌, ◌*◌, ◌≤◌, Option, IfSome, IsSome}
use Rattle.capn_canon.specs.declared.progress.Pass.{Pass}
use Rattle.capn_canon.specs.declared.progress.Progress.{Progress}

-- The greatest number of reads and loop turns for the pass `p`: seven for each slot, and ten for each word that may
-- still be paid. (Our own.)
abbrev pub may_read : Pass → ℕ
may_read p = 7 * (p.end - p.from) + 10 * p.left

-- If `r` is `Some`, `finds` holds of the progress `q` in it, and the step makes at most `may - 10 * q.left` reads.
-- If `due` holds, `r` is `Some`. For any `r` the step makes at most `may` reads. (Our own.)
pub record Passes (finds : Progress → ℕ → Type 0) (due : Type 0) (may : ℕ) (r : Option Progress) (low old new : ℕ)
    : Type 0 where
  pub found : IfSome r (λ q. finds q low)
  pub only : due → IsSome r
  pub reads : IfSome r (λ q. new + 10 * q.left ≤ old + may)
  pub most : new ≤ old + may
