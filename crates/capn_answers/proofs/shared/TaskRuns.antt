-- A lemma on the result of the run of a task, if the result does not depend on the task. (For the calls of this crate
-- and of capn_c on a task.)
use Rattle.std.proofs.Common.{ℕ, inl, inr, List, Result}
use Rattle.capn_walk.specs.Limits.{Bounds}
use Rattle.capn_canon.specs.declared.form.Form.{Form}
use Rattle.capn_canon.specs.declared.refusal.Refusal.{Refusal}
use Rattle.capn_canon.specs.Answered.{IsAnswered, IsRun}

-- If `answers` does not depend on the task, the result `r` of a run is an answer for `bs` (`IsAnswered`).
pub run_answered : {T S : Type 0} (answers : List (List ℕ) → Bounds → Result T Refusal → Type 0) (form : Form)
    (bs : List ℕ) (limits : Bounds) (old : S) (r : Result T Refusal) (new : S)
    → IsRun form bs limits (λ task m l x after. answers m l x) old r new → IsAnswered form bs limits answers r
run_answered answers form bs limits old r new (inl (m, is, h)) = inl (m, is, h)
run_answered answers form bs limits old r new (inr (e, is, h, same)) = inr (e, is, h)
