-- The results of private calls that write canonical bytes.
use Rattle.std.specs.Prelude.{◌≡◌, ℕ, ◌+◌, List, length, Result, IfOk, IfErr, OnErr, MatchResult}
use Rattle.capn_walk.specs.Accepted.{IsBounded}
use Rattle.capn_walk.specs.Limits.{Bounds}
use Rattle.capn_canon.specs.declared.form.Form.{Form}
use Rattle.capn_canon.specs.declared.form.Form.TheVariants as forms
use Rattle.capn_canon.specs.declared.length.CanonicalLength.{CanonicalLength}
use Rattle.capn_canon.specs.Theorem.{WrittenInto}
use Rattle.capn_scratch.specs.FormRefusal.{IsFormPaidWithin, IsFormRefused, IsMessageRefused, LacksTable}
use Rattle.capn_scratch.specs.Theorem.{WrittenForm}
use Rattle.capn_scratch.specs.declared.refusal.FormRefusal.{FormRefusal}
use Rattle.capn_scratch.specs.declared.refusal.FormRefusal.TheVariants as told

-- If `r` is `Ok`, the canonical bytes of `message` are written to the buffer (`WrittenInto`). If `r` is an `Err`, its
-- refusal is true of `message` (`IsMessageRefused`), and the buffer is as before. The number of words paid, in an `Ok`,
-- a `Walk` or a `NoRoom`, is at most the budget.
pub record IsTold (message : List (List ℕ)) (limits : Bounds) (old new : List ℕ)
    (r : Result CanonicalLength FormRefusal) : Type 0 where
  pub written : IfOk r (λ c. WrittenInto message limits old new c)
  pub refused : IfErr r (λ e. IsMessageRefused message limits (length old) e)
  pub unchanged : OnErr r (new ≡ old)
  pub bounded : MatchResult r (λ c. IsBounded limits.budget c.paid c.visits) (λ e. IsFormPaidWithin limits.budget e)

-- If `r` is `Ok`, the canonical bytes for `bs` in `form` are written to the buffer (`WrittenForm`). If `r` is an `Err`,
-- its refusal is true of `bs` (`IsFormRefused`), and the buffer is as before. The number of words paid, in an `Ok`, a
-- `Walk` or a `NoRoom`, is at most the budget.
pub record IsFormTold (form : Form) (bs : List ℕ) (limits : Bounds) (scratch : ℕ) (old new : List ℕ)
    (r : Result CanonicalLength FormRefusal) : Type 0 where
  pub written : IfOk r (λ c. WrittenForm form bs limits scratch old new c)
  pub refused : IfErr r (λ e. IsFormRefused form bs limits scratch (length old) e)
  pub unchanged : OnErr r (new ≡ old)
  pub bounded : MatchResult r (λ c. IsBounded limits.budget c.paid c.visits) (λ e. IsFormPaidWithin limits.budget e)

-- The refusal is true of the frame `bs`. If it is `NoScratch`, its number is `before` more than the number of words
-- that `bs` need.
abbrev pub IsFrameRefusedAfter : ℕ → List ℕ → Bounds → ℕ → ℕ → FormRefusal → Type 0
IsFrameRefusedAfter before bs limits scratch room (told.NoScratch n) =
    (k : ℕ) × (n ≡ before + k) × LacksTable forms.Stream bs limits.message_words scratch k
IsFrameRefusedAfter before bs limits scratch room e = IsFormRefused forms.Stream bs limits scratch room e

-- If `r` is `Ok`, the canonical bytes for the frame `bs` are written to the buffer (`WrittenForm`). If `r` is an `Err`,
-- its refusal is true of `bs` (`IsFrameRefusedAfter`), and the buffer is as before. The number of words paid, in an
-- `Ok`, a `Walk` or a `NoRoom`, is at most the budget.
pub record IsFrameTold (before : ℕ) (bs : List ℕ) (limits : Bounds) (scratch : ℕ) (old new : List ℕ)
    (r : Result CanonicalLength FormRefusal) : Type 0 where
  pub written : IfOk r (λ c. WrittenForm forms.Stream bs limits scratch old new c)
  pub refused : IfErr r (λ e. IsFrameRefusedAfter before bs limits scratch (length old) e)
  pub unchanged : OnErr r (new ≡ old)
  pub bounded : MatchResult r (λ c. IsBounded limits.budget c.paid c.visits) (λ e. IsFormPaidWithin limits.budget e)
