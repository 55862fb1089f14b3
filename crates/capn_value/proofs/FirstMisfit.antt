-- Lemmas for `trimming`: the misfit of a value is the first misfit that the value has, in the order of the six tests.
use Rattle.std.proofs.Common.{◌≡◌, ◌↔◌, Bool, true, false, cond, nat_lt, refl, Option, Some, None}
use Rattle.capn_value.specs.Tree.{Tree}
use Rattle.capn_value.specs.Cost.{height, base, cost, most_cost, most_height}
use Rattle.capn_value.specs.Fits.{anywhere, is_wide, is_long, is_ragged, is_root, misfit, IsFirst}
use Rattle.capn_value.specs.declared.tariff.Tariff.TheVariants.{Plain}
use Rattle.capn_value.specs.declared.misfit.Misfit.{Misfit}
use Rattle.capn_value.specs.declared.misfit.Misfit.TheVariants.{Wide, Long, Ragged, Costly, Tall, BadRoot}

-- The misfit of the first true test among `a` to `e`. If all five are false, `BadRoot` if `f` is false, and otherwise
-- `None`.
abbrev choice : (a b c d e f : Bool) → Option Misfit
choice a b c d e f =
    cond a (Some Wide)
    (cond b (Some Long)
    (cond c (Some Ragged) (cond d (Some Costly) (cond e (Some Tall) (cond f None (Some BadRoot))))))

abbrev IsChoice : Misfit → (a b c d e f : Bool) → Type 0
IsChoice Wide a b c d e f = a ≡ true
IsChoice Long a b c d e f = (a ≡ false) × (b ≡ true)
IsChoice Ragged a b c d e f = (a ≡ false) × (b ≡ false) × (c ≡ true)
IsChoice Costly a b c d e f = (a ≡ false) × (b ≡ false) × (c ≡ false) × (d ≡ true)
IsChoice Tall a b c d e f = (a ≡ false) × (b ≡ false) × (c ≡ false) × (d ≡ false) × (e ≡ true)
IsChoice BadRoot a b c d e f = (a ≡ false) × (b ≡ false) × (c ≡ false) × (d ≡ false) × (e ≡ false) × (f ≡ false)

chosen : (a b c d e f : Bool) (k : Misfit) → choice a b c d e f ≡ Some k → IsChoice k a b c d e f
chosen true b c d e f Wide h = refl
chosen true b c d e f Long h = absurd (cc)
chosen true b c d e f Ragged h = absurd (cc)
chosen true b c d e f Costly h = absurd (cc)
chosen true b c d e f Tall h = absurd (cc)
chosen true b c d e f BadRoot h = absurd (cc)
chosen false true c d e f Wide h = absurd (cc)
chosen false true c d e f Long h = (refl, refl)
chosen false true c d e f Ragged h = absurd (cc)
chosen false true c d e f Costly h = absurd (cc)
chosen false true c d e f Tall h = absurd (cc)
chosen false true c d e f BadRoot h = absurd (cc)
chosen false false true d e f Wide h = absurd (cc)
chosen false false true d e f Long h = absurd (cc)
chosen false false true d e f Ragged h = (refl, refl, refl)
chosen false false true d e f Costly h = absurd (cc)
chosen false false true d e f Tall h = absurd (cc)
chosen false false true d e f BadRoot h = absurd (cc)
chosen false false false true e f Wide h = absurd (cc)
chosen false false false true e f Long h = absurd (cc)
chosen false false false true e f Ragged h = absurd (cc)
chosen false false false true e f Costly h = (refl, refl, refl, refl)
chosen false false false true e f Tall h = absurd (cc)
chosen false false false true e f BadRoot h = absurd (cc)
chosen false false false false true f Wide h = absurd (cc)
chosen false false false false true f Long h = absurd (cc)
chosen false false false false true f Ragged h = absurd (cc)
chosen false false false false true f Costly h = absurd (cc)
chosen false false false false true f Tall h = (refl, refl, refl, refl, refl)
chosen false false false false true f BadRoot h = absurd (cc)
chosen false false false false false true Wide h = absurd (cc)
chosen false false false false false true Long h = absurd (cc)
chosen false false false false false true Ragged h = absurd (cc)
chosen false false false false false true Costly h = absurd (cc)
chosen false false false false false true Tall h = absurd (cc)
chosen false false false false false true BadRoot h = absurd (cc)
chosen false false false false false false Wide h = absurd (cc)
chosen false false false false false false Long h = absurd (cc)
chosen false false false false false false Ragged h = absurd (cc)
chosen false false false false false false Costly h = absurd (cc)
chosen false false false false false false Tall h = absurd (cc)
chosen false false false false false false BadRoot h = (refl, refl, refl, refl, refl, refl)

choosing : (a b c d e f : Bool) (k : Misfit) → IsChoice k a b c d e f → choice a b c d e f ≡ Some k
choosing a b c d e f Wide h = rw h refl
choosing a b c d e f Long h = rw (h.0, h.1) refl
choosing a b c d e f Ragged h = rw (h.0, h.1, h.2) refl
choosing a b c d e f Costly h = rw (h.0, h.1, h.2, h.3) refl
choosing a b c d e f Tall h = rw (h.0, h.1, h.2, h.3, h.4) refl
choosing a b c d e f BadRoot h = rw (h.0, h.1, h.2, h.3, h.4, h.5) refl

both : (a b c d e f : Bool) (k : Misfit) → (choice a b c d e f ≡ Some k) ↔ IsChoice k a b c d e f
both a b c d e f k = (chosen a b c d e f k, choosing a b c d e f k)

-- the misfit of the value `t` is `k` if and only if `k` is the first misfit that `t` has
pub first_misfit : (t : Tree) (k : Misfit) → (misfit t ≡ Some k) ↔ IsFirst k t
unfolding misfit
first_misfit t Wide =
    both (anywhere is_wide t) (anywhere is_long t) (anywhere is_ragged t) (nat_lt most_cost (cost (base Plain) t))
    (nat_lt most_height (height t)) (is_root t) Wide
first_misfit t Long =
    both (anywhere is_wide t) (anywhere is_long t) (anywhere is_ragged t) (nat_lt most_cost (cost (base Plain) t))
    (nat_lt most_height (height t)) (is_root t) Long
first_misfit t Ragged =
    both (anywhere is_wide t) (anywhere is_long t) (anywhere is_ragged t) (nat_lt most_cost (cost (base Plain) t))
    (nat_lt most_height (height t)) (is_root t) Ragged
first_misfit t Costly =
    both (anywhere is_wide t) (anywhere is_long t) (anywhere is_ragged t) (nat_lt most_cost (cost (base Plain) t))
    (nat_lt most_height (height t)) (is_root t) Costly
first_misfit t Tall =
    both (anywhere is_wide t) (anywhere is_long t) (anywhere is_ragged t) (nat_lt most_cost (cost (base Plain) t))
    (nat_lt most_height (height t)) (is_root t) Tall
first_misfit t BadRoot =
    both (anywhere is_wide t) (anywhere is_long t) (anywhere is_ragged t) (nat_lt most_cost (cost (base Plain) t))
    (nat_lt most_height (height t)) (is_root t) BadRoot
