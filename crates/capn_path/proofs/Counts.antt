-- The count of the reads of a search: a test that finds nothing pays for ten reads. (For `seek_slot` and the searches
-- below it, and for `path_of_visit_counted`.)
use Rattle.std.proofs.Common.{◌≡◌, ℕ, zero, suc, ◌+◌, ◌-◌, ◌*◌, ◌<◌, ◌≤◌, Option, Some, None, Result, Ok, Err}
use Rattle.std.proofs.Common.{IfNone, IfOk, subst, sym, refl, arith}
use Rattle.capn_words.specs.declared.space.Place.{Place}
use Rattle.capn_target.specs.declared.target.Target.{Target}
use Rattle.capn_target.specs.declared.target.Fault.{Fault}
use Rattle.capn_path.specs.declared.visit.Numbered.{Numbered}
use Rattle.capn_path.specs.inner.Numbered.{found_at, one_less}
use Rattle.capn_path.specs.inner.Tested.{IsLowered, IsSpared}
use Rattle.capn_path.proofs.Stopping.{counted-here}

module _ {G F : Type 0} (finds : G → Place → Result Target Fault → Option F) (next : G → G) (left : G → ℕ)
    (lowered : IsLowered finds next left) where
  -- a test that finds nothing lowers `left`
  pub fell : (aim after : G) (at : Place) (named : Result Target Fault) → finds aim at named ≡ None
      → after ≡ next aim → left after < left aim
  fell aim after at named none is =
      subst (λ (z : G). left z < left aim) (sym is) (lowered aim at named none)

-- a search without a find that is counted from `between` on, is also counted from an earlier `from` on
module _ {G F : Type 0} (finds : G → Place → Result Target Fault → Option F) (next : G → G) (spared less : ℕ)
    (old mid new : G) (from between to : ℕ)
    (before : (left : G → ℕ) → IsLowered finds next left
    → between + 10 * left mid + less ≤ from + 10 * left old + spared) where
  spared-on : IsSpared finds next spared mid new between to → IsSpared finds next less old new from to
  spared-on h left lowered = let p = h left lowered in let q = before left lowered in omega (arith, p, q)

  pub none-on : (found : Option F) → IfNone found (IsSpared finds next spared mid new between to)
      → IfNone found (IsSpared finds next less old new from to)
  none-on None h = spared-on h
  none-on (Some x) h = tt

  pub ok-on : {E : Type 0} (r : Result (Option F) E)
      → IfOk r (λ found. IfNone found (IsSpared finds next spared mid new between to))
      → IfOk r (λ found. IfNone found (IsSpared finds next less old new from to))
  ok-on (Ok found) h = none-on found h
  ok-on (Err e) h = tt

-- a test for a visit by its number lowers the number of visits that are left
less-by-one : (n : ℕ) → (n ≡ 0 → ⊥) → n - 1 < n
less-by-one zero some = absurd (some refl)
less-by-one (suc n) some = omega arith

pub numbered-lowered : IsLowered found_at one_less (λ (aim : Numbered). aim.left)
numbered-lowered aim at named none = less-by-one aim.left (counted-here aim at named none)
