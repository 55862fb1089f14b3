-- Lemmas for `height`, `show`, `trim`, `trimming`, capn_canon, capn_layout and other crates: a value fits if and only
-- if the six facts of `IsFit` hold of it.
use Rattle.std.proofs.Common.{◌≡◌, Bool, true, false, cond, nat_lt, refl, Option, Some, None}
use Rattle.std.proofs.lemmas.Bool.{ltb-false, le-ltb}
use Rattle.capn_value.specs.Tree.{Tree}
use Rattle.capn_value.specs.declared.tariff.Tariff.TheVariants.{Plain}
use Rattle.capn_value.specs.Cost.{height, base, cost, most_cost, most_height}
use Rattle.capn_value.specs.Fits.{anywhere, is_wide, is_long, is_ragged, is_root, misfit, Fits, IsFit}
use Rattle.capn_value.specs.declared.misfit.Misfit.{Misfit}
use Rattle.capn_value.specs.declared.misfit.Misfit.TheVariants.{Wide, Long, Ragged, Costly, Tall, BadRoot}

passed : (b : Bool) (m : Misfit) (r : Option Misfit) → cond b (Some m) r ≡ None → (b ≡ false) × (r ≡ None)
passed true m r h = absurd (cc)
passed false m r h = (refl, h)

rooted : (b : Bool) → cond b None (Some BadRoot) ≡ None → b ≡ true
rooted true h = refl
rooted false h = absurd (cc)

pub fit_parts : (t : Tree) → Fits t → IsFit t
unfolding Fits misfit
fit_parts t h =
    let a = passed (anywhere is_wide t) Wide _ h in
    let b = passed (anywhere is_long t) Long _ a.1 in
    let c = passed (anywhere is_ragged t) Ragged _ b.1 in
    let d = passed (nat_lt most_cost (cost (base Plain) t)) Costly _ c.1 in
    let e = passed (nat_lt most_height (height t)) Tall _ d.1 in
    record {
      narrow = a.0;
      short = b.0;
      even = c.0;
      cheap = ltb-false _ _ d.0;
      low = ltb-false _ _ e.0;
      root =
          rooted (is_root t) e.1;
    }

pub fit_from : (t : Tree) → IsFit t → Fits t
unfolding Fits misfit
fit_from t p =
    let d : nat_lt most_cost (cost (base Plain) t) ≡ false = le-ltb _ _ p.cheap in
    let e : nat_lt most_height (height t) ≡ false = le-ltb _ _ p.low in
    rw (p.narrow, p.short, p.even, d, e, p.root)
