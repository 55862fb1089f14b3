use Rattle.std.proofs.Common.{◌≡◌, ◌%◌, ◌<◌, ◌^◌, ℕ, List, length, Result, Ok, Err, IfOk, Vec, sym, subst}
use Rattle.capn_make.proofs.CanonBytes.{canon_short, canon_whole}
use Rattle.capn_make.proofs.written_value.canonical.Goals as goal

of_answer : {A E : Type 0} (P : List ℕ → Type 0) (bytes : List ℕ) (r : Result (Vec ℕ A) E)
    → IfOk r (λ v. v.items ≡ bytes) → P bytes → IfOk r (λ v. P v.items)
of_answer P bytes (Ok v) is h = subst P (sym is) h
of_answer P bytes (Err e) is h = tt

pub returns-clause-short : goal.returns-clause-short
returns-clause-short g c =
    of_answer (λ bs. length bs < 2 ^ 35) _ c.layout.result c.layout.ensures.found
    (canon_short c.canonicity.ensures.form c.args.tree.now c.value-value.ensures.fits c.value-value.ensures.in_range)

pub returns-clause-whole : goal.returns-clause-whole
returns-clause-whole g c =
    of_answer (λ bs. length bs % 8 ≡ 0) _ c.layout.result c.layout.ensures.found
    (canon_whole c.canonicity.ensures.form c.args.tree.now c.value-value.ensures.fits c.value-value.ensures.in_range)
