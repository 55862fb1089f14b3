use Rattle.std.proofs.Common.{◌≡◌, ℕ, ◌≤◌, max, nat_lt, List, [], ◌∷◌, false, refl, sym, subst, arith}
use Rattle.std.proofs.lemmas.Bool.Decides.{nat_tests}
use Rattle.capn_words.specs.Watched.{inner_of, has_failed}
use Rattle.capn_serve.specs.declared.pick.Range.{Range}
use Rattle.capn_serve.specs.Pick.{range_of}
use Rattle.capn_serve.specs.PickRun.{PicksRanges}
use Rattle.capn_serve.proofs.pick_run.run_pick.Goals as goal

is_not_below : (a b : ℕ) → b ≤ a → nat_lt a b ≡ false
is_not_below a b h = grind (arith, nat_tests)

one_range : (from to first : ℕ) → first ≡ max from 1 → first ≤ to
    → (record { from = first; to = to }) ∷ [] ≡ range_of from to
one_range from to first is some =
    subst (λ (n : ℕ). (record { from = n; to = to }) ∷ [] ≡ range_of from to) (sym is)
    (rw (is_not_below to (max from 1) (subst (λ (n : ℕ). n ≤ to) is some)) refl)

pub returns : goal.returns
returns g c =
    let pick = c.args.pick in
    let some : c.max-from.result ≤ pick.to = omega (arith, c.if-pick-from.false) in
    subst (λ (rs : List Range). PicksRanges pick.limits.message_words rs pick.form
    (g.R.Read.remaining (inner_of c.args.reader.now)) (g.R.Read.remaining (inner_of c.run_only-2.new.reader))
    (g.W.Write.contents (inner_of c.args.writer.now)) (g.W.Write.contents (inner_of c.run_only-2.new.writer))
    (has_failed c.run_only-2.new.reader) (has_failed c.run_only-2.new.writer) c.run_only-2.result)
    (one_range pick.from pick.to c.max-from.result c.max-from.ensures some) c.run_only-2.ensures
