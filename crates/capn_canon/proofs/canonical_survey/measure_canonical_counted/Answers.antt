use Rattle.std.proofs.Common.{ℕ, List, [], ◌∷◌, refl, ap, sym, subst, ◌∙◌}
use Rattle.capn_words.specs.Message.{bytes}
use Rattle.capn_value.specs.FirstCap.{first_cap}
use Rattle.capn_walk.specs.Accepted.{root, IsValueOf}
use Rattle.capn_walk.specs.Depth.{IsDepth}
use Rattle.capn_walk.proofs.shared.Unique.{unique}
use Rattle.capn_layout.specs.Layout.{canon}
use Rattle.capn_canon.proofs.canonical_survey.measure_canonical_counted.Goals as goal

pub returns-in-None-clause-only : goal.returns-in-None-clause-only
returns-in-None-clause-only g c v h free e =
    let w = c.of-words.ensures in
    c.in-None.ensures.only v (subst (λ (m : List (List ℕ)). IsValueOf m c.args.limits v) (sym w.message) h) free
    (e ∙ ap bytes (sym w.words))

pub returns-else-measured-clause-only : goal.returns-else-measured-clause-only
returns-else-measured-clause-only g c v h free e =
    let w = c.of-words.ensures in
    let here = subst (λ (m : List (List ℕ)). IsValueOf m c.args.limits v) (sym w.message) h in
    let f = c.in-Some.ensures.found in
    let same = unique (c.of-words.result ∷ []) f.value v root f.is.is here.is in
    let yes = f.answer.1 (ap first_cap same ∙ free, ap canon same ∙ e ∙ ap bytes (sym w.words)) in
    let no = c.if-measured.false in
    cc

pub returns-then-measured-clause-found : goal.returns-then-measured-clause-found
returns-then-measured-clause-found g c = rw c.of-words.ensures.words at c.in-Some.ensures.found

pub returns-then-measured-clause-depth : goal.returns-then-measured-clause-depth
returns-then-measured-clause-depth g c = subst
    (λ (m : List (List ℕ)). IsDepth m c.args.limits c.in-Some.measured.depth) c.of-words.ensures.message
    (c.in-Some.ensures.depth refl c.if-measured.true)
