use Rattle.std.proofs.Common.{ℕ, ◌-◌, ◌<◌, [], ◌∷◌, length, None, refl, ap, sym, subst, ◌∙◌, arith, not, nat_eq}
use Rattle.std.proofs.Common.{◌≡◌, IsTrue}
use Rattle.std.proofs.lemmas.Bool.Decides.{nat_tests}
use Rattle.capn_value.specs.Cost.{base}
use Rattle.capn_value.specs.declared.tariff.Tariff.{Tariff}
use Rattle.capn_walk.specs.Depth.{IsDepth}
use Rattle.capn_canon.proofs.check.CanonicalSurvey.{under-limits, canonical-survey, canonical-depth}
use Rattle.capn_canon.proofs.check.DueRoot.{root-due, root-ends}
use Rattle.capn_canon.proofs.canonical_survey.measure_root.Goals as goal

yes-same : (a b : ℕ) → IsTrue (nat_eq a b) → a ≡ b
yes-same a b t = grind (arith, nat_tests)

same-yes : (a b : ℕ) → a ≡ b → IsTrue (nat_eq a b)
same-yes a b e = grind (arith, nat_tests)

pub returns-in-None-clause-only : goal.returns-in-None-clause-only
returns-in-None-clause-only g c v h free e =
    let l = c.args.limits in
    let db = c.budget-budget.ensures.value in
    let dd = c.depth-depth.ensures.value in
    let small = c.budget-budget.ensures.within in
    let shallow = c.depth-depth.ensures.within in
    let only = rw c.again.ensures at c.in-None.ensures.only in
    only
    (root-due c.args.space.now l v c.requires (omega arith) (omega arith) h free e c.base.result c.depth-depth.result
    c.budget-budget.result (c.base.ensures.value ∙ ap (λ (t : Tariff). base t) c.tariff.ensures) dd db)

pub returns-then-this-ne0-clause-found : goal.returns-then-this-ne0-clause-found
returns-then-this-ne0-clause-found g c =
    let all = c.args.space.now in
    let l = c.args.limits in
    let q = c.in-Some.progress in
    let size = c.words_of-size.ensures.words in
    let ne = c.if-size-eq0.false in
    let some : 0 < length all = omega arith in
    let base_is = c.base.ensures.value ∙ ap (λ (t : Tariff). base t) c.tariff.ensures in
    let deep = not (nat_eq g.row.DEEP 0) in
    let small = c.budget-budget.ensures.within in
    let shallow = c.depth-depth.ensures.within in
    let low = c.check_object.new.least in
    let found = rw c.again.ensures at c.in-Some.ensures.found in
    let f = under-limits all l deep c.base.result c.depth-depth.result c.budget-budget.result q low base_is
    c.depth-depth.ensures.value c.budget-budget.ensures.value found in
    canonical-survey all l deep some q low f
    (record {
      paid = c.budget-budget.result - q.left;
      visits = q.visits;
      capability = None;
      is_canonical = nat_eq q.next c.words_of-size.result;
    }) (ap (λ (n : ℕ). n - q.left) c.budget-budget.ensures.value) refl refl
    (λ t. yes-same q.next c.words_of-size.result t ∙ size)
    (λ v h free e. same-yes q.next c.words_of-size.result
    (root-ends all l v c.requires (omega arith) (omega arith) h free e l.depth l.budget q f ∙ sym size))

pub returns-then-this-ne0-clause-depth : goal.returns-then-this-ne0-clause-depth
returns-then-this-ne0-clause-depth g c on t =
    let all = c.args.space.now in
    let l = c.args.limits in
    let q = c.in-Some.progress in
    let size = c.words_of-size.ensures.words in
    let ne = c.if-size-eq0.false in
    let some : 0 < length all = omega arith in
    let dd = c.depth-depth.ensures.value in
    let db = c.budget-budget.ensures.value in
    let small = c.budget-budget.ensures.within in
    let shallow = c.depth-depth.ensures.within in
    let base_is = c.base.ensures.value ∙ ap (λ (t : Tariff). base t) c.tariff.ensures in
    let deep = not (nat_eq g.row.DEEP 0) in
    let low = c.check_object.new.least in
    let found = rw c.again.ensures at c.in-Some.ensures.found in
    let f = under-limits all l deep c.base.result c.depth-depth.result c.budget-budget.result q low base_is dd db
    found in
    subst (λ (n : ℕ). IsDepth (all ∷ []) l (n - low)) (sym dd)
    (canonical-depth all l deep some q low f (yes-same q.next c.words_of-size.result t ∙ size) c.requires
    (omega arith) (omega arith) on).0

pub returns-else-this-ne0-clause-found : goal.returns-else-this-ne0-clause-found
returns-else-this-ne0-clause-found g c =
    let all = c.args.space.now in
    let l = c.args.limits in
    let q = c.in-Some.progress in
    let size = c.words_of-size.ensures.words in
    let ne = c.if-size-eq0.false in
    let some : 0 < length all = omega arith in
    let base_is = c.base.ensures.value ∙ ap (λ (t : Tariff). base t) c.tariff.ensures in
    let deep = not (nat_eq g.row.DEEP 0) in
    let small = c.budget-budget.ensures.within in
    let shallow = c.depth-depth.ensures.within in
    let low = c.check_object.new.least in
    let found = rw c.again.ensures at c.in-Some.ensures.found in
    let f = under-limits all l deep c.base.result c.depth-depth.result c.budget-budget.result q low base_is
    c.depth-depth.ensures.value c.budget-budget.ensures.value found in
    canonical-survey all l deep some q low f
    (record {
      paid = c.budget-budget.result - q.left;
      visits = q.visits;
      capability = None;
      is_canonical = nat_eq q.next c.words_of-size.result;
    }) (ap (λ (n : ℕ). n - q.left) c.budget-budget.ensures.value) refl refl
    (λ t. yes-same q.next c.words_of-size.result t ∙ size)
    (λ v h free e. same-yes q.next c.words_of-size.result
    (root-ends all l v c.requires (omega arith) (omega arith) h free e l.depth l.budget q f ∙ sym size))
