-- The status says whether the values are the same. A refusal concerns the message that `which` names, and has the
-- status 8 only if memory ran out.
use Rattle.std.proofs.Common.{◌≡◌, ℕ, Bool, true, false, inl, inr, refl, ap, sym, subst, ◌∙◌, arith, Result, Err}
use Rattle.capn_walk.specs.Limits.{AreLimits}
use Rattle.capn_canon.specs.MemoryNeed.{MayNeedMemory}
use Rattle.capn_canon.specs.declared.refusal.Refusal.{Refusal}
use Rattle.capn_canon.proofs.shared.NotRefused.{not_refused}
use Rattle.capn_abi.specs.StatusCodes.{code}
use Rattle.capn_c.specs.Compared.{named}
use Rattle.capn_c.specs.inner.Told.{IsCompared}
use Rattle.capn_c.proofs.Comparisons.{same_only, told_in}
use Rattle.capn_c.proofs.OutOfMemory.{refused_memory}
use Rattle.capn_c.proofs.same_call.compare.Goals as goal

-- ---- both messages are compared

pub returns-in-Ok-true-clause-same : goal.returns-in-Ok-true-clause-same
returns-in-Ok-true-clause-same c t =
    let l = c.args.limits in
    let are : AreLimits l.message_words l.budget l.depth =
    record {
      some_words = omega arith;
      few_words = omega arith;
      small_budget = omega arith;
      some_depth = omega arith;
      small_depth = omega arith;
    } in
    told_in c.args.form c.args.first.now c.args.second.now l c.denotation.ensures.form c.canonicity.ensures.exactly are
    c.in-Ok.compared c.in-Ok-true.field-0 true c.in-Ok.ensures.found c.in-Ok-true.is c.in-Ok-true.field-0-test

pub returns-in-Ok-true-clause-only : goal.returns-in-Ok-true-clause-only
returns-in-Ok-true-clause-only c v w d =
    let l = c.args.limits in
    let are : AreLimits l.message_words l.budget l.depth =
    record {
      some_words = omega arith;
      few_words = omega arith;
      small_budget = omega arith;
      some_depth = omega arith;
      small_depth = omega arith;
    } in
    let told =
    told_in c.args.form c.args.first.now c.args.second.now l c.denotation.ensures.form c.canonicity.ensures.exactly are
    c.in-Ok.compared c.in-Ok-true.field-0 true c.in-Ok.ensures.found c.in-Ok-true.is c.in-Ok-true.field-0-test in
    let s = same_only c.args.form c.args.first.now c.args.second.now l true told v w d in
    inr (inl (refl, s.0 refl))

pub returns-in-Ok-false-clause-different : goal.returns-in-Ok-false-clause-different
returns-in-Ok-false-clause-different c t =
    let l = c.args.limits in
    let are : AreLimits l.message_words l.budget l.depth =
    record {
      some_words = omega arith;
      few_words = omega arith;
      small_budget = omega arith;
      some_depth = omega arith;
      small_depth = omega arith;
    } in
    told_in c.args.form c.args.first.now c.args.second.now l c.denotation.ensures.form c.canonicity.ensures.exactly are
    c.in-Ok.compared c.in-Ok-false.field-0 false c.in-Ok.ensures.found c.in-Ok-false.is c.in-Ok-false.field-0-test

pub returns-in-Ok-false-clause-only : goal.returns-in-Ok-false-clause-only
returns-in-Ok-false-clause-only c v w d =
    let l = c.args.limits in
    let are : AreLimits l.message_words l.budget l.depth =
    record {
      some_words = omega arith;
      few_words = omega arith;
      small_budget = omega arith;
      some_depth = omega arith;
      small_depth = omega arith;
    } in
    let told =
    told_in c.args.form c.args.first.now c.args.second.now l c.denotation.ensures.form c.canonicity.ensures.exactly are
    c.in-Ok.compared c.in-Ok-false.field-0 false c.in-Ok.ensures.found c.in-Ok-false.is c.in-Ok-false.field-0-test in
    let s = same_only c.args.form c.args.first.now c.args.second.now l false told v w d in
    inr (inr (refl, (λ q. let t : false ≡ true = s.1 q in absurd cc)))

-- ---- the second message is refused

pub returns-in-Err-compared-clause-only : goal.returns-in-Err-compared-clause-only
returns-in-Err-compared-clause-only c v w d =
    let l = c.args.limits in
    let h = subst (λ (r : Result Bool Refusal). IsCompared c.args.form c.args.first.now c.args.second.now l r)
    c.in-Err-compared.is c.in-Ok.ensures.found in
    inl (c.refuse.ensures.status_is ∙ ap code
    (not_refused c.args.form c.args.second.now l w c.in-Err-compared.refusal d.other d.other_free h.second.refused))

pub returns-in-Err-compared-clause-memory : goal.returns-in-Err-compared-clause-memory
returns-in-Err-compared-clause-memory c e =
    let l = c.args.limits in
    let h = subst (λ (r : Result Bool Refusal). IsCompared c.args.form c.args.first.now c.args.second.now l r)
    c.in-Err-compared.is c.in-Ok.ensures.found in
    h.second.memory
    (ap Err
    (refused_memory c.args.form c.args.second.now l c.in-Err-compared.refusal h.second.refused
    (sym c.refuse.ensures.status_is ∙ e)))

-- ---- the first message is refused

pub returns-in-Err-clause-only : goal.returns-in-Err-clause-only
returns-in-Err-clause-only c v w d =
    inl (c.refuse-in-Err.ensures.status_is ∙ ap code
    (not_refused c.args.form c.args.first.now c.args.limits v c.in-Err.refusal d.one d.one_free
    c.in-Err.ensures.refused))

pub returns-in-Err-clause-memory : goal.returns-in-Err-clause-memory
returns-in-Err-clause-memory c e =
    subst (λ (n : ℕ). MayNeedMemory c.args.form (named n c.args.first.now c.args.second.now) c.args.limits)
    (sym c.requires.blank.0)
    (c.in-Err.ensures.memory
    (ap Err
    (refused_memory c.args.form c.args.first.now c.args.limits c.in-Err.refusal c.in-Err.ensures.refused
    (sym c.refuse-in-Err.ensures.status_is ∙ e))))
