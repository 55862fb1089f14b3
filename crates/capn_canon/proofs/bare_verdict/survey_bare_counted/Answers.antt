use Rattle.std.proofs.Common.{◌≡◌, ℕ, List, [], ◌∷◌, ap, sym, subst, ◌∙◌}
use Rattle.capn_words.specs.Message.{bytes, segment_at}
use Rattle.capn_value.specs.FirstCap.{first_cap}
use Rattle.capn_walk.specs.Accepted.{root, IsValueOf, paid, number_of_visits}
use Rattle.capn_walk.proofs.shared.Unique.{unique}
use Rattle.capn_canon.proofs.places.Compared.{not-true}
use Rattle.capn_canon.proofs.bare_verdict.survey_bare_counted.Goals as goal

pub returns-in-Some-clause-found : goal.returns-in-Some-clause-found
returns-in-Some-clause-found g c = rw c.of-words.ensures.words at c.in-Some.ensures.found

pub returns-in-Some-clause-only : goal.returns-in-Some-clause-only
returns-in-Some-clause-only g c v h =
    let here = subst (λ (m : List (List ℕ)). IsValueOf m c.args.limits v) (sym c.of-words.ensures.message) h in
    let f = c.in-Some.ensures.found in
    f.capability ∙ ap first_cap (unique (c.of-words.result ∷ []) f.value v root f.is.is here.is)

pub returns-clause-found : goal.returns-clause-found
returns-clause-found g c =
    let m = c.args.space.now in
    let l = c.args.limits in
    let w = c.of-words.ensures in
    let f = c.in_ok-told.ensures.found in
    let whole : segment_at m 0 ∷ [] ≡ m = ap (λ (ws : List ℕ). ws ∷ []) (sym w.words) ∙ w.message in
    let here = subst (λ (x : List (List ℕ)). IsValueOf x l f.value) (sym w.message) f.is in
    record {
      value = f.value;
      is = subst (λ (x : List (List ℕ)). IsValueOf x l f.value) (sym whole) f.is;
      pays = f.pays ∙ ap (λ (x : List (List ℕ)). paid x l) (sym whole);
      counts = f.counts ∙ ap (λ (x : List (List ℕ)). number_of_visits x l) (sym whole);
      capability = f.capability;
      answer = (
        (λ t. absurd (not-true t)),
        (λ e. absurd
            (not-true (c.in_default.ensures.only f.value here e.0 (e.1 ∙ ap bytes (sym w.words))))),
      );
    }
