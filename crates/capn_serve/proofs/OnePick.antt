-- Lemmas for the law `picking`: a stream determines what is picked from it.
use Rattle.std.proofs.Common.{◌≡◌, inl, inr, ℕ, ◌<◌, ◌≤◌, List, [], ◌∷◌, ◌++◌, Bool, Option, refl, ap, sym, subst, ◌∙◌}
use Rattle.std.proofs.Common.{append_assoc, arith}
use Rattle.capn_serve.specs.declared.fault.RunFault.{RunFault}
use Rattle.capn_serve.specs.declared.pick.Range.{Range}
use Rattle.capn_serve.specs.declared.position.Position.{Position}
use Rattle.capn_serve.specs.declared.pick.StreamForm.TheVariants as forms
use Rattle.capn_serve.specs.Fold.{AreServed, Fold, Part, frames_of, texts_of}
use Rattle.capn_serve.specs.Pick.{Picking, last_of, pick_fold}
use Rattle.capn_serve.specs.PickRun.{IsPicked, IsPickedOf, most_taken}
use Rattle.capn_serve.specs.StreamRun.{behind, first_run, has_more, taken_of}
use Rattle.capn_serve.proofs.Ranges.{picked_none}
use Rattle.capn_serve.proofs.shared.OneServing.{Behind, Ending, IsOneWay, no_end, one_folded, one_front}

module _ (most : ℕ) where
  abbrev f : Fold Picking
  f = pick_fold most

  pub pick_one_way : IsOneWay (pick_fold most)
  pick_one_way = record {
    steps = λ x frame message t u y z h k.
        let service : y.service ≡ z.service = h.0.1 ∙ sym k.0.1 in
        let at : y.at ≡ z.at = h.1 ∙ sym k.1 in
        (h.0.0 ∙ sym k.0.0, λ i. record { service = service i; at = at i });
    refusals = λ x frame message r s h k. absurd h;
    never_both = λ x frame message t y r h k. k;
  }

  grows : (x y : Picking) (ps : List Part) → AreServed f x ps y → x.at.index ≤ y.at.index
  grows x y [] is = omega (arith, ap (λ (r : Picking). r.at.index) is)
  grows x y (p ∷ ps) (mid, part, step, more) =
      let next = grows mid y ps more in
      omega (arith, next, ap (λ (at : Position). at.index) step.1)

  module _ (ranges : List Range) where
    -- Messages after the last number of the ranges write nothing.
    beyond : (x y : Picking) (ps : List Part) → AreServed f x ps y → x.service ≡ ranges → last_of ranges ≤ x.at.index
        → texts_of ps ≡ []
    beyond x y [] is same past = refl
    beyond x y (q ∷ ps) (mid, part, step, more) same past =
        let number = ap (λ (at : Position). at.index) step.1 in
        let none : q.text ≡ [] =
        step.0.0 ∙ picked_none x.service x.at.index q.frame (omega (arith, past, ap last_of same)) in
        ap (λ (l : List ℕ). l ++ texts_of ps) none
        ∙ beyond mid y ps more (step.0.1 ∙ same) (omega (arith, past, number))

    one_enough : (x y z : Picking) (ps qs : List Part) (rest other : List ℕ) → AreServed f x ps y
        → AreServed f x qs z → frames_of ps ++ rest ≡ frames_of qs ++ other → x.service ≡ ranges
        → last_of ranges ≤ y.at.index → last_of ranges ≤ z.at.index → texts_of ps ≡ texts_of qs
    one_enough x y z [] qs rest other h k e same past after =
        sym (beyond x z qs k same (omega (arith, past, ap (λ (r : Picking). r.at.index) h)))
    one_enough x y z (a ∷ ps) [] rest other h k e same past after =
        beyond x y (a ∷ ps) h same (omega (arith, after, ap (λ (r : Picking). r.at.index) k))
    one_enough x y z (a ∷ ps) (b ∷ qs) rest other (mid, part, step, more) (mean, also, move, others) e same past after =
        let joined : a.frame ++ (frames_of ps ++ rest) ≡ b.frame ++ (frames_of qs ++ other) =
        sym (append_assoc a.frame (frames_of ps) rest) ∙ e ∙ append_assoc b.frame (frames_of qs) other in
        let first = one_front most a.frame b.frame (frames_of ps ++ rest) (frames_of qs ++ other) a.message b.message
        part.frame part.room also.frame also.room joined in
        let here = subst (λ (l : List ℕ). f.step x l b.message a.text mid) first.1.0
        (subst (λ (l : List (List ℕ)). f.step x a.frame l a.text mid) first.0 step) in
        let moved = pick_one_way.steps x b.frame b.message a.text b.text mid mean here move in
        let next = one_enough mean y z ps qs rest other (subst (λ (w : Picking). AreServed f w ps y) moved.1 more)
        others first.1.1 (move.0.1 ∙ same) past after in
        (λ i. moved.0 i ++ next i)

    too_few : (ends : Option RunFault) (x y z : Picking) (ps qs : List Part) (rest other : List ℕ) (r : Ending)
        → AreServed f x ps y → AreServed f x qs z → frames_of ps ++ rest ≡ frames_of qs ++ other
        → Behind f pick_one_way (λ w. ends) y rest r → y.at.index < last_of ranges → last_of ranges ≤ z.at.index → ⊥
    too_few ends x y z [] [] rest other r h k e behind short past =
        omega (arith, short, past, ap (λ (r : Picking). r.at.index) h, ap (λ (r : Picking). r.at.index) k)
    too_few ends x y z [] (b ∷ qs) rest other r h (mean, also, move, others) e behind short past =
        no_end f pick_one_way (λ w. ends) x mean rest b.frame (frames_of qs ++ other) b.text b.message r also.frame
        also.room also.going move (e ∙ append_assoc b.frame (frames_of qs) other)
        (subst (λ (w : Picking). Behind f pick_one_way (λ w. ends) w rest r) (sym h) behind)
    too_few ends x y z (a ∷ ps) [] rest other r h k e behind short past =
        omega (arith, short, past, grows x y (a ∷ ps) h, ap (λ (r : Picking). r.at.index) k)
    too_few ends x y z (a ∷ ps) (b ∷ qs) rest other r (mid, part, step, more) (mean, also, move, others) e behind
        short past =
        let joined : a.frame ++ (frames_of ps ++ rest) ≡ b.frame ++ (frames_of qs ++ other) =
        sym (append_assoc a.frame (frames_of ps) rest) ∙ e ∙ append_assoc b.frame (frames_of qs) other in
        let first = one_front most a.frame b.frame (frames_of ps ++ rest) (frames_of qs ++ other) a.message b.message
        part.frame part.room also.frame also.room joined in
        let here = subst (λ (l : List ℕ). f.step x l b.message a.text mid) first.1.0
        (subst (λ (l : List (List ℕ)). f.step x a.frame l a.text mid) first.0 step) in
        let moved = pick_one_way.steps x b.frame b.message a.text b.text mid mean here move in
        too_few ends mean y z ps qs rest other r (subst (λ (w : Picking). AreServed f w ps y) moved.1 more) others
        first.1.1 behind short past

    one_of : (bytes t u : List ℕ) (is_longer : Bool) (r s : Ending)
        → IsPickedOf most ranges forms.Stream bytes is_longer t r
        → IsPickedOf most ranges forms.Stream bytes is_longer u s → (t ≡ u) × (r ≡ s)
    one_of bytes t u is_longer r s (inl ((ps, rest, y, are, past, e), a)) (inl ((qs, other, z, also, after, d), b)) = (
      e ∙ one_enough (first_run ranges) y z ps qs rest other are.each also.each (sym are.is ∙ also.is) refl past after
          ∙ sym d,
      a ∙ sym b,
    )
    one_of bytes t u is_longer r s (inl ((qs, other, z, also, after, d), b)) (inr (y, due, short)) =
        absurd (too_few (behind is_longer) (first_run ranges) y z due.parts qs due.rest other s due.are.each also.each
        (sym due.are.is ∙ also.is) due.ends short after)
    one_of bytes t u is_longer r s (inr (y, due, short)) (inl ((qs, other, z, also, after, d), b)) =
        absurd (too_few (behind is_longer) (first_run ranges) y z due.parts qs due.rest other r due.are.each also.each
        (sym due.are.is ∙ also.is) due.ends short after)
    one_of bytes t u is_longer r s (inr (y, due, short)) (inr (z, also, few)) =
        let same = one_folded f pick_one_way (λ w. behind is_longer) (first_run ranges) y z bytes t u r s due also in
        (same.0, same.1.0)

    -- The text that is picked from `input` and the result of the run are unique.
    pub one_pick : (input t u : List ℕ) (r s : Ending) → IsPicked most ranges forms.Stream input t r
        → IsPicked most ranges forms.Stream input u s → (t ≡ u) × (r ≡ s)
    one_pick input t u r s h k = one_of (taken_of most_taken input) t u (has_more most_taken input) r s h k
