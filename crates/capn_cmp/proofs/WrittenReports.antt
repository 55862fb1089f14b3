-- Lemmas for `one_text`: a comparison writes something if and only if a message differs.
use Rattle.std.proofs.Common.{◌≡◌, ◌≢◌, ◌⊎◌, inl, inr, ℕ, List, [], ◌∷◌, ◌++◌, length, Bool, true, false, Option}
use Rattle.std.proofs.Common.{Ok, Err, refl, ap, sym, ◌∙◌, arith, cond, nat_lt}
use Rattle.capn_serve.specs.Fold.{AreServed, Fold, IsFolded, Part, texts_of}
use Rattle.capn_serve.specs.FormRun.{AreMessages, form_of}
use Rattle.capn_serve.specs.declared.fault.RunFault.{RunFault}
use Rattle.capn_serve.specs.declared.pick.StreamForm.{StreamForm}
use Rattle.capn_serve.specs.declared.pick.StreamForm.TheVariants as streams
use Rattle.capn_serve.specs.declared.position.Position.{Position}
use Rattle.capn_serve.proofs.shared.Until.{is_done, known}
use Rattle.capn_cmp.specs.CmpMessages.{CmpState, Compares, report}
use Rattle.capn_cmp.specs.CmpRun.{cmp_fold, first_run, found_by, outcome}
use Rattle.capn_cmp.specs.Laws.{WritesExactly}
use Rattle.capn_cmp.specs.declared.cmp_order.CmpOrder.{CmpOrder}
use Rattle.capn_cmp.specs.declared.cmp_run.Comparison.TheVariants as comparisons
use Rattle.capn_cmp.specs.declared.fault.CmpFault.TheVariants as faults
use Rattle.capn_cmp.proofs.AllSame.{Comparing, Ending, Found, both, stays}

abbrev different : Found
different = Ok comparisons.Different

some_before : (xs ys : List ℕ) → xs ≢ [] → xs ++ ys ≢ []
some_before [] ys some = absurd (some refl)
some_before (x ∷ xs) ys some = λ h. cc

some_report : (at : Position) (line other : List ℕ) → report at line other ≢ []
some_report at line other h = absurd (omega (arith, ap length h))

-- ---- one message

module _ (s t : CmpState) (at : Position) (bytes text : List ℕ) where
  silent_or_told : Compares s at bytes text t
      → ((text ≡ []) × (t.differs ≡ s.differs)) ⊎ ((text ≢ []) × (t.differs ≡ true))
  silent_or_told (inl (first, none, is)) = inl (none, ap (λ (q : CmpState). q.differs) is)
  silent_or_told (inr (inl (later, same, none, is))) = inl (none, ap (λ (q : CmpState). q.differs) is)
  silent_or_told (inr (inr (later, other, (a, b, line, more, shown, also, apart, told), is))) =
      inr (λ e. some_report at line more (sym told ∙ e), ap (λ (q : CmpState). q.differs) is)

-- ---- the messages of a run

module _ (order : CmpOrder) where
  abbrev f : Fold Comparing
  f = cmp_fold order

  -- If no message differs, nothing is written.
  none_told : (x y : Comparing) (ps : List Part) → AreServed f x ps y → y.service.differs ≡ false
      → texts_of ps ≡ []
  none_told x y [] is stay = refl
  none_told x y (p ∷ ps) (mid, part, ((bytes, form, compares), at), more) stay =
      elim (silent_or_told x.service mid.service x.at bytes p.text compares) [
        | inl h ↦ ap (λ (l : List ℕ). l ++ texts_of ps) h.0 ∙ none_told mid y ps more stay
        | inr h ↦ absurd (stays order mid y ps h.1 more stay)
      ]

  -- If a message differs, something is written.
  one_told : (x y : Comparing) (ps : List Part) → x.service.differs ≡ false → AreServed f x ps y
      → y.service.differs ≡ true → texts_of ps ≢ []
  one_told x y [] stay is move =
      absurd (both y.service.differs move (sym (ap (λ (w : Comparing). w.service.differs) is) ∙ stay))
  one_told x y (p ∷ ps) stay (mid, part, ((bytes, form, compares), at), more) move =
      elim (silent_or_told x.service mid.service x.at bytes p.text compares) [
        | inl h ↦
            let rest = one_told mid y ps (h.1 ∙ stay) more move in
            λ e. rest (ap (λ (l : List ℕ). l ++ texts_of ps) (sym h.0) ∙ e)
        | inr h ↦ some_before p.text (texts_of ps) h.0
      ]

  -- ---- the outcome

  few_or_same : (few : Bool) → cond few (Err faults.TooFew) (Ok comparisons.Same) ≡ different → ⊥
  few_or_same true e = cc
  few_or_same false e = cc

  found_other : (differs : Bool) (n : ℕ) → found_by differs n ≡ different → differs ≡ true
  found_other true n e = refl
  found_other false n e = absurd (few_or_same (nat_lt n 2) e)

  other_found : (r : Ending) (y : Comparing) → outcome r y ≡ different → y.service.differs ≡ true
  other_found (Ok u) y e = found_other y.service.differs y.at.index e
  other_found (Err fault) y e = absurd (cc)

  folded : (stream text : List ℕ) (behind : Option RunFault) (r : Ending) (y : Comparing)
      → IsFolded f (first_run order) stream behind text r y
      → (outcome r y ≡ different → text ≢ []) × (text ≢ [] → outcome r y ≡ different)
  folded stream text behind r y h = (
    λ e none. one_told (first_run order) y h.parts refl h.are.each (other_found r y e) (sym h.joined ∙ none),
    λ some. elim (known y.service.differs) [
      | inl move ↦
          ap (λ (q : Ending). outcome q y) (is_done f y h.rest behind r move h.ends)
          ∙ ap (λ (b : Bool). found_by b y.at.index) move
      | inr stay ↦ absurd (some (h.joined ∙ none_told (first_run order) y h.parts h.are.each stay))
    ],
  )

  by_form : (form : StreamForm) (input text : List ℕ) (r : Ending) (y : Comparing)
      → AreMessages f (first_run order) (form_of form) input text r y
      → (outcome r y ≡ different → text ≢ []) × (text ≢ [] → outcome r y ≡ different)
  by_form streams.Stream input text r y due = folded _ text _ r y due
  by_form streams.Packed input text r y due = folded _ text _ r y due.due

pub writes_exactly : WritesExactly
writes_exactly order input text r y are = by_form order order.form input text r y are
