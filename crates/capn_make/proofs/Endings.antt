-- Lemmas for the law `refusing`: a run on an input has one result.
use Rattle.std.proofs.Common.{◌≡◌, ℕ, List, [], Result, Ok, Err, refl, sym, subst, ◌∙◌}
use Rattle.capn_text.specs.Laws.{TextsAreApart, FittingIsShowable, OneWrongLine, WrongIsNotDeep, DeepIsHigh}
use Rattle.capn_canon.specs.Layout.{canon}
use Rattle.capn_canon.specs.declared.form.Form.TheVariants as forms
use Rattle.capn_make.specs.MadeInput.{EndsAfter, MakesOne}
use Rattle.capn_make.specs.Endings.{EndsEach, EndsOnly}
use Rattle.capn_make.specs.Laws.{OneEnding, MakingEnds}
use Rattle.capn_make.specs.declared.fault.MakeFault.{MakeFault}
use Rattle.capn_make.proofs.OneReading.{stuck_after, same_firsts}
use Rattle.capn_make.proofs.OneRefusal.{one_ending as one_after}
use Rattle.capn_make.proofs.OneBare.{one_bare}

-- Bytes `text` that a run on `input` in form `Bare` writes, if `r` is its result.
text_of : (input : List ℕ) (r : Result (Unit {0}) MakeFault) → EndsOnly input r
    → (text : List ℕ) × MakesOne input text r
text_of input (Ok u) h = (canon h.0, (h.0, h.1, refl))
text_of input (Err f) h = ([], (refl, h))

ends_only : (input text : List ℕ) (r : Result (Unit {0}) MakeFault) → MakesOne input text r → EndsOnly input r
ends_only input text (Ok u) h = (h.0, h.1)
ends_only input text (Err f) h = h.1

pub making_ends : MakingEnds
making_ends forms.Stream input text r h = (h.0, h.1, h.2, h.4)
making_ends forms.Packed input text r h = (h.0, h.1, h.2, h.4)
making_ends forms.Bare input text r h = ends_only input text r h

module _ (apart : TextsAreApart) (shows : FittingIsShowable) (one_line : OneWrongLine) (not_deep : WrongIsNotDeep)
    (high : DeepIsHigh) where
  each : (input : List ℕ) (r s : Result (Unit {0}) MakeFault) → EndsEach input r → EndsEach input s → r ≡ s
  each input r s h k =
      let same = same_firsts apart shows h.0 k.0 h.1 k.1 h.2.each k.2.each (stuck_after apart shows high h.0 h.1 r h.3)
      (stuck_after apart shows high k.0 k.1 s k.3) (sym h.2.are ∙ k.2.are) in
      let again = subst (λ ws. EndsAfter ws k.1 s) (sym same.0) k.3 in
      one_after apart shows one_line not_deep high h.0 h.1 r s h.3 (subst (λ t. EndsAfter h.0 t s) (sym same.1) again)

  only : (input : List ℕ) (r s : Result (Unit {0}) MakeFault) → EndsOnly input r → EndsOnly input s → r ≡ s
  only input r s h k =
      let a = text_of input r h in
      let b = text_of input s k in
      (one_bare apart shows one_line not_deep high input a.0 b.0 r s a.1 b.1).1

  pub one_ending : OneEnding
  one_ending forms.Stream input r s h k = each input r s h k
  one_ending forms.Packed input r s h k = each input r s h k
  one_ending forms.Bare input r s h k = only input r s h k
