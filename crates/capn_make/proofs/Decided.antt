-- Lemmas for the laws `deciding` and `stuck`: the values of the complete texts of some bytes, before and after more
-- bytes are added.
use Rattle.std.proofs.Common.{◌≡◌, ℕ, List, [], ◌∷◌, ◌++◌, Err, refl, sym, ap₂, subst, ◌∙◌}
use Rattle.std.specs.List.{AllByRecursion}
use Rattle.capn_value.specs.Tree.{Tree}
use Rattle.capn_text.specs.Laws.{TextsAreApart, FittingIsShowable, DeepIsHigh}
use Rattle.capn_text.specs.Laws.{WrongLineStays, NoTextGoesOn, DeepStays, NoBeginningComes}
use Rattle.capn_text.specs.Streams.{stream_text}
use Rattle.capn_canon.specs.declared.form.Form.{Form}
use Rattle.capn_canon.specs.declared.form.Form.TheVariants as forms
use Rattle.capn_make.specs.WrittenValue.{IsMakeable}
use Rattle.capn_make.specs.MadeInput.{AreFirst, IsStuck, line_after}
use Rattle.capn_make.specs.Endings.{Ends, EndsEach, IsWhole}
use Rattle.capn_make.specs.Laws.{OneDeciding, DecidedStay, UnendedIsStuck, RefusedIsStuck}
use Rattle.capn_make.specs.declared.fault.MakeFault.{MakeFault}
use Rattle.capn_make.proofs.OneReading.{next_of, next_same, refused_stuck, same_firsts, shown}
use Rattle.capn_make.proofs.Unended.{unended_stuck}
use Rattle.capn_make.proofs.WhateverFollows.{first_on, text_stays, whole_from}

module _ (apart : TextsAreApart) (shows : FittingIsShowable) where
  pub one_deciding : OneDeciding
  one_deciding vs ws bytes rest left h s k t =
      same_firsts apart shows vs ws rest left h.each k.each s t (sym h.are ∙ k.are)

  pub go_on : (vs ws : List Tree) (x y : List ℕ) → AllByRecursion IsMakeable vs → AllByRecursion IsMakeable ws
      → IsStuck y → stream_text vs ++ x ≡ stream_text ws ++ y → (us : List Tree) × (ws ≡ vs ++ us)
  go_on [] ws x y av aw sy e = (ws, refl)
  go_on (v ∷ vs) [] x y av aw sy e =
      absurd (sy v (stream_text vs ++ x) av.0 (sym e ∙ next_of apart shows v vs x))
  go_on (v ∷ vs) (w ∷ ws) x y av aw sy e =
      let t = stream_text (v ∷ vs) ++ x in
      let p = next_same apart shows v w (stream_text vs ++ x) (stream_text ws ++ y) t (shown apart shows v av.0)
      (shown apart shows w aw.0) (next_of apart shows v vs x) (e ∙ next_of apart shows w ws y) in
      let q = go_on vs ws x y av.1 aw.1 sy p.1 in
      (q.0, ap₂ (λ h t. h ∷ t) (sym p.0) q.1)

  pub decided_stay : DecidedStay
  decided_stay vs ws bytes more rest left h s k t =
      go_on vs ws (rest ++ more) left h.each k.each t (sym (first_on vs bytes rest more h).are ∙ k.are)

  pub unended_is_stuck : UnendedIsStuck
  unended_is_stuck rest none = unended_stuck shows rest none

  module _ (high : DeepIsHigh) (wrong : WrongLineStays) (none : NoTextGoesOn) (deep : DeepStays)
      (first : NoBeginningComes) where
    ends_each : (form : Form) (input : List ℕ) (fault : MakeFault) → (form ≡ forms.Bare → ⊥)
        → Ends form input (Err fault) → EndsEach input (Err fault)
    ends_each forms.Stream input fault framed h = h
    ends_each forms.Packed input fault framed h = h
    ends_each forms.Bare input fault framed h = absurd (framed refl)

    stays_stuck : (vs : List Tree) (input rest more : List ℕ) (fault : MakeFault) → IsWhole input fault
        → EndsEach input (Err fault) → AreFirst vs input rest → IsStuck rest → IsStuck (rest ++ more)
    stays_stuck vs input rest more fault whole h are stuck =
        let same = same_firsts apart shows vs h.0 rest h.1 are.each h.2.each stuck
        (refused_stuck apart shows high (line_after h.0) h.1 fault h.3) (sym are.are ∙ h.2.are) in
        let from = whole_from h.0 input h.1 fault h.2 whole in
        let stays = text_stays wrong none deep first (line_after h.0) h.1 more fault from h.3 in
        subst (λ t. IsStuck (t ++ more)) (sym same.1)
        (refused_stuck apart shows high (line_after h.0) (h.1 ++ more) fault stays)

    pub refused_is_stuck : RefusedIsStuck
    refused_is_stuck form vs input rest more framed good are stuck =
        stays_stuck vs input rest more good.0 good.2 (ends_each form input good.0 framed good.1) are stuck
