-- Lemmas for the laws `making` and `showing`: the messages and the result of a run on texts that `show` writes.
use Rattle.std.proofs.Common.{◌≡◌, ℕ, List, [], ◌∷◌, ◌++◌, Result, Ok, Err, refl, sym, ap₂, subst, ◌∙◌}
use Rattle.std.proofs.lemmas.List.{append-nil}
use Rattle.std.specs.List.{AllByRecursion}
use Rattle.capn_value.specs.Tree.{Tree}
use Rattle.capn_text.specs.Laws.{TextsAreApart, FittingIsShowable, OneWrongLine, WrongIsNotDeep, DeepIsHigh}
use Rattle.capn_text.specs.Streams.{stream_text}
use Rattle.capn_canon.specs.Layout.{canon}
use Rattle.capn_make.specs.WrittenValue.{IsMakeable, AreMade}
use Rattle.capn_make.specs.MadeInput.{AreFirst, EndsAfter, line_after}
use Rattle.capn_make.specs.Laws.{ShownAreMade, ShownAreMadeOnly, OneShownIsMade, OneShownIsMadeOnly, OneMaking}
use Rattle.capn_make.specs.Laws.{OneTextInFrames}
use Rattle.capn_make.specs.declared.fault.MakeFault.{MakeFault}
use Rattle.capn_make.proofs.OneReading.{nothing_stuck, stuck_after, same_firsts}
use Rattle.capn_make.proofs.OneRefusal.{nothing_refused, one_ending}
use Rattle.capn_make.proofs.OneBare.{one_bare}

all_first : (vs : List Tree) → AllByRecursion IsMakeable vs → AreFirst vs (stream_text vs) []
all_first vs all = record { each = all; are = sym (append-nil (stream_text vs)) }

pub shown_made : ShownAreMade
shown_made form vs text all made = (vs, [], all_first vs all, made, refl)

pub one_made : OneShownIsMade
one_made v one = (v, all_first (v ∷ []) (one, tt), refl)

ends_well : (ws : List Tree) (rest : List ℕ) (r : Result (Unit {0}) MakeFault) → [] ≡ rest → EndsAfter ws rest r
    → r ≡ Ok tt
ends_well ws rest (Ok u) none h = refl
ends_well ws rest (Err f) none h =
    absurd (nothing_refused (line_after ws) f (subst (λ t. EndsAfter ws t (Err f)) (sym none) h))

module _ (apart : TextsAreApart) (shows : FittingIsShowable) (high : DeepIsHigh) where
  pub shown_only : ShownAreMadeOnly
  shown_only form vs text ending all h =
      let same = same_firsts apart shows vs h.0 [] h.1 all h.2.each nothing_stuck
      (stuck_after apart shows high h.0 h.1 ending h.4) (append-nil (stream_text vs) ∙ h.2.are) in
      (ends_well h.0 h.1 ending same.1 h.4, subst (λ ws. AreMade form ws text) (sym same.0) h.3)

  module _ (one_line : OneWrongLine) (not_deep : WrongIsNotDeep) where
    pub one_only : OneShownIsMadeOnly
    one_only v text ending one h =
        let p = one_bare apart shows one_line not_deep high (stream_text (v ∷ [])) text (canon v) ending (Ok tt) h
        (one_made v one) in
        (p.1, p.0)

    pub one_making : OneMaking
    one_making form input text other r s h k =
        let same = same_firsts apart shows h.0 k.0 h.1 k.1 h.2.each k.2.each
        (stuck_after apart shows high h.0 h.1 r h.4)
        (stuck_after apart shows high k.0 k.1 s k.4) (sym h.2.are ∙ k.2.are) in
        let again = subst (λ ws. EndsAfter ws k.1 s) (sym same.0) k.4 in (
          h.0,
          h.1,
          h.2,
          h.3,
          subst (λ ws. AreMade form ws other) (sym same.0) k.3,
          one_ending apart shows one_line not_deep high h.0 h.1 r s h.4
              (subst (λ t. EndsAfter h.0 t s) (sym same.1) again),
        )

pub one_text : OneTextInFrames
one_text [] text other h k = h ∙ sym k
one_text (v ∷ vs) text other h k =
    h.4 ∙ ap₂ (λ p r. p ++ r) (h.2 ∙ sym k.2) (one_text vs h.1 k.1 h.3 k.3) ∙ sym k.4
