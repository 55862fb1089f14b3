-- Lemmas for `UnderTexts` and `UnderWay`: an input to which bytes are added while its texts are parsed and tested.
use Rattle.std.proofs.Common.{◌≡◌, ◌≢◌, inl, inr, ℕ, ◌+◌, ◌*◌, ◌≤◌, List, [], ◌++◌, length, take, drop, Ok, Err, refl}
use Rattle.std.proofs.Common.{sym, ap, subst, ◌∙◌, append_assoc, arith}
use Rattle.std.proofs.lemmas.Bool.{cases_lt}
use Rattle.std.proofs.lemmas.List.{append-nil, length-append, take-append-drop, take-append-le}
use Rattle.capn_text.specs.Streams.{Place, stream_text, few}
use Rattle.capn_canon.specs.declared.form.Form.{Form}
use Rattle.capn_canon.specs.declared.form.Form.TheVariants as forms
use Rattle.capn_make.specs.Endings.{IsWhole, IsRefusedForGood, IsLostForGood}
use Rattle.capn_make.specs.Laws.{RefusalStays, OneEnding}
use Rattle.capn_make.specs.MakeRun.{AreInTime}
use Rattle.capn_make.specs.inner.RunParts.{HasMade, HasTested, IsNotYet}
use Rattle.capn_make.specs.declared.fault.MakeFault.TheVariants as faults
use Rattle.capn_make.proofs.NextTexts.{none_left}
use Rattle.capn_make.proofs.WhateverFollows.{first_on}

nothing_refused : OneEnding → (form : Form) → IsRefusedForGood form [] → ⊥
nothing_refused one forms.Stream h =
    let e = one forms.Stream [] (Ok tt) (Err h.0) ([], [], record { each = tt; are = refl }, refl) h.1 in absurd cc
nothing_refused one forms.Packed h =
    let e = one forms.Packed [] (Ok tt) (Err h.0) ([], [], record { each = tt; are = refl }, refl) h.1 in absurd cc
nothing_refused one forms.Bare h =
    let e = one forms.Bare [] (Err faults.NoText) (Err h.0) (inl (refl, refl)) h.1 in
    let same : faults.NoText ≡ h.0 = cc in
    subst (λ f. IsWhole [] f) (sym same) h.2

pub none_tested : OneEnding → (form : Form) → HasTested form 0 [] []
none_tested one form = record {
  front = [];
  more = [];
  are = refl;
  size = refl;
  not_yet = (
    nothing_refused one form,
    λ n far good. let none : length {A = ℕ} [] ≡ 0 = refl in absurd (omega arith),
  );
}

pub all_tested : (form : Form) (input rest : List ℕ) → IsNotYet form input
    → HasTested form (length rest) input rest
all_tested form input rest not_yet = record {
  front = input;
  more = [];
  are = sym (append-nil input);
  size = refl;
  not_yet = not_yet;
}

pub more_tested : (form : Form) (tested : ℕ) (input rest more : List ℕ) → HasTested form tested input rest
    → HasTested form tested (input ++ more) (rest ++ more)
more_tested form tested input rest more h =
    let size = h.size in
    let all = length-append input more in
    let left = length-append rest more in
    record {
      front = h.front;
      more = h.more ++ more;
      are = ap (λ t. t ++ more) h.are ∙ append_assoc h.front h.more more;
      size = omega arith;
      not_yet = h.not_yet;
    }

pub made_on : (form : Form) (input made rest more : List ℕ) (line : ℕ)
    → HasMade form input (record { rest = rest; line = line }) made
    → HasMade form (input ++ more) (record { rest = rest ++ more; line = line }) made
made_on form input made rest more line h = record {
  values = h.values;
  first = first_on h.values input rest more h.first;
  are = h.are;
  line = h.line;
  few = h.few;
}

pub left_within : (form : Form) (input made : List ℕ) (place : Place) → HasMade form input place made
    → length place.rest ≤ length input
left_within form input made place h =
    let parts = ap length h.first.are ∙ length-append (stream_text h.values) place.rest in omega arith

pub some_left : (form : Form) (input made : List ℕ) (place : Place) → HasMade form input place made → place.rest ≢ []
    → input ≢ []
some_left form input made place h some none =
    let within = left_within form input made place h in
    let empty = ap length none in
    some (none_left place.rest (omega arith))

pub some_after : (xs ys : List ℕ) → ys ≢ [] → xs ++ ys ≢ []
some_after xs ys some none =
    let all = length-append xs ys in
    let empty = ap length none in
    some (none_left ys (omega arith))

module _ (stays : RefusalStays) (form : Form) (tested : ℕ) (input made rest : List ℕ) (line : ℕ)
    (m : HasMade form input (record { rest = rest; line = line }) made) (h : HasTested form tested input rest)
    (short : length rest ≤ 4 * tested) where
  -- If `rest` has at most four times `tested` bytes, `AreInTime` holds for `input` and one more chunk `more`.
  pub in_time : (more : List ℕ) → length more ≤ 65536 → AreInTime form (input ++ more)
  in_time more small n =
      let cut = ap (λ t. t ++ more) h.are ∙ append_assoc h.front h.more more in
      let size = h.size in
      let all = length-append input more in
      let within = left_within form input made (record { rest = rest; line = line }) m in (
        λ good. elim (cases_lt n (length h.front)) [
          | inl less ↦
              (let same = ap (take n) cut ∙ take-append-le n h.front (h.more ++ more) (omega arith) in
              let all = stays form (take n h.front) (drop n h.front) (subst (IsRefusedForGood form) same good) in
              absurd (h.not_yet.0 (subst (IsRefusedForGood form) (take-append-drop n h.front) all)))
          | inr further ↦ omega arith
        ],
        λ lost. elim (cases_lt (length h.front) (n + few)) [
          | inl further ↦ omega arith
          | inr far ↦
              (let same = ap (take n) cut ∙ take-append-le n h.front (h.more ++ more) (omega arith) in
              absurd (h.not_yet.1 n (omega arith) (subst (IsLostForGood form) same lost)))
        ],
      )
