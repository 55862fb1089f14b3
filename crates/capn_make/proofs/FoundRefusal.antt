-- Lemmas for `find_refusal` and `finish`: the result of parsing the texts of an input tells whether the input is
-- refused for good.
use Rattle.std.proofs.Common.{◌≡◌, inl, inr, ℕ, ◌+◌, ◌≤◌, List, [], ◌∷◌, ◌++◌, length, take, drop, Bool, true, false}
use Rattle.std.proofs.Common.{Some, None, Option, Result, Ok, Err, refl, sym, ap, subst, ◌∙◌, append_assoc, arith}
use Rattle.std.proofs.lemmas.List.{append-nil, length-append, take-append-drop, take-append-le}
use Rattle.std.specs.List.{AllByRecursion}
use Rattle.capn_value.specs.Tree.{Tree}
use Rattle.capn_value.specs.Cost.{height, most_height}
use Rattle.capn_value.specs.FirstCap.{first_cap}
use Rattle.capn_value.specs.Fits.{Fits, misfit}
use Rattle.capn_value.specs.InRange.{InRange}
use Rattle.capn_value.specs.Text.{show_text}
use Rattle.capn_value.specs.declared.misfit.Misfit.{Misfit}
use Rattle.capn_text.specs.Showable.{IsShowable}
use Rattle.capn_text.specs.Streams.{Place, end_line, stream_text, MayGoOn, few}
use Rattle.capn_canon.specs.declared.form.Form.{Form}
use Rattle.capn_canon.specs.declared.form.Form.TheVariants as forms
use Rattle.capn_make.specs.WrittenValue.{IsMakeable}
use Rattle.capn_make.specs.MadeInput.{AreFirst, IsTextRefused, IsUnended, IsWrong, Follows, line_after}
use Rattle.capn_make.specs.Endings.{Ends, IsWhole, IsLostForGood}
use Rattle.capn_make.specs.Laws.{OneEnding, FaultStays}
use Rattle.capn_make.specs.inner.RunParts.{HasMade, IsMadeSo, GoesOn, TellsRefusal, IsLostAt, IsOpenAt, TellsCut}
use Rattle.capn_make.specs.inner.RunParts.{IsWholeFrom, is_lost}
use Rattle.capn_make.specs.declared.fault.MakeFault.{MakeFault}
use Rattle.capn_make.specs.declared.fault.MakeFault.TheVariants as faults
use Rattle.capn_make.proofs.FirstTexts.{first_more}
use Rattle.capn_make.proofs.NextTexts.{none_left}
use Rattle.capn_make.proofs.Unended.{nothing_unended}
use Rattle.capn_make.proofs.OneText.{none_at, none_yet, one_at, whole_input}
use Rattle.capn_make.proofs.WhateverFollows.{first_on, whole_from, whole_to}

pub so_ends : (form : Form) (input made : List ℕ) (r : Result (Unit {0}) MakeFault) → IsMadeSo form input made r
    → Ends form input r
so_ends forms.Stream input made r h = (h.0, h.1, h.2, h.4)
so_ends forms.Packed input made r h = (h.0, h.1, h.2, h.4)
so_ends forms.Bare input made (Ok u) h = (h.0, h.1)
so_ends forms.Bare input made (Err fault) h = h

pub so_made : (form : Form) (input made : List ℕ) (place : Place) (fault : MakeFault) → (fault ≡ faults.Memory → ⊥)
    → GoesOn form input place made (Err fault) → IsMadeSo form input made (Err fault)
so_made form input made place fault other (inl memory) = absurd (other memory)
so_made form input made place fault other (inr so) = so.1

-- ---- a fault that stays whatever follows

made_stays : FaultStays → (form : Form) (input made more : List ℕ) (fault : MakeFault) → IsWhole input fault
    → IsMadeSo form input made (Err fault) → IsMadeSo form (input ++ more) made (Err fault)
made_stays stays forms.Stream input made more fault whole so = stays forms.Stream input more made fault whole so
made_stays stays forms.Packed input made more fault whole so = stays forms.Packed input more made fault whole so
made_stays stays forms.Bare input made more fault whole so =
    (stays forms.Bare input more [] fault whole (refl, so)).1

wrong_made : (form : Form) (input made : List ℕ) (place : Place) (n : ℕ) (more : List ℕ)
    → HasMade form input place made → (form ≡ forms.Bare → place.line ≡ 1)
    → IsWrong place.line (place.rest ++ more) n → IsMadeSo form (input ++ more) made (Err (faults.NotText n))
wrong_made forms.Stream input made place n more m first wrong = (
  m.values,
  place.rest ++ more,
  first_on m.values input place.rest more m.first,
  m.are,
  subst (λ k. IsWrong k (place.rest ++ more) n) m.line wrong,
)
wrong_made forms.Packed input made place n more m first wrong = (
  m.values,
  place.rest ++ more,
  first_on m.values input place.rest more m.first,
  m.are,
  subst (λ k. IsWrong k (place.rest ++ more) n) m.line wrong,
)
wrong_made forms.Bare input made place n more m first wrong =
    let is = whole_input input place made m (none_yet input place made m (first refl)) in
    inr (inl (subst (λ t. IsWrong 1 (t ++ more) n) (sym is)
    (subst (λ k. IsWrong k (place.rest ++ more) n) (first refl) wrong)))

follows_made : (input made : List ℕ) (place : Place) (n : ℕ) (more : List ℕ)
    → HasMade forms.Bare input place made → (place.line ≡ 1 → ⊥)
    → Follows place.line (place.rest ++ more) (faults.NotText n)
    → IsMadeSo forms.Bare (input ++ more) made (Err (faults.NotText n))
follows_made input made place n more m later follows =
    let one = one_at m.values place.line m.line later (m.few refl) in
    let first = subst (λ vs. AreFirst vs input place.rest) one.1 m.first in
    let line = m.line ∙ ap line_after one.1 in
    inr (inr (
      one.0,
      place.rest ++ more,
      first_on (one.0 ∷ []) input place.rest more first,
      subst (λ k. Follows k (place.rest ++ more) (faults.NotText n)) line follows,
    ))

lost_made : (form : Form) (input made : List ℕ) (place : Place) (n : ℕ) (more : List ℕ)
    → HasMade form input place made → IsLostAt form place n
    → IsMadeSo form (input ++ more) made (Err (faults.NotText n))
lost_made form input made place n more m (inl wrong) = wrong_made form input made place n more m wrong.0 (wrong.1 more)
lost_made form input made place n more m (inr follows) =
    let here = subst (λ f. HasMade f input place made) follows.0 m in
    subst (λ f. IsMadeSo f (input ++ more) made (Err (faults.NotText n))) (sym follows.0)
    (follows_made input made place n more here follows.1 (follows.2 more))

-- ---- a fault that more bytes may take away

-- A run on `input` has some result `r` other than a wrong line (`NotText`).
abbrev Decided : Form → List ℕ → Type 0
Decided form input = (r : Result (Unit {0}) MakeFault) × Ends form input r
    × ((n : ℕ) → r ≡ Err (faults.NotText n) → ⊥)

module _ (vs : List Tree) (all : AllByRecursion IsMakeable vs) (v : Tree) (shows : IsShowable v) (range : InRange v)
    (low : height v ≤ most_height) where
  abbrev rest : List ℕ
  rest = show_text v ++ (end_line ++ [])

  abbrev longer : List ℕ
  longer = stream_text vs ++ rest

  begins_so : AreFirst vs longer rest
  begins_so = record { each = all; are = refl }

  misfits : (m : Misfit) (line : ℕ) → misfit v ≡ Some m → IsTextRefused line rest (faults.Misfit line m)
  misfits m line is = (refl, inr (v, [], range, shows, low, refl, is))

  has_cap : (index line : ℕ) → Fits v → first_cap v ≡ Some index
      → IsTextRefused line rest (faults.Capability line index)
  has_cap index line fits is = (refl, v, [], fits, range, refl, is)

  decided_by : (form : Form) → (form ≡ forms.Bare → vs ≡ []) → (m : Option Misfit) → misfit v ≡ m
      → (c : Option ℕ) → first_cap v ≡ c → Decided form longer
  unfolding Fits
  decided_by forms.Stream one (Some m) is c e =
      (Err (faults.Misfit (line_after vs) m), (vs, rest, begins_so, misfits m (line_after vs) is), λ n same. cc)
  decided_by forms.Packed one (Some m) is c e =
      (Err (faults.Misfit (line_after vs) m), (vs, rest, begins_so, misfits m (line_after vs) is), λ n same. cc)
  decided_by forms.Bare one (Some m) is c e = (
    Err (faults.Misfit 1 m),
    inr (inl (subst (λ us. IsTextRefused 1 (stream_text us ++ rest) (faults.Misfit 1 m)) (sym (one refl))
        (misfits m 1 is))),
    λ n same. cc,
  )
  decided_by forms.Stream one None is (Some index) e = (
    Err (faults.Capability (line_after vs) index),
    (vs, rest, begins_so, has_cap index (line_after vs) is e),
    λ n same. cc,
  )
  decided_by forms.Packed one None is (Some index) e = (
    Err (faults.Capability (line_after vs) index),
    (vs, rest, begins_so, has_cap index (line_after vs) is e),
    λ n same. cc,
  )
  decided_by forms.Bare one None is (Some index) e = (
    Err (faults.Capability 1 index),
    inr (inl (subst (λ us. IsTextRefused 1 (stream_text us ++ rest) (faults.Capability 1 index)) (sym (one refl))
        (has_cap index 1 is e))),
    λ n same. cc,
  )
  decided_by forms.Stream one None is None e = (
    Ok tt,
    (
      vs ++ v ∷ [],
      [],
      first_more vs v longer rest [] begins_so (record { fits = is; in_range = range; free = e })
          refl,
      refl,
    ),
    λ n same. cc,
  )
  decided_by forms.Packed one None is None e = (
    Ok tt,
    (
      vs ++ v ∷ [],
      [],
      first_more vs v longer rest [] begins_so (record { fits = is; in_range = range; free = e })
          refl,
      refl,
    ),
    λ n same. cc,
  )
  decided_by forms.Bare one None is None e = (
    Ok tt,
    (
      v,
      subst (λ us. AreFirst (us ++ v ∷ []) longer []) (one refl)
          (first_more vs v longer rest [] begins_so (record { fits = is; in_range = range; free = e }) refl),
    ),
    λ n same. cc,
  )

  decided : (form : Form) → (form ≡ forms.Bare → vs ≡ []) → Decided form longer
  decided form one = decided_by form one (misfit v) refl (first_cap v) refl

nothing_by : (input : List ℕ) → Ends forms.Bare input (Err faults.NoText) → input ≡ []
nothing_by input (inl none) = none.0
nothing_by input (inr (inl refused)) = absurd refused
nothing_by input (inr (inr more)) = absurd more.3

nothing_read : (form : Form) (input : List ℕ) → Ends form input (Err faults.NoText) → (n : ℕ)
    → n + few ≤ length input → ⊥
nothing_read forms.Stream input ends n far = ends.3
nothing_read forms.Packed input ends n far = ends.3
nothing_read forms.Bare input ends n far = let none = ap length (nothing_by input ends) in omega arith

nothing_left : (form : Form) (input made : List ℕ) (place : Place) → HasMade form input place made
    → Ends form input (Err faults.NoText) → place.rest ≡ []
nothing_left forms.Stream input made place m ends = absurd ends.3
nothing_left forms.Packed input made place m ends = absurd ends.3
nothing_left forms.Bare input made place m ends =
    let none = ap length (nothing_by input ends) in
    let parts = ap length m.first.are ∙ length-append (stream_text m.values) place.rest in
    none_left place.rest (omega arith)

none_of : (form : Form) (input made : List ℕ) (place : Place) → (m : HasMade form input place made)
    → (form ≡ forms.Bare → place.line ≡ 1) → form ≡ forms.Bare → m.values ≡ []
none_of form input made place m first bare = none_at m.values place.line m.line (first bare)

module _ (one : OneEnding) (form : Form) where
  -- If `few` or more bytes of `input` follow its first `n` bytes, `IsLostForGood` does not hold for these `n` bytes.
  abbrev IsNotLost : List ℕ → Type 0
  IsNotLost input = (n : ℕ) → n + few ≤ length input → IsLostForGood form (take n input) → ⊥

  other_end : (base last more input : List ℕ) (fault : MakeFault) → input ≡ base ++ last → length last ≤ few
      → Ends form input (Err fault) → (r : Result (Unit {0}) MakeFault) → Ends form (base ++ more) r
      → (r ≡ Err fault → ⊥) → IsNotLost input
  other_end base last more input fault is short ends r other differ n far good =
      let size = ap length is ∙ length-append base last in
      let cut : take n input ≡ take n base = ap (take n) is ∙ take-append-le n base last (omega arith) in
      let here = subst (λ t. Ends form t (Err good.0)) (take-append-drop n input) (good.1 (drop n input)) in
      let whole : take n input ++ (drop n base ++ more) ≡ base ++ more =
      ap (λ t. t ++ (drop n base ++ more)) cut ∙ sym (append_assoc (take n base) (drop n base) more)
      ∙ ap (λ t. t ++ more) (take-append-drop n base) in
      let there = subst (λ t. Ends form t (Err good.0)) whole (good.1 (drop n base ++ more)) in
      let same = one form input (Err fault) (Err good.0) ends here in
      differ (one form (base ++ more) r (Err good.0) other there ∙ sym same)

  well_ended : (input : List ℕ) → Ends form input (Ok tt) → IsNotLost input
  well_ended input ends n far good =
      let here = subst (λ t. Ends form t (Err good.0)) (take-append-drop n input) (good.1 (drop n input)) in
      let same = one form input (Ok tt) (Err good.0) ends here in
      absurd cc

  module _ (input made : List ℕ) (place : Place) where
    pub ended_well : (u : Unit {0}) → GoesOn form input place made (Ok u) → TellsRefusal form input place made None
    ended_well u h =
        let ends = so_ends form input made (Ok u) h.1 in (
          h.0,
          (λ good. let same = one form input (Ok u) (Err good.0) ends good.1 in absurd cc, well_ended input ends),
          subst IsUnended (sym h.2) nothing_unended,
        )

    may_go_on : (n : ℕ) → HasMade form input place made → (form ≡ forms.Bare → place.line ≡ 1)
        → MayGoOn place.rest → Ends form input (Err (faults.NotText n)) → IsNotLost input
    may_go_on n m first o ends =
        let vs = m.values in
        let base = stream_text vs ++ o.0 in
        let is : input ≡ base ++ o.1 =
        m.first.are ∙ ap (λ t. stream_text vs ++ t) o.2 ∙ sym (append_assoc (stream_text vs) o.0 o.1) in
        let d = decided vs m.first.each o.4 o.6 o.7 o.8 form (λ e. none_of form input made place m first e) in
        let whole : stream_text vs ++ (show_text o.4 ++ (end_line ++ [])) ≡ base ++ o.5 =
        ap (λ t. stream_text vs ++ (show_text o.4 ++ t)) (append-nil end_line)
        ∙ ap (λ t. stream_text vs ++ t) (sym o.9) ∙ sym (append_assoc (stream_text vs) o.0 o.5) in
        other_end base o.1 o.5 input (faults.NotText n) is o.3 ends d.0 (subst (λ t. Ends form t d.0) whole d.1) (d.2 n)

    after_one : (n : ℕ) → HasMade form input place made → form ≡ forms.Bare → (place.line ≡ 1 → ⊥)
        → length place.rest ≤ few → Ends form input (Err (faults.NotText n)) → IsNotLost input
    after_one n m bare later short ends =
        let p = one_at m.values place.line m.line later (m.few bare) in
        let first = subst (λ vs. AreFirst vs input place.rest) p.1 m.first in
        let base = stream_text (p.0 ∷ []) in
        let made : AreFirst (p.0 ∷ []) (base ++ []) [] = record { each = first.each; are = refl } in
        other_end base place.rest [] input (faults.NotText n) first.are short ends (Ok tt)
        (subst (λ f. Ends f (base ++ []) (Ok tt)) (sym bare) (p.0, made)) (λ e. absurd cc)

    open_end : (n : ℕ) → HasMade form input place made → IsOpenAt form place
        → Ends form input (Err (faults.NotText n)) → IsNotLost input
    open_end n m (inl o) ends = may_go_on n m o.0 o.1 ends
    open_end n m (inr o) ends = after_one n m o.0 o.1 o.2 ends

    -- ---- by the fault

    found_by : (fault : MakeFault) (cut : Bool) → HasMade form input place made → TellsCut form place cut fault
        → is_lost fault cut ≡ true → (more : List ℕ) → IsMadeSo form (input ++ more) made (Err fault)
    found_by faults.Memory cut m tells final more = absurd cc
    found_by faults.Io cut m tells final more = absurd cc
    found_by faults.InputTooLong cut m tells final more = absurd cc
    found_by (faults.NotText n) true m tells final more = absurd cc
    found_by (faults.NotText n) false m tells final more =
        lost_made form input made place n more m ((tells n refl).1 refl)
    found_by (faults.Misfit n k) cut m tells final more = absurd cc
    found_by (faults.Capability n index) cut m tells final more = absurd cc
    found_by (faults.Another n) cut m tells final more = absurd cc
    found_by faults.NoText cut m tells final more = absurd cc

    unfinished_by : (fault : MakeFault) (cut : Bool) → HasMade form input place made → TellsCut form place cut fault
        → is_lost fault cut ≡ false → (IsWholeFrom place.line place.rest fault → ⊥) → Ends form input (Err fault)
        → IsNotLost input
    unfinished_by faults.Memory cut m tells final half ends = absurd (half tt)
    unfinished_by faults.Io cut m tells final half ends = absurd (half tt)
    unfinished_by faults.InputTooLong cut m tells final half ends = absurd (half tt)
    unfinished_by (faults.NotText n) true m tells final half ends = open_end n m ((tells n refl).0 refl).0 ends
    unfinished_by (faults.NotText n) false m tells final half ends = absurd cc
    unfinished_by (faults.Misfit n k) cut m tells final half ends = absurd (half tt)
    unfinished_by (faults.Capability n index) cut m tells final half ends = absurd (half tt)
    unfinished_by (faults.Another n) cut m tells final half ends = absurd (half tt)
    unfinished_by faults.NoText cut m tells final half ends = λ n far good. nothing_read form input ends n far

    unended_by : (fault : MakeFault) (cut : Bool) → HasMade form input place made → TellsCut form place cut fault
        → is_lost fault cut ≡ false → (IsWholeFrom place.line place.rest fault → ⊥) → Ends form input (Err fault)
        → IsUnended place.rest
    unended_by faults.Memory cut m tells final half ends = absurd (half tt)
    unended_by faults.Io cut m tells final half ends = absurd (half tt)
    unended_by faults.InputTooLong cut m tells final half ends = absurd (half tt)
    unended_by (faults.NotText n) true m tells final half ends = ((tells n refl).0 refl).1
    unended_by (faults.NotText n) false m tells final half ends = absurd cc
    unended_by (faults.Misfit n k) cut m tells final half ends = absurd (half tt)
    unended_by (faults.Capability n index) cut m tells final half ends = absurd (half tt)
    unended_by (faults.Another n) cut m tells final half ends = absurd (half tt)
    unended_by faults.NoText cut m tells final half ends =
        subst IsUnended (sym (nothing_left form input made place m ends)) nothing_unended

    module _ (fault : MakeFault) (cut : Bool) (other : fault ≡ faults.Memory → ⊥)
        (h : GoesOn form input place made (Err fault)) (tells : TellsCut form place cut fault) where
      -- Case: if the bytes at `place` that cause `fault` are complete, `input` is refused with `fault` whatever bytes
      -- follow.
      pub found : FaultStays → IsWholeFrom place.line place.rest fault
          → TellsRefusal form input place made (Some fault)
      found stays whole = elim h [
        | inl memory ↦ absurd (other memory)
        | inr (inl (n, index, is), so) ↦ (λ more. made_stays stays form input made more fault
            (subst (IsWhole input) (sym is) tt) so)
        | inr (inr m, so) ↦ (λ more. made_stays stays form input made more fault
            (whole_to m.values input place.rest fault m.first
            (subst (λ n. IsWholeFrom n place.rest fault) m.line whole)) so)
      ]

      -- Case: if `is_lost fault cut` is true, `input` is refused with `fault` whatever bytes follow.
      pub found_lost : is_lost fault cut ≡ true → TellsRefusal form input place made (Some fault)
      found_lost final = elim h [
        | inl memory ↦ absurd (other memory)
        | inr (inl (n, index, is), so) ↦ absurd (let no = subst (λ f. is_lost f cut ≡ true) is final in cc)
        | inr (inr m, so) ↦ found_by fault cut m tells final
      ]

      -- Case: if the bytes that cause `fault` are not complete, and `is_lost fault cut` is false, `input` is not
      -- refused yet.
      pub unfinished : (IsWholeFrom place.line place.rest fault → ⊥) → is_lost fault cut ≡ false
          → TellsRefusal form input place made None
      unfinished half final = elim h [
        | inl memory ↦ absurd (other memory)
        | inr (inl (n, index, is), so) ↦ absurd (half (subst (IsWholeFrom place.line place.rest) (sym is) tt))
        | inr (inr m, so) ↦ (
          m,
          (
            λ good.
                let e = one form input (Err fault) (Err good.0) (so_ends form input made (Err fault) so) good.1 in
                let same : good.0 ≡ fault = cc in
                let whole = subst (IsWhole input) same good.2 in
                let from = whole_from m.values input place.rest fault m.first whole in
                half (subst (λ n. IsWholeFrom n place.rest fault) (sym m.line) from),
            unfinished_by fault cut m tells final half (so_ends form input made (Err fault) so),
          ),
          unended_by fault cut m tells final half (so_ends form input made (Err fault) so),
        )
      ]
