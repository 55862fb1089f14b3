-- Lemmas for `look` and `end`: `rest` is parsed again because bytes were added to it, or because the input has ended.
use Rattle.std.proofs.Common.{◌≡◌, ◌≢◌, inl, inr, ℕ, zero, suc, ◌+◌, ◌*◌, ◌-◌, ◌^◌, ◌≤◌, ◌<◌, List, [], ◌∷◌, ◌++◌}
use Rattle.std.proofs.Common.{length, take, drop, Bool, true, false, Option, Some, None, Result, Ok, Err, OnOk, OnErr}
use Rattle.std.proofs.Common.{IsOkUnless, refl, sym, ap, ap₂, subst, ◌∙◌, append_assoc, arith}
use Rattle.std.proofs.lemmas.Bool.{cases_lt}
use Rattle.std.proofs.lemmas.List.{append-nil, length-append}
use Rattle.std.specs.Io.KnownBytes.{Appends}
use Rattle.std.proofs.KnownBytes.{Appends-trans}
use Rattle.capn_text.specs.Streams.{Place}
use Rattle.capn_words.specs.Watched.{HasBegun}
use Rattle.capn_canon.specs.declared.form.Form.{Form}
use Rattle.capn_canon.specs.declared.form.Form.TheVariants as forms
use Rattle.capn_make.specs.MadeInput.{IsNotOne, Makes}
use Rattle.capn_make.specs.MakeRun.{HasBegunText}
use Rattle.capn_make.specs.inner.RunParts.{GivesMade, GoesOn, HasCome, HasMade, HoldsNoEnd, IsKept, IsMadeSo}
use Rattle.capn_make.specs.inner.RunParts.{IsUnderWay, TellsRefusal, WritesMade}
use Rattle.capn_make.specs.inner.SinkRun.{Writes}
use Rattle.capn_make.specs.declared.fault.MakeFault.{MakeFault}
use Rattle.capn_make.specs.declared.fault.MakeFault.TheVariants as faults
use Rattle.capn_make.proofs.FirstTexts.{room_after}
use Rattle.capn_make.proofs.FoundRefusal.{so_made}
use Rattle.capn_make.proofs.TestedInput.{all_tested, some_left}
use Rattle.capn_make.proofs.WhateverFollows.{first_on}
use Rattle.capn_make.proofs.UnderWay.{all_begun}

many_bytes : (form : Form) (input made rest : List ℕ) (line : ℕ)
    → HasMade form input (record { rest = rest; line = line }) made → 2 ^ 64 ≤ line + length rest
    → length rest < 2 ^ 63 → 2 ^ 64 ≤ length input
many_bytes form input made rest line m many left =
    let at = m.line in
    elim (cases_lt (length input) (2 ^ 64)) [
      | inl less ↦ (let room = room_after m.values input rest m.first less left in absurd (omega arith))
      | inr all ↦ all
    ]

-- ---- what was written

take_past : (xs ys : List ℕ) (n : ℕ) → take (length xs + n) (xs ++ ys) ≡ xs ++ take n ys
take_past [] ys n = let same : length {A = ℕ} [] + n ≡ n = omega arith in ap (λ m. take m ys) same
take_past (x ∷ xs) ys n =
    let more : length (x ∷ xs) + n ≡ suc (length xs + n) = omega arith in
    ap (λ m. take m (x ∷ xs ++ ys)) more ∙ ap (λ t. x ∷ t) (take_past xs ys n)

begun_on : (c d e : Option (List ℕ)) (written text : List ℕ) → Appends c d written → HasBegun d e text
    → HasBegun c e (written ++ text)
begun_on c d e written text wrote begun = (
  length written + begun.0,
  subst (Appends c e) (sym (take_past written text begun.0))
      (Appends-trans c d e written (take begun.0 text) wrote begun.1),
)

kept_on : (form : Form) (written made text new : List ℕ) → IsKept form written made → IsKept form text new
    → IsKept form (written ++ text) new
kept_on forms.Stream written made text new old kept = kept
kept_on forms.Packed written made text new old kept = kept
kept_on forms.Bare written made text new old kept = ap₂ (λ x y. x ++ y) old kept

-- ---- the result and the messages

none_of_none : (n : ℕ) → take {A = ℕ} n [] ≡ []
none_of_none zero = refl
none_of_none (suc n) = refl

text_begun : (form : Form) (input text : List ℕ) (c d : Option (List ℕ)) (r : Result (Unit {0}) MakeFault)
    → Makes form input text r → HasBegun c d text → HasBegunText form input c d
text_begun forms.Stream input text c d r h begun = (h.0, h.1, text, h.2, h.3, begun)
text_begun forms.Packed input text c d r h begun = (h.0, h.1, text, h.2, h.3, begun)
text_begun forms.Bare input text c d (Ok u) h begun = inr (h.0, h.1, subst (λ t. HasBegun c d t) h.2 begun)
text_begun forms.Bare input text c d (Err fault) h begun =
    inl (subst (Appends c d) (ap (take begun.0) h.0 ∙ none_of_none begun.0) begun.1)

none_memory : (input : List ℕ) → IsNotOne input faults.Memory → ⊥
none_memory input (inl none) = absurd cc
none_memory input (inr (inl refused)) = refused
none_memory input (inr (inr more)) = more.3

not_memory : (form : Form) (input text : List ℕ) → Makes form input text (Err faults.Memory) → ⊥
not_memory forms.Stream input text h = h.4
not_memory forms.Packed input text h = h.4
not_memory forms.Bare input text h = none_memory input h.1

none_io : (input : List ℕ) → IsNotOne input faults.Io → ⊥
none_io input (inl none) = absurd cc
none_io input (inr (inl refused)) = refused
none_io input (inr (inr more)) = more.3

not_io : (form : Form) (input text : List ℕ) → Makes form input text (Err faults.Io) → ⊥
not_io forms.Stream input text h = h.4
not_io forms.Packed input text h = h.4
not_io forms.Bare input text h = none_io input h.1

made_well : (form : Form) (input made : List ℕ) (u : Unit {0}) → IsMadeSo form input made (Ok u)
    → Makes form input made (Ok u)
made_well forms.Stream input made u so = so
made_well forms.Packed input made u so = so
made_well forms.Bare input made u so = so

refused_ends : (form : Form) (input written new : List ℕ) (fault : MakeFault) → IsKept form written new
    → IsMadeSo form input (written ++ new) (Err fault) → Makes form input written (Err fault)
refused_ends forms.Stream input written new fault kept so =
    subst (λ t. Makes forms.Stream input t (Err fault)) (ap (λ t. written ++ t) kept ∙ append-nil written) so
refused_ends forms.Packed input written new fault kept so =
    subst (λ t. Makes forms.Packed input t (Err fault)) (ap (λ t. written ++ t) kept ∙ append-nil written) so
refused_ends forms.Bare input written new fault kept so = (kept, so)

abbrev err_of : MakeFault → Result (Unit {0}) MakeFault
err_of x = Err x

err_inj : (x y : MakeFault) → err_of x ≡ err_of y → x ≡ y
err_inj x y e = cc

so_begun : (form : Form) (input made : List ℕ) (c d : Option (List ℕ)) (fault : MakeFault) → (form ≡ forms.Bare → ⊥)
    → IsMadeSo form input made (Err fault) → HasBegun c d made → HasBegunText form input c d
so_begun forms.Stream input made c d fault framed so begun =
    text_begun forms.Stream input made c d (Err fault) so begun
so_begun forms.Packed input made c d fault framed so begun =
    text_begun forms.Packed input made c d (Err fault) so begun
so_begun forms.Bare input made c d fault framed so begun = absurd (framed refl)

refused_begun : (form : Form) (input more made : List ℕ) (place : Place) (c d : Option (List ℕ))
    (told : Option MakeFault) → (form ≡ forms.Bare → ⊥) → TellsRefusal form input place made told → HasBegun c d made
    → HasBegunText form (input ++ more) c d
refused_begun form input more made place c d (Some fault) framed tells begun =
    so_begun form (input ++ more) made c d fault framed (tells more) begun
refused_begun forms.Stream input more made place c d None framed tells begun =
    let m = tells.0 in
    (m.values, place.rest ++ more, made, first_on m.values input place.rest more m.first, m.are, begun)
refused_begun forms.Packed input more made place c d None framed tells begun =
    let m = tells.0 in
    (m.values, place.rest ++ more, made, first_on m.values input place.rest more m.first, m.are, begun)
refused_begun forms.Bare input more made place c d None framed tells begun = absurd (framed refl)

-- ---- the bytes that were added

module _ (form : Form) (input : List ℕ) (c d : Option (List ℕ)) (made rest : List ℕ) (line tested before : ℕ)
    (h : HasCome form input c d made rest line tested before) where
  -- Case: if no line `end` ends in the added bytes, and `rest` has at most four times `tested` bytes, `IsUnderWay`
  -- holds.
  pub goes_on_at : HoldsNoEnd (drop (before - 3) rest) → length rest ≤ 4 * tested
      → IsUnderWay form input c d made rest line tested
  goes_on_at none few = record {
    written = h.written;
    wrote = h.wrote;
    kept = h.kept;
    made_so_far = h.made_so_far;
    tested_so_far = h.tested_so_far;
    short = few;
    unended = h.unended none;
  }

  pub refused_at : rest ≢ [] → (more : List ℕ) → GivesMade form input more c d (Err faults.Memory)
  refused_at some more = (
    inl refl,
    h.begun more,
    λ e. some_left form input (h.written ++ made) (record { rest = rest; line = line }) h.made_so_far some,
  )

  pub too_long_at : 2 ^ 64 ≤ line + length rest → length rest < 2 ^ 63 → (more : List ℕ)
      → GivesMade form input more c d (Err faults.InputTooLong)
  too_long_at many left more =
      let least = many_bytes form input (h.written ++ made) rest line h.made_so_far many left in
      let all = length-append input more in
      (inr (inr (inl (refl, omega arith))), h.begun more, λ e. absurd cc)

  module _ (after left : List ℕ) (at : ℕ) (e : Option (List ℕ)) (broken : Bool) (new : List ℕ) where
    abbrev place : Place
    place = record { rest = left; line = at }

    broken_at : (io : MakeFault) (more : List ℕ) → WritesMade form d e broken after new (Err io)
        → (HasBegun c e (h.written ++ after) → HasBegunText form (input ++ more) c e)
        → GivesMade form input more c e (Err io)
    broken_at io more w begun = (inr (inl w.1), begun (begun_on c d e h.written after h.wrote w.3), λ is. absurd cc)

    broken_writes : (io : MakeFault) → WritesMade form d e broken after new (Err io)
        → Writes faults.Io d e broken (Err io)
    broken_writes io w = ((take w.3.0 after, w.3.1), (λ is. w.0, λ f. ap err_of w.1))

    pub part_at : (told : Option MakeFault) (io : MakeFault) → TellsRefusal form input place (h.written ++ after) told
        → WritesMade form d e broken after new (Err io)
        → ((more : List ℕ) → GivesMade form input more c e (Err io)) × Writes faults.Io d e broken (Err io)
    part_at told io tells w = (
      λ more. broken_at io more w (refused_begun form input more (h.written ++ after) place c e told w.2 tells),
      broken_writes io w,
    )

    pub made_writes : (u : Unit {0}) (r : Result (Unit {0}) MakeFault) → WritesMade form d e broken after new (Ok u)
        → (r ≡ Err faults.Io → ⊥) → Writes faults.Io d e broken r
    made_writes u r w other = ((w.1, w.2), (λ is. absurd (other is), λ f. let fine = w.0 in absurd cc))

    -- Case: if the messages were written, and `input ++ more` is refused with `fault`, `GivesMade` holds.
    refused_so : (more : List ℕ) (fault : MakeFault) (u : Unit {0})
        → IsMadeSo form (input ++ more) (h.written ++ after) (Err fault) → WritesMade form d e broken after new (Ok u)
        → GivesMade form input more c e (Err fault) × Writes faults.Io d e broken (Err fault)
    refused_so more fault u so w =
        let all = input ++ more in
        let text = w.1 in
        let wrote = Appends-trans c d e h.written text h.wrote w.2 in
        let parts = ap (λ t. h.written ++ t) w.3 ∙ sym (append_assoc h.written text new) in
        let kept = kept_on form h.written made text new h.kept w.4 in
        let makes = refused_ends form all (h.written ++ text) new fault kept
        (subst (λ t. IsMadeSo form all t (Err fault)) parts so) in (
          (
            inr (inr (inr (h.written ++ text, makes, wrote))),
            text_begun form all (h.written ++ text) c e (Err fault) makes (all_begun c e (h.written ++ text) wrote),
            λ is. absurd (not_memory form all (h.written ++ text)
                (subst (λ f. Makes form all (h.written ++ text) (Err f)) (err_inj fault faults.Memory is) makes)),
          ),
          made_writes u (Err fault) w (λ is. not_io form all (h.written ++ text)
              (subst (λ f. Makes form all (h.written ++ text) (Err f)) (err_inj fault faults.Io is) makes)),
        )

    -- Case: if the messages were written, and `input` is refused with `fault` whatever follows, `GivesMade` holds.
    pub refuses_at : (fault : MakeFault) (u : Unit {0})
        → TellsRefusal form input place (h.written ++ after) (Some fault)
        → WritesMade form d e broken after new (Ok u)
        → ((more : List ℕ) → GivesMade form input more c e (Err fault)) × Writes faults.Io d e broken (Err fault)
    refuses_at fault u tells w =
        (λ more. (refused_so more fault u (tells more) w).0, (refused_so [] fault u (tells []) w).1)

    ended_so : (fault : MakeFault) → (fault ≡ faults.Memory → ⊥)
        → GoesOn form input place (h.written ++ after) (Err fault)
        → IsMadeSo form (input ++ []) (h.written ++ after) (Err fault)
    ended_so fault other goes =
        subst (λ t. IsMadeSo form t (h.written ++ after) (Err fault)) (sym (append-nil input))
        (so_made form input (h.written ++ after) place fault other goes)

    pub ended_refused : (fault : MakeFault) (u : Unit {0}) → (fault ≡ faults.Memory → ⊥)
        → GoesOn form input place (h.written ++ after) (Err fault) → WritesMade form d e broken after new (Ok u)
        → GivesMade form input [] c e (Err fault) × Writes faults.Io d e broken (Err fault)
    ended_refused fault u other goes w = refused_so [] fault u (ended_so fault other goes) w

    -- Case: if the input has ended and is refused, but the writer failed with `io`, `GivesMade` holds for `io`.
    pub ended_broken : (fault io : MakeFault) → (fault ≡ faults.Memory → ⊥)
        → GoesOn form input place (h.written ++ after) (Err fault) → WritesMade form d e broken after new (Err io)
        → GivesMade form input [] c e (Err io) × Writes faults.Io d e broken (Err io)
    ended_broken fault io other goes w = (
      broken_at io [] w
          (so_begun form (input ++ []) (h.written ++ after) c e fault w.2 (ended_so fault other goes)),
      broken_writes io w,
    )

    pub written_at : (u : Unit {0}) → TellsRefusal form input place (h.written ++ after) None
        → WritesMade form d e broken after new (Ok u) → IsUnderWay form input c e new left at (length left)
    written_at u told w =
        let text = w.1 in
        let all = ap (λ t. h.written ++ t) w.3 ∙ sym (append_assoc h.written text new) in
        record {
          written = h.written ++ text;
          wrote = Appends-trans c d e h.written text h.wrote w.2;
          kept = kept_on form h.written made text new h.kept w.4;
          made_so_far = subst (HasMade form input place) all told.0;
          tested_so_far = all_tested form input left told.1;
          short = omega arith;
          unended = told.2;
        }

    ended_by : (u : Unit {0}) (r : Result (Unit {0}) MakeFault) → Makes form (input ++ []) (h.written ++ after) (Ok u)
        → HasBegunText form (input ++ []) c e → HasBegun d e after → OnOk r (Appends d e after)
        → OnOk r (broken ≡ false) → OnErr r (broken ≡ true) → IsOkUnless r faults.Io
        → GivesMade form input [] c e r × Writes faults.Io d e broken r
    ended_by u (Ok v) makes started begun all fine failed only = (
      ((h.written ++ after, makes, Appends-trans c d e h.written after h.wrote all), started, λ is. absurd cc),
      ((after, all), (λ is. absurd cc, λ f. absurd cc)),
    )
    ended_by u (Err fault) makes started begun all fine failed only = (
      (inr (inl only), started, λ is. absurd cc),
      ((take begun.0 after, begun.1), (λ is. failed, λ f. ap err_of only)),
    )

    -- Case: if `GoesOn` holds with `Ok` at the end of the input, `GivesMade` holds, even if the writer failed.
    pub ended_as : (u : Unit {0}) (r : Result (Unit {0}) MakeFault)
        → GoesOn form input place (h.written ++ after) (Ok u)
        → OnOk r (Appends d e after) → HasBegun d e after → OnOk r (broken ≡ false) → OnErr r (broken ≡ true)
        → IsOkUnless r faults.Io → GivesMade form input [] c e r × Writes faults.Io d e broken r
    ended_as u r goes all begun fine failed only =
        let makes = subst (λ t. Makes form t (h.written ++ after) (Ok u)) (sym (append-nil input))
        (made_well form input (h.written ++ after) u goes.1) in
        let started = text_begun form (input ++ []) (h.written ++ after) c e (Ok u) makes
        (begun_on c d e h.written after h.wrote begun) in
        ended_by u r makes started begun all fine failed only
