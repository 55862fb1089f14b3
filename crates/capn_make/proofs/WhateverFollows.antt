-- Lemmas for the law `refusing`: if the bytes that cause a fault are complete, the fault stays whatever bytes follow.
use Rattle.std.proofs.Common.{◌≡◌, inl, inr, ℕ, ◌≤◌, List, [], ◌∷◌, ◌++◌, Err, refl, sym, ap, subst, ◌∙◌}
use Rattle.std.proofs.Common.{append_assoc, arith}
use Rattle.capn_value.specs.Tree.{Tree}
use Rattle.capn_value.specs.Text.{show_text}
use Rattle.capn_text.specs.Laws.{WrongLineStays, NoTextGoesOn, DeepStays, NoBeginningComes}
use Rattle.capn_text.specs.Streams.{end_line, ended_lines, ended_text, stream_text}
use Rattle.capn_canon.specs.declared.form.Form.{Form}
use Rattle.capn_canon.specs.declared.form.Form.TheVariants as forms
use Rattle.capn_make.specs.MadeInput.{AreFirst, IsTextRefused, Follows, IsNotOne, MakesEach, line_after}
use Rattle.capn_make.specs.Endings.{Ends, EndsEach, IsWhole}
use Rattle.capn_make.specs.Laws.{FaultStays, RefusalStays}
use Rattle.capn_make.specs.inner.RunParts.{IsWholeFrom}
use Rattle.capn_make.specs.declared.fault.MakeFault.{MakeFault}
use Rattle.capn_make.specs.declared.fault.MakeFault.TheVariants as faults
use Rattle.capn_make.proofs.FirstTexts.{lines_append}
use Rattle.capn_make.proofs.OneRefusal.{nil_front}

pub whole_from : (vs : List Tree) (input rest : List ℕ) (fault : MakeFault) → AreFirst vs input rest
    → IsWhole input fault → IsWholeFrom (line_after vs) rest fault
whole_from vs input rest faults.Memory first whole = tt
whole_from vs input rest faults.Io first whole = tt
whole_from vs input rest faults.InputTooLong first whole = tt
whole_from vs input rest (faults.NotText n) first whole =
    let e = ap ended_lines first.are ∙ lines_append (stream_text vs) rest in omega arith
whole_from vs input rest (faults.Misfit n m) first whole = tt
whole_from vs input rest (faults.Capability n index) first whole = tt
whole_from vs input rest (faults.Another n) first whole = tt
whole_from vs input rest faults.NoText first whole = whole

pub whole_to : (vs : List Tree) (input rest : List ℕ) (fault : MakeFault) → AreFirst vs input rest
    → IsWholeFrom (line_after vs) rest fault → IsWhole input fault
whole_to vs input rest faults.Memory first whole = tt
whole_to vs input rest faults.Io first whole = tt
whole_to vs input rest faults.InputTooLong first whole = tt
whole_to vs input rest (faults.NotText n) first whole =
    let e = ap ended_lines first.are ∙ lines_append (stream_text vs) rest in omega arith
whole_to vs input rest (faults.Misfit n m) first whole = tt
whole_to vs input rest (faults.Capability n index) first whole = tt
whole_to vs input rest (faults.Another n) first whole = tt
whole_to vs input rest faults.NoText first whole = whole

whole_on : (input more : List ℕ) (fault : MakeFault) → IsWhole input fault → IsWhole (input ++ more) fault
whole_on input more faults.Memory h = tt
whole_on input more faults.Io h = tt
whole_on input more faults.InputTooLong h = tt
whole_on input more (faults.NotText n) h = let e = lines_append input more in omega arith
whole_on input more (faults.Misfit n m) h = tt
whole_on input more (faults.Capability n index) h = tt
whole_on input more (faults.Another n) h = tt
whole_on input more faults.NoText h = h

text_on : (v : Tree) (rest x more : List ℕ) → rest ≡ show_text v ++ (end_line ++ x)
    → rest ++ more ≡ show_text v ++ (end_line ++ (x ++ more))
text_on v rest x more e =
    ap (λ t. t ++ more) e ∙ append_assoc (show_text v) (end_line ++ x) more
    ∙ ap (λ t. show_text v ++ t) (append_assoc end_line x more)

pub first_on : (vs : List Tree) (input rest more : List ℕ) → AreFirst vs input rest
    → AreFirst vs (input ++ more) (rest ++ more)
first_on vs input rest more first = record {
  each = first.each;
  are = ap (λ t. t ++ more) first.are ∙ append_assoc (stream_text vs) rest more;
}

module _ (wrong : WrongLineStays) (none : NoTextGoesOn) (deep : DeepStays) (first : NoBeginningComes) where
  pub text_stays : (line : ℕ) (rest more : List ℕ) (fault : MakeFault) → IsWholeFrom line rest fault
      → IsTextRefused line rest fault → IsTextRefused line (rest ++ more) fault
  text_stays line rest more faults.Memory whole h = h
  text_stays line rest more faults.Io whole h = h
  text_stays line rest more faults.InputTooLong whole h = h
  text_stays line rest more (faults.NotText n) whole h =
      let k = h.first.0 in
      let at = h.first.1 in
      let few : k ≤ ended_lines rest = omega arith in
      record {
        some = λ e. h.some (nil_front rest more (sym e));
        none = λ v x s low e.
            let p = none k v rest more x few h.first.2 s e in
            h.none v p.0 s low p.1;
        first = (k, at, wrong ended_text k rest more few h.first.2);
      }
  text_stays line rest more (faults.Misfit n m) whole h = (
    h.0,
    elim h.1 [
      | inl d ↦ inl (d.0, deep rest more d.1)
      | inr w ↦ inr (w.0, w.1 ++ more, w.2, w.3, w.4, text_on w.0 rest w.1 more w.5, w.6)
    ],
  )
  text_stays line rest more (faults.Capability n index) whole h =
      (h.0, h.1, h.2 ++ more, h.3, h.4, text_on h.1 rest h.2 more h.5, h.6)
  text_stays line rest more (faults.Another n) whole h = h
  text_stays line rest more faults.NoText whole h = h

  follows_stays : (line : ℕ) (rest more : List ℕ) (fault : MakeFault) → IsWholeFrom line rest fault
      → Follows line rest fault → Follows line (rest ++ more) fault
  follows_stays line rest more faults.Memory whole h = h
  follows_stays line rest more faults.Io whole h = h
  follows_stays line rest more faults.InputTooLong whole h = h
  follows_stays line rest more (faults.NotText n) whole h =
      let at = h.0 in
      (h.0, λ e. h.1 (nil_front rest more (sym e)), λ v b. h.2 v (first rest more v (omega arith) b))
  follows_stays line rest more (faults.Misfit n m) whole h = h
  follows_stays line rest more (faults.Capability n index) whole h = h
  follows_stays line rest more (faults.Another n) whole h =
      let b = h.2 in
      let longer = ap (λ t. t ++ more) b.4 ∙ append_assoc b.1 b.2 more in
      (h.0, h.1, (b.0, b.1, b.2 ++ more, b.3, longer, b.5, b.6))
  follows_stays line rest more faults.NoText whole h = h

  not_one_stays : (input more : List ℕ) (fault : MakeFault) → IsWhole input fault → IsNotOne input fault
      → IsNotOne (input ++ more) fault
  not_one_stays input more fault whole (inl h) = absurd (subst (IsWhole input) h.1 whole)
  not_one_stays input more fault whole (inr (inl h)) =
      let none : AreFirst [] input input = record { each = tt; are = refl } in
      inr (inl (text_stays 1 input more fault (whole_from [] input input fault none whole) h))
  not_one_stays input more fault whole (inr (inr h)) =
      let from = whole_from (h.0 ∷ []) input h.1 fault h.2 whole in
      let after = follows_stays (line_after (h.0 ∷ [])) h.1 more fault from h.3 in
      inr (inr (h.0, h.1 ++ more, first_on (h.0 ∷ []) input h.1 more h.2, after))

  each_stays : (input more : List ℕ) (fault : MakeFault) → IsWhole input fault → EndsEach input (Err fault)
      → EndsEach (input ++ more) (Err fault)
  each_stays input more fault whole h = (
    h.0,
    h.1 ++ more,
    first_on h.0 input h.1 more h.2,
    text_stays (line_after h.0) h.1 more fault (whole_from h.0 input h.1 fault h.2 whole) h.3,
  )

  making_stays : (form : Form) (input more text : List ℕ) (fault : MakeFault) → IsWhole input fault
      → MakesEach form input text (Err fault) → MakesEach form (input ++ more) text (Err fault)
  making_stays form input more text fault whole h = (
    h.0,
    h.1 ++ more,
    first_on h.0 input h.1 more h.2,
    h.3,
    text_stays (line_after h.0) h.1 more fault (whole_from h.0 input h.1 fault h.2 whole) h.4,
  )

  pub fault_stays : FaultStays
  fault_stays forms.Stream input more text fault whole h = making_stays forms.Stream input more text fault whole h
  fault_stays forms.Packed input more text fault whole h = making_stays forms.Packed input more text fault whole h
  fault_stays forms.Bare input more text fault whole h = (h.0, not_one_stays input more fault whole h.1)

  ending_stays : (form : Form) (input more : List ℕ) (fault : MakeFault) → IsWhole input fault
      → Ends form input (Err fault) → Ends form (input ++ more) (Err fault)
  ending_stays forms.Stream input more fault whole h = each_stays input more fault whole h
  ending_stays forms.Packed input more fault whole h = each_stays input more fault whole h
  ending_stays forms.Bare input more fault whole h = not_one_stays input more fault whole h

  pub refusal_stays : RefusalStays
  refusal_stays form input more h = (h.0, ending_stays form input more h.0 h.2 h.1, whole_on input more h.0 h.2)
