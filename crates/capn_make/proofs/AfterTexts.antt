-- Lemmas for the law `following`: a fault after the texts at the front of an input names no line before the end of
-- these texts.
use Rattle.std.proofs.Common.{◌≡◌, inl, inr, ℕ, ◌+◌, ◌≤◌, List, [], ◌∷◌, ◌++◌, length, Err}
use Rattle.std.proofs.Common.{refl, sym, ap, subst, ◌∙◌, append_assoc, arith}
use Rattle.capn_value.specs.Tree.{Tree}
use Rattle.capn_value.specs.Text.{show_text}
use Rattle.capn_text.specs.Laws.{TextsAreApart, FittingIsShowable, DeepIsHigh}
use Rattle.capn_text.specs.Streams.{end_line, ended_lines, stream_text}
use Rattle.capn_canon.specs.declared.form.Form.{Form}
use Rattle.capn_canon.specs.declared.form.Form.TheVariants as forms
use Rattle.capn_make.specs.MadeInput.{AreFirst, Follows, IsNotOne, IsStuck, IsTextRefused, MakesEach, line_after}
use Rattle.capn_make.specs.Endings.{IsFrom}
use Rattle.capn_make.specs.Laws.{RefusedAfter, UnendedIsLast}
use Rattle.capn_make.specs.declared.fault.MakeFault.{MakeFault}
use Rattle.capn_make.specs.declared.fault.MakeFault.TheVariants as faults
use Rattle.capn_make.proofs.Decided.{go_on}
use Rattle.capn_make.proofs.FirstTexts.{lines_append}
use Rattle.capn_make.proofs.OneReading.{next_of, next_same, refused_stuck, shown}
use Rattle.capn_make.proofs.Unended.{unended_stuck}

both_streams : (vs us : List Tree) → stream_text (vs ++ us) ≡ stream_text vs ++ stream_text us
both_streams [] us = refl
both_streams (v ∷ vs) us =
    ap (λ (t : List ℕ). show_text v ++ (end_line ++ t)) (both_streams vs us)
    ∙ sym (append_assoc (show_text v) (end_line ++ stream_text vs) (stream_text us))

lines_of_more : (vs us : List Tree) → line_after vs ≤ line_after (vs ++ us)
lines_of_more vs us =
    let all = ap ended_lines (both_streams vs us) ∙ lines_append (stream_text vs) (stream_text us) in omega arith

-- ---- the line of a fault

from_refused : (line : ℕ) (rest : List ℕ) (fault : MakeFault) → IsTextRefused line rest fault → IsFrom line fault
from_refused line rest faults.Memory h = tt
from_refused line rest faults.Io h = tt
from_refused line rest faults.InputTooLong h = tt
from_refused line rest (faults.NotText n) h =
    let at = h.first.1 in
    let one = h.first.2.1 in
    omega arith
from_refused line rest (faults.Misfit n m) h = let at = h.0 in omega arith
from_refused line rest (faults.Capability n index) h = let at = h.0 in omega arith
from_refused line rest (faults.Another n) h = absurd h
from_refused line rest faults.NoText h = tt

from_following : (line : ℕ) (rest : List ℕ) (fault : MakeFault) → Follows line rest fault → IsFrom line fault
from_following line rest faults.Memory h = tt
from_following line rest faults.Io h = tt
from_following line rest faults.InputTooLong h = tt
from_following line rest (faults.NotText n) h = let at = h.0 in omega arith
from_following line rest (faults.Misfit n m) h = absurd h
from_following line rest (faults.Capability n index) h = absurd h
from_following line rest (faults.Another n) h = let at = h.0 in omega arith
from_following line rest faults.NoText h = tt

pub from_less : (line at : ℕ) (fault : MakeFault) → line ≤ at → IsFrom at fault → IsFrom line fault
from_less line at faults.Memory less h = tt
from_less line at faults.Io less h = tt
from_less line at faults.InputTooLong less h = tt
from_less line at (faults.NotText n) less h = omega arith
from_less line at (faults.Misfit n m) less h = omega arith
from_less line at (faults.Capability n index) less h = omega arith
from_less line at (faults.Another n) less h = omega arith
from_less line at faults.NoText less h = tt

-- ---- texts at the front of an input

module _ (apart : TextsAreApart) (shows : FittingIsShowable) where
  later : (vs ws : List Tree) (input rest left : List ℕ) → AreFirst vs input rest → AreFirst ws input left
      → IsStuck left → line_after vs ≤ line_after ws
  later vs ws input rest left h k stuck =
      let p = go_on apart shows vs ws rest left h.each k.each stuck (sym h.are ∙ k.are) in
      subst (λ us. line_after vs ≤ line_after us) (sym p.1) (lines_of_more vs p.0)

  pub unended_is_last : UnendedIsLast
  unended_is_last vs ws input rest left h k none = later vs ws input rest left h k (unended_stuck shows left none)

  -- Case: if `vs` has at most one value, as in form `Bare`, `line_after vs` is at most the line after the text of `v`.
  of_one : (vs : List Tree) (v : Tree) (input rest left : List ℕ) → length vs ≤ 1 → AreFirst vs input rest
      → AreFirst (v ∷ []) input left → line_after vs ≤ line_after (v ∷ [])
  of_one [] v input rest left few h k = lines_of_more [] (v ∷ [])
  of_one (w ∷ []) v input rest left few h k =
      let p = next_same apart shows w v (stream_text [] ++ rest) (stream_text [] ++ left) input
      (shown apart shows w h.each.0) (shown apart shows v k.each.0) (h.are ∙ next_of apart shows w [] rest)
      (k.are ∙ next_of apart shows v [] left) in
      subst (λ u. line_after (w ∷ []) ≤ line_after (u ∷ [])) p.0 (omega arith)
  of_one (w ∷ u ∷ us) v input rest left few h k = absurd (omega arith)

  module _ (high : DeepIsHigh) where
    after_each : (form : Form) (vs : List Tree) (input rest text : List ℕ) (fault : MakeFault) → AreFirst vs input rest
        → MakesEach form input text (Err fault) → IsFrom (line_after vs) fault
    after_each form vs input rest text fault h m =
        let stuck = refused_stuck apart shows high (line_after m.0) m.1 fault m.4 in
        from_less (line_after vs) (line_after m.0) fault (later vs m.0 input rest m.1 h m.2 stuck)
        (from_refused (line_after m.0) m.1 fault m.4)

    after_one : (vs : List Tree) (input rest : List ℕ) (fault : MakeFault) → AreFirst vs input rest → length vs ≤ 1
        → IsNotOne input fault → IsFrom (line_after vs) fault
    after_one vs input rest fault h few (inl none) = subst (IsFrom (line_after vs)) (sym none.1) tt
    after_one vs input rest fault h few (inr (inl refused)) =
        let stuck = refused_stuck apart shows high 1 input fault refused in
        let nothing : AreFirst [] input input = record { each = tt; are = refl } in
        from_less (line_after vs) (line_after []) fault (later vs [] input rest input h nothing stuck)
        (from_refused 1 input fault refused)
    after_one vs input rest fault h few (inr (inr more)) =
        from_less (line_after vs) (line_after (more.0 ∷ [])) fault (of_one vs more.0 input rest more.1 few h more.2)
        (from_following (line_after (more.0 ∷ [])) more.1 fault more.3)

    pub refused_after : RefusedAfter
    refused_after forms.Stream vs input rest text fault h few m =
        after_each forms.Stream vs input rest text fault h m
    refused_after forms.Packed vs input rest text fault h few m =
        after_each forms.Packed vs input rest text fault h m
    refused_after forms.Bare vs input rest text fault h few m =
        after_one vs input rest fault h (few refl) m.1
