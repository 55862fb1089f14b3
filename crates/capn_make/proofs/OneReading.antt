-- Lemmas on the texts at the front of an input: they determine the list of their values. (For `AfterTexts`, `Decided`,
-- `Endings` and others.)
use Rattle.std.proofs.Common.{◌≡◌, inl, inr, ℕ, List, [], ◌∷◌, ◌++◌, length, Some, Result, Ok, Err, refl, sym, ap, ap₂}
use Rattle.std.proofs.Common.{subst, ◌∙◌, append_assoc, arith}
use Rattle.std.proofs.lemmas.List.{length-append}
use Rattle.std.specs.List.{AllByRecursion}
use Rattle.capn_value.specs.Tree.{Tree}
use Rattle.capn_value.specs.FirstCap.{first_cap}
use Rattle.capn_value.specs.Fits.{Fits, misfit}
use Rattle.capn_value.proofs.shared.Fitting.{fit_parts}
use Rattle.capn_value.specs.Text.{show_text}
use Rattle.capn_value.specs.declared.misfit.Misfit.{Misfit}
use Rattle.capn_text.specs.Laws.{TextsAreApart, FittingIsShowable, DeepIsHigh}
use Rattle.capn_text.specs.Showable.{IsShowable}
use Rattle.capn_text.specs.Streams.{end_line, stream_text}
use Rattle.capn_make.specs.WrittenValue.{IsMakeable}
use Rattle.capn_make.specs.MadeInput.{IsStuck, IsTextRefused, EndsAfter, line_after}
use Rattle.capn_make.specs.declared.fault.MakeFault.{MakeFault}
use Rattle.capn_make.specs.declared.fault.MakeFault.TheVariants as faults

past_end : (x y : List ℕ) → end_line ++ x ≡ end_line ++ y → x ≡ y
past_end x y e = cc

pub nothing_stuck : IsStuck []
nothing_stuck v more one e =
    let a = ap length e in
    let b = length-append (show_text v) (end_line ++ more) in
    let c = length-append end_line more in
    let d : length end_line ≡ 4 = refl in
    let z : length {A = ℕ} [] ≡ 0 = refl in
    absurd (omega arith)

pub fit_not : (v : Tree) (m : Misfit) → Fits v → misfit v ≡ Some m → ⊥
unfolding Fits
fit_not v m fits e = absurd cc

module _ (apart : TextsAreApart) (shows : FittingIsShowable) where
  pub next_same : (v w : Tree) (x y t : List ℕ) → IsShowable v → IsShowable w → t ≡ show_text v ++ (end_line ++ x)
      → t ≡ show_text w ++ (end_line ++ y) → (v ≡ w) × (x ≡ y)
  next_same v w x y t sv sw e f =
      let p = apart 0 v w (end_line ++ x) (end_line ++ y) sv sw (sym e ∙ f) in
      (p.0, past_end x y p.1)

  pub shown : (v : Tree) → IsMakeable v → IsShowable v
  shown v one = shows v one.fits one.in_range

  module _ (high : DeepIsHigh) where
    pub refused_stuck : (line : ℕ) (rest : List ℕ) (fault : MakeFault) → IsTextRefused line rest fault → IsStuck rest
    refused_stuck line rest faults.Memory h v more one e = absurd h
    refused_stuck line rest faults.Io h v more one e = absurd h
    refused_stuck line rest faults.InputTooLong h v more one e = absurd h
    refused_stuck line rest (faults.NotText n) h v more one e =
        h.none v more (shown v one) (fit_parts v one.fits).low e
    refused_stuck line rest (faults.Misfit n m) h v more one e = elim h.1 [
      | inl deep ↦
          (let tall = high v rest (end_line ++ more) deep.1 (shown v one) e in
          let low = (fit_parts v one.fits).low in
          absurd (omega arith))
      | inr w ↦
          (let p = next_same v w.0 more w.1 rest (shown v one) w.3 e w.5 in
          fit_not v m one.fits (ap misfit p.0 ∙ w.6))
    ]
    refused_stuck line rest (faults.Capability n index) h v more one e =
        let p = next_same v h.1 more h.2 rest (shown v one) (shows h.1 h.3 h.4) e h.5 in
        let free = one.free in
        let cap = ap first_cap p.0 ∙ h.6 in
        absurd cc
    refused_stuck line rest (faults.Another n) h v more one e = absurd h
    refused_stuck line rest faults.NoText h v more one e = absurd h

    pub stuck_after : (vs : List Tree) (rest : List ℕ) (r : Result (Unit {0}) MakeFault) → EndsAfter vs rest r
        → IsStuck rest
    stuck_after vs rest (Ok u) e = subst IsStuck (sym e) nothing_stuck
    stuck_after vs rest (Err fault) h = refused_stuck (line_after vs) rest fault h

  pub next_of : (v : Tree) (vs : List Tree) (rest : List ℕ)
      → stream_text (v ∷ vs) ++ rest ≡ show_text v ++ (end_line ++ (stream_text vs ++ rest))
  next_of v vs rest = append_assoc (show_text v) (end_line ++ stream_text vs) rest

  pub same_firsts : (vs ws : List Tree) (x y : List ℕ) → AllByRecursion IsMakeable vs
      → AllByRecursion IsMakeable ws → IsStuck x → IsStuck y → stream_text vs ++ x ≡ stream_text ws ++ y
      → (vs ≡ ws) × (x ≡ y)
  same_firsts [] [] x y av aw sx sy e = (refl, e)
  same_firsts [] (w ∷ ws) x y av aw sx sy e = absurd (sx w (stream_text ws ++ y) aw.0 (e ∙ next_of w ws y))
  same_firsts (v ∷ vs) [] x y av aw sx sy e = absurd (sy v (stream_text vs ++ x) av.0 (sym e ∙ next_of v vs x))
  same_firsts (v ∷ vs) (w ∷ ws) x y av aw sx sy e =
      let t = stream_text (v ∷ vs) ++ x in
      let p = next_same v w (stream_text vs ++ x) (stream_text ws ++ y) t (shown v av.0) (shown w aw.0)
      (next_of v vs x) (e ∙ next_of w ws y) in
      let q = same_firsts vs ws x y av.1 aw.1 sx sy p.1 in
      (ap₂ (λ h t. h ∷ t) p.0 q.0, q.1)
