-- The figures of a message follow from its measure. (For `figures_of`.)
use Rattle.std.proofs.Common.{◌≡◌, ◌↔◌, ◌≤◌, ℕ, List, length, subst, sym, ◌∙◌}
use Rattle.std.specs.Bool.{IsTrue}
use Rattle.capn_words.specs.Message.{total}
use Rattle.capn_walk.specs.Depth.{IsDepth}
use Rattle.capn_walk.specs.Limits.{Bounds}
use Rattle.capn_canon.specs.Measure.{IsMeasure}
use Rattle.capn_canon.specs.declared.surveyed_bare.MeasuredBare.{MeasuredBare}
use Rattle.capn_c.specs.Figures.{AreFigures, reported_cap}
use Rattle.capn_c.specs.declared.figures.CapnFigures.{CapnFigures}
use Rattle.capn_c.proofs.OneBare.{canonical-message}

-- `f` has the numbers of words and segments of `message`, and otherwise the figures of the measure `told`.
pub record AreOf (message : List (List ℕ)) (told : MeasuredBare) (f : CapnFigures) : Type 0 where
  pub words : f.words ≡ total message
  pub segments : f.segments ≡ length message
  pub paid : f.paid ≡ told.survey.paid
  pub visits : f.visits ≡ told.survey.visits
  pub depth : f.depth ≡ told.depth
  pub capability : reported_cap f.has_capability f.capability ≡ told.survey.capability
  pub canonical : (f.canonical ≡ 1) ↔ IsTrue told.survey.is_canonical
  pub flags : (f.has_capability ≤ 1) × (f.canonical ≤ 1)

pub figured : (message : List (List ℕ)) (limits : Bounds) (told : MeasuredBare) (f : CapnFigures)
    → IsMeasure message limits told → AreOf message told f → AreFigures message limits f
figured message limits told f h a =
    let k = canonical-message message limits told.survey h.checked in
    record {
      value = h.checked.value;
      is = h.checked.is;
      words = a.words;
      segments = a.segments;
      pays = a.paid ∙ h.checked.pays;
      counts = a.visits ∙ h.checked.counts;
      depth = subst (IsDepth message limits) (sym a.depth) h.depth;
      capability = a.capability ∙ h.checked.capability;
      canonical = ((λ e. k.0 (a.canonical.0 e)), (λ e. a.canonical.1 (k.1 e)));
      flags = a.flags;
    }
