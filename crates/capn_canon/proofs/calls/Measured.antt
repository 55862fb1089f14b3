-- The measure of a message, of one segment or of more. (For `measure`, `measure_bare` and `measure_other`.)
use Rattle.std.proofs.Common.{◌≡◌, ◌∙◌, ℕ, List, [], ◌∷◌, length, true, false, Option, None, is_some, refl, ap, sym}
use Rattle.capn_words.specs.Message.{bytes}
use Rattle.capn_value.specs.Tree.{Tree}
use Rattle.capn_value.specs.FirstCap.{first_cap}
use Rattle.capn_walk.specs.Limits.{Bounds}
use Rattle.capn_walk.specs.Accepted.{IsValueOf}
use Rattle.capn_walk.specs.Depth.{IsDepth}
use Rattle.capn_walk.specs.Surveyed.{IsSurvey}
use Rattle.capn_walk.specs.declared.survey_answer.Surveyed.{Surveyed}
use Rattle.capn_layout.specs.Layout.{canon}
use Rattle.capn_canon.specs.BareVerdict.{IsBareSurvey}
use Rattle.capn_canon.specs.Measure.{IsCanonicalOf, IsChecked, IsMeasure}
use Rattle.capn_canon.specs.declared.surveyed_bare.MeasuredBare.{MeasuredBare}
use Rattle.capn_canon.specs.declared.surveyed_bare.SurveyedBare.{SurveyedBare}

same_words : (ws vs : List ℕ) → ◌≡◌ {A = List (List ℕ)} (ws ∷ []) (vs ∷ []) → ws ≡ vs
same_words ws vs same = cc

-- The survey `c` of `words` is also the survey of the message of the one segment `words`.
pub bare_checked : (words : List ℕ) (limits : Bounds) (c : SurveyedBare) → IsBareSurvey words limits c
    → IsChecked (words ∷ []) limits c
bare_checked words limits c told = record {
  value = told.value;
  is = told.is;
  pays = told.pays;
  counts = told.counts;
  capability = told.capability;
  answer = (
    (λ so. let are = told.answer.0 so in (words, refl, are.0, are.1)),
    (λ is. told.answer.1 (is.2, is.3 ∙ ap bytes (sym (same_words words is.0 is.1)))),
  );
}

-- A message is not canonical if its number of segments is not 1.
pub not_one : (message : List (List ℕ)) (v : Tree) → (length message ≡ 1 → ⊥) → IsCanonicalOf message v → ⊥
not_one message v not is = not (ap length is.1)

-- The result `None` of the one pass.
abbrev none : Option MeasuredBare
none = None

not_none : is_some none ≡ true → ⊥
not_none is = absurd (cc)

-- A message of one segment is not canonical if the one pass returns `None` for it.
pub not_told : (words : List ℕ) (limits : Bounds)
    → ((v : Tree) → IsValueOf (words ∷ []) limits v → first_cap v ≡ None → canon v ≡ bytes words
    → is_some none ≡ true) → (v : Tree) → IsValueOf (words ∷ []) limits v → IsCanonicalOf (words ∷ []) v → ⊥
not_told words limits only v told is =
    not_none (only v told is.2 (is.3 ∙ ap bytes (sym (same_words words is.0 is.1))))

-- If `message` is not canonical, its survey `s` and its `depth` make up its measure.
pub not_checked : (message : List (List ℕ)) (limits : Bounds) (s : Surveyed) (depth : ℕ) → IsSurvey message limits s
    → IsDepth message limits depth → ((v : Tree) → IsValueOf message limits v → IsCanonicalOf message v → ⊥)
    → IsMeasure message limits (record {
      survey = record {
        paid = s.paid;
        visits = s.visits;
        capability = s.capability;
        is_canonical = false;
      };
      depth = depth;
    })
not_checked message limits s depth told deep not = record {
  checked = record {
    value = told.value;
    is = told.is;
    pays = told.pays;
    counts = told.counts;
    capability = told.capability;
    answer = ((λ so. absurd cc), (λ is. absurd (not told.value told.is is)));
  };
  depth = deep;
}
