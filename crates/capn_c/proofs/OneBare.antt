-- The survey that says whether a message of one segment is canonical. (For `figures_counted`.)
use Rattle.std.proofs.Common.{◌↔◌, ℕ, List, length, ap, sym, ◌∙◌}
use Rattle.capn_words.specs.Message.{segment_at, bytes}
use Rattle.capn_walk.specs.Accepted.{root}
use Rattle.std.specs.Bool.{IsTrue}
use Rattle.capn_value.specs.FirstCap.{first_cap}
use Rattle.capn_walk.specs.Limits.{Bounds}
use Rattle.capn_walk.proofs.shared.Unique.{unique}
use Rattle.capn_target.proofs.shared.OneBare.{only-segment}
use Rattle.capn_canon.specs.Measure.{IsChecked}
use Rattle.capn_canon.specs.Layout.{canon}
use Rattle.capn_canon.specs.declared.surveyed_bare.SurveyedBare.{SurveyedBare}
use Rattle.capn_c.specs.Figures.{IsCanonicalMessage}

-- A message is canonical if and only if its survey `c` says so, since the message has only one value.
pub canonical-message : (m : List (List ℕ)) (limits : Bounds) (c : SurveyedBare) → IsChecked m limits c
    → IsTrue c.is_canonical ↔ IsCanonicalMessage m limits
canonical-message m limits c k = (
  (λ t. let a = k.answer.0 t in record {
    one = ap length a.1;
    value = k.value;
    is = k.is;
    free = a.2;
    same = a.3 ∙ ap (λ (n : List (List ℕ)). bytes (segment_at n 0)) (sym a.1);
  }),
  (λ h.
      let e = unique m h.value k.value root h.is.is k.is.is in
      k.answer.1 (
        segment_at m 0,
        only-segment m h.one,
        ap first_cap (sym e) ∙ h.free,
        ap canon (sym e) ∙ h.same,
      )),
)
