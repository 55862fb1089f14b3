-- A message of one segment is canonical if and only if the survey of that segment says so. (For `is_canonical`.)
use Rattle.std.proofs.Common.{◌≡◌, ◌↔◌, ℕ, List, [], ◌∷◌, Option, Some, None, IsSome, ap, sym, subst, ◌∙◌}
use Rattle.std.specs.Bool.{IsTrue}
use Rattle.capn_words.specs.Message.{segment_at, bytes}
use Rattle.capn_value.specs.Tree.{Tree}
use Rattle.capn_value.specs.FirstCap.{first_cap}
use Rattle.capn_walk.specs.Limits.{Bounds}
use Rattle.capn_walk.specs.Accepted.{IsValueOf}
use Rattle.capn_layout.specs.Layout.{canon}
use Rattle.capn_canon.specs.BareVerdict.{IsBareSurvey}
use Rattle.capn_canon.specs.Measure.{IsCanonicalOf}
use Rattle.capn_canon.specs.declared.surveyed_bare.SurveyedBare.{SurveyedBare}
use Rattle.capn_mismatch.proofs.Mismatching.{one-value}

-- `v` has no capability, and the canonical bytes of `v` are the bytes of `ws`.
abbrev Is : List ℕ → Tree → Type 0
Is ws v = (first_cap v ≡ None) × (canon v ≡ bytes ws)

missing : {A : Type 0} (r : Option A) → r ≡ None → IsSome r → ⊥
missing (Some x) e s = absurd cc
missing None e s = absurd cc

module _ (m : List (List ℕ)) (limits : Bounds) (ws : List ℕ) (one : m ≡ ws ∷ []) (v : Tree)
    (i : IsValueOf m limits v) where
  here : IsCanonicalOf m v → Is ws v
  here (words, e, free, same) = (free, same ∙ ap (λ (x : List (List ℕ)). bytes (segment_at x 0)) (sym e ∙ one))

  of-words : IsValueOf (ws ∷ []) limits v
  of-words = subst (λ (x : List (List ℕ)). IsValueOf x limits v) one i

  -- The message is canonical exactly if the survey `c` of its segment says so.
  pub is-found : (c : SurveyedBare) → IsBareSurvey ws limits c → IsTrue c.is_canonical ↔ IsCanonicalOf m v
  is-found c found =
      let same = one-value (ws ∷ []) limits v found.value of-words found.is in (
        λ t. let h = subst (Is ws) (sym same) (found.answer.0 t) in (ws, one, h.0, h.1),
        λ h. found.answer.1 (subst (Is ws) same (here h)),
      )

  pub not-found : (r : Option SurveyedBare) → r ≡ None
      → ((w : Tree) → IsValueOf (ws ∷ []) limits w → first_cap w ≡ None → canon w ≡ bytes ws → IsSome r)
      → IsCanonicalOf m v → ⊥
  not-found r none only h = missing r none (only v of-words (here h).0 (here h).1)
