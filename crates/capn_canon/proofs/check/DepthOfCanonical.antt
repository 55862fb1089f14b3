-- The least depth under which canonical words are accepted is the height of their value. (For `CanonicalSurvey`.)
use Rattle.std.proofs.Common.{◌≡◌, ℕ, ◌≤◌, ◌^◌, List, [], ◌∷◌, ap, sym, subst, ◌∙◌, arith}
use Rattle.capn_words.specs.Message.{IsMessage}
use Rattle.capn_words.proofs.shared.OneSegment.{bare_only}
use Rattle.capn_value.specs.Tree.{Tree}
use Rattle.capn_value.specs.Cost.{height}
use Rattle.capn_value.specs.Fits.{Fits}
use Rattle.capn_value.specs.InRange.{InRange}
use Rattle.capn_walk.specs.Accepted.{IsAccepted, IsValueOf}
use Rattle.capn_walk.specs.Depth.{IsDepth, at_depth}
use Rattle.capn_walk.specs.Limits.{Bounds}
use Rattle.capn_layout.specs.Layout.{words, canon}
use Rattle.capn_canon.proofs.shared.BareCanon.{words_in_canon}
use Rattle.capn_canon.proofs.theorem.Headline.{denoted_fits, denoted_in_range, denoted_cost}
use Rattle.capn_canon.proofs.reading.ReadBare.{read_bare}

module _ (all : List ℕ) (limits : Bounds) (v : Tree) (is : IsMessage (all ∷ [])) (small : limits.budget ≤ 2 ^ 28)
    (shallow : limits.depth ≤ 256) (h : IsValueOf (all ∷ []) limits v) (same : words v ≡ all) where
  fits : Fits v
  fits = denoted_fits (all ∷ []) limits v is small shallow h

  in_range : InRange v
  in_range = denoted_in_range (all ∷ []) limits v is small shallow h

  -- Canonical words are accepted under a depth limit that equals the height of their value `v`.
  accepted : IsAccepted (all ∷ []) (at_depth limits (height v))
  accepted =
      let c = denoted_cost (all ∷ []) limits v is small shallow h in
      let d = read_bare v (at_depth limits (height v)) fits in_range (omega arith) (omega arith) in
      let (ws, b, e) = d.reads in
      let w : ws ≡ all = sym (bare_only (canon v) ws b) ∙ words_in_canon v fits in_range ∙ same in
      subst (λ (m : List (List ℕ)). IsAccepted m (at_depth limits (height v)))
      (e ∙ ap (λ (us : List ℕ). us ∷ []) w) d.value.accepted

  pub depth-of-canonical : IsDepth (all ∷ []) limits (height v)
  depth-of-canonical = record {
    accepted = accepted;
    least = λ n low other.
        let t = (denoted_cost (all ∷ []) limits v is small shallow h).2 in
        let k = (denoted_cost (all ∷ []) (at_depth limits n) v is small (omega arith)
        (record { accepted = other; is = h.is })).2 in
        omega arith;
  }
