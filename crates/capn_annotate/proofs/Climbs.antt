-- One level of a way.
use Rattle.std.proofs.Common.{◌≡◌, ◌≢◌, ℕ, zero, suc, ◌-◌, List, ◌++◌, refl, ap, sym, ◌∙◌, arith, append_assoc}
use Rattle.std.proofs.Common.{slice_index_or}
use Rattle.capn_cover.specs.Covers.{unreached}
use Rattle.capn_cover.specs.declared.covered.Covered.{Covered}
use Rattle.capn_annotate.specs.Leads.{leads_to}
use Rattle.capn_annotate.specs.Ways.{holder_of, slot_in, way}

module _ (m : List (List ℕ)) (words : List Covered) where
  -- The way of a slot that is not the root's: the way of its holder, and the step to it.
  pub one_level : (levels slot : ℕ) → levels ≢ 0 → slot ≢ 0
      → way m words levels slot
      ≡ way m words (levels - 1) (holder_of m words slot) ++ slot_in m (leads_to m (holder_of m words slot)) slot
  one_level zero slot some other = absurd (some refl)
  one_level (suc levels) zero some other = absurd (other refl)
  one_level (suc levels) (suc n) some other = let e : suc levels - 1 ≡ levels = omega arith in rw e refl

  -- The same, after what stands in the path, with the holder that was found.
  pub climbed : (levels slot : ℕ) → levels ≢ 0 → slot ≢ 0 → (found : Covered)
      → found ≡ slice_index_or words slot unreached → (old one new : List ℕ)
      → one ≡ old ++ way m words (levels - 1) found.holder → new ≡ one ++ slot_in m (leads_to m found.holder) slot
      → new ≡ old ++ way m words levels slot
  climbed levels slot some other found is old one new first then =
      let h : ℕ = found.holder in
      let e : h ≡ holder_of m words slot = ap (λ (x : Covered). x.holder) is in
      let k : way m words (levels - 1) h ++ slot_in m (leads_to m h) slot ≡ way m words levels slot =
      rw e (sym (one_level levels slot some other)) in
      then ∙ ap (λ (l : List ℕ). l ++ slot_in m (leads_to m h) slot) first
      ∙ append_assoc old (way m words (levels - 1) h) (slot_in m (leads_to m h) slot)
      ∙ ap (λ (l : List ℕ). old ++ l) k
