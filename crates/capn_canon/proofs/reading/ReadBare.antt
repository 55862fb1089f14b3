-- Canonical bytes, read bare, denote the trimmed value. Their walk pays exactly the cost of that value. (For
-- `CanonicalSurvey`, `DepthOfCanonical`, `DueRoot` and `Headline`.)
use Rattle.std.proofs.Common.{◌≡◌, ℕ, ◌^◌, ◌≤◌, List, [], ◌∷◌, length, true, refl, ap, sym, ◌∙◌, arith}
use Rattle.capn_words.proofs.shared.OneSegment.{bare_only}
use Rattle.capn_value.specs.Tree.{Tree, nil, node, voids, numbers, links, rows, cap}
use Rattle.capn_value.specs.InRange.{InRange}
use Rattle.capn_value.specs.Fits.{Fits, is_root}
use Rattle.capn_value.specs.Cost.{base, cost, height}
use Rattle.capn_value.specs.Trim.{trimmed}
use Rattle.capn_value.proofs.shared.Fitting.{fit_parts}
use Rattle.capn_value.proofs.shared.StaysFit.{fits-trimmed}
use Rattle.capn_value.proofs.shared.Trimmed.{cost-trimmed, height-trimmed}
use Rattle.capn_walk.specs.Visits.{visits}
use Rattle.capn_walk.specs.Accepted.{root, visits_at_root, root_visits, paid}
use Rattle.capn_walk.specs.ValueAt.{IsAt}
use Rattle.capn_walk.specs.Limits.{Bounds}
use Rattle.capn_canon.specs.declared.form.Form.TheVariants as forms
use Rattle.capn_canon.specs.Denotes.{Denotes}
use Rattle.capn_layout.specs.Layout.{words, canon}
use Rattle.capn_canon.specs.Canonicity.{PaysItsCost}
use Rattle.capn_layout.proofs.shared.Sound.{sound}
use Rattle.capn_layout.proofs.shared.Room.{room}
use Rattle.capn_canon.proofs.reading.Tight.{Pays}
use Rattle.capn_canon.proofs.reading.ReadBack.{read_back, pays_cost}
use Rattle.capn_canon.proofs.shared.BareCanon.{canon_is_bare, words_in_canon}

-- If the value at the root may be a root (`is_root`), the visits of the root are the visits of its slot.
pub root-alone : (m : List (List ℕ)) (base depth : ℕ) (v : Tree) → is_root v ≡ true → IsAt m root v
    → root_visits m base depth ≡ visits m base depth root
unfolding root_visits
root-alone m base depth nil k h = ap (λ r. visits_at_root m base r (visits m base depth root)) h
root-alone m base depth (node ws ss) k h = ap (λ r. visits_at_root m base r (visits m base depth root)) h.is
root-alone m base depth (cap i) k h = absurd cc
root-alone m base depth (voids n) k h = ap (λ r. visits_at_root m base r (visits m base depth root)) h.is
root-alone m base depth (numbers a xs) k h = ap (λ r. visits_at_root m base r (visits m base depth root)) h.is
root-alone m base depth (links ts) k h = ap (λ r. visits_at_root m base r (visits m base depth root)) h.is
root-alone m base depth (rows bs) k h = ap (λ r. visits_at_root m base r (visits m base depth root)) h.3.is

module _ (v : Tree) (limits : Bounds) (f : Fits v) (r : InRange v) (low : height v ≤ limits.depth) where
  few : length (words v) ≤ 2 ^ 29
  few = let l = (room v f r).2 in omega arith

  at-root : IsAt (words v ∷ []) root (trimmed v)
  at-root = read_back v (sound v f r) few

  alone : root_visits (words v ∷ []) (base limits.tariff) limits.depth
      ≡ visits (words v ∷ []) (base limits.tariff) limits.depth root
  alone = root-alone (words v ∷ []) (base limits.tariff) limits.depth (trimmed v)
      (fit_parts (trimmed v) (fits-trimmed v f)).root at-root

  visited : Pays (words v ∷ []) (base limits.tariff) (root_visits (words v ∷ []) (base limits.tariff) limits.depth)
      (cost (base limits.tariff) (trimmed v))
  visited = rw alone (pays_cost v (base limits.tariff) limits.depth (sound v f r) few (omega (arith, height-trimmed v)))

  -- The walk of canonical bytes, read bare, pays exactly the cost of the trimmed value.
  pub pays_its_cost : PaysItsCost (canon v) limits v
  pays_its_cost m (ws, b, e) =
      let same : ws ≡ words v = sym (bare_only (canon v) ws b) ∙ words_in_canon v f r in
      ap (λ (n : List (List ℕ)). paid n limits) e ∙ ap (λ (us : List ℕ). paid (us ∷ []) limits) same ∙ visited.sum

  -- If the limits allow the cost and the height of `v`, its canonical bytes denote the trimmed value.
  pub read_bare : cost (base limits.tariff) v ≤ limits.budget → Denotes forms.Bare (canon v) limits (trimmed v)
  read_bare cheap =
      let c = cost-trimmed (base limits.tariff) v (fit_parts v f).even in
      let s = visited.sum in
      let n = (room v f r).0 in
      record {
        message = words v ∷ [];
        reads = (words v, canon_is_bare v f r, refl);
        value = record {
          accepted = record { some = omega arith; within = record { all = visited.all; paid = omega arith } };
          is = at-root;
        };
      }
