-- The cover of an accepted message, made of the coverings of its root's slot and of all slots below it.
use Rattle.std.proofs.Common.{◌≡◌, ◌+◌, ℕ, ◌≤◌, List, ◌∷◌, length, replicate, ap, sym, ◌∙◌, arith}
use Rattle.std.proofs.lemmas.List.{length-replicate}
use Rattle.capn_words.specs.Message.{total}
use Rattle.capn_value.specs.Cost.{base}
use Rattle.capn_walk.specs.Visits.{Visit, visits}
use Rattle.capn_walk.specs.Accepted.{AllPay, IsAccepted, paid, paid_of, root, root_visits}
use Rattle.capn_walk.specs.Limits.{Bounds}
use Rattle.capn_cover.specs.declared.covered.Covered.{Covered}
use Rattle.capn_cover.specs.Covers.{Covering, covered, coverings, cover_at, unreached, whole}
use Rattle.capn_cover.specs.Cover.{IsCover, all_times}
use Rattle.capn_cover.specs.inner.Laid.{laid, cover_below}
use Rattle.capn_cover.specs.inner.Marked.{marked, AreMarked}
use Rattle.capn_cover.proofs.Belonging.{marked-cover, marked-times}
use Rattle.capn_cover.proofs.LaidItems.{laid-length}
use Rattle.capn_cover.proofs.CoverAt.{all-laid}
use Rattle.capn_cover.proofs.Sums.{all-laid-sum}
use Rattle.capn_cover.proofs.Visited.{same-covers, few-covers, from-root}

module _ (m : List (List ℕ)) (limits : Bounds) (accepted : IsAccepted m limits) where
  -- the walk visits the root's slot and all slots below it
  as-visits : root_visits m (base limits.tariff) limits.depth ≡ visits m (base limits.tariff) limits.depth root
  as-visits = from-root m (base limits.tariff) limits.depth accepted.within.all

  all-pay : AllPay (visits m (base limits.tariff) limits.depth root)
  all-pay = let e = as-visits in rw e at accepted.within.all

  -- the coverings of the root's slot and of all slots below it are those of the walk
  as-covered : whole ∷ cover_below m limits.depth root ≡ coverings m limits
  as-covered =
      ap (λ (cs : List Covering). whole ∷ cs) (same-covers m (base limits.tariff) limits.depth root all-pay)
      ∙ ap (λ (vs : List Visit). whole ∷ covered m vs) (sym as-visits)

  -- there are at most as many coverings as words that may be paid
  pub few : length (cover_below m limits.depth root) ≤ limits.budget
  few =
      let a = few-covers m (base limits.tariff) limits.depth root in
      let b = ap paid_of as-visits in
      let c = accepted.within.paid in
      omega arith

  -- the items once all coverings are laid into them
  abbrev items : List Covered
  items = laid m (whole ∷ cover_below m limits.depth root) (replicate (total m) unreached)

  -- all words together are covered at most once for each word that is paid, and the root's slot once more
  pub few-times : (words : List Covered) → AreMarked m items words → all_times words ≤ 1 + paid m limits
  few-times words h =
      let a = few-covers m (base limits.tariff) limits.depth root in
      let b = ap paid_of as-visits in
      let c = all-laid-sum m (whole ∷ cover_below m limits.depth root) (total m) in
      let d = marked-times m items words h in
      omega arith

  pub is-cover : (words : List Covered) → AreMarked m items words → IsCover m limits words
  is-cover words h =
      let cs : List Covering = whole ∷ cover_below m limits.depth root in
      let l = laid-length m cs (replicate (total m) unreached) in
      let n = length-replicate (total m) unreached in
      record {
        accepted = accepted;
        each = h.count ∙ l ∙ n;
        is = λ w k. h.each w (omega arith)
            ∙ ap (marked m w) (all-laid m cs (total m) w k (omega arith))
            ∙ marked-cover m cs w
            ∙ ap (λ (ds : List Covering). cover_at m ds w) as-covered;
      }
