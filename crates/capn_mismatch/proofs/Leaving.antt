-- The first word that differs between a message and its canonical words has an owner. (For `apart`.)
use Rattle.std.proofs.Common.{◌≡◌, ◌⊎◌, inl, inr, ℕ, ◌^◌, ◌<◌, ◌≤◌, List, [], ◌∷◌, length, take, slice_index}
use Rattle.std.proofs.Common.{ap, sym, subst, ◌∙◌, arith}
use Rattle.std.proofs.lemmas.List.{take_all, get_or-take}
use Rattle.capn_words.specs.Message.{IsMessage, segment_at}
use Rattle.capn_words.proofs.shared.Words.{bytes-injective}
use Rattle.capn_value.specs.Tree.{Tree}
use Rattle.capn_value.specs.Cost.{base, height, most_cost, most_height}
use Rattle.capn_value.specs.Fits.{Fits}
use Rattle.capn_value.specs.InRange.{InRange}
use Rattle.capn_walk.specs.Accepted.{root}
use Rattle.capn_walk.specs.Limits.{Bounds}
use Rattle.capn_walk.specs.ValueAt.{IsAt}
use Rattle.capn_walk.specs.Visits.{visits}
use Rattle.capn_walk.proofs.shared.Fitting.{fits-root, root-costs}
use Rattle.capn_walk.proofs.shared.InRangeAt.{in_range-at}
use Rattle.capn_layout.specs.Layout.{words}
use Rattle.capn_layout.proofs.shared.Sound.{sound}
use Rattle.capn_mismatch.specs.Mismatches.{Compares}
use Rattle.capn_mismatch.specs.Difference.{Differ, GoesOn}
use Rattle.capn_mismatch.specs.inner.Owned.{HasOwner}
use Rattle.capn_mismatch.proofs.Told.{Told}
use Rattle.capn_mismatch.proofs.Belonging.{root-told}
use Rattle.capn_canon.proofs.shared.BareCanon.{words_are_words}

module _ (m : List (List ℕ)) (limits : Bounds) (ws cs : List ℕ) (message : IsMessage m)
    (cheap : limits.budget ≤ most_cost) (shallow : limits.depth ≤ most_height) (c : Compares m limits ws cs) where
  abbrev v : Tree
  v = c.value

  abbrev b : ℕ
  b = base limits.tariff

  fits : Fits v
  fits = fits-root m b limits.budget limits.depth v cheap shallow c.is.accepted.within c.is.is

  range : InRange v
  range = in_range-at m message.each v root c.is.is

  are-words : cs ≡ words v
  are-words = bytes-injective cs (words v) c.bare.each (words_are_words v fits range) (sym c.bare.same)

  low : height v ≤ limits.depth
  low = (root-costs m b limits.depth v c.is.is c.is.accepted.within.all).1

  at-root : IsAt (ws ∷ []) root v
  at-root = subst (λ (n : List (List ℕ)). IsAt n root v) c.one c.is.is

  some : 0 < length ws
  some = subst (λ (n : List (List ℕ)). 0 < length (segment_at n 0)) c.one c.is.accepted.some

  each : (j : ℕ) → slice_index ws j < 2 ^ 64
  each j = subst (λ (n : List (List ℕ)). slice_index (segment_at n 0) j < 2 ^ 64) c.one (message.each 0 j)

  told-of : (k : ℕ) → take k ws ≡ take k cs → k < length cs
      → Told ws cs b k (visits (cs ∷ []) b limits.depth root)
  told-of k same lt =
      let room = c.bare.room in
      root-told ws cs b k (omega arith)
      (λ j l. sym (get_or-take k ws j 0 l) ∙ ap (λ (xs : List ℕ). slice_index xs j) same ∙ get_or-take k cs j 0 l)
      each v limits.depth are-words (sound v fits range) at-root low some lt

  pub has-owner : (k x y : ℕ) → Differ ws cs k x y → HasOwner cs limits k
  has-owner k x y d = from (told-of k d.before d.in_other).1
    where
      from : (slice_index ws k ≡ slice_index cs k)
          ⊎ (Rattle.capn_mismatch.proofs.Owned.Owned cs b k (visits (cs ∷ []) b limits.depth root))
          → HasOwner cs limits k
      from (inl s) = absurd (d.differ (d.one ∙ s ∙ sym d.other))
      from (inr o) = o

  -- The message doesn't end before the canonical words end.
  pub not-short : (k y : ℕ) → GoesOn cs ws k y → ⊥
  not-short k y g =
      let e = g.ended in
      let same = take_all k ws (omega arith) ∙ sym g.before in
      let t = (told-of k same g.in_one).0 in
      absurd (omega arith)
