-- Canonical bytes of two values are equal if and only if the values are the same. (For `canonicity`.)
use Rattle.std.proofs.Common.{◌≡◌, ◌↔◌, ℕ, ◌/◌, ◌^◌, ◌≤◌, List, [], ◌∷◌, length, ap, sym, subst, ◌∙◌, arith}
use Rattle.capn_words.specs.Message.{bytes, words_in}
use Rattle.capn_value.specs.Tree.{Tree}
use Rattle.capn_value.specs.InRange.{InRange}
use Rattle.capn_value.specs.Fits.{Fits}
use Rattle.capn_value.specs.Same.{Same}
use Rattle.capn_value.specs.Trim.{trimmed}
use Rattle.capn_value.proofs.shared.Fitting.{fit_parts}
use Rattle.capn_value.proofs.shared.Ranges.{in_range-trimmed}
use Rattle.capn_value.proofs.shared.StaysFit.{fits-trimmed}
use Rattle.capn_value.proofs.shared.SameTrimmed.{same_exactly_trimmed}
use Rattle.capn_walk.specs.ValueAt.{IsAt}
use Rattle.capn_walk.proofs.shared.Unique.{unique}
use Rattle.capn_layout.specs.Layout.{words, canon}
use Rattle.capn_canon.proofs.reading.OneSegment.{here}
use Rattle.capn_layout.specs.Sound.{Sound}
use Rattle.capn_layout.proofs.shared.Sound.{sound}
use Rattle.capn_layout.proofs.shared.Room.{room}
use Rattle.capn_canon.proofs.reading.ReadBack.{read_back}
use Rattle.capn_canon.proofs.shared.BareCanon.{words_in_canon}
use Rattle.capn_canon.proofs.theorem.CanonOfTrimmed.{words-trimmed}

-- Canonical words are equal if and only if the trimmed values are equal, since reading the words gives the trimmed
-- value.
pub same_words : (v w : Tree) → Sound v → Sound w → length (words v) ≤ 2 ^ 29 → length (words w) ≤ 2 ^ 29
    → words v ≡ words w ↔ trimmed v ≡ trimmed w
same_words v w hv hw sv sw = (
  (λ e. unique (words v ∷ []) (trimmed v) (trimmed w) (here 0) (read_back v hv sv)
      (subst (λ (r : List ℕ). IsAt (r ∷ []) (here 0) (trimmed w)) (sym e) (read_back w hw sw))),
  (λ e. sym (words-trimmed v) ∙ ap words e ∙ words-trimmed w),
)

pub canon-trimmed : (v : Tree) → canon (trimmed v) ≡ canon v
canon-trimmed v = ap bytes (words-trimmed v)

module _ (v w : Tree) (fv : Fits v) (rv : InRange v) (fw : Fits w) (rw : InRange w) where
  equal-words : canon v ≡ canon w → words v ≡ words w
  equal-words e =
      sym (words_in_canon v fv rv) ∙ ap (λ (bs : List ℕ). words_in (length bs / 8) bs) e ∙ words_in_canon w fw rw

  equal-trimmed : canon v ≡ canon w → trimmed v ≡ trimmed w
  equal-trimmed e =
      let a = (room v fv rv).2 in
      let b = (room w fw rw).2 in
      (same_words v w (sound v fv rv) (sound w fw rw) (omega arith) (omega arith)).0 (equal-words e)

  -- The canonical bytes of `v` and `w` are equal if and only if `v` and `w` are the same (`Same`).
  pub equal_exactly_same : (canon v ≡ canon w) ↔ Same v w
  equal_exactly_same =
      let s = same_exactly_trimmed v w (fit_parts v fv).even (fit_parts w fw).even in
      ((λ e. s.1 (equal-trimmed e)), (λ h. sym (canon-trimmed v) ∙ ap canon (s.0 h) ∙ canon-trimmed w))

pub trimmed_is_same : (v : Tree) → Fits v → InRange v → Same (trimmed v) v
trimmed_is_same v f r =
    (equal_exactly_same (trimmed v) v (fits-trimmed v f) (in_range-trimmed v r) f r).0 (canon-trimmed v)
