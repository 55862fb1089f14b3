-- Words are canonical if and only if the value at the root is laid out canonically, and no word follows the layout.
-- (For `CanonicalSurvey`, `DueRoot` and `ThePage`.)
use Rattle.std.proofs.Common.{◌≡◌, ◌↔◌, ℕ, ◌+◌, ◌<◌, ◌≤◌, List, ◌∷◌, length}
use Rattle.std.proofs.Common.{ap, sym, subst, ◌∙◌, arith}
use Rattle.std.proofs.Math.Seq.{take-length}
use Rattle.std.proofs.lemmas.List.{take_all}
use Rattle.capn_words.specs.Message.{bytes, IsBare}
use Rattle.capn_words.proofs.shared.Words.{bytes-injective}
use Rattle.capn_value.specs.Tree.{Tree}
use Rattle.capn_value.specs.Fits.{Fits}
use Rattle.capn_value.specs.InRange.{InRange}
use Rattle.capn_layout.specs.Layout.{size, point, lay, words, canon}
use Rattle.capn_layout.specs.Sound.{Sound}
use Rattle.capn_layout.proofs.shared.Room.{length_words}
use Rattle.capn_canon.proofs.shared.BareCanon.{words_are_words}
use Rattle.capn_canon.specs.inner.WordsOfLayout.{Stand, IsLaidAt}
use Rattle.capn_canon.proofs.places.Standing.{stand-cons, stand-head, stand-tail}

module _ (all : List ℕ) (v : Tree) (o : Sound v) (some : 0 < length all) where
  pub words-stand : IsLaidAt all v 0 1 → 1 + size v ≡ length all → words v ≡ all
  unfolding words
  words-stand h e =
      let l = length_words v o in
      let x = stand-cons all 0 (point v 0 1) (lay v 1) some h.pointer h.content in
      let k : length all ≤ length (point v 0 1 ∷ lay v 1) = words-long l in
      sym x ∙ take_all (length (point v 0 1 ∷ lay v 1)) all k
    where
      words-long : length (words v) ≡ 1 + size v → length all ≤ length (point v 0 1 ∷ lay v 1)
      words-long l = omega arith

  pub stand-words : words v ≡ all → IsLaidAt all v 0 1 × (1 + size v ≡ length all)
  unfolding words
  stand-words e =
      let x : Stand all 0 (point v 0 1 ∷ lay v 1) =
      subst (λ (xs : List ℕ). Stand xs 0 (point v 0 1 ∷ lay v 1)) e (take-length (point v 0 1 ∷ lay v 1)) in (
        record {
          pointer = stand-head all 0 (point v 0 1) (lay v 1) some x;
          content =
              stand-tail all 0 (point v 0 1) (lay v 1) some x;
        },
        sym (length_words v o) ∙ ap length e,
      )

-- `ws` are the canonical words of `v` if and only if their bytes `bs` are the canonical bytes of `v`.
pub bytes-words : (bs ws : List ℕ) (v : Tree) → IsBare bs ws → Fits v → InRange v → (words v ≡ ws) ↔ (canon v ≡ bs)
bytes-words bs ws v b f r =
    ((λ e. ap bytes e ∙ sym b.same), (λ e. bytes-injective (words v) ws (words_are_words v f r) b.each (e ∙ b.same)))
