-- Items in which a slot is marked as followed: marking it again changes nothing.
use Rattle.std.proofs.Common.{◌≡◌, inl, inr, ℕ, zero, suc, ◌<◌, ◌==◌, Bool, true, List, length, get_or, set}
use Rattle.std.proofs.Common.{◌+◌, [], ◌∷◌, refl, ap, sym, ◌∙◌, arith}
use Rattle.std.proofs.lemmas.Bool.{cases_eq}
use Rattle.std.proofs.lemmas.List.{get_or-set_same, get_or-set_other, set-get_or}
use Rattle.capn_words.proofs.shared.Choices.{pick}
use Rattle.capn_cover.specs.declared.covered.Covered.{Covered}
use Rattle.capn_cover.specs.declared.covered.Role.{Role}
use Rattle.capn_cover.specs.Covers.{run, unreached}
use Rattle.capn_cover.specs.inner.Laid.{first_covered, covered_again, once_more, followed, followed_in}
use Rattle.capn_cover.specs.inner.Laid.{touched_in, laid, IsFollowed}
use Rattle.capn_cover.proofs.Rooms.{laid-next}
use Rattle.capn_cover.proofs.Runs.{run-next}

-- a word that is followed already
followed-same : (x : Covered) → x.is_followed ≡ true → followed x ≡ x
followed-same x e = ap (λ (b : Bool). record x { is_followed = b }) (sym e)

-- a slot that is followed already
pub marked-same : (slot : ℕ) (cells : List Covered) → IsFollowed slot cells → followed_in slot cells ≡ cells
marked-same slot cells h =
    ap (λ (x : Covered). set cells slot x) (followed-same (get_or cells slot unreached) h)
    ∙ set-get_or cells slot unreached

-- a slot that is marked is followed
pub marked-now : (slot : ℕ) (cells : List Covered) → slot < length cells → IsFollowed slot (followed_in slot cells)
marked-now slot cells l =
    ap (λ (x : Covered). x.is_followed)
    (get_or-set_same cells slot (followed (get_or cells slot unreached)) unreached l)

module _ (m : List (List ℕ)) where
  pub once-followed : (slot : ℕ) (role : Role) (x : Covered) → (once_more m slot role x).is_followed ≡ x.is_followed
  once-followed slot role x =
      pick (λ (y : Covered). y.is_followed ≡ x.is_followed) (x.times == 0) (first_covered m slot role x)
      (covered_again m slot role x) (λ t. refl) (λ f. refl)

  -- a slot that is followed stays so when a word is covered
  pub still-followed : (word by : ℕ) (role : Role) (slot : ℕ) (cells : List Covered) → word < length cells
      → IsFollowed slot cells → IsFollowed slot (touched_in m word by role cells)
  still-followed word by role slot cells l h = elim (cases_eq slot word) [
    | inl e ↦ rw e (ap (λ (x : Covered). x.is_followed)
        (get_or-set_same cells word (once_more m by role (get_or cells word unreached)) unreached l)
        ∙ once-followed by role (get_or cells word unreached) ∙ rw e at h)
    | inr n ↦ ap (λ (x : Covered). x.is_followed)
        (get_or-set_other cells word slot (once_more m by role (get_or cells word unreached)) unreached n) ∙ h
  ]

  -- a run and the word after it, of a slot that is followed
  pub one-more : (slot : ℕ) (role : Role) (first i : ℕ) (start cells new : List Covered)
      → cells ≡ laid m (run slot role first i) start → IsFollowed slot cells
      → new ≡ touched_in m (first + i) slot role cells → new ≡ laid m (run slot role first (i + 1)) start
  one-more slot role first i start cells new e h g =
      laid-next m _ (run slot role first i) ((record { word = first + i; slot = slot; role = role }) ∷ []) start cells
      new
      (run-next slot role first i) e
      (g ∙ ap (λ (xs : List Covered). touched_in m (first + i) slot role xs) (sym (marked-same slot cells h)))

  -- a run that is not empty marks its slot, so it may be marked before
  pub marked-first : (slot : ℕ) (role : Role) (first n : ℕ) (cells : List Covered) → 0 < n → slot < length cells
      → laid m (run slot role first n) (followed_in slot cells) ≡ laid m (run slot role first n) cells
  marked-first slot role first zero cells p l = absurd (omega arith)
  marked-first slot role first (suc n) cells p l =
      ap (λ (xs : List Covered). laid m (run slot role (first + 1) n) (touched_in m first slot role xs))
      (marked-same slot (followed_in slot cells) (marked-now slot cells l))
