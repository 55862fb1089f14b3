-- All words together are covered at most once for each covering.
use Rattle.std.proofs.Common.{◌≡◌, inl, inr, ℕ, ◌+◌, ◌≤◌, List, [], ◌∷◌, length}
use Rattle.std.proofs.Common.{get_or, replicate, ap, arith}
use Rattle.std.proofs.lemmas.Bool.{cases_lt}
use Rattle.std.proofs.lemmas.List.{set_past}
use Rattle.std.proofs.lemmas.List.Sums.{sum_by-set}
use Rattle.std.proofs.lemmas.List.Folds.{sum_by-replicate}
use Rattle.capn_cover.specs.declared.covered.Covered.{Covered}
use Rattle.capn_cover.specs.Covers.{Covering, unreached}
use Rattle.capn_cover.specs.Cover.{all_times}
use Rattle.capn_cover.specs.inner.Laid.{followed, followed_in, once_more, touched, laid}
use Rattle.capn_cover.proofs.LaidItems.{times-more}

abbrev times_of : Covered → ℕ
times_of c = c.times

module _ (m : List (List ℕ)) where
  -- marking a slot as followed changes no times
  followed-sum : (slot : ℕ) (cells : List Covered) → all_times (followed_in slot cells) ≡ all_times cells
  followed-sum slot cells = elim (cases_lt slot (length cells)) [
    | inl h ↦ let e = sum_by-set times_of cells slot (followed (get_or cells slot unreached)) unreached h in omega arith
    | inr h ↦ ap all_times (set_past cells slot (followed (get_or cells slot unreached)) h)
  ]

  module _ (c : Covering) (cells : List Covered) where
    abbrev done : List Covered
    done = followed_in c.slot cells

    abbrev once : Covered
    once = once_more m c.slot c.role (get_or done c.word unreached)

    -- one covering adds at most one
    one-more : all_times (touched m c cells) ≤ all_times cells + 1
    one-more =
        let same = followed-sum c.slot cells in
        elim (cases_lt c.word (length done)) [
          | inl h ↦ let e = sum_by-set times_of done c.word once unreached h in
              let t = times-more m c.slot c.role (get_or done c.word unreached) in
              omega arith
          | inr h ↦ let e = ap all_times (set_past done c.word once h) in omega arith
        ]

  laid-sum : (cs : List Covering) (cells : List Covered) → all_times (laid m cs cells) ≤ all_times cells + length cs
  laid-sum [] cells = omega arith
  laid-sum (c ∷ cs) cells = let a = one-more c cells in let b = laid-sum cs (touched m c cells) in omega arith

  -- coverings that are laid into items that nothing covers
  pub all-laid-sum : (cs : List Covering) (n : ℕ) → all_times (laid m cs (replicate n unreached)) ≤ length cs
  all-laid-sum cs n =
      let a = laid-sum cs (replicate n unreached) in
      let b = sum_by-replicate times_of n unreached in
      omega arith
