-- Words that are known to be of a part. They stay so, and covering them once more by that part only counts.
use Rattle.std.proofs.Common.{◌≡◌, inl, inr, ℕ, zero, suc, ◌+◌, ◌-◌, ◌*◌, ◌<◌, ◌==◌, Bool, true, false, not, ◌||◌}
use Rattle.std.proofs.Common.{List, [], ◌∷◌, ◌++◌, length, get_or, set, refl, ap, sym, ◌∙◌, arith}
use Rattle.std.proofs.lemmas.Bool.{cases_eq}
use Rattle.std.proofs.lemmas.Bool.Decides.{nat_tests}
use Rattle.std.proofs.lemmas.List.{get_or-set_same, get_or-set_other}
use Rattle.capn_words.proofs.shared.Choices.{pick}
use Rattle.capn_cover.specs.declared.covered.Covered.{Covered}
use Rattle.capn_cover.specs.declared.covered.Role.{Role}
use Rattle.capn_cover.specs.declared.part.Part.{Part}
use Rattle.capn_cover.specs.Parts.{differs, part, same_part}
use Rattle.capn_cover.specs.Covers.{Covering, run, rows_run, unreached}
use Rattle.capn_cover.specs.inner.Known.{IsKnown, AreKnown}
use Rattle.capn_cover.specs.inner.Laid.{holder_after, first_covered, covered_again, once_more, followed, followed_in}
use Rattle.capn_cover.specs.inner.Laid.{touched, laid}
use Rattle.capn_cover.proofs.LaidItems.{length_followed, length-touched, laid-length}
use Rattle.capn_cover.proofs.Runs.{rows-split, row_run}
use Rattle.capn_cover.proofs.SameParts.{same-part}

or-false : (a : Bool) → (a || false) ≡ a
or-false true = refl
or-false false = refl

or-twice : (a b : Bool) → ((a || b) || b) ≡ (a || b)
or-twice true b = refl
or-twice false true = refl
or-twice false false = refl

-- what adds nothing to `a` adds nothing to more than `a`
or-more : (a b c : Bool) → (a || c) ≡ a → ((a || b) || c) ≡ (a || b)
or-more true b c h = refl
or-more false b c h = ap (λ (x : Bool). b || x) h ∙ or-false b

module _ (m : List (List ℕ)) where
  -- ---- one word

  module _ (s : ℕ) (role : Role) (x : Covered) where
    -- a word that is covered is known to be of the part that covers it
    pub known-once : IsKnown m (part m s role) (once_more m s role x)
    unfolding differs
    known-once =
        pick (IsKnown m (part m s role)) (x.times == 0) (first_covered m s role x) (covered_again m s role x)
        (λ t. record {
          some = λ (z : 1 ≡ 0). absurd (omega arith);
          same = ap not (same-part (part m s role));
        })
        (λ f. record {
          some = λ (z : x.times + 1 ≡ 0). absurd (omega arith);
          same = or-twice x.overlap (not (same_part (part m x.slot x.role) (part m s role)));
        })

    -- a known word stays known, whatever covers it
    pub known-stays : (by : Part) → IsKnown m by x → IsKnown m by (once_more m s role x)
    unfolding differs
    known-stays by k =
        pick (IsKnown m by) (x.times == 0) (first_covered m s role x) (covered_again m s role x)
        (λ t. let z : x.times ≡ 0 = grind (arith, nat_tests) in absurd (k.some z))
        (λ f. record {
          some = λ (z : x.times + 1 ≡ 0). absurd (omega arith);
          same = or-more x.overlap (not (same_part (part m x.slot x.role) (part m s role)))
              (not (same_part (part m x.slot x.role) by)) k.same;
        })

    -- a known word, covered once more by its part
    pub known-again : IsKnown m (part m s role) x → record x {
      times = x.times + 1;
      holder = holder_after x.is_followed x.holder s role;
      overlap = x.overlap || false;
    } ≡ once_more m s role x
    unfolding differs
    known-again k =
        let y : Covered = record x {
          times = x.times + 1;
          holder = holder_after x.is_followed x.holder s role;
          overlap = x.overlap || false;
        } in
        pick (λ (z : Covered). y ≡ z) (x.times == 0) (first_covered m s role x) (covered_again m s role x)
        (λ t. let z : x.times ≡ 0 = grind (arith, nat_tests) in absurd (k.some z))
        (λ f. ap (λ (o : Bool). record x {
          times = x.times + 1;
          holder = holder_after x.is_followed x.holder s role;
          overlap = o;
        }) (or-false x.overlap ∙ sym k.same))

  -- ---- items

  module _ (by : Part) where
    set-known : (k : ℕ) (y : Covered) (cells : List Covered) (w : ℕ) → w < length cells
        → (IsKnown m by (get_or cells k unreached) → IsKnown m by y) → IsKnown m by (get_or cells w unreached)
        → IsKnown m by (get_or (set cells k y) w unreached)
    set-known k y cells w l g h = elim (cases_eq w k) [
      | inl e ↦
          let within : k < length cells = omega arith in
          rw e (rw (get_or-set_same cells k y unreached within) (g (rw e at h)))
      | inr n ↦ rw (get_or-set_other cells k w y unreached n) h
    ]

    touched-known : (c : Covering) (cells : List Covered) (w : ℕ) → w < length cells
        → IsKnown m by (get_or cells w unreached) → IsKnown m by (get_or (touched m c cells) w unreached)
    touched-known c cells w l h =
        let done : List Covered = followed_in c.slot cells in
        let n = length_followed c.slot cells in
        set-known c.word (once_more m c.slot c.role (get_or done c.word unreached)) done w (omega arith)
        (λ k. known-stays c.slot c.role (get_or done c.word unreached) by k)
        (set-known c.slot (followed (get_or cells c.slot unreached)) cells w l
        (λ k. record { some = k.some; same = k.same }) h)

    -- a known word stays known when coverings are laid in
    pub laid-known : (cs : List Covering) (cells : List Covered) (w : ℕ) → w < length cells
        → IsKnown m by (get_or cells w unreached) → IsKnown m by (get_or (laid m cs cells) w unreached)
    laid-known [] cells w l h = h
    laid-known (c ∷ cs) cells w l h =
        let n = length-touched m c cells in
        laid-known cs (touched m c cells) w (omega arith) (touched-known c cells w l h)

  -- ---- the words of coverings

  -- known words stay known when coverings are laid in
  pub all-stay : (ks cs : List Covering) (cells : List Covered) → AreKnown m ks cells → AreKnown m ks (laid m cs cells)
  all-stay [] cs cells h = tt
  all-stay (k ∷ ks) cs cells h = (
    λ l. let n = laid-length m cs cells in
        let i : k.word < length cells = omega arith in
        laid-known (part m k.slot k.role) cs cells k.word i (h.0 i),
    all-stay ks cs cells h.1,
  )

  -- after coverings are laid in, their words are known
  pub all-known : (cs : List Covering) (cells : List Covered) → AreKnown m cs (laid m cs cells)
  all-known [] cells = tt
  all-known (c ∷ cs) cells = (
    λ l. let done : List Covered = followed_in c.slot cells in
        let n = laid-length m cs (touched m c cells) in
        let t = length-touched m c cells in
        let f = length_followed c.slot cells in
        let x : Covered = once_more m c.slot c.role (get_or done c.word unreached) in
        let i : c.word < length done = omega arith in
        let j : c.word < length (touched m c cells) = omega arith in
        laid-known (part m c.slot c.role) cs (touched m c cells) c.word j
        (rw (get_or-set_same done c.word x unreached i)
        (known-once c.slot c.role (get_or done c.word unreached))),
    all-known cs (touched m c cells),
  )

  -- of known words, the first ones and the others are known
  pub known-first : (xs ys : List Covering) (cells : List Covered) → AreKnown m (xs ++ ys) cells → AreKnown m xs cells
  known-first [] ys cells h = tt
  known-first (x ∷ xs) ys cells h = (h.0, known-first xs ys cells h.1)

  pub known-second : (xs ys : List Covering) (cells : List Covered) → AreKnown m (xs ++ ys) cells → AreKnown m ys cells
  known-second [] ys cells h = h
  known-second (x ∷ xs) ys cells h = known-second xs ys cells h.1

  -- word `i` of a run whose words are known
  pub known-run : (slot : ℕ) (role : Role) (first n i : ℕ) (cells : List Covered) → i < n
      → AreKnown m (run slot role first n) cells → first + i < length cells
      → IsKnown m (part m slot role) (get_or cells (first + i) unreached)
  known-run slot role first zero i cells l h w = absurd (omega arith)
  known-run slot role first (suc n) zero cells l h w =
      let e : first + 0 ≡ first = omega arith in
      rw e (h.0 (omega arith))
  known-run slot role first (suc n) (suc i) cells l h w =
      let e : first + suc i ≡ first + 1 + i = omega arith in
      rw e (known-run slot role (first + 1) n i cells (omega arith) h.1 (omega arith))

  -- row `i` of rows whose words are known, after the rows before it are laid in
  pub known-row : (slot first a b i n : ℕ) (start cells : List Covered) → i < n
      → AreKnown m (rows_run slot first a b n) start → cells ≡ laid m (rows_run slot first a b i) start
      → AreKnown m (row_run slot a b (first + i * (a + b))) cells
  known-row slot first a b i n start cells l h e =
      let done = rows_run slot first a b i in
      let row = row_run slot a b (first + i * (a + b)) in
      let rest = rows_run slot (first + i * (a + b) + (a + b)) a b (n - suc i) in
      let s = rows-split slot a b first i n l in
      let all = rw s at h in
      rw e (all-stay row done start (known-first row rest start (known-second done (row ++ rest) start all)))
