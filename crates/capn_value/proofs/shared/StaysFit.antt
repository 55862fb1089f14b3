-- Lemmas for `trim`, `trimming` and capn_canon: if a value fits, its trimmed value fits.
use Rattle.std.proofs.Common.{◌≡◌, ℕ, zero, suc, ◌≤◌, min, List, take, length, Bool, true, false, ◌||◌, ◌&&◌, nat_lt}
use Rattle.std.proofs.Common.{refl, ap, ◌∙◌, arith, length-take}
use Rattle.std.specs.Prelude.{◌==◌}
use Rattle.std.proofs.lemmas.Bool.{or_parts, or_from, and_parts, and_from, eqb-true, eq-eqb, ltb-false, le-ltb}
use Rattle.std.proofs.lemmas.Bool.{not-false, not_from_true}
use Rattle.capn_value.specs.declared.tariff.Tariff.TheVariants.{Plain}
use Rattle.capn_value.specs.Cost.{base}
use Rattle.capn_value.specs.Tree.{Tree, nil, node, voids, numbers, links, rows, cap, Trees}
use Rattle.capn_value.specs.Tree.{no_trees, tree, Bodies, no_bodies, body, front, count, count_rows, row_words}
use Rattle.capn_value.specs.Trim.{kept_words, kept_slots, kept_words_of_rows, kept_slots_of_rows, trimmed, trimmed_each}
use Rattle.capn_value.specs.Trim.{trimmed_rows}
use Rattle.capn_value.specs.Fits.{anywhere, anywhere_in, anywhere_in_rows, is_wide, is_wide_body, has_wide_row, is_long}
use Rattle.capn_value.specs.Fits.{is_ragged, are_even, is_root, Fits}
use Rattle.capn_value.proofs.shared.Fitting.{fit_parts, fit_from}
use Rattle.capn_value.proofs.shared.Trimmed.{height-trimmed, cost-trimmed, count-front, count-trimmed_each}
use Rattle.capn_value.proofs.shared.Trimmed.{count-trimmed_rows, row_words-trimmed}

module _ (test : Tree → Bool) (keeps : (t : Tree) → test t ≡ false → test (trimmed t) ≡ false) where
  anywhere_in-front : (n : ℕ) (ts : Trees) → anywhere_in test ts ≡ false → anywhere_in test (front n ts) ≡ false
  anywhere_in-front zero ts h = refl
  anywhere_in-front (suc n) no_trees h = refl
  anywhere_in-front (suc n) (tree t ts) h =
      let p = or_parts (anywhere test t) (anywhere_in test ts) h in or_from _ _ p.0 (anywhere_in-front n ts p.1)

  mutual
    pub anywhere-trimmed : (t : Tree) → anywhere test t ≡ false → anywhere test (trimmed t) ≡ false
    anywhere-trimmed (node ws ss) h =
        let p = or_parts (test (node ws ss)) (anywhere_in test ss) h in
        or_from _ _ (keeps (node ws ss) p.0)
        (anywhere_in-front (kept_slots ss) (trimmed_each ss) (anywhere_in-trimmed ss p.1))
    anywhere-trimmed (links ts) h =
        let p = or_parts (test (links ts)) (anywhere_in test ts) h in
        or_from _ _ (keeps (links ts) p.0) (anywhere_in-trimmed ts p.1)
    anywhere-trimmed (rows bs) h =
        let p = or_parts (test (rows bs)) (anywhere_in_rows test bs) h in
        or_from _ _ (keeps (rows bs) p.0)
        (anywhere_in_rows-trimmed (kept_words_of_rows bs) (kept_slots_of_rows bs) bs p.1)
    anywhere-trimmed nil h = h
    anywhere-trimmed (voids n) h = h
    anywhere-trimmed (numbers a xs) h = h
    anywhere-trimmed (cap k) h = h

    anywhere_in-trimmed : (ts : Trees) → anywhere_in test ts ≡ false → anywhere_in test (trimmed_each ts) ≡ false
    anywhere_in-trimmed no_trees h = refl
    anywhere_in-trimmed (tree t ts) h =
        let p = or_parts (anywhere test t) (anywhere_in test ts) h in
        or_from _ _ (anywhere-trimmed t p.0) (anywhere_in-trimmed ts p.1)

    anywhere_in_rows-trimmed : (w s : ℕ) (bs : Bodies) → anywhere_in_rows test bs ≡ false
        → anywhere_in_rows test (trimmed_rows w s bs) ≡ false
    anywhere_in_rows-trimmed w s no_bodies h = refl
    anywhere_in_rows-trimmed w s (body ws ss bs) h =
        let p = or_parts (anywhere_in test ss) (anywhere_in_rows test bs) h in
        or_from _ _ (anywhere_in-front s (trimmed_each ss) (anywhere_in-trimmed ss p.0))
        (anywhere_in_rows-trimmed w s bs p.1)

both_below : (most a b c d : ℕ) → c ≤ a → d ≤ b → (nat_lt most a || nat_lt most b) ≡ false
    → (nat_lt most c || nat_lt most d) ≡ false
both_below most a b c d p q h =
    let r = or_parts (nat_lt most a) (nat_lt most b) h in
    or_from _ _ (le-ltb most c (omega (arith, ltb-false most a r.0)))
    (le-ltb most d (omega (arith, ltb-false most b r.1)))

cut_body : (w s : ℕ) (ws : List ℕ) (ss : Trees) → is_wide_body ws ss ≡ false
    → is_wide_body (take w ws) (front s (trimmed_each ss)) ≡ false
cut_body w s ws ss h =
    both_below 65535 (length ws) (count ss) (length (take w ws)) (count (front s (trimmed_each ss)))
    (omega (arith, length-take w ws)) (omega (arith, count-front s (trimmed_each ss), count-trimmed_each ss)) h

wide_rows : (w s : ℕ) (bs : Bodies) → has_wide_row bs ≡ false → has_wide_row (trimmed_rows w s bs) ≡ false
wide_rows w s no_bodies h = refl
wide_rows w s (body ws ss bs) h =
    let p = or_parts (is_wide_body ws ss) (has_wide_row bs) h in
    or_from _ _ (cut_body w s ws ss p.0) (wide_rows w s bs p.1)

keeps_narrow : (t : Tree) → is_wide t ≡ false → is_wide (trimmed t) ≡ false
keeps_narrow (node ws ss) h = cut_body (kept_words ws) (kept_slots ss) ws ss h
keeps_narrow (rows bs) h = wide_rows (kept_words_of_rows bs) (kept_slots_of_rows bs) bs h
keeps_narrow nil h = h
keeps_narrow (voids n) h = h
keeps_narrow (numbers a xs) h = h
keeps_narrow (links ts) h = h
keeps_narrow (cap k) h = h

keeps_short : (t : Tree) → is_long t ≡ false → is_long (trimmed t) ≡ false
keeps_short (node ws ss) h = h
keeps_short (rows bs) h =
    let w = kept_words_of_rows bs in let s = kept_slots_of_rows bs in
    both_below 536870911 (count_rows bs) (row_words bs) (count_rows (trimmed_rows w s bs))
    (row_words (trimmed_rows w s bs)) (omega (arith, count-trimmed_rows w s bs)) (row_words-trimmed w s bs) h
keeps_short (links ts) h =
    both_below 536870911 (count ts) 0 (count (trimmed_each ts)) 0 (omega (arith, count-trimmed_each ts)) (omega arith) h
keeps_short nil h = h
keeps_short (voids n) h = h
keeps_short (numbers a xs) h = h
keeps_short (cap k) h = h

count-front-min : (n : ℕ) (ts : Trees) → count (front n ts) ≡ min n (count ts)
count-front-min zero ts = omega arith
count-front-min (suc n) no_trees = omega arith
count-front-min (suc n) (tree t ts) = omega (arith, count-front-min n ts)

even_rows : (w s a b : ℕ) (bs : Bodies) → are_even a b bs ≡ true
    → are_even (min w a) (min s b) (trimmed_rows w s bs) ≡ true
even_rows w s a b no_bodies h = refl
even_rows w s a b (body ws ss bs) h =
    let p = and_parts ((length ws == a) && (count ss == b)) (are_even a b bs) h in
    let q = and_parts (length ws == a) (count ss == b) p.0 in
    and_from _ _
    (and_from _ _ (eq-eqb _ _ (length-take w ws ∙ ap (min w) (eqb-true (length ws) a q.0)))
    (eq-eqb _ _ (count-front-min s (trimmed_each ss) ∙ ap (min s) (count-trimmed_each ss ∙ eqb-true (count ss) b q.1))))
    (even_rows w s a b bs p.1)

keeps_even_rows : (w s : ℕ) (bs : Bodies) → is_ragged (rows bs) ≡ false → is_ragged (rows (trimmed_rows w s bs)) ≡ false
keeps_even_rows w s no_bodies h = refl
keeps_even_rows w s (body ws ss bs) h =
    not_from_true _
    (rw (length-take w ws, count-front-min s (trimmed_each ss), count-trimmed_each ss)
    (even_rows w s (length ws) (count ss) bs (not-false _ h)))

keeps_even : (t : Tree) → is_ragged t ≡ false → is_ragged (trimmed t) ≡ false
keeps_even (rows bs) h = keeps_even_rows (kept_words_of_rows bs) (kept_slots_of_rows bs) bs h
keeps_even nil h = h
keeps_even (node ws ss) h = h
keeps_even (voids n) h = h
keeps_even (numbers a xs) h = h
keeps_even (links ts) h = h
keeps_even (cap k) h = h

same_root : (t : Tree) → is_root (trimmed t) ≡ is_root t
same_root nil = refl
same_root (node ws ss) = refl
same_root (voids n) = refl
same_root (numbers a xs) = refl
same_root (links ts) = refl
same_root (rows bs) = refl
same_root (cap k) = refl

-- if a value fits, its trimmed value fits
pub fits-trimmed : (t : Tree) → Fits t → Fits (trimmed t)
fits-trimmed t h =
    let p = fit_parts t h in
    fit_from (trimmed t) (record {
      narrow = anywhere-trimmed is_wide keeps_narrow t p.narrow;
      short = anywhere-trimmed is_long keeps_short t p.short;
      even = anywhere-trimmed is_ragged keeps_even t p.even;
      cheap = omega (arith, cost-trimmed (base Plain) t p.even, p.cheap);
      low = omega (arith, height-trimmed t, p.low);
      root = same_root t ∙ p.root;
    })

pub ruleset fits = (fits-trimmed)
