-- If the one pass finds the value at the root in place, the words are accepted. If the words also end where the pass
-- ends, they are canonical. (For `measure_root`.)
use Rattle.std.proofs.Common.{◌≡◌, ℕ, ◌+◌, ◌-◌, ◌^◌, ◌<◌, ◌≤◌, Bool, true, List, [], ◌∷◌, ◌++◌, length, Option, Some}
use Rattle.std.proofs.Common.{None, IsTrue, refl, ap, sym, subst, ◌∙◌, arith}
use Rattle.std.specs.Option.{option_or}
use Rattle.std.proofs.lemmas.List.{append-nil}
use Rattle.capn_words.specs.Message.{IsMessage, bytes}
use Rattle.capn_value.specs.Tree.{Tree, nil, node, voids, numbers, links, rows, cap}
use Rattle.capn_value.specs.Tree.{Trees, no_trees, tree, count}
use Rattle.capn_value.specs.Cost.{base, height, greatest}
use Rattle.capn_value.specs.FirstCap.{first_cap}
use Rattle.capn_value.specs.Fits.{is_root}
use Rattle.capn_walk.specs.Accepted.{root, root_visits, IsValueOf}
use Rattle.capn_walk.specs.Depth.{IsDepth}
use Rattle.capn_walk.specs.Limits.{Bounds}
use Rattle.capn_walk.specs.Visits.{Visit, visits}
use Rattle.capn_canon.specs.declared.progress.Progress.{Progress}
use Rattle.capn_canon.specs.declared.surveyed_bare.SurveyedBare.{SurveyedBare}
use Rattle.capn_canon.specs.BareVerdict.{IsBareSurvey}
use Rattle.capn_layout.specs.Layout.{size, words, canon}
use Rattle.capn_canon.specs.inner.InPlace.{Pays, AreInPlace, FindsSlots}
use Rattle.capn_canon.proofs.places.CanonicalWords.{words-stand}
use Rattle.capn_canon.proofs.places.Compared.{slots-first}
use Rattle.capn_canon.proofs.check.DepthOfCanonical.{depth-of-canonical}
use Rattle.capn_canon.proofs.theorem.Headline.{denoted_cost}
use Rattle.capn_canon.proofs.reading.ReadBare.{root-alone}

one-of : (ts : Trees) → count ts ≡ 1 → (v : Tree) × (ts ≡ tree v no_trees)
one-of no_trees e = absurd (omega arith)
one-of (tree v no_trees) e = (v, refl)
one-of (tree v (tree u us)) e = absurd (omega arith)

none-first : (a : Option ℕ) → option_or a None ≡ None → a ≡ None
none-first None e = refl
none-first (Some k) e = e

pub free-root : (v : Tree) → first_cap v ≡ None → is_root v ≡ true
free-root nil e = refl
free-root (node ws ss) e = refl
free-root (cap k) e = absurd cc
free-root (voids n) e = refl
free-root (numbers a xs) e = refl
free-root (links ts) e = refl
free-root (rows bs) e = refl

pays-nil : (vs : List Visit) (p n : ℕ) → Pays (vs ++ []) p n → Pays vs p n
pays-nil vs p n h = subst (λ (us : List Visit). Pays us p n) (append-nil vs) h

pub under-limits : (all : List ℕ) (limits : Bounds) (deep : Bool) (b d l : ℕ) (q : Progress) (low : ℕ)
    → b ≡ base limits.tariff → d ≡ limits.depth → l ≡ limits.budget → FindsSlots all b deep 0 1 1 d l 1 d q low
    → FindsSlots all (base limits.tariff) deep 0 1 1 limits.depth limits.budget 1 limits.depth q low
under-limits all limits deep b d l q low eb ed el f =
    subst (λ (x : ℕ). FindsSlots all x deep 0 1 1 limits.depth limits.budget 1 limits.depth q low) eb
    (subst (λ (x : ℕ). FindsSlots all b deep 0 1 1 x limits.budget 1 x q low) ed
    (subst (λ (x : ℕ). FindsSlots all b deep 0 1 1 d x 1 d q low) el f))

module _ (all : List ℕ) (limits : Bounds) (deep : Bool) (some : 0 < length all) (q : Progress) (low : ℕ)
    (f : FindsSlots all (base limits.tariff) deep 0 1 1 limits.depth limits.budget 1 limits.depth q low) where
  abbrev value : Tree
  value = (one-of f.values f.count).0

  values : f.values ≡ tree value no_trees
  values = (one-of f.values f.count).1

  in_place : AreInPlace all (base limits.tariff) 0 1 limits.depth (tree value no_trees) f.price f.below
  in_place = subst (λ (ts : Trees). AreInPlace all (base limits.tariff) 0 1 limits.depth ts f.price f.below) values
      f.in_place

  size-is : q.next ≡ length all → 1 + size value ≡ length all
  size-is ends =
      let n = f.comes.next_is in
      let e = ap Rattle.capn_layout.specs.Layout.sizes values in
      omega arith

  words-are : q.next ≡ length all → words value ≡ all
  words-are ends = words-stand all value in_place.sound.0 some
      (slots-first all value no_trees 0 1 some in_place.sound.0 in_place.laid) (size-is ends)

  free : first_cap value ≡ None
  free = none-first (first_cap value) in_place.free

  visited : Pays (root_visits (all ∷ []) (base limits.tariff) limits.depth) f.price (1 + f.below)
  visited =
      let vs = visits (all ∷ []) (base limits.tariff) limits.depth root in
      let alone = root-alone (all ∷ []) (base limits.tariff) limits.depth value (free-root value free) in_place.are.0 in
      subst (λ (us : List Visit). Pays us f.price (1 + f.below)) (sym alone)
      (pays-nil vs f.price (1 + f.below) in_place.pays)

  at-root : IsValueOf (all ∷ []) limits value
  at-root =
      let s = visited.sum in
      let l = f.comes.left_is in
      record {
        accepted = record { some = some; within = record { all = visited.all; paid = omega arith } };
        is = in_place.are.0;
      }

  pub canonical-survey : (c : SurveyedBare) → c.paid ≡ limits.budget - q.left → c.visits ≡ q.visits
      → c.capability ≡ None → (IsTrue c.is_canonical → q.next ≡ length all)
      → ((v : Tree) → IsValueOf (all ∷ []) limits v → first_cap v ≡ None → canon v ≡ bytes all → IsTrue c.is_canonical)
      → IsBareSurvey all limits c
  canonical-survey c paid_is visits_are capability ends says =
      let s = visited.sum in
      let m = visited.many in
      let l = f.comes.left_is in
      let n = f.comes.visits_are in
      record {
        value = value;
        is = at-root;
        pays = omega arith;
        counts = omega arith;
        capability = capability ∙ sym free;
        answer = ((λ t. (free, ap bytes (words-are (ends t)))), (λ e. says value at-root e.0 e.1));
      }

  -- If the words end where the pass ends, and `deep` is set, the depth of the message is `limits.depth - low`.
  pub canonical-depth : q.next ≡ length all → IsMessage (all ∷ []) → limits.budget ≤ 2 ^ 28 → limits.depth ≤ 256
      → IsTrue deep → IsDepth (all ∷ []) limits (limits.depth - low) × (low ≤ limits.depth)
  canonical-depth ends is small shallow on =
      let l = f.lowered on (omega arith) in
      let e = ap greatest values in
      let tall = (denoted_cost (all ∷ []) limits value is small shallow at-root).2 in
      let h : height value ≡ limits.depth - low = omega arith in (
        subst (λ (n : ℕ). IsDepth (all ∷ []) limits n) h
            (depth-of-canonical all limits value is small shallow at-root (words-are ends)),
        omega arith,
      )
