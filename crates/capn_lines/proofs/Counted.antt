-- The counts of a message are sums over its words.
use Rattle.std.proofs.Common.{◌≡◌, ℕ, zero, suc, ◌+◌, ◌≤◌, List, length, take, refl, sym, ◌∙◌, arith}
use Rattle.capn_words.specs.Message.{segment_at, total}
use Rattle.capn_words.specs.declared.space.Place.{Place}
use Rattle.capn_cover.specs.Numbers.{number}
use Rattle.capn_cover.specs.declared.covered.Covered.{Covered}
use Rattle.capn_lines.specs.Kinds.{is_kind}
use Rattle.capn_lines.specs.Sums.{one_if, sum_to, sum_words}
use Rattle.capn_lines.specs.Lines.{kind_at}
use Rattle.capn_lines.specs.Counts.{IsCounts, is_of, is_shared, is_overlap, hides, is_cut}
use Rattle.capn_lines.specs.inner.Counted.{none, with_word, with_words, counted, AreUpTo}
use Rattle.capn_lines.specs.declared.kind.Kind.{Kind}
use Rattle.capn_lines.specs.declared.kind.Kind.TheVariants as kinds
use Rattle.capn_lines.specs.declared.counts.Counts.{Counts}
use Rattle.capn_lines.proofs.Sums.{one-small, sum-ones, sum-same}
use Rattle.capn_lines.proofs.Numbered.{total-next, total-sum}

module _ (m : List (List ℕ)) (ws : List Covered) where
  module _ (part : Counts → ℕ) (f : Place → ℕ)
      (step : (at : Place) (c : Counts) → part (with_word m ws at c) ≡ part c + f at) where
    -- what the first `n` words of a segment add to one of the counts
    of-words : (s n : ℕ) (c : Counts) → part (with_words m ws s n c) ≡ part c + sum_words f s n
    of-words s zero c = omega arith
    of-words s (suc n) c =
        let a = step (record { segment = s; word = n }) (with_words m ws s n c) in
        let b = of-words s n c in
        omega arith

    -- one of the counts of the first `n` segments
    of-all : part none ≡ 0 → (n : ℕ)
        → part (counted m ws n) ≡ sum_to (λ s. sum_words f s (length (segment_at m s))) n
    of-all e zero = e
    of-all e (suc n) =
        let a = of-words n (length (segment_at m n)) (counted m ws n) in
        let b = of-all e n in
        omega arith

  of-kind : (kind : Kind) (part : Counts → ℕ) → part none ≡ 0
      → ((at : Place) (c : Counts) → part (with_word m ws at c) ≡ part c + one_if (is_of m ws kind at))
      → part (counted m ws (length m))
      ≡ sum_to (λ s. sum_words (λ at. one_if (is_of m ws kind at)) s (length (segment_at m s))) (length m)
  of-kind kind part e step = of-all part (λ at. one_if (is_of m ws kind at)) step e (length m)

  words-all : (counted m ws (length m)).words ≡ total m
  words-all =
      let a = of-all (λ c. c.words) (λ at. 1) (λ at c. refl) refl (length m) in
      let b = total-sum m in
      a ∙ sum-same (λ s. sum_to (λ w. 1) (length (segment_at m s))) (λ s. length (segment_at m s)) (length m)
      (λ s. sum-ones (length (segment_at m s))) ∙ b

  pub is-counts : IsCounts m ws (counted m ws (length m))
  is-counts = record {
    all_words = words-all;
    pointer = of-kind kinds.Pointer (λ c. c.pointer) refl (λ at c. refl);
    null = of-kind kinds.Null (λ c. c.null) refl (λ at c. refl);
    pad = of-kind kinds.Pad (λ c. c.pad) refl (λ at c. refl);
    tag = of-kind kinds.Tag (λ c. c.tag) refl (λ at c. refl);
    data_words = of-kind kinds.Data (λ c. c.«data») refl (λ at c. refl);
    list = of-kind kinds.List (λ c. c.list) refl (λ at c. refl);
    slack = of-kind kinds.Slack (λ c. c.slack) refl (λ at c. refl);
    unreached = of-kind kinds.Unreached (λ c. c.unreached) refl (λ at c. refl);
    shared = of-all (λ c. c.shared) (λ at. one_if (is_shared m ws at)) (λ at c. refl) refl (length m);
    overlap = of-all (λ c. c.overlap) (λ at. one_if (is_overlap m ws at)) (λ at c. refl) refl (length m);
    hidden = of-all (λ c. c.hidden) (λ at. one_if (hides m ws at)) (λ at c. refl) refl (length m);
    cut = of-all (λ c. c.cut) (λ at. one_if (is_cut m ws at)) (λ at c. refl) refl (length m);
  }

  -- no count is above the number of the words that are counted
  up-to-next : (at : Place) (n : ℕ) (c : Counts) → AreUpTo n c → AreUpTo (n + 1) (with_word m ws at c)
  up-to-next at n c h = record {
    words = let a = h.words in omega arith;
    pointer = let a = h.pointer in omega (arith, one-small (is_of m ws kinds.Pointer at));
    null = let a = h.null in omega (arith, one-small (is_of m ws kinds.Null at));
    pad = let a = h.pad in omega (arith, one-small (is_of m ws kinds.Pad at));
    tag = let a = h.tag in omega (arith, one-small (is_of m ws kinds.Tag at));
    data_words = let a = h.data_words in omega (arith, one-small (is_of m ws kinds.Data at));
    list = let a = h.list in omega (arith, one-small (is_of m ws kinds.List at));
    slack = let a = h.slack in omega (arith, one-small (is_of m ws kinds.Slack at));
    unreached = let a = h.unreached in omega (arith, one-small (is_of m ws kinds.Unreached at));
    shared = let a = h.shared in omega (arith, one-small (is_shared m ws at));
    overlap = let a = h.overlap in omega (arith, one-small (is_overlap m ws at));
    hidden = let a = h.hidden in omega (arith, one-small (hides m ws at));
    cut = let a = h.cut in omega (arith, one-small (is_cut m ws at));
  }

  pub up-to : (s n k : ℕ) (c : Counts) → AreUpTo k c → AreUpTo (k + n) (with_words m ws s n c)
  up-to s zero k c h = let e : k + 0 ≡ k = omega arith in rw e h
  up-to s (suc n) k c h =
      let e : k + suc n ≡ k + n + 1 = omega arith in
      rw e (up-to-next (record { segment = s; word = n }) (k + n) (with_words m ws s n c) (up-to s n k c h))

  pub counted-up-to : (n : ℕ) → n ≤ length m → AreUpTo (total (take n m)) (counted m ws n)
  counted-up-to zero h = record {
    words = omega arith;
    pointer = omega arith;
    null = omega arith;
    pad = omega arith;
    tag = omega arith;
    data_words = omega arith;
    list = omega arith;
    slack = omega arith;
    unreached = omega arith;
    shared = omega arith;
    overlap = omega arith;
    hidden = omega arith;
    cut = omega arith;
  }
  counted-up-to (suc n) h =
      let c = total-next m n (omega arith) in
      let d : n + 1 ≡ suc n = omega arith in
      let e = rw d at c in
      rw e (up-to n (length (segment_at m n)) (total (take n m)) (counted m ws n) (counted-up-to n (omega arith)))

  -- the same, by the number of the word that comes next
  pub up-to-at : (s n : ℕ) (c : Counts) → AreUpTo (number m (record { segment = s; word = 0 })) c
      → AreUpTo (number m (record { segment = s; word = n })) (with_words m ws s n c)
  up-to-at s n c h =
      let e : total (take s m) + 0 ≡ total (take s m) = omega arith in
      up-to s n (total (take s m)) c (rw e at h)

  pub counted-up-to-at : (s : ℕ) → s ≤ length m
      → AreUpTo (number m (record { segment = s; word = 0 })) (counted m ws s)
  counted-up-to-at s h =
      let e : total (take s m) + 0 ≡ total (take s m) = omega arith in
      rw e (counted-up-to s h)

  -- each word has one kind
  one-kind : (kind : Kind)
      → one_if (is_kind kind kinds.Pointer) + one_if (is_kind kind kinds.Null) + one_if (is_kind kind kinds.Pad)
      + one_if (is_kind kind kinds.Tag) + one_if (is_kind kind kinds.Data) + one_if (is_kind kind kinds.List)
      + one_if (is_kind kind kinds.Slack) + one_if (is_kind kind kinds.Unreached) ≡ 1
  one-kind kinds.Pointer = refl
  one-kind kinds.Null = refl
  one-kind kinds.Pad = refl
  one-kind kinds.Tag = refl
  one-kind kinds.Data = refl
  one-kind kinds.List = refl
  one-kind kinds.Slack = refl
  one-kind kinds.Unreached = refl

  abbrev all_kinds : Counts → ℕ
  all_kinds c = c.pointer + c.null + c.pad + c.tag + c.«data» + c.list + c.slack + c.unreached

  pub kinds-all : (n : ℕ) → all_kinds (counted m ws n) ≡ (counted m ws n).words
  kinds-all n =
      let a = of-all all_kinds (λ at. 1) (λ at c. let k = one-kind (kind_at m ws at) in omega arith) refl n in
      let b = of-all (λ c. c.words) (λ at. 1) (λ at c. refl) refl n in
      a ∙ sym b
