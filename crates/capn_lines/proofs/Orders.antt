-- Of a cover, words that overlap are shared, and words that are shared are not unreached.
use Rattle.std.proofs.Common.{◌≡◌, ◌⊎◌, inl, inr, ℕ, ◌+◌, ◌==◌, ◌<◌, ◌≤◌, nat_lt, Bool, true, false, List}
use Rattle.std.proofs.Common.{length, refl, sym, subst, arith}
use Rattle.capn_words.specs.Message.{segment_at, total, word_at, IsPlace}
use Rattle.capn_words.specs.declared.space.Place.{Place}
use Rattle.capn_words.proofs.shared.Choices.{less-yes, pick}
use Rattle.capn_walk.specs.Limits.{Bounds}
use Rattle.capn_cover.specs.declared.covered.Covered.{Covered}
use Rattle.capn_cover.specs.declared.covered.Role.{Role}
use Rattle.capn_cover.specs.declared.covered.Role.TheVariants as roles
use Rattle.capn_cover.specs.Numbers.{number}
use Rattle.capn_cover.specs.Covers.{coverings, cover_at}
use Rattle.capn_cover.specs.Cover.{IsCover}
use Rattle.capn_lines.specs.Kinds.{is_kind, kind_in, slot_kind}
use Rattle.capn_lines.specs.Sums.{one_if, sum_words, count_at}
use Rattle.capn_lines.specs.Lines.{covered_at}
use Rattle.capn_lines.specs.Counts.{is_of, is_overlap, is_shared}
use Rattle.capn_lines.specs.declared.kind.Kind.{Kind}
use Rattle.capn_lines.specs.declared.kind.Kind.TheVariants as kinds
use Rattle.capn_lines.proofs.Sums.{one-small, sum-add, sum-le, sum-ones}
use Rattle.capn_lines.proofs.Numbered.{number-within, total-sum}
use Rattle.capn_lines.proofs.Covers.{is_reached, overlap-shared, reached, role-or-none}

module _ (m : List (List ℕ)) where
  module _ (p q : Place → Bool) where
    -- where one test passes, the other does
    count-le : ((at : Place) → IsPlace m at → one_if (p at) ≤ one_if (q at)) → count_at m p ≤ count_at m q
    count-le h =
        sum-le (λ s. sum_words (λ at. one_if (p at)) s (length (segment_at m s)))
        (λ s. sum_words (λ at. one_if (q at)) s (length (segment_at m s))) (length m)
        (λ s l. sum-le (λ w. one_if (p (record { segment = s; word = w })))
        (λ w. one_if (q (record { segment = s; word = w }))) (length (segment_at m s))
        (λ w k. h (record { segment = s; word = w }) k))

    both-at : (s n : ℕ) → ((w : ℕ) → w < n → one_if (p (record { segment = s; word = w }))
        + one_if (q (record { segment = s; word = w })) ≤ 1)
        → sum_words (λ at. one_if (p at)) s n + sum_words (λ at. one_if (q at)) s n ≤ n
    both-at s n h =
        let f : ℕ → ℕ = λ w. one_if (p (record { segment = s; word = w })) in
        let g : ℕ → ℕ = λ w. one_if (q (record { segment = s; word = w })) in
        let a = sum-add f g n in
        let b = sum-le (λ w. f w + g w) (λ w. 1) n h in
        let c = sum-ones n in
        omega arith

    -- no word passes both tests
    count-apart : ((at : Place) → IsPlace m at → one_if (p at) + one_if (q at) ≤ 1)
        → count_at m p + count_at m q ≤ total m
    count-apart h =
        let f : ℕ → ℕ = λ s. sum_words (λ at. one_if (p at)) s (length (segment_at m s)) in
        let g : ℕ → ℕ = λ s. sum_words (λ at. one_if (q at)) s (length (segment_at m s)) in
        let a = sum-add f g (length m) in
        let b = sum-le (λ s. f s + g s) (λ s. length (segment_at m s)) (length m)
        (λ s l. both-at s (length (segment_at m s)) (λ w k. h (record { segment = s; word = w }) k)) in
        let c = total-sum m in
        omega arith

-- a slot is not unreached
slot-reached : (word : ℕ) → is_kind (slot_kind word) kinds.Unreached ≡ false
slot-reached word =
    pick (λ (k : Kind). is_kind k kinds.Unreached ≡ false) (word == 0) kinds.Null kinds.Pointer (λ t. refl) (λ f. refl)

kind-reached : (word : ℕ) (role : Role) → is_reached role ≡ true → is_kind (kind_in word role) kinds.Unreached ≡ false
kind-reached word roles.Root e = slot-reached word
kind-reached word roles.Slot e = slot-reached word
kind-reached word roles.Pad e = refl
kind-reached word roles.Tag e = refl
kind-reached word roles.Data e = refl
kind-reached word roles.Numbers e = refl
kind-reached word roles.Slack e = refl
kind-reached word roles.Unreached e = absurd cc

yes-le : (a b : Bool) → (a ≡ true → b ≡ true) → one_if a ≤ one_if b
yes-le false b h = omega arith
yes-le true b h = let e = h refl in rw e (omega arith)

overlap-le : (c : Covered) → (c.overlap ≡ true → 1 < c.times) → one_if c.overlap ≤ one_if (nat_lt 1 c.times)
overlap-le c h = yes-le c.overlap (nat_lt 1 c.times) (λ t. less-yes 1 c.times (h t))

apart : (word : ℕ) (c : Covered) → (is_reached c.role ≡ true) ⊎ (c.times ≡ 0)
    → one_if (nat_lt 1 c.times) + one_if (is_kind (kind_in word c.role) kinds.Unreached) ≤ 1
apart word c (inl e) = let a = one-small (nat_lt 1 c.times) in rw (kind-reached word c.role e) (omega arith)
apart word c (inr e) =
    let a = one-small (is_kind (kind_in word c.role) kinds.Unreached) in
    rw e (omega arith)

module _ (m : List (List ℕ)) (limits : Bounds) (ws : List Covered) (h : IsCover m limits ws) where
  pub covered-is : (at : Place) → IsPlace m at
      → covered_at m ws at ≡ cover_at m (coverings m limits) (number m at)
  covered-is at k = h.is (number m at) (number-within m at k)

  pub overlaps-shared : count_at m (is_overlap m ws) ≤ count_at m (is_shared m ws)
  overlaps-shared =
      count-le m (is_overlap m ws) (is_shared m ws)
      (λ at k. subst (λ (c : Covered). one_if c.overlap ≤ one_if (nat_lt 1 c.times)) (sym (covered-is at k))
      (overlap-le (cover_at m (coverings m limits) (number m at))
      (overlap-shared m (coverings m limits) (number m at))))

  pub shared-reached : count_at m (is_shared m ws) + count_at m (is_of m ws kinds.Unreached) ≤ total m
  shared-reached =
      count-apart m (is_shared m ws) (is_of m ws kinds.Unreached)
      (λ at k. let e = covered-is at k in
      rw e (apart (word_at m at) (cover_at m (coverings m limits) (number m at))
      (role-or-none m (coverings m limits) (number m at) (reached m limits))))
