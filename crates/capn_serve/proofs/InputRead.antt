-- Lemmas for `read_all` and `serve_pieces`: one more read of the input.
use Rattle.std.proofs.Common.{◌≡◌, inl, inr, ℕ, ◌+◌, ◌-◌, ◌≤◌, ◌<◌, min, List, [], ◌++◌, length, take, sym, ap, ◌∙◌}
use Rattle.std.proofs.Common.{arith, length-take-le, append-nil, Bool, true, false, nat_lt, ◌||◌}
use Rattle.std.proofs.Math.Seq.{take-append-add, take_all}
use Rattle.std.proofs.lemmas.List.{take-take, take-append-le}
use Rattle.std.proofs.lemmas.Bool.{cases_lt}
use Rattle.std.proofs.lemmas.Bool.Decides.{nat_tests}
use Rattle.capn_serve.specs.StreamRun.{taken_of}

pub is_below : (a b : ℕ) → a < b → nat_lt a b ≡ true
is_below a b h = grind (arith, nat_tests)

pub is_not_below : (a b : ℕ) → b ≤ a → nat_lt a b ≡ false
is_not_below a b h = grind (arith, nat_tests)

module _ (limit : ℕ) where
  cut_front : (buf : List ℕ) (m k w : ℕ) → k ≤ length buf → w ≡ min k m → take m (take k buf) ≡ take w buf
  cut_front buf m k w within least = elim (cases_lt m k) [
    | inl past ↦ (let e : m ≡ w = omega (arith, past, least) in take-take m k buf (omega (arith, past))
        ∙ ap (λ (i : ℕ). take i buf) e)
    | inr short ↦ (let e : k ≡ w = omega (arith, short, least) in
        take_all m (take k buf) (omega (arith, short, length-take-le k buf within)) ∙ ap (λ (i : ℕ). take i buf) e)
  ]

  pub taken_front : (bs buf : List ℕ) (n w k : ℕ) → length bs ≡ n → n ≤ limit → w ≡ min k (limit - n)
      → k ≤ length buf → taken_of limit (bs ++ take k buf) ≡ bs ++ take w buf
  taken_front bs buf n w k count short least within =
      let all : limit ≡ length bs + (limit - n) = omega (arith, count, short) in
      ap (λ (i : ℕ). take i (bs ++ take k buf)) all
      ∙ take-append-add bs (take k buf) (limit - n)
      ∙ ap (λ (p : List ℕ). bs ++ p) (cut_front buf (limit - n) k w within least)

  pub taken_more : (all more : List ℕ) → (tail : List ℕ) × (taken_of limit (all ++ more) ≡ taken_of limit all ++ tail)
  taken_more all more = elim (cases_lt limit (length all)) [
    | inl past ↦ ([], take-append-le limit all more (omega (arith, past)) ∙ sym (append-nil (taken_of limit all)))
    | inr short ↦ (
      take (limit - length all) more,
      (let e : limit ≡ length all + (limit - length all) = omega (arith, short) in
          ap (λ (i : ℕ). take i (all ++ more)) e
          ∙ take-append-add all more (limit - length all)
          ∙ ap (λ (p : List ℕ). p ++ take (limit - length all) more) (sym (take_all limit all short))),
    )
  ]

pub has_broken : (old new : Bool) → new ≡ (old || true) → new ≡ true
has_broken false new is = is
has_broken true new is = is

pub still_fine : (old new : Bool) → old ≡ false → new ≡ (old || false) → new ≡ false
still_fine false new fine is = is
still_fine true new fine is = absurd (cc)
