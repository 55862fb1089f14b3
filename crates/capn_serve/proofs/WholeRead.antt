-- Lemmas for `read_all`: the bytes that a reader has returned, read by read.
use Rattle.std.proofs.Common.{◌≡◌, inl, inr, ℕ, ◌+◌, ◌-◌, ◌≤◌, ◌<◌, ◌^◌, List, ◌++◌, length, take, refl, sym, ap, ◌∙◌}
use Rattle.std.proofs.Common.{arith, length-take, append-nil, Option, Bool, true}
use Rattle.std.specs.Prelude.{min}
use Rattle.std.proofs.Math.Seq.{take-append-add, take_all}
use Rattle.std.proofs.lemmas.Bool.{cases_lt}
use Rattle.std.proofs.lemmas.List.{take-take, take-append-le}
use Rattle.std.specs.Io.KnownBytes.{Consumes}
use Rattle.capn_serve.specs.WholeInput.{HasGiven, IsUntaken}
use Rattle.capn_serve.specs.declared.fault.RunFault.TheVariants as faults

-- A reader has returned the `len` bytes `seen`, and `kept` are the first `most` bytes of `seen`.
pub record Keeps (old new : Option (List ℕ)) (failed : Bool) (most len : ℕ) (kept : List ℕ) : Type 0 where
  pub seen : List ℕ
  pub given : HasGiven old new failed seen
  pub size : length seen ≡ len
  pub first : take most seen ≡ kept
  pub room : length kept ≤ most

pub given_broken : (a b c : Option (List ℕ)) (f g : Bool) (seen : List ℕ) → HasGiven a b f seen → Consumes a c seen
    → g ≡ true → IsUntaken a c g faults.Io
given_broken a b c f g seen h read broken = (seen, inr (read, h.bounded, broken, refl))

pub given_memory : (a b : Option (List ℕ)) (f : Bool) (seen : List ℕ) → HasGiven a b f seen → 0 < length seen
    → IsUntaken a b f faults.Memory
given_memory a b f seen h some = (seen, inl (h, inl (refl, some)))

pub given_long : (a b : Option (List ℕ)) (f : Bool) (seen : List ℕ) → HasGiven a b f seen → 2 ^ 32 < length seen
    → IsUntaken a b f faults.InputTooLong
given_long a b f seen h long = (seen, inl (h, inr (refl, long)))

pub first_more : (most : ℕ) (seen buf tail kept new : List ℕ) (n k : ℕ) → take most seen ≡ kept → n ≤ length buf
    → k ≡ min n (most - length kept) → new ≡ kept ++ take k (buf ++ tail) → take most (seen ++ take n buf) ≡ new
first_more most seen buf tail kept new n k first within least is = elim (cases_lt most (length seen)) [
  | inl past ↦
      (let full : length kept ≡ most = omega (arith, past, length-take most seen, ap length first) in
      let none : k ≡ 0 = omega (arith, least, full) in
      take-append-le most seen (take n buf) (omega (arith, past))
      ∙ first
      ∙ sym (append-nil kept)
      ∙ ap (λ (i : ℕ). kept ++ take i (buf ++ tail)) (sym none)
      ∙ sym is)
  | inr short ↦
      (let all : kept ≡ seen = sym first ∙ take_all most seen short in
      let room : length seen + (most - length seen) ≡ most = omega (arith, short) in
      let size : k ≡ min n (most - length seen) = least ∙ ap (λ (xs : List ℕ). min n (most - length xs)) all in
      ap (λ (i : ℕ). take i (seen ++ take n buf)) (sym room)
      ∙ take-append-add seen (take n buf) (most - length seen)
      ∙ ap (λ (xs : List ℕ). seen ++ xs) (front (most - length seen) size)
      ∙ ap (λ (xs : List ℕ). xs ++ take k (buf ++ tail)) (sym all)
      ∙ sym is)
]
  where
    front : (room : ℕ) → k ≡ min n room → take room (take n buf) ≡ take k (buf ++ tail)
    front room size = elim (cases_lt room n) [
      | inl less ↦
          take-take room n buf (omega (arith, less))
          ∙ sym (take-append-le room buf tail (omega (arith, less, within)))
          ∙ ap (λ (i : ℕ). take i (buf ++ tail)) (sym (omega (arith, size, less)))
      | inr all ↦
          take_all room (take n buf) (omega (arith, all, length-take n buf))
          ∙ sym (take-append-le n buf tail within)
          ∙ ap (λ (i : ℕ). take i (buf ++ tail)) (sym (omega (arith, size, all)))
    ]
