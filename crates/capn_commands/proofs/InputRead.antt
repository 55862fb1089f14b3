-- Lemmas on one more read of the input. (For `pack_stream` and `unpack_stream`.)
use Rattle.std.proofs.Common.{◌≡◌, inl, inr, ℕ, ◌+◌, ◌-◌, ◌≤◌, ◌<◌, min, List, [], ◌++◌, length, take, refl, sym, ap}
use Rattle.std.proofs.Common.{subst, ◌∙◌, arith, length-append, length-take-le, append-nil, Option, None, Some, IfSome}
use Rattle.std.proofs.Common.{Bool, true, false, nat_lt, ◌||◌}
use Rattle.std.proofs.Math.Seq.{take-append-add, take_all}
use Rattle.std.proofs.lemmas.List.{take-take, take-append-le}
use Rattle.std.proofs.lemmas.Bool.{cases_lt}
use Rattle.std.proofs.lemmas.Bool.Decides.{nat_tests}
use Rattle.std.specs.Io.KnownBytes.{Consumes, IsAtEnd}
use Rattle.std.proofs.KnownBytes.{Consumes-trans}
use Rattle.capn_commands.specs.Flow.{Kept, most, taken_of, has_more}

is_below : (a b : ℕ) → a < b → nat_lt a b ≡ true
is_below a b h = grind (arith, nat_tests)

is_not_below : (a b : ℕ) → b ≤ a → nat_lt a b ≡ false
is_not_below a b h = grind (arith, nat_tests)

below : (a b : ℕ) → nat_lt a b ≡ true → a < b
below a b e = grind (arith, nat_tests)

-- Case: the read returned no bytes, and a run takes all bytes `xs` that were read before.
pub read_end : (a b c : Option (List ℕ)) (xs buf : List ℕ) (n : ℕ) → n ≡ 0 → Consumes a b xs
    → Consumes b c (take n buf)
    × (n ≡ 0 → 0 < length buf → IsAtEnd c) → 0 < length buf → length xs ≤ most
    → Kept a c xs false xs
read_end a b c xs buf n zero first second some short =
    let none : Consumes b c [] = subst (λ (k : ℕ). Consumes b c (take k buf)) zero second.0 in
    let end = second.1 zero some in
    record {
      read = subst (Consumes a c) (append-nil xs) (Consumes-trans a b c xs [] first none);
      bounded = omega (arith, short);
      are = take_all most xs short;
      more = is_not_below most (length xs) short;
      ended = λ e. end;
    }

-- Case: the read returned `n` bytes, of which a run takes only the first `k`.
pub read_past : (a b c : Option (List ℕ)) (xs buf : List ℕ) (n k : ℕ) → Consumes a b xs → Consumes b c (take n buf)
    → n ≤ length buf → length xs + k ≡ most → k < n → length xs + n ≤ most + 1
    → Kept a c (xs ++ take k buf) true (xs ++ take n buf)
read_past a b c xs buf n k first second within full past bound =
    let count : length (xs ++ take n buf) ≡ length xs + n =
    omega (arith, length-append xs (take n buf), length-take-le n buf within) in
    let front : take k (take n buf) ≡ take k buf = take-take k n buf (omega (arith, past)) in
    record {
      read = Consumes-trans a b c xs (take n buf) first second;
      bounded = omega (arith, count, bound);
      are =
          ap (λ (i : ℕ). take i (xs ++ take n buf)) (sym full)
          ∙ take-append-add xs (take n buf) k
          ∙ ap (λ (p : List ℕ). xs ++ p) front;
      more = is_below most (length (xs ++ take n buf)) (omega (arith, count, full, past));
      ended = λ e. absurd (cc);
    }

pub kept_all : (old new : Option (List ℕ)) (kept bytes : List ℕ) (is_longer : Bool)
    → Kept old new kept is_longer bytes
    → IfSome old (λ all. (taken_of all ≡ kept) × (has_more all ≡ is_longer))
kept_all None new kept bytes is_longer h = tt
kept_all (Some all) None kept bytes is_longer h = absurd h.read
kept_all (Some all) (Some rest) kept bytes false h =
    let whole : all ≡ bytes = h.read ∙ ap (λ (r : List ℕ). bytes ++ r) (h.ended refl) ∙ append-nil bytes in
    (ap (taken_of) whole ∙ h.are, ap (has_more) whole ∙ h.more)
kept_all (Some all) (Some rest) kept bytes true h =
    let more : most < length bytes = below most (length bytes) h.more in
    let is : all ≡ bytes ++ rest = h.read in (
      ap (taken_of) is ∙ take-append-le most bytes rest (omega (arith, more)) ∙ h.are,
      is_below most (length all) (rw is (omega (arith, more, length-append bytes rest))),
    )

cut_front : (buf : List ℕ) (m k w : ℕ) → k ≤ length buf → w ≡ min k m → take m (take k buf) ≡ take w buf
cut_front buf m k w within least = elim (cases_lt m k) [
  | inl past ↦ (let e : m ≡ w = omega (arith, past, least) in take-take m k buf (omega (arith, past))
      ∙ ap (λ (i : ℕ). take i buf) e)
  | inr short ↦ (let e : k ≡ w = omega (arith, short, least) in
      take_all m (take k buf) (omega (arith, short, length-take-le k buf within)) ∙ ap (λ (i : ℕ). take i buf) e)
]

pub taken_front : (bs buf : List ℕ) (n w k : ℕ) → length bs ≡ n → n ≤ most → w ≡ min k (most - n)
    → k ≤ length buf → taken_of (bs ++ take k buf) ≡ bs ++ take w buf
taken_front bs buf n w k count short least within =
    let all : most ≡ length bs + (most - n) = omega (arith, count, short) in
    ap (λ (i : ℕ). take i (bs ++ take k buf)) all
    ∙ take-append-add bs (take k buf) (most - n)
    ∙ ap (λ (p : List ℕ). bs ++ p) (cut_front buf (most - n) k w within least)

pub has_broken : (old new : Bool) → new ≡ (old || true) → new ≡ true
has_broken false new is = is
has_broken true new is = is

pub still_fine : (old new : Bool) → old ≡ false → new ≡ (old || false) → new ≡ false
still_fine false new fine is = is
still_fine true new fine is = absurd (cc)
