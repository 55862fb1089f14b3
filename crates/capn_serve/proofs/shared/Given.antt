-- Lemmas on the bytes that a reader has returned, read by read. (For `read_all` and `read_words`.)
use Rattle.std.proofs.Common.{◌≡◌, ℕ, ◌+◌, ◌≤◌, ◌<◌, ◌^◌, List, [], ◌++◌, length, take, ap, subst}
use Rattle.std.proofs.Common.{arith, length-append, length-take-le, append-nil, Option, Bool, false}
use Rattle.std.specs.Io.KnownBytes.{Consumes, IsAtEnd}
use Rattle.std.proofs.KnownBytes.{Consumes-nil, Consumes-trans}
use Rattle.capn_serve.specs.WholeInput.{HasGiven, HasGivenAll}

-- Case: nothing was read yet.
pub given_none : (old : Option (List ℕ)) (failed : Bool) → failed ≡ false → HasGiven old old failed []
given_none old failed fine = record { read = Consumes-nil old; bounded = omega arith; fine = fine }

-- Case: one more read returned bytes.
pub given_more : (a b c : Option (List ℕ)) (f g : Bool) (seen buf : List ℕ) (n : ℕ) → HasGiven a b f seen
    → Consumes b c (take n buf) → n ≤ length buf → length seen + n ≤ 2 ^ 32 + 1 → g ≡ false
    → HasGiven a c g (seen ++ take n buf)
given_more a b c f g seen buf n h more within bound fine = record {
  read = Consumes-trans a b c seen (take n buf) h.read more;
  bounded = omega (arith, bound, length-append seen (take n buf), length-take-le n buf within);
  fine = fine;
}

-- Case: a read found the end of the input.
pub given_all : (a b c : Option (List ℕ)) (f g : Bool) (seen buf : List ℕ) (n : ℕ) → HasGiven a b f seen → n ≡ 0
    → Consumes b c (take n buf) × (n ≡ 0 → 0 < length buf → IsAtEnd c) → 0 < length buf → length seen ≤ 2 ^ 32
    → g ≡ false → HasGivenAll a c g seen
given_all a b c f g seen buf n h zero more some short fine =
    let none : Consumes b c [] = subst (λ (k : ℕ). Consumes b c (take k buf)) zero more.0 in
    record {
      given = record {
        read = subst (Consumes a c) (append-nil seen) (Consumes-trans a b c seen [] h.read none);
        bounded = h.bounded;
        fine = fine;
      };
      within = short;
      ended = more.1 zero some;
    }

-- After `k` bytes were appended, the length has grown by `k`.
pub size_kept : (xs part new : List ℕ) (k : ℕ) → new ≡ xs ++ take k part → k ≤ length part
    → length new ≡ length xs + k
size_kept xs part new k is within =
    let size = ap (λ (l : List ℕ). length l) is in
    omega (arith, size, length-append xs (take k part), length-take-le k part within)
