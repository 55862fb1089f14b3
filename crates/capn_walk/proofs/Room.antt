-- A segment of a message has at most 2^28 + 1 words. (For the cycle `walk`.)
use Rattle.std.proofs.Common.{◌≡◌, ℕ, zero, suc, ◌+◌, ◌^◌, ◌≤◌, List, [], ◌∷◌, length, arith}
use Rattle.std.proofs.lemmas.List.Sums.{sum_by-cons}
use Rattle.capn_words.specs.Message.{IsMessage, segment_at, total}

within-total : (m : List (List ℕ)) (s : ℕ) → length (segment_at m s) ≤ total m
within-total [] s = omega arith
within-total (ws ∷ m) zero = let all : total (ws ∷ m) ≡ length ws + total m = sum_by-cons length ws m in omega arith
within-total (ws ∷ m) (suc s) =
    let all : total (ws ∷ m) ≡ length ws + total m = sum_by-cons length ws m in
    let below = within-total m s in
    omega arith

pub room-of : (m : List (List ℕ)) (s : ℕ) → IsMessage m → length (segment_at m s) ≤ 2 ^ 28 + 1
room-of m s is = let all = is.room in let one = within-total m s in omega arith
