-- Lemmas for `least_of` and `needs_of`: a length that is computed with zeros for the missing bytes is never too great.
use Rattle.std.proofs.Common.{◌≡◌, ℕ, zero, suc, ◌+◌, ◌≤◌, List, [], ◌∷◌, ◌++◌, drop, sum, slice_index, ap, arith}
use Rattle.std.proofs.lemmas.List.{append-nil, get_or-drop}
use Rattle.std.proofs.lemmas.List.Sums.{sum_by-cons}
use Rattle.capn_pack.specs.Packed.{group_text}
use Rattle.capn_pack.specs.UnpackRefusal.{len_at}
use Rattle.capn_pack.proofs.shared.GroupLaws.{head_of}
use Rattle.capn_stream.specs.FrameRefusal.{announced_segments, entries, entry_number, frame_length}
use Rattle.capn_explain.specs.WhatCame.{IsLeastOfFrame, IsLeastOfGroup, least_length}
use Rattle.capn_explain.proofs.Zeros.{head-words, same_least}

-- Each byte of `xs` is at most the byte of `ys` at the same place, where missing bytes are zeros.
abbrev pub ReadsLess : List ℕ → List ℕ → Type 0
ReadsLess xs ys = (i : ℕ) → slice_index xs i ≤ slice_index ys i

less-more : (xs more : List ℕ) → ReadsLess xs (xs ++ more)
less-more [] more i = omega arith
less-more (x ∷ xs) more zero = omega arith
less-more (x ∷ xs) more (suc i) = less-more xs more i

less-drop : (k : ℕ) (xs ys : List ℕ) → ReadsLess xs ys → ReadsLess (drop k xs) (drop k ys)
less-drop k xs ys less i = omega (arith, get_or-drop k xs i 0, get_or-drop k ys i 0, less (k + i))

less-entry : (xs ys : List ℕ) → ReadsLess xs ys → entry_number xs ≤ entry_number ys
unfolding entry_number
less-entry xs ys less = omega (arith, less 0, less 1, less 2, less 3)

less-sum : (n m : ℕ) (xs ys : List ℕ) → n ≤ m → ReadsLess xs ys → sum (entries n xs) ≤ sum (entries m ys)
less-sum zero m xs ys few less = omega arith
less-sum (suc n) zero xs ys few less = absurd (omega arith)
less-sum (suc n) (suc m) xs ys few less =
    let rest = less-sum n m (drop 4 xs) (drop 4 ys) (omega arith) (less-drop 4 xs ys less) in
    let one = sum_by-cons (λ k. k) (entry_number xs) (entries n (drop 4 xs)) in
    let other = sum_by-cons (λ k. k) (entry_number ys) (entries m (drop 4 ys)) in
    omega (arith, one, other, less-entry xs ys less, rest)

less-frame : (xs ys : List ℕ) → ReadsLess xs ys → frame_length xs ≤ frame_length ys
less-frame xs ys less =
    let count = less-entry xs ys less in
    let words = less-sum (announced_segments xs) (announced_segments ys) (drop 4 xs) (drop 4 ys) (omega (arith, count))
    (less-drop 4 xs ys less) in
    omega (arith, count, words, head-words (announced_segments xs), head-words (announced_segments ys))

-- Every frame that begins with `rest` has at least `least_length rest` bytes.
pub least_of_frame : (rest : List ℕ) (least : ℕ) → least ≡ least_length rest → IsLeastOfFrame rest least
least_of_frame rest least is more =
    omega (arith, is, same_least rest, less-frame rest (rest ++ more) (less-more rest more))

less-group : (tag : ℕ) (came more : List ℕ) → len_at (tag ∷ came) ≤ len_at (tag ∷ (came ++ more))
less-group tag came more = let byte = less-more (tag ∷ came) more 9 in grind (arith, byte)

-- If `came` is not empty, every group whose text begins with `came` has at least `len_at came` bytes.
pub least_of_group : (came : List ℕ) (least : ℕ) → least ≡ len_at came → IsLeastOfGroup came least
least_of_group [] least is some group more fits begins = absurd (omega arith)
least_of_group (tag ∷ came) least is some group more fits begins =
    let whole = head_of group [] fits in
    omega (arith, is, less-group tag came more, ap len_at begins, ap len_at (append-nil (group_text group)), whole.long)
