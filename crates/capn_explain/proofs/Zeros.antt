-- Lemmas for `entry_at`, `first_of`, `least_of` and `total_of`: missing bytes are read as zeros.
use Rattle.std.proofs.Common.{◌≡◌, ℕ, zero, suc, ◌+◌, ◌*◌, ◌≤◌, ◌<◌, ◌-◌, ◌/◌, ◌^◌, min, List, [], ◌∷◌, ◌++◌}
use Rattle.std.proofs.Common.{length, drop, replicate, sum, slice_index, refl, ap, sym, ◌∙◌, arith}
use Rattle.std.proofs.lemmas.List.{get_or-drop}
use Rattle.std.proofs.Math.ListN.{drop_of_length-le}
use Rattle.capn_stream.specs.FrameRefusal.{announced_segments, announced_words, entries, entry_number, frame_length}
use Rattle.capn_stream.specs.FrameRefusal.{head_length}
use Rattle.capn_stream.proofs.shared.Entries.{entries-suc, sum-entries_more}
use Rattle.capn_explain.specs.WhatCame.{least_length}

-- `xs` and `ys` have the same byte at each place, where missing bytes are zeros.
abbrev pub ReadSame : List ℕ → List ℕ → Type 0
ReadSame xs ys = (i : ℕ) → slice_index xs i ≡ slice_index ys i

-- Zeros after `xs` change no byte that is read of `xs`.
pub same-zeros : (xs : List ℕ) (n : ℕ) → ReadSame (xs ++ replicate n 0) xs
same-zeros [] zero i = refl
same-zeros [] (suc n) zero = refl
same-zeros [] (suc n) (suc i) = same-zeros [] n i
same-zeros (x ∷ xs) n zero = refl
same-zeros (x ∷ xs) n (suc i) = same-zeros xs n i

same-drop : (k : ℕ) (xs ys : List ℕ) → ReadSame xs ys → ReadSame (drop k xs) (drop k ys)
same-drop k xs ys same i = get_or-drop k xs i 0 ∙ same (k + i) ∙ sym (get_or-drop k ys i 0)

same-entry : (xs ys : List ℕ) → ReadSame xs ys → entry_number xs ≡ entry_number ys
unfolding entry_number
same-entry xs ys same = rw (same 0, same 1, same 2, same 3) refl

same-entries : (n : ℕ) (xs ys : List ℕ) → ReadSame xs ys → entries n xs ≡ entries n ys
same-entries zero xs ys same = refl
same-entries (suc n) xs ys same =
    let first = same-entry xs ys same in
    let rest = same-entries n (drop 4 xs) (drop 4 ys) (same-drop 4 xs ys same) in
    rw (first, rest) refl

-- Zeros after `rest` do not change the length that its table announces.
pub frame_length-zeros : (rest : List ℕ) (n : ℕ) → frame_length (rest ++ replicate n 0) ≡ frame_length rest
frame_length-zeros rest n =
    let same = same-zeros rest n in
    let count : announced_segments (rest ++ replicate n 0) ≡ announced_segments rest =
    ap (λ (c : ℕ). c + 1) (same-entry (rest ++ replicate n 0) rest same) in
    let sizes = same-entries (announced_segments rest) (drop 4 (rest ++ replicate n 0)) (drop 4 rest)
    (same-drop 4 (rest ++ replicate n 0) rest same) in
    ap (λ (c : ℕ). head_length c + 8 * sum (entries c (drop 4 (rest ++ replicate n 0)))) count
    ∙ ap (λ (ns : List ℕ). head_length (announced_segments rest) + 8 * sum ns) sizes

pub entry-bytes : (k : ℕ) (bs : List ℕ) → entry_number (drop k bs) ≡ slice_index bs k
    + 256 * (slice_index bs (k + 1) + 256 * (slice_index bs (k + 2) + 256 * slice_index bs (k + 3)))
unfolding entry_number
entry-bytes k bs =
    let here : k + 0 ≡ k = omega arith in
    let first : slice_index (drop k bs) 0 ≡ slice_index bs k =
    get_or-drop k bs 0 0 ∙ ap (λ (j : ℕ). slice_index bs j) here in
    omega (arith, first, get_or-drop k bs 1 0, get_or-drop k bs 2 0, get_or-drop k bs 3 0)

entry-nothing : entry_number [] ≡ 0
unfolding entry_number
entry-nothing = refl

pub sum-behind : (n k : ℕ) (bs : List ℕ) → length bs ≤ 4 * n → sum (entries (n + k) bs) ≡ sum (entries n bs)
sum-behind n zero bs all = let e : n + zero ≡ n = omega arith in rw e refl
sum-behind n (suc k) bs all =
    let e : n + suc k ≡ (n + k) + 1 = omega arith in
    let none : drop (4 * (n + k)) bs ≡ [] = drop_of_length-le bs (omega (arith, all)) in
    let last : entry_number (drop (4 * (n + k)) bs) ≡ 0 = ap entry_number none ∙ entry-nothing in
    let more = sum-entries_more (n + k) bs in
    let before = sum-behind n k bs all in
    rw e (omega (arith, more, last, before))

sum-more : (n k : ℕ) (bs : List ℕ) → (0 < k → length bs ≤ 4 * n) → sum (entries (n + k) bs) ≡ sum (entries n bs)
sum-more n zero bs all = let e : n + zero ≡ n = omega arith in rw e refl
sum-more n (suc k) bs all = sum-behind n (suc k) bs (all (omega arith))

pub sum-begun : (begun count : ℕ) (bs : List ℕ) → begun ≤ count → (begun < count → length bs ≤ 4 * begun)
    → sum (entries count bs) ≡ sum (entries begun bs)
sum-begun begun count bs few all =
    let e : count ≡ begun + (count - begun) = omega arith in
    ap (λ (n : ℕ). sum (entries n bs)) e ∙ sum-more begun (count - begun) bs (λ h. all (omega (arith, h)))

pub head-words : (count : ℕ) → 8 * (count / 2 + 1) ≡ head_length count
head-words count = grind arith

pub same_least : (rest : List ℕ) → least_length rest ≡ min (frame_length rest) (2 ^ 64 - 1)
same_least rest = ap (λ (n : ℕ). min n (2 ^ 64 - 1))
    (frame_length-zeros rest (head_length (announced_segments (rest ++ replicate 4 0))))

stops : (n m most : ℕ) → min (min n most + m) most ≡ min (n + m) most
stops n m most = grind arith

pub least-words : (rest : List ℕ) (words table : ℕ) → words ≡ announced_words rest
    → table ≡ head_length (announced_segments rest)
    → min (min (words * 8) (2 ^ 64 - 1) + table) (2 ^ 64 - 1) ≡ least_length rest
least-words rest words table is head =
    let all : frame_length rest ≡ words * 8 + table = omega (arith, is, head) in
    stops (words * 8) table (2 ^ 64 - 1) ∙ ap (λ (n : ℕ). min n (2 ^ 64 - 1)) (sym all) ∙ sym (same_least rest)

pub eight : (bs : List ℕ) → entries 8 bs ≡ entry_number bs ∷ entry_number (drop 4 bs) ∷ entry_number (drop 8 bs)
    ∷ entry_number (drop 12 bs) ∷ entry_number (drop 16 bs) ∷ entry_number (drop 20 bs) ∷ entry_number (drop 24 bs)
    ∷ entry_number (drop 28 bs) ∷ []
eight bs =
    entries-suc 7 bs ∙ ap (λ (ns : List ℕ). ns ++ entry_number (drop 28 bs) ∷ [])
    (entries-suc 6 bs ∙ ap (λ (ns : List ℕ). ns ++ entry_number (drop 24 bs) ∷ [])
    (entries-suc 5 bs ∙ ap (λ (ns : List ℕ). ns ++ entry_number (drop 20 bs) ∷ [])
    (entries-suc 4 bs ∙ ap (λ (ns : List ℕ). ns ++ entry_number (drop 16 bs) ∷ [])
    (entries-suc 3 bs ∙ ap (λ (ns : List ℕ). ns ++ entry_number (drop 12 bs) ∷ [])
    (entries-suc 2 bs ∙ ap (λ (ns : List ℕ). ns ++ entry_number (drop 8 bs) ∷ []) (entries-suc 1 bs))))))
