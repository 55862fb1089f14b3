-- Lemmas for `ends_of`, `few_ends`, `rest_ends`, `total_of` and capn_explain: numbers that are stored in 4 bytes each.
use Rattle.std.proofs.Common.{◌≡◌, ℕ, zero, suc, ◌+◌, ◌*◌, ◌^◌, ◌<◌, ◌≤◌, List, [], ◌∷◌, ◌++◌, length, take, drop, sum}
use Rattle.std.proofs.Common.{slice_index, refl, ap, ◌∙◌, arith, append_assoc, length-append, length-drop}
use Rattle.std.specs.Int.{w32, from_le_bytes}
use Rattle.std.specs.List.{flat_map}
use Rattle.std.proofs.lemmas.List.{drop-drop, drop-take, drop_at, get_or-drop, length-take-le, take-append-drop}
use Rattle.std.proofs.lemmas.List.{take-take}
use Rattle.std.proofs.lemmas.List.Sums.{sum_by_push}
use Rattle.std.proofs.lemmas.Nat.{le_bytes_4}
use Rattle.byteorder.specs.Endian.{little_from}
use Rattle.byteorder.specs.Numbers.{little_from-take, little_number-reads_back}
use Rattle.capn_words.specs.Message.{AreBytes}
use Rattle.capn_stream.specs.Frames.{entry}
use Rattle.capn_stream.specs.FrameRefusal.{entry_number, entries}

-- ---- parts of lists

-- a prefix of `xs`, and then a prefix of the items after it, are a longer prefix of `xs`
pub take_then : {A : Type 0} (m n : ℕ) (xs : List A) → take m xs ++ take n (drop m xs) ≡ take (m + n) xs
take_then m n xs =
    let front = take-take m (m + n) xs (omega arith) in
    let rest = drop-take m n xs in
    rw (front, rest) at (take-append-drop m (take (m + n) xs))

-- if all numbers of `xs` are below `bound`, so are the first `n` numbers
pub below-take : (bound n : ℕ) (xs : List ℕ) → 0 < bound → ((i : ℕ) → slice_index xs i < bound) → (i : ℕ)
    → slice_index (take n xs) i < bound
below-take bound zero xs p h i = p
below-take bound (suc n) [] p h i = p
below-take bound (suc n) (x ∷ xs) p h zero = h 0
below-take bound (suc n) (x ∷ xs) p h (suc i) = below-take bound n xs p (λ k. h (suc k)) i

-- if all numbers of `xs` are below `bound`, so are the numbers after the first `n`
pub below-drop : (bound n : ℕ) (xs : List ℕ) → ((i : ℕ) → slice_index xs i < bound) → (i : ℕ)
    → slice_index (drop n xs) i < bound
below-drop bound n xs h i = rw (get_or-drop n xs i 0) (h (n + i))

-- ---- one number

-- an entry has 4 bytes
pub length-entry : (n : ℕ) → length (entry n) ≡ 4
unfolding entry
length-entry n = refl

-- if `n` is below 2^32, the number that is read from the entry of `n` is `n`
pub entry_number-entry : (n : ℕ) (rest : List ℕ) → n < 2 ^ 32 → entry_number (entry n ++ rest) ≡ n
unfolding entry entry_number
entry_number-entry n rest h = little_number-reads_back 4 n rest h

-- if `bs` has at least 4 bytes, the entry of the number that is read from `bs` is the first 4 bytes of `bs`
pub entry-entry_number : (bs : List ℕ) → AreBytes bs → 4 ≤ length bs → entry (entry_number bs) ≡ take 4 bs
unfolding entry entry_number
entry-entry_number bs h l =
    let same = little_from-take 0 4 4 bs (omega arith) in
    let read : little_from 0 4 bs ≡ from_le_bytes w32 (take 4 bs) = omega (arith, same) in
    le_bytes_4 (take 4 bs) (little_from 0 4 bs) (length-take-le 4 bs l) (below-take 256 4 bs (omega arith) h) read

-- ---- many numbers

-- `entries n bs` has `n` numbers
pub length-entries : (n : ℕ) (bs : List ℕ) → length (entries n bs) ≡ n
length-entries zero bs = refl
length-entries (suc n) bs = let e = length-entries n (drop 4 bs) in omega (arith, e)

-- the first `n + 1` numbers are the first `n` and then one more, with the count written `suc n`
pub entries-suc : (n : ℕ) (bs : List ℕ) → entries (suc n) bs ≡ entries n bs ++ entry_number (drop (4 * n) bs) ∷ []
entries-suc zero bs = refl
entries-suc (suc n) bs =
    let e : 4 + 4 * n ≡ 4 * suc n = omega arith in
    let at = drop-drop (4 * n) 4 bs ∙ ap (λ (j : ℕ). drop j bs) e in
    ap (λ (ns : List ℕ). entry_number bs ∷ ns) (entries-suc n (drop 4 bs)
    ∙ ap (λ (xs : List ℕ). entries n (drop 4 bs) ++ entry_number xs ∷ []) at)

-- the first `n + 1` numbers are the first `n` and then one more, with the count written `n + 1`
pub entries_more : (n : ℕ) (bs : List ℕ) → entries (n + 1) bs ≡ entries n bs ++ entry_number (drop (4 * n) bs) ∷ []
entries_more n bs = let e : n + 1 ≡ suc n = omega arith in ap (λ (m : ℕ). entries m bs) e ∙ entries-suc n bs

-- the first `m + n` numbers are the first `m` and then the `n` after them
pub entries_then : (m n : ℕ) (bs : List ℕ) → entries (m + n) bs ≡ entries m bs ++ entries n (drop (4 * m) bs)
entries_then zero n bs = let e : zero + n ≡ n = omega arith in ap (λ (k : ℕ). entries k bs) e
entries_then (suc m) n bs =
    let e : suc m + n ≡ suc (m + n) = omega arith in
    let four : 4 + 4 * m ≡ 4 * suc m = omega arith in
    let at = drop-drop (4 * m) 4 bs ∙ ap (λ (j : ℕ). drop j bs) four in
    ap (λ (k : ℕ). entries k bs) e
    ∙ ap (λ (ns : List ℕ). entry_number bs ∷ ns) (entries_then m n (drop 4 bs)
    ∙ ap (λ (xs : List ℕ). entries m (drop 4 bs) ++ entries n xs) at)

-- the sum of the first `n + 1` numbers is the sum of the first `n` plus one more
pub sum-entries_more : (n : ℕ) (bs : List ℕ)
    → sum (entries (n + 1) bs) ≡ sum (entries n bs) + entry_number (drop (4 * n) bs)
sum-entries_more n bs = ap sum (entries_more n bs)
    ∙ sum_by_push (λ x. x) (entries n bs) (entry_number (drop (4 * n) bs))

-- the sum of the first `n` numbers is at most the sum of the first `n + m` numbers
pub sum-entries_le : (n m : ℕ) (bs : List ℕ) → sum (entries n bs) ≤ sum (entries (n + m) bs)
sum-entries_le n zero bs = let e : n + zero ≡ n = omega arith in rw e (omega arith)
sum-entries_le n (suc m) bs =
    let e : n + suc m ≡ (n + m) + 1 = omega arith in
    let more = sum-entries_more (n + m) bs in
    let ih = sum-entries_le n m bs in
    rw e (omega (arith, more, ih))

-- if the numbers `ns` are below 2^32, the numbers that are read from the entries of `ns` are `ns`
pub entries-entry : (ns rest : List ℕ) → ((k : ℕ) → slice_index ns k < 2 ^ 32)
    → entries (length ns) (flat_map entry ns ++ rest) ≡ ns
entries-entry [] rest h = refl
entries-entry (n ∷ ns) rest h =
    let split = append_assoc (entry n) (flat_map entry ns) rest in
    let first = entry_number-entry n (flat_map entry ns ++ rest) (h 0) in
    let left = drop_at (entry n) (flat_map entry ns ++ rest) 4 (length-entry n) in
    let ih = entries-entry ns rest (λ k. h (suc k)) in
    rw (split, first, left, ih) refl

-- the entries of the first `n` numbers that are read from `bs` are the first `4 * n` bytes of `bs`
pub entry-entries : (n : ℕ) (bs : List ℕ) → AreBytes bs → 4 * n ≤ length bs
    → flat_map entry (entries n bs) ≡ take (4 * n) bs
entry-entries zero bs h l = refl
entry-entries (suc n) bs h l =
    let first = entry-entry_number bs h (omega arith) in
    let ih = entry-entries n (drop 4 bs) (below-drop 256 4 bs h) (omega (arith, length-drop 4 bs)) in
    let e : 4 + 4 * n ≡ 4 * suc n = omega arith in
    rw (first, ih) (take_then 4 (4 * n) bs ∙ ap (λ (j : ℕ). take j bs) e)

-- the entries of the numbers `ns` are 4 bytes for each number
pub length-entry_all : (ns : List ℕ) → length (flat_map entry ns) ≡ 4 * length ns
length-entry_all [] = refl
length-entry_all (n ∷ ns) =
    omega (arith, length-entry_all ns, length-append (entry n) (flat_map entry ns), length-entry n)
