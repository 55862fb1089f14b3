-- Lemmas for the tags in `signs.rt`: the tag of a word is the mask of its lanes.
use Rattle.std.proofs.Common.{◌≡◌, ℕ, zero, suc, ◌+◌, ◌*◌, ◌%◌, ◌^◌, ◌<◌, ◌≤◌, Bool, true, false, not, cond, eqb, List}
use Rattle.std.proofs.Common.{[], ◌∷◌, map, length, take, drop, refl, ap, ◌∙◌, arith, w8, replicate, length-take}
use Rattle.std.proofs.Math.Nat.{two-pow-succ}
use Rattle.std.proofs.lemmas.Simd.{bitmask_splat, mask_l-lt}
use Rattle.std.proofs.lemmas.List.{length-map}
use lib.Lanes.{mask_l, top, zip2}
use Rattle.capn_pack.specs.Packed.{tag_of}

abbrev differs : ℕ → ℕ → Bool
differs a b = not (eqb a b)

turned : (b : Bool) → cond {A = ℕ} (not b) 1 0 ≡ cond {A = ℕ} b 0 1
turned true = refl
turned false = refl

mask_is : (xs : List ℕ) → mask_l (map (λ x. differs x 0) xs) ≡ tag_of xs
mask_is [] = refl
mask_is (x ∷ xs) = λ i. turned (eqb x 0) i + 2 * mask_is xs i

-- the mask of the nonzero lanes of a word `xs` is the tag of `xs`
pub mask_tag : (xs : List ℕ) → length xs ≡ 8
    → mask_l (map (top 7) (zip2 (λ a b. cond (differs a b) 255 0) xs (replicate 8 0))) % 2 ^ 64 ≡ tag_of xs
mask_tag xs long = bitmask_splat w8 differs xs 8 0 long (omega arith) ∙ mask_is xs

-- the mask of the nonzero lanes of two words `xs` is the tag of their 16 bytes
pub mask_two : (xs : List ℕ) → length xs ≡ 16
    → mask_l (map (top 7) (zip2 (λ a b. cond (differs a b) 255 0) xs (replicate 16 0))) % 2 ^ 64 ≡ tag_of xs
mask_two xs long = bitmask_splat w8 differs xs 16 0 long (omega arith) ∙ mask_is xs

-- the mask of the nonzero lanes of eight words `xs` is the tag of their 64 bytes
pub mask_eight : (xs : List ℕ) → length xs ≡ 64
    → mask_l (map (top 7) (zip2 (λ a b. cond (differs a b) 255 0) xs (replicate 64 0))) % 2 ^ 64 ≡ tag_of xs
mask_eight xs long = bitmask_splat w8 differs xs 64 0 long (omega arith) ∙ mask_is xs

pub tag_lt : (xs : List ℕ) → length xs ≡ 8 → tag_of xs < 256
tag_lt xs long =
    rw (← mask_is xs) (let n : length (map (λ x. differs x 0) xs) ≡ 8 = length-map xs (λ x. differs x 0) ∙ long in
    rw n at (mask_l-lt (map (λ x. differs x 0) xs)))

twice_of : (a b : ℕ) → (a + a) * b ≡ 2 * (a * b)
twice_of a b = grind arith

-- the tag of a word and of the words after it
pub tag_split : (n : ℕ) (xs : List ℕ) → n ≤ length xs → tag_of xs ≡ tag_of (take n xs) + 2 ^ n * tag_of (drop n xs)
tag_split zero xs le = omega arith
tag_split (suc n) [] le = absurd (omega arith)
tag_split (suc n) (x ∷ xs) le =
    let rest = tag_split n xs (omega arith) in
    let twice : 2 ^ suc n * tag_of (drop n xs) ≡ 2 * (2 ^ n * tag_of (drop n xs)) =
    ap (λ k. k * tag_of (drop n xs)) (two-pow-succ n) ∙ twice_of (2 ^ n) (tag_of (drop n xs)) in
    omega (arith, rest, twice)

-- the tag of the first of two words
pub tag_first : (xs : List ℕ) → length xs ≡ 16 → tag_of xs % 256 ≡ tag_of (take 8 xs)
tag_first xs long =
    let first : length (take 8 xs) ≡ 8 = simp length-take (omega arith) in
    omega (arith, tag_lt (take 8 xs) first, tag_split 8 xs (omega arith))
