-- Lemmas for `tag` in `lanes.rt`: the tag of a word is the sum of the weights of its lanes.
use Rattle.std.proofs.Common.{◌≡◌, ℕ, zero, suc, ◌+◌, ◌*◌, ◌%◌, ◌≤◌, Bool, true, false, not, cond, eqb, List, []}
use Rattle.std.proofs.Common.{◌∷◌, map, length, refl, ap, ◌∙◌, arith, replicate}
use lib.Lanes.{fold_l, sel_l, top, zip2}
use Rattle.capn_pack.specs.Packed.{tag_of}

-- `n` weights: the first is `w`, and each later weight is twice the weight before it
abbrev weights : ℕ → ℕ → List ℕ
weights zero w = []
weights (suc n) w = w ∷ weights n (2 * w)

-- the weight that comes next after the `n` weights from `w` on
abbrev behind : ℕ → ℕ → ℕ
behind zero w = w
behind (suc n) w = behind n (2 * w)

-- the sum of the weights of the nonzero bytes, if the first byte has the weight `w`
abbrev weighed : ℕ → List ℕ → ℕ
weighed w [] = 0
weighed w (x ∷ xs) = cond (eqb x 0) 0 w + weighed (2 * w) xs

-- the weights of the nonzero lanes of `xs`, and 0 for the other lanes, if the first of `n` lanes has the weight `w`
abbrev selected : ℕ → ℕ → List ℕ → List ℕ
selected n w xs =
    sel_l (map (top 7) (zip2 (λ a b. cond (not (eqb a b)) 255 0) xs (replicate n 0))) (weights n w) (replicate n 0)

lane_is : (b : Bool) (w : ℕ) → cond (top 7 (cond (not b) 255 0)) w 0 ≡ cond b 0 w
lane_is true w = refl
lane_is false w = refl

twice : (b : Bool) (w : ℕ) → cond b 0 (2 * w) ≡ 2 * cond b 0 w
twice true w = refl
twice false w = refl

at_most : (b : Bool) (w : ℕ) → cond b 0 w ≤ w
at_most true w = omega arith
at_most false w = omega arith

weighed_twice : (w : ℕ) (xs : List ℕ) → weighed (2 * w) xs ≡ 2 * weighed w xs
weighed_twice w [] = refl
weighed_twice w (x ∷ xs) = omega (arith, twice (eqb x 0) w, weighed_twice (2 * w) xs)

weighed_tag : (xs : List ℕ) → weighed 1 xs ≡ tag_of xs
weighed_tag [] = refl
weighed_tag (x ∷ xs) = ap (λ n. cond (eqb x 0) 0 1 + n) (weighed_twice 1 xs ∙ ap (λ n. 2 * n) (weighed_tag xs))

grows : (n w : ℕ) → w ≤ behind n w
grows zero w = omega arith
grows (suc n) w = omega (arith, grows n (2 * w))

folded : (n a w : ℕ) (xs : List ℕ) → length xs ≡ n → a + behind n w ≤ 255 + w
    → fold_l (λ s x. (s + x) % 256) a (selected n w xs) ≡ a + weighed w xs
folded zero a w [] long room = omega arith
folded zero a w (x ∷ xs) long room = absurd (omega arith)
folded (suc n) a w [] long room = absurd (omega arith)
folded (suc n) a w (x ∷ xs) long room =
    let most = at_most (eqb x 0) w in
    let next = (a + cond (eqb x 0) 0 w) % 256 in
    let same : next ≡ a + cond (eqb x 0) 0 w = omega (arith, most, grows n (2 * w)) in
    ap (λ y. fold_l (λ s x. (s + x) % 256) ((a + y) % 256) (selected n (2 * w) xs)) (lane_is (eqb x 0) w)
    ∙ folded n next (2 * w) xs (omega arith) (omega (arith, most, same))
    ∙ omega (arith, same)

-- the weights of the nonzero lanes of `xs` add up to the tag of `xs`
pub sum_tag : (xs : List ℕ) → length xs ≡ 8
    → fold_l (λ s x. (s + x) % 256) 0 (selected 8 1 xs) ≡ tag_of xs
sum_tag xs long = folded 8 0 1 xs long (omega arith) ∙ omega (arith, weighed_tag xs)
