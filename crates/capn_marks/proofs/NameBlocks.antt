-- A block that is filled with tabs, and then overwritten in part by digits and by a name. (For `name_block`,
-- `put_block` and `put_named`.)
use Rattle.std.proofs.Common.{◌≡◌, ℕ, zero, suc, ◌+◌, ◌-◌, ◌≤◌, List, [], ◌∷◌, ◌++◌, length, take, drop, replicate}
use Rattle.std.proofs.Common.{sym, ap, ap₂, ◌∙◌, arith, append_assoc}

behind : (d x : List ℕ) (j : ℕ) → take (length d + j) (d ++ x) ≡ d ++ take j x
behind [] x j =
    let same : 0 + j ≡ j = omega arith in
    ap (λ (n : ℕ). take n x) same
behind (c ∷ d) x j =
    let same : length (c ∷ d) + j ≡ suc (length d + j) = omega arith in
    ap (λ (n : ℕ). take n (c ∷ (d ++ x))) same ∙ ap (λ (l : List ℕ). c ∷ l) (behind d x j)

tabs-left : (k n : ℕ) → drop {A = ℕ} k (replicate (k + suc n) 9) ≡ 9 ∷ replicate n 9
tabs-left zero n =
    let same : 0 + suc n ≡ suc n = omega arith in
    ap (λ (j : ℕ). drop {A = ℕ} 0 (replicate j 9)) same
tabs-left (suc k) n =
    let same : suc k + suc n ≡ suc (k + suc n) = omega arith in
    ap (λ (j : ℕ). drop {A = ℕ} (suc k) (replicate j 9)) same ∙ tabs-left k n

name-and-tab : (name rest : List ℕ) → take (length name + 1) (name ++ 9 ∷ rest) ≡ name ++ 9 ∷ []
name-and-tab name rest = behind name (9 ∷ rest) 1

pub in-block : (name part : List ℕ) (k : ℕ) → length name ≤ 42 → part ≡ name → k ≡ length name
    → take (1 + length name) (part ++ drop {A = ℕ} k (replicate 43 9)) ≡ name ++ 9 ∷ []
in-block name part k short is same =
    let n = 42 - length name in
    let all : 43 ≡ k + suc n = omega arith in
    let count : 1 + length name ≡ length name + 1 = omega arith in
    ap₂ (λ (j : ℕ) (l : List ℕ). take j l) count
    (ap₂ (λ (p q : List ℕ). p ++ q) is
    (ap (λ (j : ℕ). drop {A = ℕ} k (replicate j 9)) all ∙ tabs-left k n))
    ∙ name-and-tab name (replicate n 9)

pub before-name : (d b b' name : List ℕ) (start : ℕ) → start + length d ≡ 20 → drop start b' ≡ d ++ drop 20 b
    → drop 20 b ≡ 9 ∷ drop 21 b → take (1 + length name) (drop 21 b) ≡ name ++ 9 ∷ []
    → take (22 + length name - start) (drop start b') ≡ (d ++ 9 ∷ []) ++ (name ++ 9 ∷ [])
before-name d b b' name start ends written tab named =
    let count : 22 + length name - start ≡ length d + suc (1 + length name) = omega arith in
    ap₂ (λ (j : ℕ) (l : List ℕ). take j l) count (written ∙ ap (λ (l : List ℕ). d ++ l) tab)
    ∙ behind d (9 ∷ drop 21 b) (suc (1 + length name))
    ∙ ap (λ (l : List ℕ). d ++ 9 ∷ l) named
    ∙ sym (append_assoc d (9 ∷ []) (name ++ 9 ∷ []))
