-- The verdict `judge b vs` on a list of visits `vs`, and on two joined lists of visits. (For `FilledRoom`,
-- `RootSurveys`, `RowWalks` and others.)
use Rattle.std.proofs.Common.{◌≡◌, ℕ, ◌+◌, ◌-◌, ◌<◌, ◌≤◌, nat_lt, List, [], ◌∷◌, ◌++◌, refl, ap, sym, ◌∙◌, arith}
use Rattle.std.proofs.lemmas.Bool.Decides.{nat_tests}
use Rattle.capn_words.specs.declared.space.Place.{Place}
use Rattle.capn_target.specs.declared.target.Fault.{Fault}
use Rattle.capn_target.specs.declared.target.Fault.TheVariants as faults
use Rattle.capn_walk.specs.Visits.{Visit, pays, fails}
use Rattle.capn_walk.specs.inner.Verdict.{Verdict, accepted, refused, after, judge}
use Rattle.capn_words.proofs.shared.Choices.{pick}

pub after-after : (p k q j : ℕ) (r : Verdict) → after p k (after q j r) ≡ after (p + q) (k + j) r
after-after p k q j (accepted x y) = let a : p + (q + x) ≡ p + q + x = omega arith in let b : k + (j + y) ≡ k + j + y =
    omega arith in cc
after-after p k q j (refused e at x y) = let a : p + (q + x) ≡ p + q + x = omega arith in
    let b : k + (j + y) ≡ k + j + y = omega arith in cc

pub after-none : (r : Verdict) → after 0 0 r ≡ r
after-none (accepted x y) = let a : 0 + x ≡ x = omega arith in let b : 0 + y ≡ y = omega arith in cc
after-none (refused e at x y) = let a : 0 + x ≡ x = omega arith in let b : 0 + y ≡ y = omega arith in cc

-- if `after n m r` is `accepted p k`, then `r` is `accepted` with `n` fewer words paid and `m` fewer visits
pub after-accepted : (n m p k : ℕ) (r : Verdict) → after n m r ≡ accepted p k → (q j : ℕ) × (r ≡ accepted q j)
    × (p ≡ n + q) × (k ≡ m + j)
after-accepted n m p k (accepted q j) h = (q, j, refl, cc, cc)
after-accepted n m p k (refused e at q j) h = absurd cc

-- if `after n m r` is `refused e at p k`, then `r` is `refused e at` with `n` fewer words paid and `m` fewer visits
pub after-refused : (n m : ℕ) (e : Fault) (at : Place) (p k : ℕ) (r : Verdict) → after n m r ≡ refused e at p k
    → (q j : ℕ) × (r ≡ refused e at q j) × (p ≡ n + q) × (k ≡ m + j)
after-refused n m e at p k (accepted q j) h = absurd cc
after-refused n m e at p k (refused f x q j) h = (q, j, cc, cc, cc)

-- if a visit costs `n` words, at most `b`, then the verdict on the visit and `vs` is the verdict on `vs`, with the
-- visit added. For the verdict on `vs`, `b - n` words are left to pay.
pub judge-pays : (b n : ℕ) (at : Place) (vs : List Visit) → n ≤ b
    → judge b (pays at n ∷ vs) ≡ after n 1 (judge (b - n) vs)
judge-pays b n at vs h =
    pick (λ (r : Verdict). r ≡ after n 1 (judge (b - n) vs)) (nat_lt b n) _ _ (λ e. absurd (grind (arith, nat_tests)))
    (λ e. refl)

-- a visit that costs more than `b` words is refused if `b` words are left to pay
pub judge-over : (b n : ℕ) (at : Place) (vs : List Visit) → b < n
    → judge b (pays at n ∷ vs) ≡ refused faults.OverBudget at 0 1
judge-over b n at vs h =
    pick (λ (r : Verdict). r ≡ refused faults.OverBudget at 0 1) (nat_lt b n) _ _ (λ e. refl)
    (λ e. absurd (grind (arith, nat_tests)))

-- if a visit and the visits after it are accepted with `b` words left to pay, the visit costs at most `b` words
pub judge-fits : (b n : ℕ) (at : Place) (vs : List Visit) (p k : ℕ) → judge b (pays at n ∷ vs) ≡ accepted p k → n ≤ b
judge-fits b n at vs p k =
    pick (λ (r : Verdict). r ≡ accepted p k
    → n ≤ b) (nat_lt b n) _ _ (λ e. λ h. absurd cc) (λ e. λ h. grind (arith, nat_tests))

-- if the visits `xs` are accepted and pay `p` words, then the verdict on `xs ++ ys` is the verdict on `ys`, with the
-- visits `xs` added. For the verdict on `ys`, `b - p` words are left to pay.
pub judge-more : (b : ℕ) (xs ys : List Visit) (p k : ℕ) → judge b xs ≡ accepted p k
    → judge b (xs ++ ys) ≡ after p k (judge (b - p) ys)
judge-more b [] ys p k h =
    let x : p ≡ 0 = cc in let y : k ≡ 0 = cc in
    let z : b - p ≡ b = omega arith in
    rw (x, y) (sym (rw (ap (λ (c : ℕ). b - c) (sym x) ∙ z) (after-none (judge b ys))))
judge-more b (fails at e ∷ xs) ys p k h = absurd cc
judge-more b (pays at n ∷ xs) ys p k h =
    let fits = judge-fits b n at xs p k h in
    let (q, j, is, x, y) = after-accepted n 1 p k (judge (b - n) xs) (sym (judge-pays b n at xs fits) ∙ h) in
    let rest = judge-more (b - n) xs ys q j is in
    let z : b - n - q ≡ b - p = omega arith in
    let w = ap (λ (c : ℕ). judge c ys) z in
    let one = judge-pays b n at (xs ++ ys) fits in
    let two = after-after n 1 q j (judge (b - n - q) ys) in
    let three = ap (after n 1) rest in
    cc

stops-paid : (b n : ℕ) (x : Place) (xs ys : List Visit) (e : Fault) (at : Place) (p k : ℕ)
    → ((q j : ℕ) → judge (b - n) xs ≡ refused e at q j → judge (b - n) (xs ++ ys) ≡ refused e at q j)
    → judge b (pays x n ∷ xs) ≡ refused e at p k → judge b (pays x n ∷ (xs ++ ys)) ≡ refused e at p k
stops-paid b n x xs ys e at p k ih =
    pick (λ (r : Verdict). r ≡ refused e at p k → judge b (pays x n ∷ (xs ++ ys)) ≡ refused e at p k) (nat_lt b n) _ _
    (λ t. λ h. judge-over b n x (xs ++ ys) (grind (arith, nat_tests)) ∙ h)
    (λ t. λ h.
    let (q, j, is, u, v) = after-refused n 1 e at p k (judge (b - n) xs) h in
    let one = judge-pays b n x (xs ++ ys) (grind (arith, nat_tests)) in
    let two = ap (after n 1) (ih q j is) in
    cc)

-- if the visits `xs` are refused, the visits `xs ++ ys` are refused at the same visit
pub judge-stops : (b : ℕ) (xs ys : List Visit) (e : Fault) (at : Place) (p k : ℕ) → judge b xs ≡ refused e at p k
    → judge b (xs ++ ys) ≡ refused e at p k
judge-stops b [] ys e at p k h = absurd cc
judge-stops b (fails x f ∷ xs) ys e at p k h = h
judge-stops b (pays x n ∷ xs) ys e at p k h =
    stops-paid b n x xs ys e at p k (λ q j is. judge-stops (b - n) xs ys e at q j is) h
