-- `listed f n` is the list of `f 0` to `f (n - 1)`. (For `Exists` and capn_canon.)
use Rattle.std.proofs.Common.{◌≡◌, ℕ, zero, suc, ◌<◌, List, [], ◌∷◌, length, slice_index, refl, ap, arith}
use Rattle.capn_walk.specs.ValueAt.{AreElements, element}

abbrev pub listed : {A : Type 0} → (ℕ → A) → ℕ → List A
listed f zero = []
listed f (suc n) = f 0 ∷ listed (λ i. f (suc i)) n

pub length-listed : {A : Type 0} → (f : ℕ → A) (n : ℕ) → length (listed f n) ≡ n
length-listed f zero = refl
length-listed f (suc n) = ap suc (length-listed (λ i. f (suc i)) n)

pub listed-at : (f : ℕ → ℕ) (n i : ℕ) → i < n → slice_index (listed f n) i ≡ f i
listed-at f zero i h = absurd (omega arith)
listed-at f (suc n) zero h = refl
listed-at f (suc n) (suc i) h = listed-at (λ j. f (suc j)) n i (omega arith)

pub listed-below : (f : ℕ → ℕ) (bound n i : ℕ) → 0 < bound → ((j : ℕ) → f j < bound)
    → slice_index (listed f n) i < bound
listed-below f bound zero i some h = some
listed-below f bound (suc n) zero some h = h 0
listed-below f bound (suc n) (suc i) some h = listed-below (λ j. f (suc j)) bound n i some (λ j. h (suc j))

-- `listed` gives the first `n` elements of the words `ws`
pub elements-listed : (each width : ℕ) (ws : List ℕ) (n : ℕ)
    → AreElements each width ws (listed (element each width ws) n)
elements-listed each width ws n i h =
    let l = length-listed (element each width ws) n in
    listed-at (element each width ws) n i (omega arith)
