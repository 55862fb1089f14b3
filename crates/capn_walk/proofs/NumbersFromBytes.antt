-- Numbers read one after the other from bytes. (For `bits_at`, `pairs_at`, `quads_at` and `words_at`.)
use Rattle.std.proofs.Common.{◌≡◌, ℕ, ◌+◌, ◌*◌, ◌≤◌, List, [], ◌∷◌, ◌++◌, drop, slice_index, length, subst, sym, ap}
use Rattle.std.proofs.Common.{◌∙◌, arith, length-drop}
use Rattle.std.proofs.lemmas.Grind.{common_steps}
use Rattle.std.proofs.lemmas.List.{drop-drop, get_or-drop}
use Rattle.byteorder.specs.Endian.{IsRead}

pub next-holds : (n j : ℕ) (bs left : List ℕ) → left ≡ drop j bs → j + n ≤ length bs → n ≤ length left
next-holds n j bs left e h = let size = ap length e in let l = length-drop j bs in omega arith

pub rest-left : (n j : ℕ) (bs left rest : List ℕ) → left ≡ drop j bs → rest ≡ drop n left → rest ≡ drop (j + n) bs
rest-left n j bs left rest e r = r ∙ ap (drop n) e ∙ drop-drop n j bs

pub next-left : (n i : ℕ) (bs left rest : List ℕ) → left ≡ drop (n * i) bs → rest ≡ drop n left
    → rest ≡ drop (n * (i + 1)) bs
next-left n i bs left rest e r =
    let k : n * i + n ≡ n * (i + 1) = omega arith in
    rest-left n (n * i) bs left rest e r ∙ ap (λ (j : ℕ). drop j bs) k

pub next-is : (i : ℕ) (bs left : List ℕ) (x : ℕ) → left ≡ drop i bs → x ≡ slice_index left 0 → x ≡ slice_index bs i
next-is i bs left x e is =
    let k : i + 0 ≡ i = omega arith in
    is ∙ ap (λ (l : List ℕ). slice_index l 0) e ∙ get_or-drop i bs 0 0 ∙ ap (slice_index bs) k

pub read-more : (number : ℕ → List ℕ → ℕ) (n i : ℕ) (bs left xs ys : List ℕ) (x : ℕ) → ys ≡ xs ++ x ∷ []
    → length xs ≡ i → IsRead number n bs xs → left ≡ drop (n * i) bs → x ≡ number n left → IsRead number n bs ys
read-more number n i bs left xs ys x e l is at here = subst (IsRead number n bs) (sym e) more
  where
    found : x ≡ number n (drop (n * i) bs)
    found = here ∙ ap (number n) at

    more : IsRead number n bs (xs ++ x ∷ [])
    more k below = grind (arith, common_steps)
