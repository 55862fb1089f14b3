-- Lists of numbers that are packed into words, and the bytes of these numbers. (For `append_bytes`, `extend_octs`,
-- `extend_pairs` and `extend_quads`.)
use Rattle.std.proofs.Common.{◌≡◌, ℕ, zero, suc, ◌+◌, ◌-◌, ◌*◌, ◌^◌, ◌<◌, List, [], ◌∷◌, ◌++◌, length, take, drop}
use Rattle.std.proofs.Common.{replicate, slice_index, refl, ap, ap₂, sym, ◌∙◌, arith, append-nil, length-append, false}
use Rattle.std.proofs.Common.{Option, Some}
use Rattle.std.proofs.Math.Nat.{mul_assoc, mul-add, pow-succ', pow-zero}
use Rattle.std.proofs.lemmas.List.{take-take, take_at, drop_at, drop-drop, take_all, drop_all, drop-take}
use Rattle.std.proofs.lemmas.List.{drop-replicate, get_or-drop, length-replicate, take-append-drop}
use Rattle.std.specs.List.{flat_map}
use Rattle.byteorder.specs.Endian.{little_from, little_bytes}
use Rattle.byteorder.specs.Numbers.{little_from-cons, little_number-reads_back, length-bytes_low_first}
use Rattle.capn_words.specs.Message.{word_number, words_in}
use Rattle.capn_layout.specs.Layout.{number, packed}
use Rattle.capn_layout.specs.Patch.{cells, whole}

-- ---- a word is the number that the word's bytes represent

little_from-none : (i n : ℕ) → little_from i n [] ≡ 0
little_from-none i zero = refl
little_from-none i (suc n) = let e = little_from-none (suc i) n in omega arith

pub little_from-number : (n : ℕ) (bs : List ℕ) → little_from 0 n bs ≡ number 256 (take n bs)
little_from-number zero bs = refl
little_from-number (suc n) [] = little_from-none 0 (suc n)
little_from-number (suc n) (b ∷ bs) = ap (λ (x : ℕ). b + 256 * x) (little_from-cons 0 n b bs ∙ little_from-number n bs)

word-number : (bs : List ℕ) → word_number (take 8 bs) ≡ number 256 (take 8 bs)
unfolding word_number
word-number bs = little_from-number 8 (take 8 bs) ∙ ap (number 256) (take-take 8 8 bs (omega arith))

pub cells-words : (k : ℕ) (bs : List ℕ) → cells (replicate k false) bs ≡ whole (packed 8 8 k bs)
unfolding cells
cells-words zero bs = refl
cells-words (suc k) bs =
    ap₂ (λ (w : ℕ) (xs : List (Option ℕ)). Some w ∷ xs) (word-number bs) (cells-words k (drop 8 bs))

pub words-packed : (k : ℕ) (bs : List ℕ) → words_in k bs ≡ packed 8 8 k bs
unfolding words_in word_number
words-packed zero bs = refl
words-packed (suc k) bs =
    ap₂ (λ (w : ℕ) (xs : List ℕ). w ∷ xs) (little_from-number 8 bs) (words-packed k (drop 8 bs))

-- ---- zeros at the end change no word

pub number-zeros : (base n p : ℕ) → number base (take n (replicate p 0)) ≡ 0
number-zeros base zero p = refl
number-zeros base (suc n) zero = refl
number-zeros base (suc n) (suc p) = let e = number-zeros base n p in ap (λ (x : ℕ). 0 + base * x) e ∙ omega arith

number-padded : (base n p : ℕ) (cs : List ℕ) → number base (take n (cs ++ replicate p 0)) ≡ number base (take n cs)
number-padded base zero p cs = refl
number-padded base (suc n) p [] = number-zeros base (suc n) p
number-padded base (suc n) p (c ∷ cs) = ap (λ (x : ℕ). c + base * x) (number-padded base n p cs)

drop-zeros : (n p : ℕ) → (q : ℕ) × (drop n (replicate {A = ℕ} p 0) ≡ replicate {A = ℕ} q 0)
drop-zeros zero p = (p, refl)
drop-zeros (suc n) zero = (0, refl)
drop-zeros (suc n) (suc p) = drop-zeros n p

drop-padded : (n p : ℕ) (cs : List ℕ) → (q : ℕ) × (drop n (cs ++ replicate p 0) ≡ drop n cs ++ replicate q 0)
drop-padded zero p cs = (p, refl)
drop-padded (suc n) p [] = drop-zeros (suc n) p
drop-padded (suc n) p (c ∷ cs) = drop-padded n p cs

pub packed-padded : (each width k p : ℕ) (cs : List ℕ)
    → packed each width k (cs ++ replicate p 0) ≡ packed each width k cs
packed-padded each width zero p cs = refl
packed-padded each width (suc k) p cs =
    let d = drop-padded each p cs in
    ap₂ (λ (x : ℕ) (xs : List ℕ). x ∷ xs) (number-padded (2 ^ width) each p cs)
    (ap (packed each width k) d.1 ∙ packed-padded each width k d.0 (drop each cs))

-- ---- numbers of w bytes each

take-behind : (xs ys : List ℕ) (n m : ℕ) → length xs ≡ n → take (n + m) (xs ++ ys) ≡ xs ++ take m ys
take-behind xs ys n m l =
    sym (take-append-drop n (take (n + m) (xs ++ ys)))
    ∙ ap₂ (λ (p q : List ℕ). p ++ q) (take-take n (n + m) (xs ++ ys) (omega arith)
    ∙ take_at xs ys n l) (drop-take n m (xs ++ ys) ∙ ap (take m) (drop_at xs ys n l))

number-append : (base : ℕ) (xs ys : List ℕ)
    → number base (xs ++ ys) ≡ number base xs + base ^ length xs * number base ys
number-append base [] ys = sym (ap (λ (q : ℕ). 0 + q * number base ys) (pow-zero base) ∙ omega arith)
number-append base (x ∷ xs) ys =
    let n = number base ys in
    let e : base * (number base xs + base ^ length xs * n) ≡ base * number base xs + base ^ suc (length xs) * n =
    mul-add base (number base xs) (base ^ length xs * n)
    ∙ ap (λ (y : ℕ). base * number base xs + y) (sym (mul_assoc base (base ^ length xs) n)
    ∙ ap (λ (y : ℕ). y * n) (sym (pow-succ' base (length xs)))) in
    ap (λ (y : ℕ). x + base * y) (number-append base xs ys) ∙ ap (λ (y : ℕ). x + y) e ∙ omega arith

number-low : (w x : ℕ) → x < 256 ^ w → number 256 (little_bytes w x) ≡ x
number-low w x h =
    ap (number 256) (sym (take_all w (little_bytes w x) (let e = length-bytes_low_first 0 w x in omega arith)))
    ∙ sym (little_from-number w (little_bytes w x))
    ∙ ap (little_from 0 w) (sym (append-nil (little_bytes w x)))
    ∙ little_number-reads_back w x [] h

pub length-numbers : (w : ℕ) (xs : List ℕ) → length (flat_map (little_bytes w) xs) ≡ w * length xs
length-numbers w [] = omega arith
length-numbers w (x ∷ xs) =
    let a = length-append (little_bytes w x) (flat_map (little_bytes w) xs) in
    let b = length-bytes_low_first 0 w x in
    let d = length-numbers w xs in
    omega arith

-- 0 and each number of `xs` are below `base`.
abbrev pub AreAllBelow : ℕ → List ℕ → Type 0
AreAllBelow base xs = (i : ℕ) → slice_index xs i < base

number-numbers : (w : ℕ) (xs : List ℕ) → AreAllBelow (256 ^ w) xs
    → number 256 (flat_map (little_bytes w) xs) ≡ number (256 ^ w) xs
number-numbers w [] h = refl
number-numbers w (x ∷ xs) h =
    number-append 256 (little_bytes w x) (flat_map (little_bytes w) xs)
    ∙ ap₂ (λ (y z : ℕ). y + 256 ^ z * number 256 (flat_map (little_bytes w) xs)) (number-low w x (h 0))
    (length-bytes_low_first 0 w x)
    ∙ ap (λ (y : ℕ). x + 256 ^ w * y) (number-numbers w xs (λ i. h (suc i)))

take-numbers : (w each n : ℕ) (xs : List ℕ) → n ≡ each * w
    → take n (flat_map (little_bytes w) xs) ≡ flat_map (little_bytes w) (take each xs)
take-numbers w zero n xs e = let z : n ≡ 0 = omega arith in ap (λ (j : ℕ). take j (flat_map (little_bytes w) xs)) z
take-numbers w (suc each) n [] e = take_all n [] (omega arith)
take-numbers w (suc each) n (x ∷ xs) e =
    let m : n ≡ w + each * w = omega arith in
    let l = length-bytes_low_first 0 w x in
    ap (λ (j : ℕ). take j (little_bytes w x ++ flat_map (little_bytes w) xs)) m
    ∙ take-behind (little_bytes w x) (flat_map (little_bytes w) xs) w (each * w) l
    ∙ ap (λ (ys : List ℕ). little_bytes w x ++ ys) (take-numbers w each (each * w) xs refl)

drop-numbers : (w each n : ℕ) (xs : List ℕ) → n ≡ each * w
    → drop n (flat_map (little_bytes w) xs) ≡ flat_map (little_bytes w) (drop each xs)
drop-numbers w zero n xs e = let z : n ≡ 0 = omega arith in ap (λ (j : ℕ). drop j (flat_map (little_bytes w) xs)) z
drop-numbers w (suc each) n [] e = drop_all n [] (omega arith)
drop-numbers w (suc each) n (x ∷ xs) e =
    let m : n ≡ w + each * w = omega arith in
    let l = length-bytes_low_first 0 w x in
    ap (λ (j : ℕ). drop j (little_bytes w x ++ flat_map (little_bytes w) xs)) m
    ∙ sym (drop-drop (each * w) w (little_bytes w x ++ flat_map (little_bytes w) xs))
    ∙ ap (drop (each * w)) (drop_at (little_bytes w x) (flat_map (little_bytes w) xs) w l)
    ∙ drop-numbers w each (each * w) xs refl

AreAllBelow-drop : (base n : ℕ) (xs : List ℕ) → AreAllBelow base xs → AreAllBelow base (drop n xs)
AreAllBelow-drop base n xs h i = rw (get_or-drop n xs i 0) (h (n + i))

AreAllBelow-take : (base n : ℕ) (xs : List ℕ) → AreAllBelow base xs → AreAllBelow base (take n xs)
AreAllBelow-take base zero xs h i = let z = h 0 in omega arith
AreAllBelow-take base (suc n) [] h i = h i
AreAllBelow-take base (suc n) (x ∷ xs) h zero = h 0
AreAllBelow-take base (suc n) (x ∷ xs) h (suc i) = AreAllBelow-take base n xs (λ j. h (suc j)) i

-- If `each` numbers of `w` bytes fill a word, the numbers `xs` and their bytes pack into the same words.
pub packed-numbers : (w each width k : ℕ) (xs : List ℕ) → 8 ≡ each * w → 256 ^ w ≡ 2 ^ width → AreAllBelow (256 ^ w) xs
    → packed 8 8 k (flat_map (little_bytes w) xs) ≡ packed each width k xs
packed-numbers w each width zero xs e b h = refl
packed-numbers w each width (suc k) xs e b h =
    let first : number 256 (take 8 (flat_map (little_bytes w) xs)) ≡ number (2 ^ width) (take each xs) =
    ap (number 256) (take-numbers w each 8 xs e)
    ∙ number-numbers w (take each xs) (AreAllBelow-take (256 ^ w) each xs h)
    ∙ ap (λ (base : ℕ). number base (take each xs)) b in
    ap₂ (λ (x : ℕ) (ys : List ℕ). x ∷ ys) first
    (ap (packed 8 8 k) (drop-numbers w each 8 xs e)
    ∙ packed-numbers w each width k (drop each xs) e b (AreAllBelow-drop (256 ^ w) each xs h))

pub packed-words : (xs : List ℕ) → packed 1 64 (length xs) xs ≡ xs
packed-words [] = refl
packed-words (x ∷ xs) = ap₂ (λ (y : ℕ) (ys : List ℕ). y ∷ ys) (omega arith) (packed-words xs)

-- ---- zeros over which bytes are written

pub written_over : (old items held ys : List ℕ) (start size p n : ℕ) → items ≡ old ++ replicate (size + p) 0
    → held ≡ items → start ≡ length old → length ys ≡ size → n ≡ length items
    → take n ((take start held ++ (ys ++ drop (start + size - start) (drop start held)))
    ++ drop (length (take start held ++ (ys ++ drop (start + size - start) (drop start held)))) items)
    ≡ old ++ (ys ++ replicate p 0)
written_over old items held ys start size p n ei eh es ly en =
    let r = old ++ (ys ++ replicate p 0) in
    let z : length old + size - length old ≡ size = omega arith in
    let d : size + p - size ≡ p = omega arith in
    let whole_of : take start held ++ (ys ++ drop (start + size - start) (drop start held)) ≡ r =
    ap₂ (λ (s : ℕ) (q : List ℕ). take s q ++ (ys ++ drop (s + size - s) (drop s q))) es (eh ∙ ei)
    ∙ ap₂ (λ (x y : List ℕ). x ++ (ys ++ drop (length old + size - length old) y))
    (take_at old (replicate (size + p) 0) (length old) refl) (drop_at old (replicate (size + p) 0) (length old) refl)
    ∙ ap (λ (j : ℕ). old ++ (ys ++ drop j (replicate (size + p) 0))) z
    ∙ ap (λ (x : List ℕ). old ++ (ys ++ x)) (drop-replicate size (size + p) 0 ∙ ap (λ (j : ℕ). replicate j 0) d) in
    let a = ap length ei in
    let b = length-append old (replicate (size + p) 0) in
    let e = length-replicate {A = ℕ} (size + p) 0 in
    let f = length-append old (ys ++ replicate p 0) in
    let g = length-append ys (replicate p 0) in
    let h = length-replicate {A = ℕ} p 0 in
    ap (λ (q : List ℕ). take n (q ++ drop (length q) items)) whole_of
    ∙ ap (λ (q : List ℕ). take n (r ++ q)) (drop_all (length r) items (omega arith))
    ∙ ap (take n) (append-nil r)
    ∙ take_all n r (omega arith)
