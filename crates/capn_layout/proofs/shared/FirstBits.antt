-- Packing elements that were read from words gives the first bits of these words. (For `append_bits`, capn_canon and
-- capn_mismatch.)
use Rattle.std.proofs.Common.{◌≡◌, ◌≢◌, ℕ, zero, suc, ◌+◌, ◌*◌, ◌/◌, ◌%◌, ◌^◌, ◌<◌, ◌≤◌, List, []}
use Rattle.std.proofs.Common.{◌∷◌, ◌++◌, length, take, drop, slice_index, refl, ap, ap₂, sym, subst, ◌∙◌}
use Rattle.std.proofs.Common.{arith, append-nil, append_assoc, length-drop}
use Rattle.std.proofs.Math.Nat.{div-div-eq-div-mul, pow-succ', pow-zero, mod-lt, mod-eq_of_lt, div-eq_of_lt}
use Rattle.std.proofs.Math.Nat.{add-div_right, add-mod_right, div-add-mod}
use Rattle.std.proofs.Math.Arith.{mod-mul}
use Rattle.std.proofs.lemmas.Nat.{pow-add, pow_below}
use Rattle.std.proofs.lemmas.List.{get_or-drop, get_or-take, length-take-le, take_all, drop-drop}
use Rattle.capn_value.specs.NumberWidth.{oct, bits_in, per_word}
use Rattle.capn_value.specs.Tree.{Tree, nil, node, voids, numbers, links, rows, cap}
use Rattle.capn_words.specs.declared.pointer.Width.{Width}
use Rattle.capn_words.specs.declared.pointer.Width.TheVariants.{W0, W1, W8, W16, W32, W64, Link, Rows}
use Rattle.capn_target.specs.declared.target.Shape.TheVariants as shapes
use Rattle.capn_walk.specs.ValueAt.{AreElements, words_from}
use Rattle.capn_target.specs.Target.{content_words, words_for, list_width}
use Rattle.capn_walk.specs.ValueAt.{IsInside}
use Rattle.capn_target.specs.Shapes.{IsPlain}
use Rattle.capn_layout.specs.Layout.{number, packed, lay, point, list_to}
use Rattle.capn_layout.specs.FirstBits.{element_bits, last_bits, first_bits}

pow-positive : (base n : ℕ) → 0 < base → 0 < base ^ n
pow-positive base zero h = let e = pow-zero base in omega arith
pow-positive base (suc n) h = let e = pow-succ' base n in let k = pow-positive base n h in
    rw e (positive base (base ^ n) h k)
  where
    positive : (a b : ℕ) → 0 < a → 0 < b → 0 < a * b
    positive zero b h k = absurd (omega arith)
    positive (suc a) b h k = let e : suc a * b ≡ b + a * b = omega arith in omega arith

-- If `xs` are the lowest digits of `w` in base `base`, `number base xs` is `w` modulo `base ^ length xs`.
pub digits : (base : ℕ) → 0 < base → (xs : List ℕ) (w : ℕ)
    → ((i : ℕ) → i < length xs → slice_index xs i ≡ w / base ^ i % base) → number base xs ≡ w % base ^ length xs
digits base p [] w h = let e = pow-zero base in rw e (omega arith)
digits base p (x ∷ xs) w h =
    let first : x ≡ w % base = h 0 (omega arith) ∙ ap (λ (q : ℕ). w / q % base) (pow-zero base)
    ∙ (let e : w / 1 ≡ w = omega arith in ap (λ (q : ℕ). q % base) e) in
    let ih = digits base p xs (w / base) (λ i l. h (suc i) (omega arith)
    ∙ ap (λ (q : ℕ). w / q % base) (pow-succ' base i)
    ∙ ap (λ (q : ℕ). q % base) (sym (div-div-eq-div-mul w base (base ^ i)))) in
    let k = pow-positive base (length xs) p in
    let all = mod-mul w {m = base ^ length xs} {c = base} k p in
    let e : base ^ suc (length xs) ≡ base ^ length xs * base = pow-succ' base (length xs) ∙ omega arith in
    ap₂ (λ (a b : ℕ). a + base * b) first ih
    ∙ (let c : w % base + base * (w / base % base ^ length xs) ≡ w / base % base ^ length xs * base + w % base =
    omega arith in c) ∙ sym all ∙ ap (λ (q : ℕ). w % q) (sym e)

pow-times : (width n : ℕ) → (2 ^ width) ^ n ≡ 2 ^ (width * n)
pow-times width zero = let z : width * 0 ≡ 0 = omega arith in pow-zero (2 ^ width) ∙ ap (λ (q : ℕ). 2 ^ q) (sym z)
pow-times width (suc n) =
    let e : width + width * n ≡ width * suc n = omega arith in
    pow-succ' (2 ^ width) n ∙ ap (λ (q : ℕ). 2 ^ width * q) (pow-times width n) ∙ sym (pow-add 2 width (width * n))
    ∙ ap (λ (q : ℕ). 2 ^ q) e

module _ (each width : ℕ) (some : 0 < each) (room : width * each ≡ 64) where
  abbrev base : ℕ
  base = 2 ^ width

  base-some : 0 < 2 ^ width
  base-some = pow-positive 2 width (omega arith)

  first-word : (ws xs : List ℕ) → length xs ≤ each → AreElements each width ws xs
      → number (2 ^ width) xs ≡ slice_index ws 0 % 2 ^ (width * length xs)
  first-word ws xs le h =
      digits (2 ^ width) base-some xs (slice_index ws 0)
      (λ i l.
      let lt : i < each = omega arith in
      h i l ∙ ap₂ (λ (a b : ℕ). slice_index ws a / (2 ^ width) ^ b % 2 ^ width) (div-eq_of_lt lt) (mod-eq_of_lt lt))
      ∙ ap (λ (q : ℕ). slice_index ws 0 % q) (pow-times width (length xs))

  take-elements : (ws xs : List ℕ) → each ≤ length xs → AreElements each width ws xs
      → AreElements each width ws (take each xs)
  take-elements ws xs le h i l =
      let t = length-take-le each xs le in
      get_or-take each xs i 0 (omega arith) ∙ h i (omega arith)

  drop-elements : (ws xs : List ℕ) → AreElements each width ws xs → AreElements each width (drop 1 ws) (drop each xs)
  drop-elements ws xs h i l =
      let t = length-drop each xs in
      let e : each + i ≡ i + each = omega arith in
      get_or-drop each xs i 0
      ∙ ap (slice_index xs) e
      ∙ h (i + each) (omega arith)
      ∙ ap₂ (λ (a b : ℕ). slice_index ws a / (2 ^ width) ^ b % 2 ^ width) (add-div_right i some) (add-mod_right i each)
      ∙ ap (λ (w : ℕ). w / (2 ^ width) ^ (i % each) % 2 ^ width)
      ((let f : i / each + 1 ≡ 1 + i / each = omega arith in ap (slice_index ws) f)
      ∙ sym (get_or-drop 1 ws (i / each) 0))

  drop-below : (n : ℕ) (ws : List ℕ) → ((i : ℕ) → slice_index ws i < 2 ^ 64) → (i : ℕ)
      → slice_index (drop n ws) i < 2 ^ 64
  drop-below n ws h i = let e = get_or-drop n ws i 0 in let k = h (n + i) in omega arith

  front-more : (q : ℕ) (ws : List ℕ) → 0 < length ws → take (suc q) ws ≡ slice_index ws 0 ∷ take q (drop 1 ws)
  front-more q [] h = absurd (omega arith)
  front-more q (w ∷ ws) h = refl

  rest-packed : (r k : ℕ) (ws xs : List ℕ) → length xs ≡ r → r < each → k ≡ words_for (width * r)
      → AreElements each width ws xs → packed each width k xs ≡ last_bits (width * r) ws
  rest-packed zero k ws xs l lt e h =
      let z : width * 0 ≡ 0 = omega arith in
      let y : k ≡ 0 = e ∙ ap words_for z in
      ap (λ (j : ℕ). packed each width j xs) y ∙ ap (λ (j : ℕ). last_bits j ws) (sym z)
  rest-packed (suc r) k ws xs l lt e h =
      let few = below-word (suc r) lt in
      let pos = times-some (suc r) (omega arith) in
      let one : k ≡ suc 0 = omega arith in
      ap (λ (j : ℕ). packed each width j xs) one
      ∙ ap (λ (x : ℕ). x ∷ []) (ap (number (2 ^ width)) (take_all each xs (omega arith))
      ∙ first-word ws xs (omega arith) h ∙ ap (λ (j : ℕ). slice_index ws 0 % 2 ^ (width * j)) l)
      ∙ sym (some-bits (width * suc r) ws pos)
    where
      times-some : (r : ℕ) → 0 < r → 0 < width * r
      times-some zero h = absurd (omega arith)
      times-some (suc r) h = width-some width room
        where
          width-some : (x : ℕ) → x * each ≡ 64 → 0 < x * suc r
          width-some zero e = absurd (omega arith)
          width-some (suc x) e = let f : suc x * suc r ≡ suc r + x * suc r = omega arith in omega arith

      below-word : (r : ℕ) → r < each → width * r < 64
      below-word r lt = let p = times-below width r each (width-positive width room) lt in omega arith
        where
          width-positive : (x : ℕ) → x * each ≡ 64 → 0 < x
          width-positive zero e = absurd (omega arith)
          width-positive (suc x) e = omega arith

          times-below : (x a b : ℕ) → 0 < x → a < b → x * a < x * b
          times-below zero a b p l = absurd (omega arith)
          times-below (suc zero) a b p l = omega arith
          times-below (suc (suc x)) a b p l =
              let ih = times-below (suc x) a b (omega arith) l in
              let e : suc (suc x) * a ≡ suc x * a + a = omega arith in
              let f : suc (suc x) * b ≡ suc x * b + b = omega arith in
              omega arith

      some-bits : (n : ℕ) (ws : List ℕ) → 0 < n → last_bits n ws ≡ slice_index ws 0 % 2 ^ n ∷ []
      some-bits zero ws h = absurd (omega arith)
      some-bits (suc n) ws h = refl

  packed-full : (q r k : ℕ) (ws xs : List ℕ) → length xs ≡ each * q + r → r < each → k ≡ q + words_for (width * r)
      → q ≤ length ws → ((i : ℕ) → slice_index ws i < 2 ^ 64) →
      AreElements each width ws xs → packed each width k xs ≡ take q ws ++ last_bits (width * r) (drop q ws)
  packed-full zero r k ws xs l lt e le below h =
      rest-packed r k ws xs (let z : each * 0 ≡ 0 = omega arith in omega arith) lt (omega arith) h
  packed-full (suc q) r k ws xs l lt e le below h =
      let m : each * suc q ≡ each + each * q = omega arith in
      let long : each ≤ length xs = omega arith in
      let t = length-take-le each xs long in
      let k1 : k ≡ suc (q + words_for (width * r)) = omega arith in
      let d = length-drop each xs in
      let d1 = length-drop 1 ws in
      let o : 1 + q ≡ suc q = omega arith in
      let bits64 : width * length (take each xs) ≡ 64 = ap (λ (j : ℕ). width * j) t ∙ room in
      let head : number (2 ^ width) (take each xs) ≡ slice_index ws 0 =
      first-word ws (take each xs) (omega arith) (take-elements ws xs long h)
      ∙ ap (λ (j : ℕ). slice_index ws 0 % 2 ^ j) bits64 ∙ mod-eq_of_lt (below 0) in
      ap (λ (j : ℕ). packed each width j xs) k1
      ∙ ap₂ (λ (x : ℕ) (ys : List ℕ). x ∷ ys) head
      (packed-full q r (q + words_for (width * r)) (drop 1 ws) (drop each xs) (omega arith) lt refl (omega arith)
      (drop-below 1 ws below) (drop-elements ws xs h)
      ∙ ap (λ (ys : List ℕ). take q (drop 1 ws) ++ last_bits (width * r) ys) (drop-drop q 1 ws
      ∙ ap (λ (j : ℕ). drop j ws) o))
      ∙ ap (λ (ys : List ℕ). ys ++ last_bits (width * r) (drop (suc q) ws)) (sym (front-more q ws (omega arith)))

  pub packed-first : (n : ℕ) (ws xs : List ℕ) → length xs ≡ n → width * n / 64 ≡ n / each
      → width * n % 64 ≡ width * (n % each) → words_for (width * n) ≡ n / each + words_for (width * (n % each)) →
      n / each ≤ length ws → ((i : ℕ) → slice_index ws i < 2 ^ 64) → AreElements each width ws xs
      → packed each width (words_for (width * n)) xs ≡ first_bits (width * n) ws
  packed-first n ws xs l eq er ek le below h =
      let split : n ≡ each * (n / each) + n % each = sym (div-add-mod n each) in
      packed-full (n / each) (n % each) (words_for (width * n)) ws xs (l ∙ split) (mod-lt n some) ek le below h
      ∙ ap₂ (λ (q r : ℕ). take q ws ++ last_bits r (drop q ws)) (sym eq) (sym er)

no-words : (ws : List ℕ) (n : ℕ) → n ≡ 0 → [] ≡ first_bits n ws
no-words ws n e = ap (λ (j : ℕ). first_bits j ws) (sym e)

whole-words : (ws : List ℕ) (n k : ℕ) → k ≡ 64 * n → take n ws ≡ first_bits k ws
whole-words ws n k e =
    let a : n ≡ k / 64 = omega arith in
    let b : 0 ≡ k % 64 = omega arith in
    sym (append-nil (take n ws)) ∙ ap₂ (λ (q r : ℕ). take q ws ++ last_bits r (drop q ws)) a b

-- The lemma of this block: if a list `v` without pointers has its content at word `w`, the layout of `v` is the first
-- bits of the words from `w` on. The pointer to `v` is then `list_to`.
module _ (m : List (List ℕ)) (width : Width) (n s w : ℕ) (plain : IsPlain width) (below : (i : ℕ)
    → slice_index (words_from m s w) i < 2 ^ 64)
    (inside : words_for (element_bits width * n) ≤ length (words_from m s w)) where
  abbrev pub IsListOf : Tree → Type 0
  IsListOf v = ((at : ℕ) → lay v at ≡ first_bits (element_bits width * n) (words_from m s w))
      × ((from to : ℕ) → point v from to ≡ list_to from to width n)

  pub list-of : (v : Tree) → IsInside m (shapes.Many width n) s w v → IsListOf v
  unfolding point
  list-of nil h = absurd h
  list-of (cap k) h = absurd h
  list-of (node ws ss) h = let f = h.0 in absurd (cc)
  list-of (links ts) h = let f = h.0 in let e : width ≡ Link = cc in absurd (subst IsPlain e plain)
  list-of (rows bs) h = let f = h.3 in absurd (cc)
  list-of (voids k) h =
      let ew : width ≡ W0 = cc in
      let en : n ≡ k = cc in (
        λ at. no-words (words_from m s w) (element_bits width * n) (ap (λ (x : Width). element_bits x * n) ew
            ∙ omega arith),
        λ from to. sym (ap₂ (list_to from to) ew en),
      )
  list-of (numbers oct xs) h =
      let f = h.0 in
      let ew : width ≡ W64 = cc in
      let en : n ≡ length xs = cc in (
        λ at. sym h.1
            ∙ whole-words (words_from m s w) (length xs) (element_bits width * n)
            (ap₂ (λ (x : Width) (j : ℕ). element_bits x * j) ew en),
        λ from to. sym (ap₂ (list_to from to) ew en),
      )
  list-of (numbers a xs) h =
      let f = h.0 in
      let ew : width ≡ list_width a = cc in
      let en : n ≡ length xs = cc in
      let eb : element_bits width * n ≡ bits_in a * length xs = ap₂ (λ (x : Width) (j : ℕ). element_bits x * j) ew en in
      let size : content_words (list_width a) (length xs) ≡ words_for (bits_in a * length xs) = omega arith in (
        λ at. ap (λ (j : ℕ). packed (per_word a) (bits_in a) j xs) size
            ∙ packed-first (per_word a) (bits_in a) (omega arith) refl (length xs) (words_from m s w) xs refl
            (omega arith) (omega arith) (omega arith) (omega arith) below h.1
            ∙ ap (λ (j : ℕ). first_bits j (words_from m s w)) (sym eb),
        λ from to. sym (ap₂ (list_to from to) ew en),
      )

pub some-last : (n : ℕ) (ws : List ℕ) → 0 < n → last_bits n ws ≡ slice_index ws 0 % 2 ^ n ∷ []
some-last zero ws h = absurd (omega arith)
some-last (suc n) ws h = refl

-- Appending the complete words of `n` bits, and then the lowest bits of the next word, appends the first `n` bits.
pub bits-appended : (seg : List ℕ) (w n word mask : ℕ) (p q r : List ℕ) → n % 64 ≢ 0
    → q ≡ p ++ take (n / 64) (drop w seg) → word ≡ slice_index seg (w + n / 64) → mask ≡ 2 ^ (n % 64) →
    r ≡ q ++ word % mask ∷ [] → r ≡ p ++ first_bits n (drop w seg)
bits-appended seg w n word mask p q r ne eq ew em er =
    let z : w + (n / 64 + 0) ≡ w + n / 64 = omega arith in
    let at : slice_index (drop (n / 64) (drop w seg)) 0 ≡ word = get_or-drop (n / 64) (drop w seg) 0 0
    ∙ get_or-drop w seg (n / 64 + 0) 0 ∙ ap (slice_index seg) z ∙ sym ew in
    let last : last_bits (n % 64) (drop (n / 64) (drop w seg)) ≡ word % mask ∷ [] =
    some-last (n % 64) (drop (n / 64) (drop w seg)) (omega arith) ∙ ap₂ (λ (x y : ℕ). x % y ∷ []) at (sym em) in
    er ∙ ap (λ (x : List ℕ). x ++ word % mask ∷ []) eq
    ∙ append_assoc p (take (n / 64) (drop w seg)) (word % mask ∷ [])
    ∙ ap (λ (x : List ℕ). p ++ (take (n / 64) (drop w seg) ++ x)) (sym last)

pub words-appended : (ws : List ℕ) (n : ℕ) (p q : List ℕ) → n % 64 ≡ 0 → q ≡ p ++ take (n / 64) ws
    → q ≡ p ++ first_bits n ws
words-appended ws n p q e eq =
    eq ∙ ap (λ (x : List ℕ). p ++ x) (sym (append-nil (take (n / 64) ws))
    ∙ ap (λ (r : ℕ). take (n / 64) ws ++ last_bits r (drop (n / 64) ws)) (sym e))

pub plain-words : (width : Width) (n : ℕ) → IsPlain width → words_for (element_bits width * n) ≡ content_words width n
plain-words W0 n h = omega arith
plain-words W1 n h = omega arith
plain-words W8 n h = refl
plain-words W16 n h = refl
plain-words W32 n h = refl
plain-words W64 n h = omega arith
plain-words Link n h = absurd h
plain-words Rows n h = absurd h

pub shifted-one : (k : ℕ) → k < 64 → 1 * 2 ^ k % 2 ^ 64 ≡ 2 ^ k
shifted-one k h =
    let p : 2 ^ k < 2 ^ 64 = pow_below k 64 h in
    let e : 1 * 2 ^ k ≡ 2 ^ k = omega arith in
    ap (λ (x : ℕ). x % 2 ^ 64) e ∙ mod-eq_of_lt p
