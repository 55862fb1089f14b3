-- Bytes that begin with equal words. (For `blocks.rt`.)
use Rattle.std.proofs.Common.{◌≡◌, ◌↔◌, ◌⊎◌, inl, inr, ℕ, zero, suc, ◌+◌, ◌-◌, ◌*◌, ◌^◌, ◌<◌, ◌≤◌, ◌==◌, Bool, List}
use Rattle.std.proofs.Common.{IsTrue, length, take, drop, slice_index, ap, sym, subst, ◌∙◌, arith, length-drop}
use Rattle.std.proofs.lemmas.Bool.{cases_lt, eqb-true, eq-eqb}
use Rattle.std.proofs.lemmas.List.{drop-drop, get_or-take, get_or-drop, get_or_past, length-take-le}
use Rattle.capn_words.specs.Message.{IsMessage, AreWords, segment_at, bytes, bytes_at, word_number}
use Rattle.capn_words.specs.declared.space.Place.{Place}
use Rattle.capn_words.proofs.shared.Words.{bytes-drop, bytes-take, word_in, words_of_bytes}
use Rattle.capn_target.specs.Shapes.{IsContent}
use Rattle.capn_same.specs.inner.Runs.{AreEqual, BeginAlike}

alike-first : (xs ys : List ℕ) → word_number xs ≡ word_number ys → BeginAlike xs ys 1
alike-first xs ys e zero lt = e
alike-first xs ys e (suc i) lt = absurd (omega arith)

pub one-alike : (xs ys : List ℕ) (x y : ℕ) → x ≡ word_number xs → y ≡ word_number ys
    → IsTrue (x == y) ↔ BeginAlike xs ys 1
one-alike xs ys x y ex ey = (
  (λ t. alike-first xs ys (sym ex ∙ eqb-true x y t ∙ ey)),
  (λ h. eq-eqb x y (ex ∙ h 0 (omega arith) ∙ sym ey)),
)

pub dropped : (a : ℕ) (xs us ws : List ℕ) → us ≡ drop a xs → ws ≡ drop a us → ws ≡ drop (a + a) xs
dropped a xs us ws e f = f ∙ ap (λ (l : List ℕ). drop a l) e ∙ drop-drop a a xs

pub left-over : (a n : ℕ) (xs us : List ℕ) → us ≡ drop a xs → a + n ≤ length xs → n ≤ length us
left-over a n xs us e h = let d = ap length e ∙ length-drop a xs in omega (arith, d)

module _ (xs ys : List ℕ) (n m : ℕ) where
  joined : BeginAlike xs ys n → BeginAlike (drop (8 * n) xs) (drop (8 * n) ys) m → BeginAlike xs ys (n + m)
  joined p q i lt = by (cases_lt i n)
    where
      by : (i < n) ⊎ (n ≤ i) → word_number (drop (8 * i) xs) ≡ word_number (drop (8 * i) ys)
      by (inl l) = p i l
      by (inr le) =
          let e : 8 * n + 8 * (i - n) ≡ 8 * i = omega arith in
          sym (ap word_number (drop-drop (8 * (i - n)) (8 * n) xs ∙ ap (λ (j : ℕ). drop j xs) e))
          ∙ q (i - n) (omega arith)
          ∙ ap word_number (drop-drop (8 * (i - n)) (8 * n) ys ∙ ap (λ (j : ℕ). drop j ys) e)

  pub begins : BeginAlike xs ys (n + m) → BeginAlike xs ys n
  begins h i lt = h i (omega arith)

  ends : BeginAlike xs ys (n + m) → BeginAlike (drop (8 * n) xs) (drop (8 * n) ys) m
  ends h i lt =
      let e : 8 * n + 8 * i ≡ 8 * (n + i) = omega arith in
      ap word_number (drop-drop (8 * i) (8 * n) xs ∙ ap (λ (j : ℕ). drop j xs) e) ∙ h (n + i) (omega arith)
      ∙ sym (ap word_number (drop-drop (8 * i) (8 * n) ys ∙ ap (λ (j : ℕ). drop j ys) e))

module _ (xs ys us vs : List ℕ) (n m b : ℕ) (eu : us ≡ drop b xs) (ev : vs ≡ drop b ys) (eb : b ≡ 8 * n) where
  left : us ≡ drop (8 * n) xs
  left = eu ∙ ap (λ (j : ℕ). drop j xs) eb

  right : vs ≡ drop (8 * n) ys
  right = ev ∙ ap (λ (j : ℕ). drop j ys) eb

  -- if the first `n` words are equal, and the `m` words after them, then the first `n + m` words are equal
  pub both-alike : BeginAlike xs ys n → BeginAlike us vs m → BeginAlike xs ys (n + m)
  both-alike p q =
      joined xs ys n m p (subst (λ (z : List ℕ). BeginAlike z (drop (8 * n) ys) m) left
      (subst (λ (z : List ℕ). BeginAlike us z m) right q))

  pub rest-alike : BeginAlike xs ys (n + m) → BeginAlike us vs m
  rest-alike h =
      subst (λ (z : List ℕ). BeginAlike us z m) (sym right)
      (subst (λ (z : List ℕ). BeginAlike z (drop (8 * n) ys) m) (sym left) (ends xs ys n m h))

  -- if the first `n` words are equal, `r` tells whether the first `n + m` words are equal
  pub halves : (r : Bool) → BeginAlike xs ys n → (IsTrue r ↔ BeginAlike us vs m) → IsTrue r ↔ BeginAlike xs ys (n + m)
  halves r p q = ((λ t. both-alike p (q.0 t)), (λ h. q.1 (rest-alike h)))

-- ---- one block more

pub block-dropped : (xs us ws : List ℕ) (i j : ℕ) → j ≡ i + 1 → us ≡ drop (64 * i) xs → ws ≡ drop 64 us
    → ws ≡ drop (64 * j) xs
block-dropped xs us ws i j e eu ew =
    let z : 64 * i + 64 ≡ 64 * j = omega arith in
    ew ∙ ap (λ (l : List ℕ). drop 64 l) eu ∙ drop-drop 64 (64 * i) xs ∙ ap (λ (k : ℕ). drop k xs) z

pub block-left : (xs us : List ℕ) (i n : ℕ) → us ≡ drop (64 * i) xs → length xs ≡ 64 * n → i < n → 64 ≤ length us
block-left xs us i n eu size lt = left-over (64 * i) 64 xs us eu (omega arith)

module _ (xs ys us vs : List ℕ) (i : ℕ) (eu : us ≡ drop (64 * i) xs) (ev : vs ≡ drop (64 * i) ys) where
  same-size : 64 * i ≡ 8 * (8 * i)
  same-size = omega arith

  pub block-more : (j : ℕ) → j ≡ i + 1 → BeginAlike xs ys (8 * i) → BeginAlike us vs 8 → BeginAlike xs ys (8 * j)
  block-more j e p q =
      let z : 8 * i + 8 ≡ 8 * j = omega arith in
      subst (BeginAlike xs ys) z (both-alike xs ys us vs (8 * i) 8 (64 * i) eu ev same-size p q)

  pub block-of : (n : ℕ) → i < n → BeginAlike xs ys (8 * n) → BeginAlike us vs 8
  block-of n lt h =
      rest-alike xs ys us vs (8 * i) 8 (64 * i) eu ev same-size (λ k below. h k (omega arith))

-- ---- the words of a message

module _ (m : List (List ℕ)) (at : Place) (n : ℕ) (bs : List ℕ) (message : IsMessage m) (content : IsContent m at n)
    (are : bs ≡ bytes_at m at (8 * n)) where
  abbrev ws : List ℕ
  ws = drop at.word (segment_at m at.segment)

  abbrev vs : List ℕ
  vs = take n ws

  in-vs : (i : ℕ) → i < n → slice_index vs i ≡ slice_index (segment_at m at.segment) (at.word + i)
  in-vs i lt = get_or-take n ws i 0 lt ∙ get_or-drop at.word (segment_at m at.segment) i 0

  size : length vs ≡ n
  size =
      let within = content.within in
      let rest = length-drop at.word (segment_at m at.segment) in
      length-take-le n ws (omega (arith, rest))

  below : AreWords vs
  below k = by (cases_lt k n)
    where
      by : (k < n) ⊎ (n ≤ k) → slice_index vs k < 2 ^ 64
      by (inl lt) = let e = in-vs k lt in let h = message.each at.segment (at.word + k) in omega (arith, e, h)
      by (inr le) = let e = get_or_past vs k 0 (omega (arith, size)) in omega (arith, e)

  of-words : bs ≡ bytes vs
  of-words =
      are ∙ ap (λ (l : List ℕ). take (8 * n) l) (bytes-drop at.word (segment_at m at.segment)) ∙ bytes-take n ws

  pub word-there : (i : ℕ) → i < n
      → word_number (drop (8 * i) bs) ≡ slice_index (segment_at m at.segment) (at.word + i)
  word-there i lt =
      ap (λ (l : List ℕ). word_number (drop (8 * i) l)) of-words
      ∙ sym (word_in (length vs) i (bytes vs) (omega (arith, size)))
      ∙ ap (λ (l : List ℕ). slice_index l i) (words_of_bytes vs below) ∙ in-vs i lt

-- the bytes of `n` words of two messages begin with `n` equal words exactly if these words are equal
pub alike-equal : (m k : List (List ℕ)) (at beside : Place) (n z : ℕ) (xs ys : List ℕ) → IsMessage m → IsMessage k
    → IsContent m at n → IsContent k beside n → z ≡ 8 * n → xs ≡ bytes_at m at z → ys ≡ bytes_at k beside z
    → BeginAlike xs ys n
    ↔ AreEqual (segment_at m at.segment) at.word (segment_at k beside.segment) beside.word n
alike-equal m k at beside n z xs ys im ik here there e ex ey =
    let x = ex ∙ ap (bytes_at m at) e in
    let y = ey ∙ ap (bytes_at k beside) e in (
      (λ h i lt. sym (word-there m at n xs im here x i lt) ∙ h i lt ∙ word-there k beside n ys ik there y i lt),
      (λ h i lt. word-there m at n xs im here x i lt ∙ h i lt ∙ sym (word-there k beside n ys ik there y i lt)),
    )
