-- The first words of a slice of bytes, after some of its bytes are written. (For `bits.rt`, `draft.rt`,
-- `number_list_words.rt` and others.)
use Rattle.std.proofs.Common.{◌≡◌, ℕ, zero, suc, ◌+◌, ◌-◌, ◌*◌, ◌^◌, ◌<◌, ◌≤◌, List, [], ◌∷◌, ◌++◌, length, take, drop}
use Rattle.std.proofs.Common.{set, replicate, refl, ap, ap₂, sym, subst, ◌∙◌, arith, append_assoc, append-nil}
use Rattle.std.proofs.Common.{length-append, length-drop}
use Rattle.std.proofs.lemmas.List.{length-take-le, take-append-drop, take_at, drop_at, drop-drop, take-append-le}
use Rattle.std.proofs.lemmas.List.{drop-append-le, drop-replicate, length-replicate}
use Rattle.capn_words.specs.Message.{AreBytes, word_bytes, word_number, bytes, words_in}
use Rattle.capn_words.proofs.shared.Words.{length-word_bytes, length-words_in, number-word_bytes, bytes_of_words}
use Rattle.capn_layout.specs.Layout.{number, packed}
use Rattle.capn_layout.specs.inner.Draft.{Writes, IsKept, Appends, Puts}
use Rattle.capn_layout.proofs.writer.Bytes.{AreBytes-take}
use Rattle.capn_layout.proofs.writer.PackedBytes.{little_from-number, number-zeros, words-packed, packed-padded}

word-front : (xs ys : List ℕ) → 8 ≤ length xs → word_number (xs ++ ys) ≡ word_number xs
unfolding word_number
word-front xs ys h =
    little_from-number 8 (xs ++ ys) ∙ ap (number 256) (take-append-le 8 xs ys h) ∙ sym (little_from-number 8 xs)

words-front : (n : ℕ) (xs ys : List ℕ) → 8 * n ≤ length xs → words_in n (xs ++ ys) ≡ words_in n xs
unfolding words_in
words-front zero xs ys h = refl
words-front (suc n) xs ys h =
    let d = length-drop 8 xs in
    ap₂ (λ (x : ℕ) (y : List ℕ). x ∷ y) (word-front xs ys (omega arith))
    (ap (words_in n) (drop-append-le 8 xs ys (omega arith)) ∙ words-front n (drop 8 xs) ys (omega arith))

words-split : (n k : ℕ) (bs : List ℕ) → words_in (n + k) bs ≡ words_in n bs ++ words_in k (drop (8 * n) bs)
unfolding words_in
words-split zero k bs = let z : 0 + k ≡ k = omega arith in ap (λ (j : ℕ). words_in j bs) z
words-split (suc n) k bs =
    let e : 8 + 8 * n ≡ 8 * suc n = omega arith in
    let z : suc n + k ≡ suc (n + k) = omega arith in
    ap (λ (j : ℕ). words_in j bs) z
    ∙ ap (λ (x : List ℕ). word_number bs ∷ x)
    (words-split n k (drop 8 bs)
    ∙ ap (λ (x : List ℕ). words_in n (drop 8 bs) ++ words_in k x)
    (drop-drop (8 * n) 8 bs ∙ ap (λ (j : ℕ). drop j bs) e))

pub words-none : (bs : List ℕ) → words_in 0 bs ≡ []
unfolding words_in
words-none bs = refl

words-next : (k : ℕ) (bs : List ℕ) → words_in (suc k) bs ≡ word_number bs ∷ words_in k (drop 8 bs)
unfolding words_in
words-next k bs = refl

words-joined : (n k : ℕ) (xs ys : List ℕ) → length xs ≡ 8 * n
    → words_in (n + k) (xs ++ ys) ≡ words_in n xs ++ words_in k ys
words-joined n k xs ys l =
    words-split n k (xs ++ ys)
    ∙ ap₂ (λ (x y : List ℕ). x ++ y) (words-front n xs ys (omega arith)) (ap (words_in k) (drop_at xs ys (8 * n) l))

words-begin : (n : ℕ) (bs : List ℕ) → 8 * n ≤ length bs → words_in n (take (8 * n) bs) ≡ words_in n bs
words-begin n bs h =
    let l = length-take-le (8 * n) bs h in
    sym (words-front n (take (8 * n) bs) (drop (8 * n) bs) (omega arith))
    ∙ ap (words_in n) (take-append-drop (8 * n) bs)

module _ (at : ℕ) (xs p q : List ℕ) (room : at + length xs ≤ length p) (h : Writes at xs p q) where
  written-same : length q ≡ length p
  written-same =
      let u = length-append (take at p) (xs ++ drop (at + length xs) p) in
      let v = length-append xs (drop (at + length xs) p) in
      let t = length-take-le at p (omega arith) in
      let d = length-drop (at + length xs) p in
      ap length h ∙ omega arith

  past-writing : (m : ℕ) → at + length xs ≤ m → drop m q ≡ drop m p
  past-writing m le =
      let end = at + length xs in
      let u = length-append (take at p) xs in
      let t = length-take-le at p (omega arith) in
      let z : end + (m - end) ≡ m = omega arith in
      ap (λ (j : ℕ). drop j q) (sym z) ∙ sym (drop-drop (m - end) end q)
      ∙ ap (drop (m - end))
      (ap (drop end) (h ∙ sym (append_assoc (take at p) xs (drop end p)))
      ∙ drop_at (take at p ++ xs) (drop end p) end (omega arith))
      ∙ drop-drop (m - end) end p ∙ ap (λ (j : ℕ). drop j p) z

-- Writing `xs`, the bytes of `k` words, after the first `n` words of `p` appends these `k` words.
pub appended : (n k m : ℕ) (xs p q : List ℕ) → 8 * n + length xs ≤ length p → length xs ≡ 8 * k → m ≡ n + k
    → Writes (8 * n) xs p q → Appends n m (words_in k xs) p q
appended n k m xs p q room l em h =
    let t = length-take-le (8 * n) p (omega arith) in
    let after = drop (8 * n + length xs) p in
    record {
      words =
          ap₂ words_in em h ∙ words-joined n k (take (8 * n) p) (xs ++ after) t
          ∙ ap₂ (λ (x y : List ℕ). x ++ y) (words-begin n p (omega arith)) (words-front k xs after (omega arith));
      kept = record {
        same = written-same (8 * n) xs p q room h;
        rest = past-writing (8 * n) xs p q room h (8 * m) (omega arith);
      };
    }

set-middle : (us vs : List ℕ) (i x w : ℕ) → length us ≡ i → set (us ++ (x ∷ vs)) i w ≡ us ++ (w ∷ vs)
set-middle [] vs zero x w e = refl
set-middle [] vs (suc i) x w e = absurd (omega arith)
set-middle (u ∷ us) vs zero x w e = absurd (omega arith)
set-middle (u ∷ us) vs (suc i) x w e = ap (λ (xs : List ℕ). u ∷ xs) (set-middle us vs i x w (omega arith))

pub put-is : (n at w : ℕ) (p q : List ℕ) → at < n → 8 * n ≤ length p → w < 2 ^ 64 → Writes (8 * at) (word_bytes w) p q
    → Puts n at w p q
put-is n at w p q lt room fits h =
    let lw = length-word_bytes w in
    let k = n - suc at in
    let e : n ≡ at + suc k = omega arith in
    let t = length-take-le (8 * at) p (omega arith) in
    let after = drop (8 * at + length (word_bytes w)) p in
    let z : 8 * at + 8 ≡ 8 * at + length (word_bytes w) = omega arith in
    let old = drop (8 * at) p in
    let here : drop 8 old ≡ after = drop-drop 8 (8 * at) p ∙ ap (λ (j : ℕ). drop j p) z in
    let us = words_in at p in
    let vs = words_in k after in
    let before : words_in n p ≡ us ++ (word_number old ∷ vs) =
    ap (λ (j : ℕ). words_in j p) e ∙ words-split at (suc k) p
    ∙ ap (λ (x : List ℕ). us ++ x) (words-next k old ∙ ap (λ (x : List ℕ). word_number old ∷ words_in k x) here) in
    let now : words_in n q ≡ us ++ (w ∷ vs) =
    ap₂ words_in e h ∙ words-joined at (suc k) (take (8 * at) p) (word_bytes w ++ after) t
    ∙ ap₂ (λ (x y : List ℕ). x ++ y) (words-begin at p (omega arith))
    (words-next k (word_bytes w ++ after)
    ∙ ap₂ (λ (x : ℕ) (y : List ℕ). x ∷ y) (number-word_bytes w after fits)
    (ap (words_in k) (drop_at (word_bytes w) after 8 lw))) in
    record {
      words =
          now
          ∙ sym (ap (λ (x : List ℕ). set x at w) before ∙ set-middle us vs at (word_number old) w (length-words_in at
          p));
      kept = record {
        same = written-same (8 * at) (word_bytes w) p q (omega arith) h;
        rest = past-writing (8 * at) (word_bytes w) p q (omega arith) h (8 * n) (omega arith);
      };
    }

pub pushed : (n m w : ℕ) (xs p q : List ℕ) → 8 * n + 8 ≤ length p → w < 2 ^ 64 → m ≡ n + 1 → xs ≡ word_bytes w
    → Writes (8 * n) xs p q → Appends n m (w ∷ []) p q
pushed n m w xs p q room fits em ex h =
    let lw = length-word_bytes w in
    let g = subst (λ (x : List ℕ). Writes (8 * n) x p q) ex h in
    let one : words_in 1 (word_bytes w) ≡ w ∷ [] =
    words-next 0 (word_bytes w)
    ∙ ap₂ (λ (x : ℕ) (y : List ℕ). x ∷ y)
    (ap word_number (sym (append-nil (word_bytes w))) ∙ number-word_bytes w [] fits) (words-none (drop 8 (word_bytes
    w))) in
    subst (λ (x : List ℕ). Appends n m x p q) one (appended n 1 m (word_bytes w) p q (omega arith) (omega arith) em g)

pub first-bytes : (n : ℕ) (bs : List ℕ) → AreBytes bs → 8 * n ≤ length bs
    → bs ≡ bytes (words_in n bs) ++ drop (8 * n) bs
first-bytes n bs h l =
    let t = length-take-le (8 * n) bs l in
    sym (take-append-drop (8 * n) bs)
    ∙ ap (λ (x : List ℕ). x ++ drop (8 * n) bs)
    (sym (bytes_of_words n (take (8 * n) bs) (AreBytes-take (8 * n) bs h) t) ∙ ap bytes (words-begin n bs l))

pub kept-then : (n m : ℕ) (p q r : List ℕ) → n ≤ m → IsKept n p q → IsKept m q r → IsKept m p r
kept-then n m p q r le a b = record {
  same = b.same ∙ a.same;
  rest =
      let e : 8 * n + 8 * (m - n) ≡ 8 * m = omega arith in
      let along : (x : List ℕ) → drop (8 * m) x ≡ drop (8 * (m - n)) (drop (8 * n) x) =
      λ x. ap (λ (j : ℕ). drop j x) (sym e) ∙ sym (drop-drop (8 * (m - n)) (8 * n) x) in
      b.rest ∙ along q ∙ ap (drop (8 * (m - n))) a.rest ∙ sym (along p);
}

pub appends-length : (n m : ℕ) (ws p q : List ℕ) → Appends n m ws p q → m ≡ n + length ws
appends-length n m ws p q a =
    sym (length-words_in m q) ∙ ap length a.words ∙ length-append (words_in n p) ws
    ∙ ap (λ (j : ℕ). j + length ws) (length-words_in n p)

pub appends-then : (n m o : ℕ) (vs ws p q r : List ℕ) → Appends n m vs p q → Appends m o ws q r
    → Appends n o (vs ++ ws) p r
appends-then n m o vs ws p q r a b = record {
  words = b.words ∙ ap (λ (x : List ℕ). x ++ ws) a.words ∙ append_assoc (words_in n p) vs ws;
  kept =
      let x = appends-length n m vs p q a in
      let y = appends-length m o ws q r b in
      kept-then m o p q r (omega arith) a.kept b.kept;
}

-- ---- bytes are written over zeros

pub written-over : (at : ℕ) (zs xs p q r : List ℕ) → at + length zs ≤ length p → length xs ≤ length zs
    → Writes at zs p q → Writes at xs q r → Writes at (xs ++ drop (length xs) zs) p r
written-over at zs xs p q r room le h k =
    let t = length-take-le at p (omega arith) in
    let after = drop (at + length zs) p in
    let d = length-drop (length xs) zs in
    let both = length-append xs (drop (length xs) zs) in
    let z : at + length zs ≡ at + length (xs ++ drop (length xs) zs) = omega arith in
    k
    ∙ ap₂ (λ (x y : List ℕ). x ++ (xs ++ y)) (ap (take at) h ∙ take_at (take at p) (zs ++ after) at t)
    (sym (drop-drop (length xs) at q)
    ∙ ap (drop (length xs)) (ap (drop at) h ∙ drop_at (take at p) (zs ++ after) at t)
    ∙ drop-append-le (length xs) zs after le)
    ∙ ap (λ (x : List ℕ). take at p ++ x)
    (sym (append_assoc xs (drop (length xs) zs) after)
    ∙ ap (λ (j : ℕ). (xs ++ drop (length xs) zs) ++ drop j p) z)

little-zeros : (n : ℕ) → word_number (replicate n 0) ≡ 0
unfolding word_number
little-zeros n = little_from-number 8 (replicate n 0) ∙ number-zeros 256 8 n

pub words-zeros : (n : ℕ) → words_in n (replicate (8 * n) 0) ≡ replicate n 0
words-zeros zero = words-none (replicate (8 * 0) 0)
words-zeros (suc n) =
    let e : 8 * suc n ≡ 8 + 8 * n = omega arith in
    ap (λ (j : ℕ). words_in (suc n) (replicate j 0)) e
    ∙ words-next n (replicate (8 + 8 * n) 0)
    ∙ ap₂ (λ (x : ℕ) (y : List ℕ). x ∷ y) (little-zeros (8 + 8 * n))
    (ap (words_in n) (drop-replicate 8 (8 + 8 * n) 0
    ∙ (let z : 8 + 8 * n - 8 ≡ 8 * n = omega arith in ap (λ (j : ℕ). replicate {A = ℕ} j 0) z)) ∙ words-zeros n)

pub zeros-appended : (n k m : ℕ) (p q : List ℕ) → 8 * (n + k) ≤ length p → m ≡ n + k
    → Writes (8 * n) (replicate (8 * k) 0) p q → Appends n m (replicate k 0) p q
zeros-appended n k m p q room em h =
    let l = length-replicate {A = ℕ} (8 * k) 0 in
    subst (λ (x : List ℕ). Appends n m x p q) (words-zeros k)
    (appended n k m (replicate (8 * k) 0) p q (omega arith) l em h)

-- Writing `k` words of zeros, and then the bytes `xs` over these zeros, appends `xs` packed into `k` words.
pub padded-appended : (n k m : ℕ) (xs p q r : List ℕ) → 8 * (n + k) ≤ length p → length xs ≤ 8 * k → m ≡ n + k
    → Writes (8 * n) (replicate (8 * k) 0) p q → Writes (8 * n) xs q r → Appends n m (packed 8 8 k xs) p r
padded-appended n k m xs p q r room le em h g =
    let zs = replicate {A = ℕ} (8 * k) 0 in
    let l = length-replicate {A = ℕ} (8 * k) 0 in
    let d : drop (length xs) zs ≡ replicate (8 * k - length xs) 0 = drop-replicate (length xs) (8 * k) 0 in
    let w = written-over (8 * n) zs xs p q r (omega arith) (omega arith) h g in
    let dl = length-drop (length xs) zs in
    let both = length-append xs (drop (length xs) zs) in
    subst (λ (x : List ℕ). Appends n m x p r)
    (words-packed k (xs ++ drop (length xs) zs)
    ∙ ap (λ (x : List ℕ). packed 8 8 k (xs ++ x)) d
    ∙ packed-padded 8 8 k (8 * k - length xs) xs)
    (appended n k m (xs ++ drop (length xs) zs) p r (omega arith) (omega arith) em w)

pub zeros-end : (n k m j : ℕ) (p q : List ℕ) → j ≡ k → Appends n m (replicate j 0) p q → m ≡ n + k
zeros-end n k m j p q e a =
    let l = appends-length n m (replicate j 0) p q a in let z = length-replicate {A = ℕ} j 0 in omega arith
