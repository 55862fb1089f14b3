-- Lemmas for `runs.rt`: runs of words, and the bytes that a tag names.
use Rattle.std.proofs.Common.{◌≡◌, ℕ, zero, suc, ◌+◌, ◌-◌, ◌*◌, ◌/◌, ◌%◌, ◌<◌, ◌≤◌, true, false, eqb, ltb, List}
use Rattle.std.proofs.Common.{[], ◌∷◌, ◌++◌, length, take, drop, slice_range, replicate, filter, refl, sym, ap, ◌∙◌}
use Rattle.std.proofs.Common.{subst, arith, append_assoc, take-add, take-append-drop, drop-drop, length-take}
use Rattle.std.proofs.Common.{length-drop, take_all}
use Rattle.std.proofs.lemmas.Bool.{ne_eqb, lt-ltb}
use Rattle.std.proofs.lemmas.List.{replicate-append-replicate, take-append-le, drop-append-le, drop_all, take-take}
use Rattle.std.proofs.lemmas.List.{drop-take, take-replicate, length-replicate}
use Rattle.std.specs.Prelude.{count_ones}
use Rattle.capn_pack.specs.Packed.{tag_of, named_bytes, IsNamedBy}
use Rattle.capn_pack.specs.Chosen.{zero_count, IsDense, AllDense}
use Rattle.capn_pack.specs.inner.Steps.{IsZeroRun, IsDenseRun}
use Rattle.capn_pack.proofs.shared.SpreadLemmas.{ones_half, no_ones}

-- ---- what a tag of zero, or a tag with all bits set, says of the bytes

nonzero : (x : ℕ) → (eqb (suc x) 0 ≡ false) × (ltb 0 (suc x) ≡ true)
nonzero x = (ne_eqb (suc x) 0 (λ e. absurd (omega arith)), lt-ltb 0 (suc x) (omega arith))

-- if a zero byte is put before `xs`, the lowest bit of the tag is 0, and the higher bits are the tag of `xs`
tag_none : (xs : List ℕ) → (tag_of (0 ∷ xs) % 2 ≡ 0) × (tag_of (0 ∷ xs) / 2 ≡ tag_of xs)
tag_none xs = (omega arith, omega arith)

tag_some : (x : ℕ) (xs : List ℕ) → tag_of (suc x ∷ xs) ≡ 1 + 2 * tag_of xs
tag_some x xs = rw (nonzero x).0 refl

pub tag_zero : (xs : List ℕ) → tag_of xs ≡ 0 → xs ≡ replicate (length xs) 0
tag_zero [] h = refl
tag_zero (zero ∷ xs) h = ap (λ l. 0 ∷ l) (tag_zero xs (omega arith))
tag_zero (suc x ∷ xs) h = absurd (omega (arith, tag_some x xs))

-- the number of set bits of the tag of `xs` plus the number of zero bytes of `xs` is the length of `xs`
pub ones_tag : (xs : List ℕ) → count_ones (tag_of xs) + zero_count xs ≡ length xs
ones_tag [] = omega (arith, no_ones)
ones_tag (zero ∷ xs) =
    let half = ones_half (tag_of (0 ∷ xs)) in
    omega (arith, half, (tag_none xs).0, ap count_ones (tag_none xs).1, ones_tag xs)
ones_tag (suc x ∷ xs) =
    let t = tag_of xs in
    let odd : (1 + 2 * t) % 2 ≡ 1 = omega arith in
    let low : (1 + 2 * t) / 2 ≡ t = omega arith in
    rw (tag_some x xs, (nonzero x).0) (omega (arith, ones_half (1 + 2 * t), odd, ap count_ones low, ones_tag xs))

-- the bytes of `xs` that are not zero
abbrev pub some : List ℕ → List ℕ
some xs = filter (λ x. ltb 0 x) xs

pub named_exact : (xs : List ℕ) → (named_bytes (tag_of xs) xs ≡ some xs) × IsNamedBy (tag_of xs) xs
named_exact [] = (refl, tt)
named_exact (zero ∷ xs) =
    let e : 0 + 2 * tag_of xs ≡ 2 * tag_of xs = omega arith in
    let even : 2 * tag_of xs % 2 ≡ 0 = omega arith in
    let low : 2 * tag_of xs / 2 ≡ tag_of xs = omega arith in
    rw (e, even, low) ((named_exact xs).0, ((λ _. refl), (named_exact xs).1))
named_exact (suc x ∷ xs) =
    let odd : (1 + 2 * tag_of xs) % 2 ≡ 1 = omega arith in
    let low : (1 + 2 * tag_of xs) / 2 ≡ tag_of xs = omega arith in
    rw ((nonzero x).0, (nonzero x).1, odd, low) (
      ap (λ l. suc x ∷ l) (named_exact xs).0,
      ((λ e. absurd (omega arith)), (named_exact xs).1),
    )

-- ---- zero words

-- the words from offset `at` on are zero if a tag of them all is
pub zero_at : (bytes : List ℕ) (at n : ℕ) → n ≤ 255 → at + 8 * n ≤ length bytes
    → tag_of (take (8 * n) (drop at bytes)) ≡ 0 → IsZeroRun bytes at n
zero_at bytes at n few room h =
    let words = take (8 * n) (drop at bytes) in
    let long : length words ≡ 8 * n = simp (length-take, length-drop) (omega arith) in
    let is : words ≡ replicate (8 * n) 0 = tag_zero words h ∙ ap (λ k. replicate k 0) long in
    record {
      most = few;
      inside = room;
      zeros = sym (take-append-drop (8 * n) (drop at bytes)) ∙ (λ i. is i ++ drop-drop (8 * n) at bytes i);
    }

-- `IsZeroRun` still holds after another run of zero words
pub zero_steps : (bytes : List ℕ) (start count step : ℕ) → IsZeroRun bytes start count
    → IsZeroRun bytes (start + 8 * count) step → count + step ≤ 255 → IsZeroRun bytes start (count + step)
zero_steps bytes start count step z more few =
    let p = start + 8 * count in
    let q = start + 8 * (count + step) in
    let next : p + 8 * step ≡ q = omega arith in
    let size : 8 * count + 8 * step ≡ 8 * (count + step) = omega arith in
    let split : drop p bytes ≡ replicate (8 * step) 0 ++ drop q bytes =
    more.zeros ∙ ap (λ n. replicate (8 * step) 0 ++ drop n bytes) next in
    record {
      most = few;
      inside = omega (arith, more.inside);
      zeros = z.zeros ∙ ap (λ l. replicate (8 * count) 0 ++ l) split
          ∙ sym (append_assoc (replicate (8 * count) 0) (replicate (8 * step) 0) (drop q bytes))
          ∙ ap (λ l. l ++ drop q bytes) (replicate-append-replicate (8 * count) (8 * step) 0
          ∙ ap (λ n. replicate n 0) size);
    }

-- ---- dense words

dense_join : (n m : ℕ) (bs cs : List ℕ) → AllDense n bs → length bs ≡ 8 * n → AllDense m cs
    → AllDense (n + m) (bs ++ cs)
dense_join zero m bs cs h long d =
    let on : 0 + m ≡ m = omega arith in
    subst (λ k. AllDense k (bs ++ cs)) (sym on) (subst (λ l. AllDense m (l ++ cs)) (sym h) d)
dense_join (suc n) m bs cs h long d =
    let le : 8 ≤ length bs = omega arith in
    let rest : length (drop 8 bs) ≡ 8 * n = length-drop 8 bs ∙ omega arith in
    let on : suc n + m ≡ suc (n + m) = omega arith in
    subst (λ k. AllDense k (bs ++ cs)) (sym on) (
      subst IsDense (sym (take-append-le 8 bs cs le)) h.0,
      subst (AllDense (n + m)) (sym (drop-append-le 8 bs cs le)) (dense_join n m (drop 8 bs) cs h.1 rest d),
    )

one_dense : (w : List ℕ) → IsDense w → AllDense 1 w
one_dense w d = (subst IsDense (sym (take_all 8 w (omega (arith, d.0)))) d, drop_all 8 w (omega (arith, d.0)))

-- `IsDenseRun` still holds after another run of dense words
pub dense_steps : (bytes : List ℕ) (start limit count step : ℕ) → IsDenseRun bytes start limit count
    → IsDenseRun bytes (start + 8 * count) (limit - count) step → IsDenseRun bytes start limit (count + step)
dense_steps bytes start limit count step d more =
    let p = start + 8 * count in
    let bs = slice_range bytes start p in
    let cs = slice_range bytes p (p + 8 * step) in
    let size : length bs ≡ 8 * count = simp (length-take, length-drop) (omega arith) in
    let here : p - start ≡ 8 * count = omega arith in
    let there : p + 8 * step - p ≡ 8 * step = omega arith in
    let end : start + 8 * (count + step) - start ≡ 8 * count + 8 * step = omega arith in
    let grown : slice_range bytes start (start + 8 * (count + step)) ≡ bs ++ cs =
    ap (λ n. take n (drop start bytes)) end
    ∙ take-add (8 * count) (8 * step) (drop start bytes)
    ∙ ap (λ l. take (8 * count) (drop start bytes) ++ take (8 * step) l) (drop-drop (8 * count) start bytes)
    ∙ (λ i. take (sym here i) (drop start bytes) ++ take (sym there i) (drop p bytes)) in
    record {
      most = omega arith;
      inside = omega arith;
      dense = subst (AllDense (count + step)) (sym grown) (dense_join count step bs cs d.dense size more.dense);
    }

-- `IsDenseRun` still holds after one more dense word
pub dense_more : (bytes : List ℕ) (start limit count : ℕ) → IsDenseRun bytes start limit count → count < limit
    → start + 8 * count + 8 ≤ length bytes → 7 ≤ count_ones (tag_of (take 8 (drop (start + 8 * count) bytes)))
    → IsDenseRun bytes start limit (count + 1)
dense_more bytes start limit count d less room h =
    let p = start + 8 * count in
    let word = take 8 (drop p bytes) in
    let long : length word ≡ 8 = simp (length-take, length-drop) (omega arith) in
    let dense : IsDense word = (long, omega (arith, ones_tag word)) in
    let size : p + 8 * 1 - p ≡ 8 = omega arith in
    let here : slice_range bytes p (p + 8 * 1) ≡ word = ap (λ n. take n (drop p bytes)) size in
    dense_steps bytes start limit count 1 d
    (record { most = omega arith; inside = omega arith; dense = subst (AllDense 1) (sym here) (one_dense word dense) })

-- ---- the first of eight words, which were tested at once

-- the first `n` of the eight words from offset `at` on
eight_front : (bytes : List ℕ) (at n : ℕ) → n ≤ 8
    → take (8 * n) (take 64 (drop at bytes)) ≡ take (8 * n) (drop at bytes)
eight_front bytes at n few = take-take (8 * n) 64 (drop at bytes) (omega arith)

-- the word after them
eight_next : (bytes : List ℕ) (at n : ℕ) → n < 8
    → take 8 (drop (8 * n) (take 64 (drop at bytes))) ≡ take 8 (drop (at + 8 * n) bytes)
eight_next bytes at n few =
    let size : 64 ≡ 8 * n + (64 - 8 * n) = omega arith in
    ap (λ k. take 8 (drop (8 * n) (take k (drop at bytes)))) size
    ∙ ap (take 8) (drop-take (8 * n) (64 - 8 * n) (drop at bytes))
    ∙ take-take 8 (64 - 8 * n) (drop (8 * n) (drop at bytes)) (omega arith)
    ∙ ap (take 8) (drop-drop (8 * n) at bytes)

pub zeros_found : (bytes words : List ℕ) (at n : ℕ) → words ≡ take 64 (drop at bytes) → n ≤ 8
    → at + 64 ≤ length bytes
    → take (8 * n) words ≡ replicate (8 * n) 0
    → IsZeroRun bytes at n
zeros_found bytes words at n from few room zeros =
    let is : take (8 * n) (drop at bytes) ≡ replicate (8 * n) 0 = sym (eight_front bytes at n few)
    ∙ ap (take (8 * n)) (sym from) ∙ zeros in
    record {
      most = omega arith;
      inside = omega arith;
      zeros = sym (take-append-drop (8 * n) (drop at bytes)) ∙ (λ i. is i ++ drop-drop (8 * n) at bytes i);
    }

pub zeros_stop : (bytes words : List ℕ) (at n : ℕ) → words ≡ take 64 (drop at bytes) → n < 8
    → (take 8 (drop (8 * n) words) ≡ replicate 8 0 → ⊥)
    → take 8 (drop (at + 8 * n) bytes) ≡ replicate 8 0
    → ⊥
zeros_stop bytes words at n from few last e =
    last (ap (λ l. take 8 (drop (8 * n) l)) from ∙ eight_next bytes at n few ∙ e)

pub dense_found : (bytes words : List ℕ) (at n : ℕ) → words ≡ take 64 (drop at bytes) → n ≤ 8 → at + 64 ≤ length bytes
    → AllDense n (take (8 * n) words)
    → IsDenseRun bytes at 8 n
dense_found bytes words at n from few room dense =
    let size : at + 8 * n - at ≡ 8 * n = omega arith in
    let is : take (8 * n) words ≡ slice_range bytes at (at + 8 * n) = ap (take (8 * n)) from
    ∙ eight_front bytes at n few ∙ ap (λ k. take k (drop at bytes)) (sym size) in
    record { most = few; inside = omega arith; dense = subst (AllDense n) is dense }

pub dense_stop : (bytes words : List ℕ) (at n : ℕ) → words ≡ take 64 (drop at bytes) → n < 8
    → (IsDense (take 8 (drop (8 * n) words)) → ⊥)
    → IsDense (take 8 (drop (at + 8 * n) bytes))
    → ⊥
dense_stop bytes words at n from few last d =
    last (subst IsDense (sym (ap (λ l. take 8 (drop (8 * n) l)) from ∙ eight_next bytes at n few)) d)

-- ---- a shorter run, and a run after another

-- the words of a run of zeros, up to a smaller number, are a run of zeros
pub zero_cut : (bytes : List ℕ) (at n m : ℕ) → IsZeroRun bytes at n → m ≤ n → IsZeroRun bytes at m
zero_cut bytes at n m z le =
    let rest = drop (at + 8 * n) bytes in
    let long : length (replicate {A = ℕ} (8 * n) 0) ≡ 8 * n = simp length-replicate refl in
    let is : take (8 * m) (drop at bytes) ≡ replicate (8 * m) 0 = ap (take (8 * m)) z.zeros
    ∙ take-append-le (8 * m) (replicate (8 * n) 0) rest (omega arith)
    ∙ take-replicate (8 * m) (8 * n) 0 (omega arith) in
    record {
      most = omega (arith, z.most);
      inside = omega (arith, z.inside);
      zeros = sym (take-append-drop (8 * m) (drop at bytes)) ∙ (λ i. is i ++ drop-drop (8 * m) at bytes i);
    }

-- the first words of dense words are dense
dense_front : (n m : ℕ) (bs : List ℕ) → AllDense n bs → m ≤ n → AllDense m (take (8 * m) bs)
dense_front n zero bs h le = refl
dense_front zero (suc m) bs h le = absurd (omega arith)
dense_front (suc n) (suc m) bs h le =
    let size : 8 * suc m ≡ 8 + 8 * m = omega arith in
    let first : take 8 (take (8 * suc m) bs) ≡ take 8 bs = take-take 8 (8 * suc m) bs (omega arith) in
    let rest : drop 8 (take (8 * suc m) bs) ≡ take (8 * m) (drop 8 bs) = ap (λ k. drop 8 (take k bs)) size
    ∙ drop-take 8 (8 * m) bs in
    (subst IsDense (sym first) h.0, subst (AllDense m) (sym rest) (dense_front n m (drop 8 bs) h.1 (omega arith)))

-- the words of a run of dense words, up to a smaller number and a given limit, are such a run
pub dense_cut : (bytes : List ℕ) (at limit n m most : ℕ) → IsDenseRun bytes at limit n → m ≤ n → m ≤ most
    → IsDenseRun bytes at most m
dense_cut bytes at limit n m most d le few =
    let long : at + 8 * n - at ≡ 8 * n = omega arith in
    let short : at + 8 * m - at ≡ 8 * m = omega arith in
    let is : take (8 * m) (slice_range bytes at (at + 8 * n)) ≡ slice_range bytes at (at + 8 * m) =
    ap (λ k. take (8 * m) (take k (drop at bytes))) long ∙ take-take (8 * m) (8 * n) (drop at bytes) (omega arith)
    ∙ ap (λ k. take k (drop at bytes)) (sym short) in
    record {
      most = few;
      inside = omega (arith, d.inside);
      dense = subst (AllDense m) is (dense_front n m _ d.dense le);
    }

-- the word after two runs
next_word : (bytes : List ℕ) (start count step : ℕ)
    → take 8 (drop (start + 8 * count + 8 * step) bytes) ≡ take 8 (drop (start + 8 * (count + step)) bytes)
next_word bytes start count step =
    let there : start + 8 * count + 8 * step ≡ start + 8 * (count + step) = omega arith in
    ap (λ k. take 8 (drop k bytes)) there

pub zeros_after : (bytes : List ℕ) (start count step : ℕ) → IsZeroRun bytes start count
    → IsZeroRun bytes (start + 8 * count) step
    → (take 8 (drop (start + 8 * count + 8 * step) bytes) ≡ replicate 8 0 → ⊥)
    → take 8 (drop (start + 8 * (count + step)) bytes) ≡ replicate 8 0
    → ⊥
zeros_after bytes start count step run more last e = last (next_word bytes start count step ∙ e)

pub dense_after : (bytes : List ℕ) (start limit count step : ℕ) → IsDenseRun bytes start limit count
    → IsDenseRun bytes (start + 8 * count) 8 step
    → (IsDense (take 8 (drop (start + 8 * count + 8 * step) bytes)) → ⊥)
    → IsDense (take 8 (drop (start + 8 * (count + step)) bytes))
    → ⊥
dense_after bytes start limit count step run more last d =
    last (subst IsDense (sym (next_word bytes start count step)) d)

-- the word at `start`, as the word after a run of no words

pub tag_here : (bytes : List ℕ) (start : ℕ) → take 8 (drop (start + 0) bytes) ≡ replicate 8 0
    → tag_of (take 8 (drop start bytes)) ≡ 0
tag_here bytes start e =
    let here : start + 0 ≡ start = omega arith in
    ap (λ k. tag_of (take 8 (drop k bytes))) (sym here) ∙ ap tag_of e

pub dense_here : (bytes : List ℕ) (start : ℕ) → IsDense (take 8 (drop (start + 0) bytes))
    → IsDense (take 8 (drop start bytes))
dense_here bytes start d =
    let here : start + 0 ≡ start = omega arith in
    subst (λ k. IsDense (take 8 (drop k bytes))) here d

pub dense_two : (bytes : List ℕ) (start first step : ℕ) → first ≡ 8 → IsDenseRun bytes start 8 first
    → IsDenseRun bytes (start + 64) 8 step
    → IsDenseRun bytes start 16 (8 + step)
dense_two bytes start first step e run more =
    dense_steps bytes start 16 8 step
    (dense_cut bytes start 8 8 8 16 (subst (IsDenseRun bytes start 8) e run) (omega arith) (omega arith)) more

-- ---- the named bytes, and the end of the bytes

pub no_word : (bytes : List ℕ) (p : ℕ) → p ≤ length bytes → length bytes < p + 8 → length (take 8 (drop p bytes)) < 8
no_word bytes p le short = simp (length-take, length-drop) (omega arith)

pub not_dense : (w : List ℕ) → count_ones (tag_of w) < 7 → IsDense w → ⊥
not_dense w h d = omega (arith, ones_tag w, d.0, d.1)
