-- Lemmas for `fill_raw`, `store_raw` and `store_words`: a span is stored, but only a prefix of the span is used.
use Rattle.std.proofs.Common.{◌≡◌, ℕ, zero, suc, ◌+◌, ◌-◌, ◌*◌, ◌/◌, ◌^◌, ◌≤◌, List, [], ◌∷◌, ◌++◌, length, take, drop}
use Rattle.std.proofs.Common.{slice_range, refl, sym, ap, ◌∙◌, arith, append_assoc, length-take, length-drop}
use Rattle.std.proofs.lemmas.List.{take-take}
use Rattle.std.proofs.Math.Nat.{two-pow-succ}
use Rattle.std.specs.Prelude.{count_ones}
use Rattle.capn_pack.specs.Packed.{named_bytes}
use Rattle.capn_pack.proofs.shared.SpreadLemmas.{named_one}
use Rattle.capn_pack.proofs.LaneLemmas.{stored}

span_front : (xs : List ℕ) (a n m : ℕ) → n ≤ m → take n (slice_range xs a (a + m)) ≡ slice_range xs a (a + n)
span_front xs a n m le =
    let big : a + m - a ≡ m = omega arith in
    let small : a + n - a ≡ n = omega arith in
    ap (λ k. take n (take k (drop a xs))) big ∙ take-take n m (drop a xs) le ∙ ap (λ k. take k (drop a xs)) (sym small)

pub span_stored : (xs old new : List ℕ) (a at n w : ℕ) → n ≤ w → a + w ≤ length xs → at ≤ length old
    → take (at + length (slice_range xs a (a + w))) new ≡ take at old ++ slice_range xs a (a + w)
    → take (at + n) new ≡ take at old ++ slice_range xs a (a + n)
span_stored xs old new a at n w few far inside s =
    let span = slice_range xs a (a + w) in
    let wide : length span ≡ w = simp (length-take, length-drop) (omega arith) in
    let all : at + w ≡ at + length span = omega (arith, wide) in
    stored old span new (slice_range xs a (a + n)) at w n (at + n) (omega arith) inside few
    (ap (λ k. take k new) all ∙ s) (span_front xs a n w few)

-- if the lowest `n` bits of `tag` are set, `tag` names all `n` bytes of `xs`
ones_name : (n tag : ℕ) (xs : List ℕ) → length xs ≡ n → tag + 1 ≡ 2 ^ n → named_bytes tag xs ≡ xs
ones_name n tag [] long h = refl
ones_name zero tag (x ∷ xs) long h = absurd (omega arith)
ones_name (suc n) tag (x ∷ xs) long h =
    named_one tag x xs (omega (arith, h, two-pow-succ n))
    ∙ ap (λ l. x ∷ l) (ones_name n (tag / 2) xs (omega arith) (omega (arith, h, two-pow-succ n)))

pub raw_head : (bytes old lanes new : List ℕ) (at fill : ℕ) → at + 8 ≤ length bytes → fill ≤ length old
    → take (fill + 16) new ≡ take fill old ++ lanes
    → take (1 + count_ones 255) lanes ≡ 255 ∷ named_bytes 255 (take 8 (drop at bytes))
    → take (fill + 9) new ≡ take fill old ++ 255 ∷ take 8 (drop at bytes)
unfolding lib.Count.ones
raw_head bytes old lanes new at fill room inside written front =
    let word = take 8 (drop at bytes) in
    let long : length word ≡ 8 = simp (length-take, length-drop) (omega arith) in
    let whole : 255 ∷ named_bytes 255 word ≡ 255 ∷ word = ap (λ l. 255 ∷ l) (ones_name 8 255 word long refl) in
    stored old lanes new (255 ∷ word) fill 16 9 (fill + 9) refl inside (omega arith) written (front ∙ whole)

pub raw_packed : (bytes old b c new : List ℕ) (at more fill : ℕ)
    → take (fill + 9) b ≡ take fill old ++ 255 ∷ take 8 (drop at bytes)
    → take (fill + 9 + 1) c ≡ take (fill + 9) b ++ more ∷ []
    → take (fill + 10 + 8 * more) new ≡ take (fill + 10) c ++ slice_range bytes (at + 8) (at + 8 + 8 * more)
    → take (fill + 10 + 8 * more) new
    ≡ take fill old ++ (255 ∷ take 8 (drop at bytes) ++ more ∷ slice_range bytes (at + 8) (at + 8 + 8 * more))
raw_packed bytes old b c new at more fill q r s =
    let copied = slice_range bytes (at + 8) (at + 8 + 8 * more) in
    let ten : fill + 10 ≡ fill + 9 + 1 = omega arith in
    s ∙ ap (λ l. l ++ copied) (ap (λ k. take k c) ten ∙ r ∙ ap (λ l. l ++ more ∷ []) q)
    ∙ regroup (take fill old) (take 8 (drop at bytes)) copied
  where
    regroup : (xs ys zs : List ℕ) → ((xs ++ 255 ∷ ys) ++ more ∷ []) ++ zs ≡ xs ++ (255 ∷ ys ++ more ∷ zs)
    regroup xs ys zs = simp append_assoc

pub raw_unpacked : (rest old mid new : List ℕ) (more fill : ℕ) → more ≤ 8 → 74 ≤ length rest → fill + 8 ≤ length mid
    → take (fill + length (slice_range rest 1 9)) mid ≡ take fill old ++ slice_range rest 1 9
    → take (fill + 8 + length (slice_range rest 10 74)) new ≡ take (fill + 8) mid ++ slice_range rest 10 74
    → take (fill + 8 + 8 * more) new ≡ take fill old ++ (slice_range rest 1 9 ++ slice_range rest 10 (10 + 8 * more))
raw_unpacked rest old mid new more fill few far inside q s =
    let word = slice_range rest 1 9 in
    let copied = slice_range rest 10 (10 + 8 * more) in
    let eight : length word ≡ 8 = simp (length-take, length-drop) (omega arith) in
    let first : fill + 8 ≡ fill + length word = omega (arith, eight) in
    span_stored rest mid new 10 (fill + 8) (8 * more) 64 (omega arith) far inside s
    ∙ ap (λ l. l ++ copied) (ap (λ k. take k mid) first ∙ q)
    ∙ append_assoc (take fill old) word copied
