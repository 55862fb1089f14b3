-- Lemmas for `ends_of`, `few_ends` and `rest_ends`: the ends of segments of given sizes.
use Rattle.std.proofs.Common.{◌≡◌, ℕ, ◌+◌, ◌-◌, ◌≤◌, List, [], ◌∷◌, ◌++◌, length, take, drop, sum, map, refl, ap, sym}
use Rattle.std.proofs.Common.{◌∙◌, arith, append_assoc, length-append, length-drop, length-take}
use Rattle.std.specs.List.{flat_map}
use Rattle.std.proofs.lemmas.Grind.{flat_map-append}
use Rattle.std.proofs.lemmas.List.{append-nil, drop-drop, drop_at, take-append-drop, take_at}
use Rattle.std.proofs.lemmas.List.Sums.{sum_by-cons}
use Rattle.capn_words.specs.Message.{bytes, word_bytes}
use Rattle.capn_stream.specs.Cuts.{AreRising, cut, ends_from}
use Rattle.capn_stream.specs.Frames.{segment_bytes}

-- `ends_from` has as many ends as there are `sizes`
pub length-ends_from : (from : ℕ) (sizes : List ℕ) → length (ends_from from sizes) ≡ length sizes
length-ends_from from [] = refl
length-ends_from from (size ∷ sizes) = omega (arith, length-ends_from (from + size) sizes)

-- one more size gives one more end, which is `from` plus the sum of all sizes
pub ends_from_push : (from : ℕ) (sizes : List ℕ) (size : ℕ)
    → ends_from from (sizes ++ size ∷ []) ≡ ends_from from sizes ++ (from + sum sizes + size) ∷ []
ends_from_push from [] size = let e : from + size ≡ from + 0 + size = omega arith in ap (λ (n : ℕ). n ∷ []) e
ends_from_push from (first ∷ sizes) size =
    let cons = sum_by-cons (λ (x : ℕ). x) first sizes in
    let e : from + first + sum sizes + size ≡ from + sum (first ∷ sizes) + size = omega (arith, cons) in
    ap (λ (ends : List ℕ). (from + first) ∷ ends) (ends_from_push (from + first) sizes size
    ∙ ap (λ (n : ℕ). ends_from (from + first) sizes ++ n ∷ []) e)

-- the ends for the sizes `xs ++ ys` are the ends for `xs` from `from` on, and then the ends for `ys` after `xs`
pub ends_from-append : (from : ℕ) (xs ys : List ℕ)
    → ends_from from (xs ++ ys) ≡ ends_from from xs ++ ends_from (from + sum xs) ys
ends_from-append from [] ys = let e : from ≡ from + 0 = omega arith in ap (λ (n : ℕ). ends_from n ys) e
ends_from-append from (x ∷ xs) ys =
    let cons = sum_by-cons (λ (n : ℕ). n) x xs in
    let e : from + x + sum xs ≡ from + sum (x ∷ xs) = omega (arith, cons) in
    ap (λ (ends : List ℕ). (from + x) ∷ ends) (ends_from-append (from + x) xs ys
    ∙ ap (λ (n : ℕ). ends_from (from + x) xs ++ ends_from n ys) e)

-- if `from` plus the sum of `sizes` is at most `len`, the ends of these sizes, from `from` on, never decrease, and are
-- at least `from` and at most `len`
pub AreRising-ends_from : (from : ℕ) (sizes : List ℕ) (len : ℕ) → from + sum sizes ≤ len
    → AreRising from (ends_from from sizes) len
AreRising-ends_from from [] len h = omega arith
AreRising-ends_from from (size ∷ sizes) len h =
    (omega arith, AreRising-ends_from (from + size) sizes len (omega (arith, sum_by-cons (λ (x : ℕ). x) size sizes)))

-- if words are cut at the ends for `sizes`, the segments have those sizes, and the last segment has `last` words
pub lengths-cut : (from : ℕ) (sizes : List ℕ) (last : ℕ) (ws : List ℕ) → length ws ≡ from + (sum sizes + last)
    → map length (cut from (ends_from from sizes) ws) ≡ sizes ++ last ∷ []
lengths-cut from [] last ws h = let e : length (drop from ws) ≡ last = omega (arith, length-drop from ws) in
    ap (λ (n : ℕ). n ∷ []) e
lengths-cut from (size ∷ sizes) last ws h =
    let cons = sum_by-cons (λ (x : ℕ). x) size sizes in
    let first : length (take (from + size - from) (drop from ws)) ≡ size =
    omega (arith, cons, length-take (from + size - from) (drop from ws), length-drop from ws) in
    let ih = lengths-cut (from + size) sizes last ws (omega (arith, cons)) in
    rw (first, ih) refl

-- if `ends` are rising, the bytes of the segments are the bytes of the words `ws` from index `from` on
pub contents-cut : (from : ℕ) (ends ws : List ℕ) → AreRising from ends (length ws)
    → segment_bytes (cut from ends ws) ≡ bytes (drop from ws)
contents-cut from [] ws r = append-nil (bytes (drop from ws))
contents-cut from (end ∷ ends) ws r =
    let e : from + (end - from) ≡ end = omega (arith, r.0) in
    let rest = drop-drop (end - from) from ws ∙ ap (λ (n : ℕ). drop n ws) e in
    let both = flat_map-append word_bytes (take (end - from) (drop from ws)) (drop (end - from) (drop from ws)) in
    let whole = take-append-drop (end - from) (drop from ws) in
    let ih = contents-cut end ends ws r.1 in
    rw ih (ap (λ (xs : List ℕ). bytes (take (end - from) (drop from ws)) ++ bytes xs) (sym rest) ∙ sym both
    ∙ ap bytes whole)

-- the words of all segments, joined
abbrev pub joined : List (List ℕ) → List ℕ
joined message = flat_map (λ ws. ws) message

-- if `before ++ joined message` is cut after `before`, at the ends that `sizes` give, the result is `message`
pub cut-joined : (message : List (List ℕ)) (sizes : List ℕ) (last from : ℕ) (before : List ℕ)
    → map length message ≡ sizes ++ last ∷ [] → length before ≡ from
    → cut from (ends_from from sizes) (before ++ joined message) ≡ message
cut-joined [] [] last from before h l = absurd (omega (arith, ap length h))
cut-joined [] (size ∷ sizes) last from before h l = absurd (omega (arith, ap length h))
cut-joined (ws ∷ []) [] last from before h l =
    ap (λ (xs : List ℕ). xs ∷ []) (drop_at before (ws ++ []) from l ∙ append-nil ws)
cut-joined (ws ∷ (vs ∷ message)) [] last from before h l = absurd (omega (arith, ap length h))
cut-joined (ws ∷ message) (size ∷ sizes) last from before h l =
    let here : length ws ≡ size = cc in
    let there : map length message ≡ sizes ++ last ∷ [] = cc in
    let start = drop_at before (ws ++ joined message) from l in
    let e : from + size - from ≡ size = omega arith in
    let first = take_at ws (joined message) size here in
    let moved = sym (append_assoc before ws (joined message)) in
    let ih = cut-joined message sizes last (from + size) (before ++ ws) there
    (omega (arith, length-append before ws)) in
    rw (start, e, first, moved, ih) refl
