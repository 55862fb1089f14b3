-- Lemmas for `unpack_block.rt`, `unpack_group.rt`, capn_c, capn_canon and other crates: a group at the front of some
-- bytes, and rows of groups.
use Rattle.std.proofs.Common.{◌≡◌, ℕ, suc, ◌+◌, ◌-◌, ◌*◌, ◌<◌, ◌≤◌, List, [], ◌∷◌, ◌++◌, length, take, drop, get_or}
use Rattle.std.proofs.Common.{slice_range, refl, sym, ap, ◌∙◌, arith, take-add, length-take, length-drop, drop-drop}
use Rattle.std.proofs.Common.{drop-cons, take_all, replicate, length-append, get_or-drop, ◌^◌}
use Rattle.std.proofs.lemmas.List.{length-replicate, append-nil}
use Rattle.std.proofs.lemmas.Grind.{flat_map-append}
use Rattle.std.specs.List.{AllByRecursion}
use Rattle.capn_pack.specs.Packed.{Group, group_text, group_bytes, group_words, IsGroup, texts, contents, word_count}
use Rattle.capn_pack.specs.Packed.Group.{Zeros, Named, Raw}

-- if `xs` is not empty, its first `1 + n` items are its first item and the first `n` of the other items
pub take_first : (n : ℕ) (xs : List ℕ) → 0 < length xs → take (1 + n) xs ≡ get_or xs 0 0 ∷ take n (drop 1 xs)
take_first n [] h = absurd (omega arith)
take_first n (x ∷ xs) h = let e : 1 + n ≡ suc n = omega arith in ap (λ k. take k (x ∷ xs)) e

-- the first two items of `xs` are the items at index 0 and at index 1
pub take_two : (xs : List ℕ) → 2 ≤ length xs → take 2 xs ≡ get_or xs 0 0 ∷ get_or xs 1 0 ∷ []
take_two [] h = absurd (omega arith)
take_two (x ∷ []) h = absurd (omega arith)
take_two (x ∷ y ∷ xs) h = refl

-- if `xs` has an item `i`, the items from index `i` on begin with that item
take_at_next : (i n : ℕ) (xs : List ℕ) → i < length xs
    → take (1 + n) (drop i xs) ≡ get_or xs i 0 ∷ take n (drop (i + 1) xs)
take_at_next i n xs h =
    let e : i + 1 ≡ suc i = omega arith in
    let f : 1 + n ≡ suc n = omega arith in
    ap (take (1 + n)) (drop-cons xs i 0 h) ∙ ap (λ k. take k (get_or xs i 0 ∷ drop (suc i) xs)) f
    ∙ ap (λ k. get_or xs i 0 ∷ take n (drop k xs)) (sym e)

-- the first `10 + 8 * m` bytes of `xs` are a byte, a word, a byte and `m` words
pub take_raw_text : (xs : List ℕ) (m : ℕ) → 10 + 8 * m ≤ length xs
    → take (10 + 8 * m) xs ≡ get_or xs 0 0 ∷ slice_range xs 1 9 ++ get_or xs 9 0 ∷ slice_range xs 10 (10 + 8 * m)
take_raw_text xs m h =
    let n = 8 * m in
    let whole : 10 + n ≡ 1 + (8 + (1 + n)) = omega arith in
    let size : (10 + n) - 10 ≡ n = omega arith in
    ap (λ k. take k xs) whole ∙ take_first (8 + (1 + n)) xs (omega arith)
    ∙ ap (λ l. get_or xs 0 0 ∷ l) (take-add 8 (1 + n) (drop 1 xs)
    ∙ ap (λ l. take 8 (drop 1 xs) ++ l) (ap (take (1 + n)) (drop-drop 8 1 xs) ∙ take_at_next 9 n xs (omega arith)
    ∙ ap (λ k. get_or xs 9 0 ∷ take k (drop 10 xs)) (sym size)))

-- a prefix of the range of `xs` from index 1 to the end is a prefix of `drop 1 xs`
pub take_tail : (n : ℕ) (xs : List ℕ) → take n (slice_range xs 1 (length xs)) ≡ take n (drop 1 xs)
take_tail n xs = ap (take n) (take_all (length xs - 1) (drop 1 xs) (omega (arith, length-drop 1 xs)))

-- `resize` from the length `l` to the length `l + n` appends `n` zeros
pub resized : (xs : List ℕ) (l n : ℕ) → l ≡ length xs
    → take (l + n) xs ++ replicate ((l + n) - l) 0 ≡ xs ++ replicate n 0
resized xs l n e =
    let size : (l + n) - l ≡ n = omega arith in
    rw (take_all (l + n) xs (omega arith), size) refl

-- the parts of a raw group with `m` words after its first word have the sizes that `IsGroup` requires
pub raw_is_group : (xs : List ℕ) (m : ℕ) → 10 + 8 * m ≤ length xs → m < 256 → (length (slice_range xs 1 9) ≡ 8)
    × (m < 256) × (length (slice_range xs 10 (10 + 8 * m)) ≡ 8 * m)
raw_is_group xs m h small = (
  simp (length-take, length-drop) (omega arith),
  small,
  simp (length-take, length-drop) (omega arith),
)

-- the words of the group `g` have 8 bytes each
pub length_content : (g : Group) → IsGroup g → length (group_bytes g) ≡ 8 * group_words g
length_content (Zeros more) h = length-replicate (8 * (1 + more)) 0
length_content (Named tag word) h = h.2
length_content (Raw word count more) h = length-append word more ∙ omega (arith, h.0, h.2)

-- the range of `bytes` from `at` to the end is `drop at bytes`
pub rest_is : (bytes : List ℕ) (at : ℕ) → slice_range bytes at (length bytes) ≡ drop at bytes
rest_is bytes at = take_all (length bytes - at) (drop at bytes) (omega (arith, length-drop at bytes))

-- the range of `bytes` from `at` to the end has `length bytes - at` bytes
pub length_rest : (bytes : List ℕ) (at : ℕ) → length (slice_range bytes at (length bytes)) ≡ length bytes - at
length_rest bytes at = ap length (rest_is bytes at) ∙ length-drop at bytes

-- if each of `bytes` is below 2^8, so is each of the bytes from `at` on
pub byte_of_rest : (bytes : List ℕ) (at i : ℕ) → ((k : ℕ) → get_or bytes k 0 < 2 ^ 8)
    → get_or (slice_range bytes at (length bytes)) i 0 < 2 ^ 8
byte_of_rest bytes at i fits = rw (rest_is bytes at, get_or-drop) (fits (at + i))

pub texts_more : (gs : List Group) (g : Group) → texts (gs ++ g ∷ []) ≡ texts gs ++ group_text g
texts_more gs g = flat_map-append group_text gs (g ∷ []) ∙ ap (λ l. texts gs ++ l) (append-nil (group_text g))

pub contents_more : (gs : List Group) (g : Group) → contents (gs ++ g ∷ []) ≡ contents gs ++ group_bytes g
contents_more gs g = flat_map-append group_bytes gs (g ∷ []) ∙ ap (λ l. contents gs ++ l) (append-nil (group_bytes g))

pub each_more : (gs : List Group) (g : Group) → AllByRecursion IsGroup gs → IsGroup g
    → AllByRecursion IsGroup (gs ++ g ∷ [])
each_more [] g h is = (is, tt)
each_more (x ∷ gs) g h is = (h.0, each_more gs g h.1 is)

pub count_more : (gs : List Group) (g : Group) → word_count (gs ++ g ∷ []) ≡ word_count gs + group_words g
count_more [] g = omega arith
count_more (x ∷ gs) g = omega (arith, count_more gs g)

-- the words of the groups `gs` have 8 bytes each
pub length_contents : (gs : List Group) → AllByRecursion IsGroup gs → length (contents gs) ≡ 8 * word_count gs
length_contents [] h = omega arith
length_contents (g ∷ gs) h = length-append (group_bytes g) (contents gs)
    ∙ omega (arith, length_content g h.0, length_contents gs h.1)

pub count_append : (gs hs : List Group) → word_count (gs ++ hs) ≡ word_count gs + word_count hs
count_append [] hs = omega arith
count_append (g ∷ gs) hs = omega (arith, count_append gs hs)

pub each_append : (gs hs : List Group) → AllByRecursion IsGroup gs → AllByRecursion IsGroup hs
    → AllByRecursion IsGroup (gs ++ hs)
each_append [] hs p q = q
each_append (g ∷ gs) hs p q = (p.0, each_append gs hs p.1 q)

-- the text of the group `g` is not empty
pub text_some : (g : Group) → 0 < length (group_text g)
text_some (Zeros n) = omega arith
text_some (Named t w) = omega arith
text_some (Raw w n f) = omega arith
