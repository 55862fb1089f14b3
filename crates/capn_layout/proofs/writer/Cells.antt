-- The list of words and holes that the bytes and marks of a buffer represent. (For `Patched`.)
use Rattle.std.proofs.Common.{◌≡◌, ℕ, zero, suc, ◌+◌, ◌*◌, ◌^◌, ◌<◌, ◌≤◌, List, [], ◌∷◌, ◌++◌, length, take, drop, set}
use Rattle.std.proofs.Common.{refl, ap, sym, ◌∙◌, arith, append_assoc, append-nil, length-append, length-drop, Bool}
use Rattle.std.proofs.Common.{true, false, Option, Some, None}
use Rattle.std.proofs.lemmas.List.{drop-drop, drop_at, take_at, take-append-drop, nil_from_length, length-take-le}
use Rattle.std.proofs.lemmas.List.{take-take, drop-take}
use Rattle.capn_words.specs.Message.{word_number, AreBytes, word_bytes, bytes}
use Rattle.capn_layout.specs.Patch.{cell, cells, filled, IsWhole}
use Rattle.capn_words.proofs.shared.Words.{AreBytes-drop, AreBytes-append, word_bytes-number, length-word_bytes}
use Rattle.capn_layout.proofs.writer.Bytes.{AreBytes-take, AreBytes-word, number-word}

pub length-cells : (hs : List Bool) (bs : List ℕ) → length (cells hs bs) ≡ length hs
unfolding cells
length-cells [] bs = refl
length-cells (h ∷ hs) bs = ap suc (length-cells hs (drop 8 bs))

cells-cons : (h : Bool) (hs : List Bool) (xs ys : List ℕ) → length xs ≡ 8
    → cells (h ∷ hs) (xs ++ ys) ≡ cell h (word_number xs) ∷ cells hs ys
unfolding cells
cells-cons h hs xs ys l = rw (take_at xs ys 8 l, drop_at xs ys 8 l) refl

cells-step : (h : Bool) (hs : List Bool) (bs : List ℕ)
    → cells (h ∷ hs) bs ≡ cell h (word_number (take 8 bs)) ∷ cells hs (drop 8 bs)
unfolding cells
cells-step h hs bs = refl

pub cells-none : (bs : List ℕ) → cells [] bs ≡ []
unfolding cells
cells-none bs = refl

parted : (bs zs : List ℕ) → bs ++ zs ≡ take 8 bs ++ (drop 8 bs ++ zs)
parted bs zs = ap (λ (xs : List ℕ). xs ++ zs) (sym (take-append-drop 8 bs)) ∙ append_assoc (take 8 bs) (drop 8 bs) zs

rest_length : (h : Bool) (hs : List Bool) (bs : List ℕ) → length bs ≡ 8 * length (h ∷ hs)
    → length (drop 8 bs) ≡ 8 * length hs
rest_length h hs bs l = omega (arith, length-drop 8 bs)

first_length : (h : Bool) (hs : List Bool) (bs : List ℕ) → length bs ≡ 8 * length (h ∷ hs) → length (take 8 bs) ≡ 8
first_length h hs bs l = length-take-le 8 bs (omega arith)

pub cells-append : (hs gs : List Bool) (bs cs : List ℕ) → length bs ≡ 8 * length hs
    → cells (hs ++ gs) (bs ++ cs) ≡ cells hs bs ++ cells gs cs
cells-append [] gs bs cs l = rw (nil_from_length bs (omega arith), cells-none []) refl
cells-append (h ∷ hs) gs bs cs l =
    let ih = cells-append hs gs (drop 8 bs) cs (rest_length h hs bs l) in
    ap (cells (h ∷ (hs ++ gs))) (parted bs cs)
    ∙ cells-cons h (hs ++ gs) (take 8 bs) (drop 8 bs ++ cs) (first_length h hs bs l)
    ∙ ap (λ (xs : List (Option ℕ)). cell h (word_number (take 8 bs)) ∷ xs) ih
    ∙ ap (λ (xs : List (Option ℕ)). xs ++ cells gs cs) (sym (cells-step h hs bs))

pub cells-one : (h : Bool) (w : ℕ) → w < 2 ^ 64 → cells (h ∷ []) (word_bytes w) ≡ cell h w ∷ []
cells-one h w lt =
    ap (cells (h ∷ [])) (sym (append-nil (word_bytes w)))
    ∙ cells-cons h [] (word_bytes w) [] (length-word_bytes w)
    ∙ rw (number-word w lt, cells-none []) refl

pub written-bytes : (start w : ℕ) (bs : List ℕ) → AreBytes bs
    → AreBytes (take start bs ++ (word_bytes w ++ drop (start + 8) bs))
written-bytes start w bs h =
    AreBytes-append (take start bs) (word_bytes w ++ drop (start + 8) bs) (AreBytes-take start bs h)
    (AreBytes-append (word_bytes w) (drop (start + 8) bs) (AreBytes-word w) (AreBytes-drop (start + 8) bs h))

pub written-length : (start w : ℕ) (bs : List ℕ) → start + 8 ≤ length bs
    → length (take start bs ++ (word_bytes w ++ drop (start + 8) bs)) ≡ length bs
written-length start w bs h =
    let a = length-append (take start bs) (word_bytes w ++ drop (start + 8) bs) in
    let b = length-append (word_bytes w) (drop (start + 8) bs) in
    let c = length-take-le start bs (omega arith) in
    let d = length-drop (start + 8) bs in
    let e = length-word_bytes w in
    omega arith

written-later : (k w : ℕ) (bs : List ℕ)
    → take (8 + k) bs ++ (word_bytes w ++ drop (8 + k + 8) bs) ≡ take 8 bs
    ++ (take k (drop 8 bs) ++ (word_bytes w ++ drop (k + 8) (drop 8 bs)))
written-later k w bs =
    let e : 8 + (k + 8) ≡ 8 + k + 8 = omega arith in
    let d : drop (k + 8) (drop 8 bs) ≡ drop (8 + k + 8) bs = drop-drop (k + 8) 8 bs ∙ ap (λ (j : ℕ). drop j bs) e in
    let t : take (8 + k) bs ≡ take 8 bs ++ take k (drop 8 bs) =
    sym (take-append-drop 8 (take (8 + k) bs))
    ∙ ap (λ (xs : List ℕ). xs ++ drop 8 (take (8 + k) bs)) (take-take 8 (8 + k) bs (omega arith))
    ∙ ap (λ (xs : List ℕ). take 8 bs ++ xs) (drop-take 8 k bs) in
    ap (λ (xs : List ℕ). xs ++ (word_bytes w ++ drop (8 + k + 8) bs)) t
    ∙ append_assoc (take 8 bs) (take k (drop 8 bs)) (word_bytes w ++ drop (8 + k + 8) bs)
    ∙ ap (λ (xs : List ℕ). take 8 bs ++ (take k (drop 8 bs) ++ (word_bytes w ++ xs))) (sym d)

pub cells-fill : (at : ℕ) (hs : List Bool) (bs : List ℕ) (w : ℕ) → length bs ≡ 8 * length hs → at < length hs
    → w < 2 ^ 64
    → cells (set hs at false) (take (8 * at) bs ++ (word_bytes w ++ drop (8 * at + 8) bs))
    ≡ set (cells hs bs) at (Some w)
cells-fill at [] bs w l lt k = absurd (omega arith)
cells-fill zero (h ∷ hs) bs w l lt k =
    cells-cons false hs (word_bytes w) (drop 8 bs) (length-word_bytes w)
    ∙ ap (λ (v : ℕ). cell false v ∷ cells hs (drop 8 bs)) (number-word w k)
    ∙ ap (λ (xs : List (Option ℕ)). set xs 0 (Some w)) (sym (cells-step h hs bs))
cells-fill (suc at) (h ∷ hs) bs w l lt k =
    let e : 8 * suc at ≡ 8 + 8 * at = omega arith in
    let ih = cells-fill at hs (drop 8 bs) w (rest_length h hs bs l) (omega arith) k in
    ap (λ (j : ℕ). cells (h ∷ set hs at false) (take j bs ++ (word_bytes w ++ drop (j + 8) bs))) e
    ∙ ap (cells (h ∷ set hs at false)) (written-later (8 * at) w bs)
    ∙ cells-cons h (set hs at false) (take 8 bs)
    (take (8 * at) (drop 8 bs) ++ (word_bytes w ++ drop (8 * at + 8) (drop 8 bs))) (first_length h hs bs l)
    ∙ ap (λ (xs : List (Option ℕ)). cell h (word_number (take 8 bs)) ∷ xs) ih
    ∙ ap (λ (xs : List (Option ℕ)). set xs (suc at) (Some w)) (sym (cells-step h hs bs))

pub cells-whole : (hs : List Bool) (bs : List ℕ) → AreBytes bs → length bs ≡ 8 * length hs → IsWhole (cells hs bs)
    → bs ≡ bytes (filled (cells hs bs))
unfolding cells
cells-whole [] bs are l h = nil_from_length bs (omega arith)
cells-whole (true ∷ hs) bs are l h = absurd h
cells-whole (false ∷ hs) bs are l h =
    let ih = cells-whole hs (drop 8 bs) (AreBytes-drop 8 bs are) (rest_length false hs bs l) h in
    let eight = first_length false hs bs l in
    let first : word_bytes (word_number (take 8 bs)) ≡ take 8 bs =
    word_bytes-number (take 8 bs) (AreBytes-take 8 bs are) (omega arith) ∙ take-take 8 8 bs (omega arith) in
    sym (take-append-drop 8 bs)
    ∙ ap (λ (xs : List ℕ). take 8 bs ++ xs) ih
    ∙ ap (λ (xs : List ℕ). xs ++ bytes (filled (cells hs (drop 8 bs)))) (sym first)

pub cells-open : (at : ℕ) (hs : List Bool) (bs : List ℕ) → cells (set hs at true) bs ≡ set (cells hs bs) at None
unfolding cells
cells-open at [] bs = refl
cells-open zero (h ∷ hs) bs = refl
cells-open (suc at) (h ∷ hs) bs =
    ap (λ (xs : List (Option ℕ)). cell h (word_number (take 8 bs)) ∷ xs) (cells-open at hs (drop 8 bs))
