-- Lemmas for `join` and `split`, capn_canon and capn_mismatch: `pointer_of` reads a pointer back from its word, and no
-- other pointer has the same word.
use Rattle.std.proofs.Common.{◌≡◌, ◌≢◌, ℕ, ◌+◌, ◌*◌, ◌/◌, ◌%◌, ◌^◌, ◌<◌, ◌==◌, Bool, ℤ, refl, ap, ◌∙◌, arith}
use Rattle.std.specs.Int.{from_bool}
use Rattle.capn_words.specs.Pointers.{Fields, FitsFields, FitsOffset, offset_field, width_code, word_of, field, signed}
use Rattle.capn_words.specs.Pointers.{width_of, other_pointer, pointer_of}
use Rattle.capn_words.specs.declared.pointer.Pointer.{Pointer}
use Rattle.capn_words.specs.declared.pointer.Pointer.TheVariants.{Nil, Node, Many, Far, Cap, Reserved}
use Rattle.capn_words.specs.declared.pointer.Width.{Width}
use Rattle.capn_words.proofs.shared.Choices.{if-yes, if-no, same-yes, same-no}
use Rattle.capn_words.proofs.shared.FieldBits.{offset_field-lt, signed-again}
use Rattle.capn_words.proofs.shared.FieldBits.{width_code-lt, width_of-width_code, from_bool-le, bool-again}

-- ---- `pointer_of` reads the fields back from their sum

struct-again : (w : ℕ) (o : ℤ) (a b : ℕ) → w ≡ 4 * offset_field o + 2 ^ 32 * a + 2 ^ 48 * b → FitsOffset o → a < 2 ^ 16
    → b < 2 ^ 16 → 0 < offset_field o + a + b → pointer_of w ≡ Node o a b
unfolding pointer_of
struct-again w o a b e ho ha hb h =
    let l = offset_field-lt o ho in
    let x : field 2 30 w ≡ offset_field o = omega arith in
    let y : field 32 16 w ≡ a = omega arith in
    let z : field 48 16 w ≡ b = omega arith in
    let s = ap signed x ∙ signed-again o ho in
    if-no (w == 0) _ _ (same-no w 0 (omega arith)) ∙ if-yes (w % 4 == 0) _ _ (same-yes (w % 4) 0 (omega arith)) ∙ cc

list-again : (w : ℕ) (o : ℤ) (k : Width) (c : ℕ) → w ≡ 1 + 4 * offset_field o + 2 ^ 32 * width_code k + 2 ^ 35 * c
    → FitsOffset o → c < 2 ^ 29 → pointer_of w ≡ Many o k c
unfolding pointer_of
list-again w o k c e ho hc =
    let l = offset_field-lt o ho in
    let m = width_code-lt k in
    let x : field 2 30 w ≡ offset_field o = omega arith in
    let y : field 32 3 w ≡ width_code k = omega arith in
    let z : field 35 29 w ≡ c = omega arith in
    let s = ap signed x ∙ signed-again o ho in
    let v = ap width_of y ∙ width_of-width_code k in
    if-no (w == 0) _ _ (same-no w 0 (omega arith)) ∙ if-no (w % 4 == 0) _ _ (same-no (w % 4) 0 (omega arith))
    ∙ if-yes (w % 4 == 1) _ _ (same-yes (w % 4) 1 (omega arith)) ∙ cc

other-again : (w : ℕ) → w % 4 ≢ 0 → w % 4 ≢ 1 → pointer_of w ≡ other_pointer w
unfolding pointer_of
other-again w h l =
    if-no (w == 0) _ _ (same-no w 0 (omega arith)) ∙ if-no (w % 4 == 0) _ _ (same-no (w % 4) 0 h)
    ∙ if-no (w % 4 == 1) _ _ (same-no (w % 4) 1 l)

far-again : (w : ℕ) (d : Bool) (a s : ℕ) → w ≡ 2 + 4 * from_bool d + 8 * a + 2 ^ 32 * s → a < 2 ^ 29 → s < 2 ^ 32
    → pointer_of w ≡ Far d a s
far-again w d a s e ha hs =
    let l = from_bool-le d in
    let x : field 2 1 w ≡ from_bool d = omega arith in
    let y : field 3 29 w ≡ a = omega arith in
    let z : field 32 32 w ≡ s = omega arith in
    let b = ap (λ (n : ℕ). n == 1) x ∙ bool-again d in
    other-again w (omega arith) (omega arith) ∙ if-yes (w % 4 == 2) _ _ (same-yes (w % 4) 2 (omega arith)) ∙ cc

cap-again : (w k : ℕ) → w ≡ 3 + 2 ^ 32 * k → k < 2 ^ 32 → pointer_of w ≡ Cap k
cap-again w k e h =
    let x : field 32 32 w ≡ k = omega arith in
    other-again w (omega arith) (omega arith) ∙ if-no (w % 4 == 2) _ _ (same-no (w % 4) 2 (omega arith))
    ∙ if-yes (field 2 30 w == 0) _ _ (same-yes (field 2 30 w) 0 (omega arith)) ∙ ap Cap x

reserved-again : (w : ℕ) → w % 4 ≡ 3 → 0 < w / 4 % 2 ^ 30 → pointer_of w ≡ Reserved w
reserved-again w h l =
    other-again w (omega arith) (omega arith) ∙ if-no (w % 4 == 2) _ _ (same-no (w % 4) 2 (omega arith))
    ∙ if-no (field 2 30 w == 0) _ _ (same-no (field 2 30 w) 0 (omega arith))

-- ---- the laws

null-again : pointer_of 0 ≡ Nil
unfolding pointer_of
null-again = refl

-- if the fields of `p` fit, `pointer_of` reads `p` back from the word of `p`
pub pointer_of-word_of : (p : Pointer) → FitsFields p → pointer_of (word_of p) ≡ p
pointer_of-word_of Nil h = null-again
pointer_of-word_of (Node o w s) h = struct-again (word_of (Node o w s)) o w s refl h.0 h.1 h.2 h.3
pointer_of-word_of (Many o k c) h = list-again (word_of (Many o k c)) o k c refl h.0 h.1
pointer_of-word_of (Far d w s) h = far-again (word_of (Far d w s)) d w s refl h.0 h.1
pointer_of-word_of (Cap i) h = cap-again (word_of (Cap i)) i refl h
pointer_of-word_of (Reserved n) h = reserved-again n h.1 h.2

-- if the fields of `p` fit, the word of `p` is below 2^64
pub word_of-lt : (p : Pointer) → FitsFields p → word_of p < 2 ^ 64
word_of-lt Nil h = omega arith
word_of-lt (Node o w s) h = let l = offset_field-lt o h.0 in omega (arith, h.1, h.2)
word_of-lt (Many o k c) h = let l = offset_field-lt o h.0 in let m = width_code-lt k in omega (arith, h.1)
word_of-lt (Far d w s) h = let l = from_bool-le d in omega (arith, h.0, h.1)
word_of-lt (Cap i) h = omega arith
word_of-lt (Reserved n) h = h.0

-- if the fields of `p` fit and add up to `w`, then `p` is `pointer_of w`
pub Fields-only : (w : ℕ) (p : Pointer) → Fields w p → pointer_of w ≡ p
Fields-only w p h = ap pointer_of h.1 ∙ pointer_of-word_of p h.0
