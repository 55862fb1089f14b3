-- If the target of a pointer is content of the only segment, the target determines the word of the pointer. (For
-- `Stands`.)
use Rattle.std.proofs.Common.{◌≡◌, ◌⊎◌, inl, inr, ℕ, zero, suc, ◌+◌, ◌-◌, ◌%◌, ◌^◌, ◌<◌, ◌==◌, ◌&&◌}
use Rattle.std.proofs.Common.{List, [], ◌∷◌, slice_index, Ok, nat_lt, Bool, true, false, ℤ, pos, negsuc}
use Rattle.std.proofs.Common.{if◌then◌else◌, refl, ap, sym, subst, ◌∙◌, arith}
use Rattle.std.proofs.lemmas.Bool.Decides.{nat_tests}
use Rattle.capn_words.specs.Pointers.{field, signed, width_of, other_pointer, pointer_of, word_of, offset_field}
use Rattle.capn_words.specs.Pointers.{width_code}
use Rattle.capn_words.specs.declared.pointer.Pointer.{Pointer}
use Rattle.capn_words.specs.declared.pointer.Pointer.TheVariants.{Nil, Node, Many, Far, Cap, Reserved}
use Rattle.capn_words.specs.declared.pointer.Width.{Width}
use Rattle.capn_words.specs.declared.pointer.Width.TheVariants.{W0, W1, W8, W16, W32, W64, Link, Rows}
use Rattle.capn_words.proofs.shared.Choices.{pick, if-yes, if-no}
use Rattle.capn_target.specs.declared.target.Target.TheVariants as targets
use Rattle.capn_target.specs.declared.target.Shape.{Shape}
use Rattle.capn_target.specs.declared.target.Shape.TheVariants as shapes
use Rattle.capn_target.specs.Target.{content_start, target}
use Rattle.capn_target.specs.declared.target.Fault.TheVariants as faults
use Rattle.std.specs.Prelude.{Err}
use Rattle.capn_target.specs.Ways.{LeadsTo, Describes, HasRows, OneOfThree}
use Rattle.capn_target.proofs.shared.Ways.{one-of-three}
use Rattle.capn_layout.specs.Layout.{struct_to, list_to}
use Rattle.capn_canon.proofs.reading.OneSegment.{here}

-- ---- the word of a pointer

-- If the given pointer is a `Node` or a `Many`, `w` is the word that encodes that pointer.
abbrev IsWordOf : ℕ → Pointer → Type 0
IsWordOf w (Node o a b) = w ≡ word_of (Node o a b)
IsWordOf w (Many o k n) = w ≡ word_of (Many o k n)
IsWordOf w _ = Unit {0}

field-signed : (n : ℕ) → n < 2 ^ 30 → offset_field (signed n) ≡ n
field-signed n h =
    pick (λ o. offset_field o ≡ n) (nat_lt n (2 ^ 29)) (pos n) (negsuc (2 ^ 30 - suc n)) (λ e. refl) (λ e. omega arith)

code-width : (c : ℕ) → c < 8 → width_code (width_of c) ≡ c
code-width zero h = refl
code-width (suc zero) h = refl
code-width (suc (suc zero)) h = refl
code-width (suc (suc (suc zero))) h = refl
code-width (suc (suc (suc (suc zero)))) h = refl
code-width (suc (suc (suc (suc (suc zero))))) h = refl
code-width (suc (suc (suc (suc (suc (suc zero)))))) h = refl
code-width (suc (suc (suc (suc (suc (suc (suc zero))))))) h = refl
code-width (suc (suc (suc (suc (suc (suc (suc (suc c)))))))) h = absurd (omega arith)

other-word : (w : ℕ) → IsWordOf w (other_pointer w)
other-word w =
    pick (IsWordOf w) (w % 4 == 2) (Far (field 2 1 w == 1) (field 3 29 w) (field 32 32 w))
    (if field 2 30 w == 0 then Cap (field 32 32 w) else Reserved w) (λ e. tt) (λ e.
    pick (IsWordOf w) (field 2 30 w == 0) (Cap (field 32 32 w)) (Reserved w) (λ f. tt) (λ f. tt))

struct-word : (w : ℕ) → w < 2 ^ 64 → w % 4 ≡ 0
    → w ≡ word_of (Node (signed (field 2 30 w)) (field 32 16 w) (field 48 16 w))
struct-word w h e = let s = field-signed (field 2 30 w) (omega arith) in omega arith

list-word : (w : ℕ) → w < 2 ^ 64 → w % 4 ≡ 1
    → w ≡ word_of (Many (signed (field 2 30 w)) (width_of (field 32 3 w)) (field 35 29 w))
list-word w h e =
    let s = field-signed (field 2 30 w) (omega arith) in
    let k = code-width (field 32 3 w) (omega arith) in
    omega arith

pub word-of-pointer : (w : ℕ) → w < 2 ^ 64 → IsWordOf w (pointer_of w)
unfolding pointer_of
word-of-pointer w h =
    pick (IsWordOf w) (w == 0) Nil _ (λ e. tt) (λ n.
    pick (IsWordOf w) (w % 4 == 0) (Node (signed (field 2 30 w)) (field 32 16 w) (field 48 16 w)) _
    (λ e. struct-word w h (grind (arith, nat_tests))) (λ m.
    pick (IsWordOf w) (w % 4 == 1) (Many (signed (field 2 30 w)) (width_of (field 32 3 w)) (field 35 29 w))
    (other_pointer w) (λ e. list-word w h (grind (arith, nat_tests))) (λ e. other-word w)))

-- ---- where an offset leads

-- An offset that leads from `from` to a later word `to` is the number of words between them.
ahead : (from to : ℕ) (o : ℤ) → from < to → content_start from o ≡ Ok to → o ≡ pos (to - suc from)
ahead from to (pos n) lt e = let f : from + 1 + n ≡ to = cc in let g : n ≡ to - suc from = omega arith in ap pos g
ahead from to (negsuc n) lt e = absurd (back (nat_lt from n) e)
  where
    back : (b : Bool) → (if b then Err faults.Range else Ok (from - n)) ≡ Ok to → ⊥
    back true f = cc
    back false f = let g : from - n ≡ to = cc in omega arith

itself : (from : ℕ) (o : ℤ) → content_start from o ≡ Ok from → o ≡ negsuc 0
itself from (pos n) e = absurd (let f : from + 1 + n ≡ from = cc in omega arith)
itself from (negsuc n) e = back (nat_lt from n) refl e
  where
    back : (b : Bool) → nat_lt from n ≡ b → (if b then Err faults.Range else Ok (from - n)) ≡ Ok from
        → negsuc n ≡ negsuc 0
    back true t f = absurd (cc)
    back false t f = let g : from - n ≡ from = cc in let z : n ≡ 0 = grind (arith, nat_tests) in ap negsuc z

-- ---- pointers by their own offset

-- For some offset `o` that leads from the word `from` to the word `start`, the pointer `p` is `made o`.
abbrev Leads : ℕ → ℕ → (ℤ → Pointer) → Pointer → Type 0
Leads from start made p = (o : ℤ) × (p ≡ made o) × (content_start from o ≡ Ok start)

module _ (all : List ℕ) (from start : ℕ) where
  abbrev only : List (List ℕ)
  only = all ∷ []

  near-struct : (a b : ℕ) (p : Pointer) → LeadsTo from p start → Describes only p 0 start (shapes.Node a b)
      → Leads from start (λ o. Node o a b) p
  near-struct a b (Node o x y) l d = (o, (let e = d.0 in cc), l)
  near-struct a b (Many o Rows n) l d = let e = d.1.1 in absurd (cc)
  near-struct a b (Many o W0 n) l d = let e = d.0 in absurd (cc)
  near-struct a b (Many o W1 n) l d = let e = d.0 in absurd (cc)
  near-struct a b (Many o W8 n) l d = let e = d.0 in absurd (cc)
  near-struct a b (Many o W16 n) l d = let e = d.0 in absurd (cc)
  near-struct a b (Many o W32 n) l d = let e = d.0 in absurd (cc)
  near-struct a b (Many o W64 n) l d = let e = d.0 in absurd (cc)
  near-struct a b (Many o Link n) l d = let e = d.0 in absurd (cc)
  near-struct a b Nil l d = absurd l
  near-struct a b (Far f x s) l d = absurd l
  near-struct a b (Cap k) l d = absurd l
  near-struct a b (Reserved k) l d = absurd l

  near-list : (width : Width) (n : ℕ) (p : Pointer) → LeadsTo from p start
      → Describes only p 0 start (shapes.Many width n) → Leads from start (λ o. Many o width n) p
  near-list width n (Node o x y) l d = let e = d.0 in absurd (cc)
  near-list width n (Many o Rows m) l d = let e = d.1.1 in absurd (cc)
  near-list width n (Many o W0 m) l d = (o, (let e = d.0 in cc), l)
  near-list width n (Many o W1 m) l d = (o, (let e = d.0 in cc), l)
  near-list width n (Many o W8 m) l d = (o, (let e = d.0 in cc), l)
  near-list width n (Many o W16 m) l d = (o, (let e = d.0 in cc), l)
  near-list width n (Many o W32 m) l d = (o, (let e = d.0 in cc), l)
  near-list width n (Many o W64 m) l d = (o, (let e = d.0 in cc), l)
  near-list width n (Many o Link m) l d = (o, (let e = d.0 in cc), l)
  near-list width n Nil l d = absurd l
  near-list width n (Far f x s) l d = absurd l
  near-list width n (Cap k) l d = absurd l
  near-list width n (Reserved k) l d = absurd l

  near-rows : (n a b span : ℕ) (p : Pointer) → LeadsTo from p start
      → Describes only p 0 start (shapes.Rows n a b span)
      → Leads from start (λ o. Many o Rows span) p × HasRows (slice_index all start) span (shapes.Rows n a b span)
  near-rows n a b span (Node o x y) l d = let e = d.0 in absurd (cc)
  near-rows n a b span (Many o Rows m) l d =
      let e = d.1.1 in
      let same : m ≡ span = cc in (
        (o, ap (Many o Rows) same, l),
        subst (λ (k : ℕ). HasRows (slice_index all start) k (shapes.Rows n a b span)) same d.1,
      )
  near-rows n a b span (Many o W0 m) l d = let e = d.0 in absurd (cc)
  near-rows n a b span (Many o W1 m) l d = let e = d.0 in absurd (cc)
  near-rows n a b span (Many o W8 m) l d = let e = d.0 in absurd (cc)
  near-rows n a b span (Many o W16 m) l d = let e = d.0 in absurd (cc)
  near-rows n a b span (Many o W32 m) l d = let e = d.0 in absurd (cc)
  near-rows n a b span (Many o W64 m) l d = let e = d.0 in absurd (cc)
  near-rows n a b span (Many o Link m) l d = let e = d.0 in absurd (cc)
  near-rows n a b span Nil l d = absurd l
  near-rows n a b span (Far f x s) l d = absurd l
  near-rows n a b span (Cap k) l d = absurd l
  near-rows n a b span (Reserved k) l d = absurd l

  -- If the target of a pointer has no landing pad, the offset of that pointer leads to the target.
  own-offset : (shape : Shape) → target only (here from) ≡ Ok (targets.Content 0 start shape 0)
      → LeadsTo from (pointer_of (slice_index all from)) start
      × Describes only (pointer_of (slice_index all from)) 0 start shape
  own-offset shape e = from-ways (one-of-three only (here from) 0 start 0 shape e)
    where
      from-ways : OneOfThree only (here from) 0 start shape 0
          → LeadsTo from (pointer_of (slice_index all from)) start
          × Describes only (pointer_of (slice_index all from)) 0 start shape
      from-ways (inl n) = (n.offset, n.content)
      from-ways (inr (inl n)) = absurd (let z = n.one in omega arith)
      from-ways (inr (inr n)) = absurd (let z = n.two in omega arith)

module _ (all : List ℕ) (each : (k : ℕ) → slice_index all k < 2 ^ 64) (from : ℕ) where
  held : (p : Pointer) → pointer_of (slice_index all from) ≡ p → IsWordOf (slice_index all from) p
  held p e = subst (IsWordOf (slice_index all from)) e (word-of-pointer (slice_index all from) (each from))

  -- If a struct is at `to`, or is empty and at its own pointer, the word of its pointer is `struct_to`.
  pub struct-pointer : (to start a b : ℕ) → from < to
      → target (all ∷ []) (here from) ≡ Ok (targets.Content 0 start (shapes.Node a b) 0)
      → ((start ≡ to) × (0 < a + b)) ⊎ ((start ≡ from) × (a ≡ 0) × (b ≡ 0))
      → slice_index all from ≡ struct_to from to a b
  struct-pointer to start a b lt e w =
      let k = own-offset all from start (shapes.Node a b) e in
      let (o, is, leads) = near-struct all from start a b (pointer_of (slice_index all from)) k.0 k.1 in
      elim w as (λ _. slice_index all from ≡ struct_to from to a b) [
        | inl x ↦
            let g : o ≡ pos (to - suc from) = ahead from to o lt (leads ∙ ap Ok x.0) in
            held (Node (pos (to - suc from)) a b) (is ∙ ap (λ (z : ℤ). Node z a b) g)
            ∙ ap word_of (sym (if-no ((a == 0) && (b == 0)) (Node (negsuc 0) 0 0) (Node (pos (to - suc from)) a b)
            (not-both a b x.1)))
        | inr y ↦
            let g : o ≡ negsuc 0 = itself from o (leads ∙ ap Ok y.0) in
            held (Node (negsuc 0) 0 0) (is ∙ none o y.1 y.2 g)
            ∙ ap word_of (sym (if-yes ((a == 0) && (b == 0)) (Node (negsuc 0) 0 0) (Node (pos (to - suc from)) a b)
            (both a b y.1 y.2)))
      ]
    where
      none : (o : ℤ) → a ≡ 0 → b ≡ 0 → o ≡ negsuc 0 → Node o a b ≡ Node (negsuc 0) 0 0
      none o ea eb g = cc

      not-both : (a b : ℕ) → 0 < a + b → ((a == 0) && (b == 0)) ≡ false
      not-both zero zero h = absurd (omega arith)
      not-both zero (suc b) h = grind (arith, nat_tests)
      not-both (suc a) b h = grind (arith, nat_tests)

      both : (a b : ℕ) → a ≡ 0 → b ≡ 0 → ((a == 0) && (b == 0)) ≡ true
      both zero zero ea eb = refl
      both zero (suc b) ea eb = absurd (omega arith)
      both (suc a) b ea eb = absurd (omega arith)

  -- If a list at `to` is not a list of structs, the word of its pointer is `list_to`.
  pub list-pointer : (to n : ℕ) (width : Width) → from < to
      → target (all ∷ []) (here from) ≡ Ok (targets.Content 0 to (shapes.Many width n) 0)
      → slice_index all from ≡ list_to from to width n
  list-pointer to n width lt e =
      let k = own-offset all from to (shapes.Many width n) e in
      let (o, is, leads) = near-list all from to width n (pointer_of (slice_index all from)) k.0 k.1 in
      held (Many (pos (to - suc from)) width n) (is ∙ ap (λ (z : ℤ). Many z width n) (ahead from to o lt leads))

  -- If a list of structs is at `to`, the word of its pointer is `list_to`, and the word at `to` is its tag word.
  pub rows-pointer : (to n a b span : ℕ) → from < to
      → target (all ∷ []) (here from) ≡ Ok (targets.Content 0 to (shapes.Rows n a b span) 0)
      → (slice_index all from ≡ list_to from to Rows span) × (slice_index all to ≡ word_of (Node (pos n) a b))
  rows-pointer to n a b span lt e =
      let k = own-offset all from to (shapes.Rows n a b span) e in
      let (l, h) = near-rows all from to n a b span (pointer_of (slice_index all from)) k.0 k.1 in
      let (o, is, leads) = l in
      let same = h.1 in
      let x : n ≡ field 2 30 (slice_index all to) = cc in
      let y : a ≡ field 32 16 (slice_index all to) = cc in
      let z : b ≡ field 48 16 (slice_index all to) = cc in
      let t = h.0 in
      let w = each to in (
        held (Many (pos (to - suc from)) Rows span) (is ∙ ap (λ (i : ℤ). Many i Rows span) (ahead from to o lt leads)),
        omega arith,
      )
