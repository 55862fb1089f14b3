-- The target of a pointer that is known to have one, if the pointer is near or its landing pad has one word. (For
-- `known_target`.)
use Rattle.std.proofs.Common.{◌≡◌, ℕ, ◌+◌, ◌<◌, ◌≤◌, nat_lt, ℤ, Bool, true, false, List, [], length, slice_index}
use Rattle.std.proofs.Common.{Result, Ok, Err, refl, ap, sym, ◌∙◌, arith, if◌then◌else◌}
use Rattle.std.specs.Bool.{⊤}
use Rattle.std.proofs.lemmas.Bool.Decides.{nat_tests}
use Rattle.std.proofs.Math.ListN.{get_or-eq_default}
use Rattle.capn_words.specs.Message.{segment_at}
use Rattle.capn_words.specs.declared.space.Place.{Place}
use Rattle.capn_words.specs.declared.pointer.Pointer.TheVariants.{Nil, Node, Many, Far, Cap, Reserved}
use Rattle.capn_words.specs.declared.pointer.Width.{Width}
use Rattle.capn_words.specs.declared.pointer.Width.TheVariants.{W0, W1, W8, W16, W32, W64, Link, Rows}
use Rattle.capn_target.specs.declared.target.Target.{Target}
use Rattle.capn_target.specs.declared.target.Target.TheVariants as targets
use Rattle.capn_target.specs.declared.target.Shape.{Shape}
use Rattle.capn_target.specs.declared.target.Shape.TheVariants as shapes
use Rattle.capn_target.specs.declared.target.Fault.{Fault}
use Rattle.capn_target.specs.declared.target.Fault.TheVariants as faults
use Rattle.capn_target.specs.Target.{content_words, content_start, if_inside, struct_from, list_from, pointer_in, list}
use Rattle.capn_target.specs.Target.{tagged, landing, target_from, two_pads, target_of_pointer, target}

abbrev pub IsComposite : Width → Type 0
IsComposite Rows = ⊤
IsComposite _ = ⊥

module _ (m : List (List ℕ)) where
  within-found : (s start n : ℕ) (x t : Target) → if_inside m s start n (Ok x) ≡ Ok t
      → (start + n ≤ length (segment_at m s)) × (if_inside m s start n (Ok x) ≡ Ok x)
  within-found s start n x t e = by_test (nat_lt (length (segment_at m s)) (start + n)) refl e
    where
      by_test : (b : Bool) → nat_lt (length (segment_at m s)) (start + n) ≡ b
          → (if b then Err faults.Range else Ok x) ≡ Ok t →
          (start + n ≤ length (segment_at m s)) × (if_inside m s start n (Ok x) ≡ Ok x)
      by_test true q f = absurd (cc)
      by_test false q f = (grind (arith, nat_tests), ap (λ (b : Bool). if b then Err faults.Range else Ok x) q)

  pub record Found (s pads : ℕ) (shape : Shape) (moves : Result ℕ Fault) (found : Result Target Fault) : Type 0 where
    pub start : ℕ
    pub moved_to : moves ≡ Ok start
    pub inside : start ≤ length (segment_at m s)
    pub is : found ≡ Ok (targets.Content s start shape pads)

  struct-found : (r : Result ℕ Fault) (s pads a b : ℕ) (t : Target) → struct_from m s r pads a b ≡ Ok t
      → Found s pads (shapes.Node a b) r (struct_from m s r pads a b)
  struct-found (Ok start) s pads a b t e =
      let w = within-found s start (a + b) (targets.Content s start (shapes.Node a b) pads) t e in
      record { start = start; moved_to = refl; inside = (let i = w.0 in omega arith); is = w.1 }
  struct-found (Err f) s pads a b t e = absurd (cc)

  plain-found : (s start pads n k : ℕ) (width : Width) (t : Target)
      → if_inside m s start k (Ok (targets.Content s start (shapes.Many width n) pads)) ≡ Ok t →
      Found s pads (shapes.Many width n) (Ok start)
      (if_inside m s start k (Ok (targets.Content s start (shapes.Many width n) pads)))
  plain-found s start pads n k width t e =
      let w = within-found s start k (targets.Content s start (shapes.Many width n) pads) t e in
      record { start = start; moved_to = refl; inside = (let i = w.0 in omega arith); is = w.1 }

  list-found : (r : Result ℕ Fault) (s pads : ℕ) (width : Width) (n : ℕ) (t : Target) → (IsComposite width → ⊥)
      → list_from m s r pads width n ≡ Ok t → Found s pads (shapes.Many width n) r (list_from m s r pads width n)
  list-found (Err f) s pads width n t p e = absurd (cc)
  list-found (Ok start) s pads W0 n t p e = plain-found s start pads n (content_words W0 n) W0 t e
  list-found (Ok start) s pads W1 n t p e = plain-found s start pads n (content_words W1 n) W1 t e
  list-found (Ok start) s pads W8 n t p e = plain-found s start pads n (content_words W8 n) W8 t e
  list-found (Ok start) s pads W16 n t p e = plain-found s start pads n (content_words W16 n) W16 t e
  list-found (Ok start) s pads W32 n t p e = plain-found s start pads n (content_words W32 n) W32 t e
  list-found (Ok start) s pads W64 n t p e = plain-found s start pads n (content_words W64 n) W64 t e
  list-found (Ok start) s pads Link n t p e = plain-found s start pads n (content_words Link n) Link t e
  list-found (Ok start) s pads Rows n t p e = absurd (p tt)

  pub has-segment : (s w : ℕ) → w < length (segment_at m s) → s < length m
  has-segment s w h = below (nat_lt s (length m)) refl
    where
      below : (b : Bool) → nat_lt s (length m) ≡ b → s < length m
      below true e = grind (arith, nat_tests)
      below false e =
          let past : length m ≤ s = grind (arith, nat_tests) in
          let none : length (segment_at m s) ≡ 0 = ap length (get_or-eq_default m [] past) in
          absurd (omega arith)

  pub struct-near : (s w pads : ℕ) (o : ℤ) (a b : ℕ) (t : Target) → target_from m s w pads (Node o a b) ≡ Ok t
      → Found s pads (shapes.Node a b) (content_start w o) (target_from m s w pads (Node o a b))
  struct-near s w pads o a b t e = struct-found (content_start w o) s pads a b t e

  pub plain-near : (s w pads : ℕ) (o : ℤ) (width : Width) (n : ℕ) (t : Target) → (IsComposite width → ⊥)
      → target_from m s w pads (Many o width n) ≡ Ok t
      → Found s pads (shapes.Many width n) (content_start w o) (target_from m s w pads (Many o width n))
  plain-near s w pads o width n t p e = list-found (content_start w o) s pads width n t p e

  tag-inside : (s start pads n : ℕ) (t : Target) → list m s start pads Rows n ≡ Ok t → start < length (segment_at m s)
  tag-inside s start pads n t e = by_test (nat_lt (length (segment_at m s)) (start + (1 + n))) refl e
    where
      found : Result Target Fault
      found = tagged m s start pads n (slice_index (segment_at m s) start)

      by_test : (b : Bool) → nat_lt (length (segment_at m s)) (start + (1 + n)) ≡ b
          → (if b then Err faults.Range else found) ≡ Ok t → start < length (segment_at m s)
      by_test true q f = absurd (cc)
      by_test false q f = grind (arith, nat_tests)

  rows-from : (r : Result ℕ Fault) (s pads n : ℕ) (t : Target) → list_from m s r pads Rows n ≡ Ok t
      → (start : ℕ) × (r ≡ Ok start) × (start < length (segment_at m s))
  rows-from (Ok start) s pads n t e = (start, refl, tag-inside s start pads n t e)
  rows-from (Err f) s pads n t e = absurd (cc)

  pub rows-near : (s w pads : ℕ) (o : ℤ) (n : ℕ) (t : Target) → target_from m s w pads (Many o Rows n) ≡ Ok t
      → (start : ℕ) × (content_start w o ≡ Ok start) × (start < length (segment_at m s))
  rows-near s w pads o n t e = rows-from (content_start w o) s pads n t e

  module _ (at : Place) (t : Target) (e : target m at ≡ Ok t) where
    near-any : (o : ℤ) (width : Width) (n : ℕ) → pointer_in m at.segment at.word ≡ Many o width n
        → target m at ≡ target_from m at.segment at.word 0 (Many o width n)
    unfolding target
    near-any o width n q = ap (target_of_pointer m at.segment at.word) q

    pub near-rows : (o : ℤ) (n start : ℕ) → pointer_in m at.segment at.word ≡ Many o Rows n
        → content_start at.word o ≡ Ok start → target m at ≡ list m at.segment start 0 Rows n
    near-rows o n start q moved =
        near-any o Rows n q ∙ ap (λ (r : Result ℕ Fault). list_from m at.segment r 0 Rows n) moved

    pub rows-start : (o : ℤ) (n : ℕ) → pointer_in m at.segment at.word ≡ Many o Rows n
        → (start : ℕ) × (content_start at.word o ≡ Ok start) × (start < length (segment_at m at.segment))
    rows-start o n q = rows-near at.segment at.word 0 o n t (sym (near-any o Rows n q) ∙ e)

    pub behind-one : (w s : ℕ) → pointer_in m at.segment at.word ≡ Far false w s
        → target m at ≡ landing m s w 1 (target_from m s w 1 (pointer_in m s w))
    unfolding target
    behind-one w s q = ap (target_of_pointer m at.segment at.word) q

    pub behind-two : (w s : ℕ) → pointer_in m at.segment at.word ≡ Far true w s
        → target m at ≡ landing m s w 2 (two_pads m (pointer_in m s w) (pointer_in m s (w + 1)))
    unfolding target
    behind-two w s q = ap (target_of_pointer m at.segment at.word) q

    pub near-null : pointer_in m at.segment at.word ≡ Nil → target m at ≡ Ok targets.Nil
    unfolding target
    near-null q = ap (target_of_pointer m at.segment at.word) q

    pub named-cap : (k : ℕ) → pointer_in m at.segment at.word ≡ Cap k → target m at ≡ Ok (targets.Cap k)
    unfolding target
    named-cap k q = ap (target_of_pointer m at.segment at.word) q

    pub never-reserved : (n : ℕ) → pointer_in m at.segment at.word ≡ Reserved n → ⊥
    unfolding target
    never-reserved n q =
        let f : target m at ≡ Err faults.Reserved = ap (target_of_pointer m at.segment at.word) q in
        absurd cc

    pub near-struct : (o : ℤ) (a b : ℕ) → pointer_in m at.segment at.word ≡ Node o a b
        → Found at.segment 0 (shapes.Node a b) (content_start at.word o) (target m at)
    unfolding target
    near-struct o a b q =
        let f : target m at ≡ struct_from m at.segment (content_start at.word o) 0 a b =
        ap (target_of_pointer m at.segment at.word) q in
        let r = struct-found (content_start at.word o) at.segment 0 a b t (sym f ∙ e) in
        record { start = r.start; moved_to = r.moved_to; inside = r.inside; is = f ∙ r.is }

    pub near-list : (o : ℤ) (width : Width) (n : ℕ) → (IsComposite width → ⊥)
        → pointer_in m at.segment at.word ≡ Many o width n
        → Found at.segment 0 (shapes.Many width n) (content_start at.word o) (target m at)
    unfolding target
    near-list o width n p q =
        let f : target m at ≡ list_from m at.segment (content_start at.word o) 0 width n =
        ap (target_of_pointer m at.segment at.word) q in
        let r = list-found (content_start at.word o) at.segment 0 width n t p (sym f ∙ e) in
        record { start = r.start; moved_to = r.moved_to; inside = r.inside; is = f ∙ r.is }

pub not-composite : (w : Width) → (w ≡ Rows → ⊥) → IsComposite w → ⊥
not-composite W0 h c = c
not-composite W1 h c = c
not-composite W8 h c = c
not-composite W16 h c = c
not-composite W32 h c = c
not-composite W64 h c = c
not-composite Link h c = c
not-composite Rows h c = h refl
