-- Lemmas for capn_layout and capn_walk: the sizes, counts and indices of targets are in the ranges of their fields.
use Rattle.std.proofs.Common.{◌≡◌, ℕ, ◌%◌, ◌^◌, ◌<◌, ◌==◌, List, slice_index, Ok, arith}
use Rattle.std.specs.Bool.{⊤}
use Rattle.capn_words.specs.Message.{segment_at}
use Rattle.capn_words.specs.declared.space.Place.{Place}
use Rattle.capn_words.specs.declared.pointer.Pointer.{Pointer}
use Rattle.capn_words.specs.declared.pointer.Pointer.TheVariants.{Nil, Node, Many, Far, Cap, Reserved}
use Rattle.capn_words.specs.declared.pointer.Width.TheVariants.{W0, W1, W8, W16, W32, W64, Link, Rows}
use Rattle.capn_target.specs.declared.target.Target.TheVariants as targets
use Rattle.capn_target.specs.declared.target.Shape.{Shape}
use Rattle.capn_target.specs.declared.target.Shape.TheVariants as shapes
use Rattle.capn_words.specs.Pointers.{field, pointer_of}
use Rattle.capn_target.specs.Target.{pointer_in, target}
use Rattle.capn_target.specs.Ways.{Describes}
use Rattle.capn_target.proofs.shared.Ways.{described, cap-pointer}
use Rattle.capn_words.proofs.shared.Choices.{pick}

-- the fields of the pointer are in the ranges of their types
abbrev IsNarrow : Pointer → Type 0
IsNarrow (Node o a b) = (a < 2 ^ 16) × (b < 2 ^ 16)
IsNarrow (Many o k c) = c < 2 ^ 29
IsNarrow (Cap k) = k < 2 ^ 32
IsNarrow _ = ⊤

narrow-pointer : (w : ℕ) → IsNarrow (pointer_of w)
unfolding pointer_of
narrow-pointer w =
    pick IsNarrow (w == 0) _ _ (λ e. tt) (λ n.
    pick IsNarrow (w % 4 == 0) _ _ (λ e. (omega arith, omega arith)) (λ x.
    pick IsNarrow (w % 4 == 1) _ _ (λ e. omega arith) (λ y.
    pick IsNarrow (w % 4 == 2) _ _ (λ e. tt) (λ z.
    pick IsNarrow (field 2 30 w == 0) _ _ (λ e. omega arith) (λ e. tt)))))

-- the sizes and counts of an object of this shape fit the fields of its pointer and of its tag word
abbrev pub HasRoom : Shape → Type 0
HasRoom (shapes.Node a b) = (a < 2 ^ 16) × (b < 2 ^ 16)
HasRoom (shapes.Many width n) = n < 2 ^ 29
HasRoom (shapes.Rows n a b span) = (n < 2 ^ 30) × (a < 2 ^ 16) × (b < 2 ^ 16) × (span < 2 ^ 29)

module _ (m : List (List ℕ)) where
  room-described : (p : Pointer) (s start : ℕ) (shape : Shape) → IsNarrow p → Describes m p s start shape
      → HasRoom shape
  room-described Nil s start shape h d = rw d.0 (omega arith, omega arith)
  room-described (Node o a b) s start shape h d = rw d.0 h
  room-described (Many o W0 n) s start shape h d = rw d.0 h
  room-described (Many o W1 n) s start shape h d = rw d.0 h
  room-described (Many o W8 n) s start shape h d = rw d.0 h
  room-described (Many o W16 n) s start shape h d = rw d.0 h
  room-described (Many o W32 n) s start shape h d = rw d.0 h
  room-described (Many o W64 n) s start shape h d = rw d.0 h
  room-described (Many o Link n) s start shape h d = rw d.0 h
  room-described (Many o Rows n) s start shape h d = rw d.1.1 (omega arith, omega arith, omega arith, h)
  room-described (Far f v t) s start shape h d = absurd d
  room-described (Cap k) s start shape h d = absurd d
  room-described (Reserved n) s start shape h d = absurd d

  narrow-in : (s w : ℕ) → IsNarrow (pointer_in m s w)
  narrow-in s w = narrow-pointer (slice_index (segment_at m s) w)

  -- if the pointer at `at` leads to content, the sizes and counts of the content fit their fields
  pub room-of : (at : Place) (s start pads : ℕ) (shape : Shape) → target m at ≡ Ok (targets.Content s start shape pads)
      → HasRoom shape
  room-of at s start pads shape e =
      let d = described m at s start pads shape e in
      room-described (pointer_in m d.0.segment d.0.word) s start shape (narrow-in d.0.segment d.0.word) d.1

  -- if the pointer at `at` is a capability, the index is below 2^32
  pub cap-of : (at : Place) (k : ℕ) → target m at ≡ Ok (targets.Cap k) → k < 2 ^ 32
  cap-of at k e = let h = rw (cap-pointer m at k e) at (narrow-in at.segment at.word) in h
