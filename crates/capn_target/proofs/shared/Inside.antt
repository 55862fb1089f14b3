-- Lemmas for `resolve`, capn_canon, capn_diagnostics and other crates: the content that a pointer leads to lies within
-- its segment, which exists.
use Rattle.std.proofs.Common.{◌≡◌, ℕ, ◌+◌, ◌<◌, ◌≤◌, List, length, Result, Ok, Err, IfOk}
use Rattle.capn_words.specs.Message.{segment_at}
use Rattle.capn_words.specs.declared.space.Place.{Place}
use Rattle.capn_words.specs.declared.pointer.Pointer.{Pointer}
use Rattle.capn_words.specs.declared.pointer.Pointer.TheVariants.{Nil, Node, Many, Far, Cap, Reserved}
use Rattle.capn_words.specs.declared.pointer.Width.TheVariants.{W0, W1, W8, W16, W32, W64, Link, Rows}
use Rattle.capn_target.specs.declared.target.Target.{Target}
use Rattle.capn_target.specs.declared.target.Target.TheVariants as targets
use Rattle.capn_target.specs.declared.target.Fault.{Fault}
use Rattle.capn_target.specs.declared.target.Shape.{Shape}
use Rattle.capn_target.specs.declared.target.Shape.TheVariants as shapes
use Rattle.capn_target.specs.Target.{pointer_in, target}
use Rattle.capn_target.specs.Shapes.{extent, RowsFit, IsInMessage}
use Rattle.capn_target.specs.Ways.{Describes}
use Rattle.capn_target.proofs.shared.Ways.{described}
use Rattle.capn_target.proofs.shared.Present.{present}

module _ (m : List (List ℕ)) where
  -- content of the form `shape` at `start` lies within segment `s`, and `RowsFit` holds of `shape`
  abbrev Inside : ℕ → ℕ → Shape → Type 0
  Inside s start shape = (start + extent shape ≤ length (segment_at m s)) × RowsFit shape

  inside-described : (p : Pointer) (s start : ℕ) (shape : Shape) → Describes m p s start shape → Inside s start shape
  inside-described Nil s start shape d = rw d.0 (d.1, tt)
  inside-described (Node o a b) s start shape d = rw d.0 (d.1, tt)
  inside-described (Many o W0 n) s start shape d = rw d.0 (d.1, tt)
  inside-described (Many o W1 n) s start shape d = rw d.0 (d.1, tt)
  inside-described (Many o W8 n) s start shape d = rw d.0 (d.1, tt)
  inside-described (Many o W16 n) s start shape d = rw d.0 (d.1, tt)
  inside-described (Many o W32 n) s start shape d = rw d.0 (d.1, tt)
  inside-described (Many o W64 n) s start shape d = rw d.0 (d.1, tt)
  inside-described (Many o Link n) s start shape d = rw d.0 (d.1, tt)
  inside-described (Many o Rows n) s start shape d = rw d.1.1 (d.0, d.1.2)
  inside-described (Far f v t) s start shape d = absurd d
  inside-described (Cap k) s start shape d = absurd d
  inside-described (Reserved n) s start shape d = absurd d

  -- if the pointer at `at` leads to content of the form `shape`, the content lies within segment `s`, and `RowsFit`
  -- holds of `shape`
  pub inside : (at : Place) (s start pads : ℕ) (shape : Shape) → target m at ≡ Ok (targets.Content s start shape pads) →
      (start + extent shape ≤ length (segment_at m s)) × RowsFit shape
  inside at s start pads shape e =
      let d = described m at s start pads shape e in
      inside-described (pointer_in m d.0.segment d.0.word) s start shape d.1

-- if the place `at` is in range, `IsInMessage` holds of the target of the pointer at `at`
pub found-inside : (m : List (List ℕ)) (at : Place) (t : Target) → at.word < length (segment_at m at.segment)
    → target m at ≡ Ok t → IsInMessage m t
found-inside m at targets.Nil h e = tt
found-inside m at (targets.Cap k) h e = tt
found-inside m at (targets.Content s start shape pads) h e =
    let i = inside m at s start pads shape e in
    (record { exists = present m at s start pads shape h e; within = i.0 }, i.1)

-- if the place `at` is in range, and the result `r` of `target` at `at` is `Ok t`, `IsInMessage` holds of `t`
pub answer-inside : (m : List (List ℕ)) (at : Place) (r : Result Target Fault)
    → at.word < length (segment_at m at.segment) → target m at ≡ r
    → IfOk r (IsInMessage m)
answer-inside m at (Ok t) h e = found-inside m at t h e
answer-inside m at (Err f) h e = tt
