-- The landing pad of a slot that leads to content lies inside its segment.
use Rattle.std.proofs.Common.{◌≡◌, inl, inr, ℕ, ◌+◌, ◌<◌, ◌≤◌, Bool, true, false, List, length, Ok, arith, sym, ◌∙◌}
use Rattle.capn_words.specs.Message.{segment_at}
use Rattle.capn_words.specs.declared.space.Place.{Place}
use Rattle.capn_words.specs.declared.pointer.Pointer.TheVariants.{Far}
use Rattle.capn_target.specs.declared.target.Target.TheVariants as targets
use Rattle.capn_target.specs.declared.target.Shape.{Shape}
use Rattle.capn_target.specs.Target.{pointer_in, target}
use Rattle.capn_target.specs.Ways.{OneOfThree}
use Rattle.capn_target.proofs.shared.Ways.{one-of-three}

-- the segment of a landing pad exists, and the pad's words lie inside it
pub record IsInside (m : List (List ℕ)) (segment word n : ℕ) : Type 0 where
  pub exists : segment < length m
  pub within : word + n ≤ length (segment_at m segment)

module _ (m : List (List ℕ)) (at : Place) (double : Bool) (word segment : ℕ)
    (far : pointer_in m at.segment at.word ≡ Far double word segment) where
  inside-by : (s start pads : ℕ) (shape : Shape) → OneOfThree m at s start shape pads → IsInside m segment word pads
  inside-by s start pads shape (inl near) = let d = rw far at near.content in absurd d
  inside-by s start pads shape (inr (inl one)) =
      let same : Far double word segment ≡ Far false one.word s = sym far ∙ one.far in
      let e : segment ≡ s = cc in
      let f : word ≡ one.word = cc in
      let pad = one.pad in
      let k = one.one in
      rw (e, f) (record { exists = pad.0; within = omega arith })
  inside-by s start pads shape (inr (inr two)) =
      let same : Far double word segment ≡ Far true two.word two.segment = sym far ∙ two.far in
      let e : segment ≡ two.segment = cc in
      let f : word ≡ two.word = cc in
      let pad = two.pad in
      let k = two.two in
      rw (e, f) (record { exists = pad.0; within = omega arith })

  pub pad-inside : (s start pads : ℕ) (shape : Shape) → target m at ≡ Ok (targets.Content s start shape pads)
      → IsInside m segment word pads
  pad-inside s start pads shape e = inside-by s start pads shape (one-of-three m at s start pads shape e)
