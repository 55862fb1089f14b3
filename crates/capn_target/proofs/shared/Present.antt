-- Lemmas for `Inside`, capn_layout and capn_walk: the content that a pointer leads to is in a segment that exists.
use Rattle.std.proofs.Common.{◌≡◌, inl, inr, ℕ, ◌<◌, ◌≤◌, nat_lt, Bool, true, false, List, [], length, Ok, refl, ap}
use Rattle.std.proofs.Common.{arith}
use Rattle.std.proofs.lemmas.Bool.Decides.{nat_tests}
use Rattle.std.proofs.Math.ListN.{get_or-eq_default}
use Rattle.capn_words.specs.Message.{segment_at}
use Rattle.capn_words.specs.declared.space.Place.{Place}
use Rattle.capn_target.specs.declared.target.Target.TheVariants as targets
use Rattle.capn_target.specs.declared.target.Shape.{Shape}
use Rattle.capn_target.specs.Target.{target}
use Rattle.capn_target.specs.Ways.{OneOfThree}
use Rattle.capn_target.proofs.shared.Ways.{one-of-three}

module _ (m : List (List ℕ)) where
  -- if segment `s` has a word `w`, the segment exists
  has-segment : (s w : ℕ) → w < length (segment_at m s) → s < length m
  has-segment s w h = below (nat_lt s (length m)) refl
    where
      below : (b : Bool) → nat_lt s (length m) ≡ b → s < length m
      below true e = grind (arith, nat_tests)
      below false e =
          let past : length m ≤ s = grind (arith, nat_tests) in
          let none : length (segment_at m s) ≡ 0 = ap length (get_or-eq_default m [] past) in
          absurd (omega arith)

  there : (at : Place) (s start pads : ℕ) (shape : Shape) → at.word < length (segment_at m at.segment)
      → OneOfThree m at s start shape pads → s < length m
  there at s start pads shape h (inl n) = rw n.here (has-segment at.segment at.word h)
  there at s start pads shape h (inr (inl n)) = n.pad.0
  there at s start pads shape h (inr (inr n)) = n.there

  -- if the place `at` is in range, and the pointer at `at` leads to content, the segment of the content exists
  pub present : (at : Place) (s start pads : ℕ) (shape : Shape) → at.word < length (segment_at m at.segment) →
      target m at ≡ Ok (targets.Content s start shape pads) → s < length m
  present at s start pads shape h e = there at s start pads shape h (one-of-three m at s start pads shape e)
