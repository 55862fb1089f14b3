-- The target of a far pointer to a landing pad of one word, given the place of the pad. (For `visit_behind_pad`.)
use Rattle.std.proofs.Common.{◌≡◌, ℕ, ◌+◌, ◌<◌, ◌≤◌, nat_lt, if◌then◌else◌, false, List, length, Result, Err}
use Rattle.std.proofs.Common.{ap, ◌∙◌, arith}
use Rattle.capn_words.specs.Message.{segment_at}
use Rattle.capn_words.specs.declared.space.Place.{Place}
use Rattle.capn_words.specs.declared.pointer.Pointer.TheVariants.{Far}
use Rattle.capn_words.proofs.shared.Choices.{if-yes, if-no, less-yes, less-no}
use Rattle.capn_target.specs.declared.target.Target.{Target}
use Rattle.capn_target.specs.declared.target.Fault.{Fault}
use Rattle.capn_target.specs.declared.target.Fault.TheVariants as faults
use Rattle.capn_target.specs.Target.{landing, target_from, target_of_pointer, pointer_in, target}

module _ (m : List (List ℕ)) (at : Place) (s w : ℕ) (far : pointer_in m at.segment at.word ≡ Far false w s) where
  abbrev found : Result Target Fault
  found = target_from m s w 1 (pointer_in m s w)

  abbrev in-range : Result Target Fault
  in-range = if nat_lt (length (segment_at m s)) (w + 1) then Err faults.PadRange else found

  behind : target m at ≡ landing m s w 1 found
  unfolding target
  behind = ap (target_of_pointer m at.segment at.word) far

  present : s < length m → target m at ≡ in-range
  present h = behind ∙ if-yes (nat_lt s (length m)) in-range _ (less-yes s (length m) h)

  -- Case: the segment of the pad doesn't exist. The fault is `NoSegment`.
  pub pad-nowhere : length m ≤ s → target m at ≡ Err faults.NoSegment
  pad-nowhere h = behind ∙ if-no (nat_lt s (length m)) in-range _ (less-no s (length m) h)

  -- Case: the segment of the pad exists, and the pad is past the end of that segment. The fault is `PadRange`.
  pub pad-past : s < length m → length (segment_at m s) ≤ w → target m at ≡ Err faults.PadRange
  pad-past h l =
      present h ∙ if-yes (nat_lt (length (segment_at m s)) (w + 1)) _ found
      (less-yes (length (segment_at m s)) (w + 1) (omega arith))

  -- Case: the pad exists. The target is the one that the pad names.
  pub pad-there : s < length m → w < length (segment_at m s) → target m at ≡ target_from m s w 1 (pointer_in m s w)
  pad-there h l =
      present h ∙ if-no (nat_lt (length (segment_at m s)) (w + 1)) (Err faults.PadRange) found
      (less-no (length (segment_at m s)) (w + 1) (omega arith))
