-- Two searches among the slots that a walk visits: for the first capability, and for the slot that owns a word.
use Rattle.std.specs.Prelude.{ℕ, ◌+◌, ◌==◌, ◌&&◌, nat_lt, Bool, true, false}
use Rattle.std.specs.Prelude.{Option, Some, None, Result, Ok, Err, if◌then◌else◌}
use Rattle.capn_words.specs.declared.space.Place.{Place}
use Rattle.capn_words.specs.declared.pointer.Width.{Width}
use Rattle.capn_words.specs.declared.pointer.Width.TheVariants.{W1, W8, W16, W32}
use Rattle.capn_target.specs.declared.target.Target.{Target}
use Rattle.capn_target.specs.declared.target.Target.TheVariants as targets
use Rattle.capn_target.specs.declared.target.Shape.TheVariants as shapes
use Rattle.capn_target.specs.declared.target.Fault.{Fault}
use Rattle.capn_target.specs.Target.{content_words}
use Rattle.capn_walk.specs.Surveyed.{cap_of}
use Rattle.capn_mismatch.specs.declared.word_kind.Owner.{Owner}
use Rattle.capn_mismatch.specs.declared.word_kind.WordKind.{WordKind}
use Rattle.capn_mismatch.specs.declared.word_kind.WordKind.TheVariants as found

-- True if word `w` of segment `s` is at `place`.
abbrev pub is_at : ℕ → ℕ → Place → Bool
is_at s w place = (s == place.segment) && (w == place.word)

-- True if several elements of the width share a word. This holds for `W1`, `W8`, `W16` and `W32`.
abbrev pub is_small : Width → Bool
is_small W1 = true
is_small W8 = true
is_small W16 = true
is_small W32 = true
is_small width = false

-- True if the word at `place` is the last of `n` words from word `start` of segment `s` on.
abbrev pub ends_at : ℕ → ℕ → ℕ → Place → Bool
ends_at s start n place = (s == place.segment) && (nat_lt 0 n && (start + n == place.word + 1))

-- The kind of the word at `word`, if it is the tag or the last word of the given target. Else the result is `None`.
abbrev pub found_in : Place → Target → Option WordKind
found_in word (targets.Content s start (shapes.Rows n a b span) pads) =
    if is_at s start word then Some found.Tag else None
found_in word (targets.Content s start (shapes.Many width n) pads) =
    if is_small width && ends_at s start (content_words width n) word then Some found.LastWord else None
found_in word named = None

-- The result of `found_in` for the target `named`, or `None` if the slot's pointer has a fault.
abbrev pub found_there : Place → Result Target Fault → Option WordKind
found_there word (Ok named) = found_in word named
found_there word (Err e) = None

-- The kind of the word at `word`, if the slot at `at` owns it. The word is then the slot's pointer, or the tag or the
-- last word of the slot's target.
abbrev pub finds : Place → Place → Result Target Fault → Option WordKind
finds word at named = if is_at at.segment at.word word then Some found.Pointer else found_there word named

-- The result, at one slot, of a search for the slot that owns `aim.word`.
abbrev pub owned : Owner → Place → Result Target Fault → Option WordKind
owned aim = finds aim.word

module _ {G : Type 0} where
  -- The result, at one slot, of a search for a capability: the index of the capability that the slot names.
  abbrev pub capability : G → Place → Result Target Fault → Option ℕ
  capability aim at named = cap_of named

  -- The aim after a visit, which is `aim` itself.
  abbrev pub same : G → G
  same aim = aim
