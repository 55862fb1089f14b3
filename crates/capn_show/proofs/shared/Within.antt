-- An element of a list is in one of the words of the list's content. (For `show_numbers` and capn_marks.)
use Rattle.std.proofs.Common.{ℕ, ◌+◌, ◌/◌, ◌<◌, ◌≤◌, arith}
use Rattle.capn_words.specs.declared.pointer.Width.{Width}
use Rattle.capn_words.specs.declared.pointer.Width.TheVariants.{W0, W1, W8, W16, W32, W64, Link, Rows}
use Rattle.capn_target.specs.Target.{content_words}
use Rattle.capn_walk.specs.View.{per_word}
use Rattle.capn_show.specs.ReadyPlaces.{HasNumbers}

pub element-within : (width : Width) (n i : ℕ) → HasNumbers width → i < n
    → i / per_word width + 1 ≤ content_words width n
element-within W0 n i h below = absurd h
element-within W1 n i h below = omega arith
element-within W8 n i h below = omega arith
element-within W16 n i h below = omega arith
element-within W32 n i h below = omega arith
element-within W64 n i h below = omega arith
element-within Link n i h below = absurd h
element-within Rows n i h below = absurd h
