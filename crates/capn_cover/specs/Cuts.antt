-- The words that canonical bytes leave out of the object to which they belong: of a struct its trailing zero words and
-- trailing null slots, and of the structs of a list those that are left out of each. (Our own.)
use Rattle.std.specs.Prelude.{ℕ, ◌+◌, ◌-◌, ◌*◌, ◌%◌, nat_lt, Bool, false, not, ◌&&◌, List, Result, Ok}
use Rattle.std.specs.Prelude.{Option, Some, None}
use Rattle.capn_words.specs.declared.space.Place.{Place}
use Rattle.capn_target.specs.declared.target.Target.{Target}
use Rattle.capn_target.specs.declared.target.Target.TheVariants as targets
use Rattle.capn_target.specs.declared.target.Shape.TheVariants as shapes
use Rattle.capn_target.specs.declared.target.Fault.{Fault}
use Rattle.capn_target.specs.Target.{target}
use Rattle.capn_layout.specs.RowWords.{kept_each}
use Rattle.capn_cover.specs.Numbers.{number, place_from}
use Rattle.capn_cover.specs.declared.covered.Role.{Role}
use Rattle.capn_cover.specs.declared.covered.Role.TheVariants as roles

-- word `i` of a row with `a` data words, which has the given role, lies behind the `words` data words or the `slots`
-- slots that are kept
abbrev pub is_behind : (a words slots : ℕ) → Role → (i : ℕ) → Bool
is_behind a words slots roles.Data i = not (nat_lt i words)
is_behind a words slots roles.Slot i = not (nat_lt i (a + slots))
is_behind a words slots _ i = false

-- the word with the number `v` is one of `n` words from the number `first` on
abbrev pub is_in : (first n v : ℕ) → Bool
is_in first n v = not (nat_lt v first) && nat_lt v (first + n)

module _ (message : List (List ℕ)) where
  -- The word with the number `v`, which has the given role, lies in `n` rows, and canonical bytes leave out the word at
  -- its index of every row. The rows begin at word `w` of segment `s`, and each has `a` data words and then `b` slots.
  abbrev pub is_cut_of_rows : (s w a b n : ℕ) → Role → (v : ℕ) → Bool
  is_cut_of_rows s w a b n role v =
      let first : ℕ = number message (record { segment = s; word = w }) in
      is_in first (n * (a + b)) v
      && is_behind a (kept_each message s w a (a + b) n) (kept_each message s (w + a) b (a + b) n) role
      ((v - first) % (a + b))

  -- canonical bytes leave the word with the number `v`, which has the given role, out of the object that is the target;
  -- a struct counts as one row
  abbrev pub is_cut_of : Result Target Fault → Role → (v : ℕ) → Bool
  is_cut_of (Ok (targets.Content s start (shapes.Node a b) pads)) role v = is_cut_of_rows s start a b 1 role v
  is_cut_of (Ok (targets.Content s start (shapes.Rows n a b span) pads)) role v =
      is_cut_of_rows s (start + 1) a b n role v
  is_cut_of _ role v = false

  -- canonical bytes leave the word out of the object to which the slot at a place leads
  abbrev pub is_cut_at : Option Place → Role → (v : ℕ) → Bool
  is_cut_at (Some at) role v = is_cut_of (target message at) role v
  is_cut_at None role v = false

  -- canonical bytes leave the word with the number `v` out of the object to which it belongs: it has the given role in
  -- the visit of the slot with the given number
  unfoldable pub is_cut : (slot : ℕ) → Role → (v : ℕ) → Bool
  is_cut slot role v = is_cut_at (place_from 0 message slot) role v
