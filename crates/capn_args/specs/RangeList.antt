-- The text of `--only`: message numbers, and ranges of them. (Our own.)
use Rattle.std.specs.Prelude.{◌≡◌, ℕ, ◌==◌, ◌&&◌, nat_le, nat_lt, List, [], ◌∷◌, Option, Some, None, codes, cond}
use Rattle.std.specs.Prelude.{option_and_then, option_map, unwrap_or, refl}
use Rattle.clap.specs.Words.{Text}
use Rattle.capn_serve.specs.declared.pick.Range.{Range}
use Rattle.capn_args.specs.Path.{with_digit}
use Rattle.capn_args.specs.declared.range_list.Begun.{Begun}

-- The state before any character of a range is read. `last` is the last number of the previous range, or 0.
abbrev pub fresh : ℕ → Begun
fresh last = record { last = last; first = None; digits = None }

-- The range from `from` to `to`, if `from` is greater than `last` and not greater than `to`. `last` is the last number
-- of the previous range, or 0.
abbrev pub range_from : ℕ → ℕ → ℕ → Option Range
range_from last from to = cond (nat_lt last from && nat_le from to) (Some (record { from = from; to = to })) None

-- The range from `b.first` to `b.digits`, or the number `b.digits` alone if there is no `b.first`. It is `None` if
-- there are no `b.digits`, or if `range_from` refuses the range.
abbrev pub range_of : Begun → Option Range
range_of b = option_and_then (λ to. range_from b.last (unwrap_or b.first to) to) b.digits

-- The state after a hyphen, with `digits` as the first number of the range. It is `None` if `digits` is `None`, or if
-- the range already has a first number.
abbrev pub with_hyphen : ℕ → Option ℕ → Option ℕ → Option Begun
with_hyphen last None digits = option_map (λ n. record { last = last; first = Some n; digits = None }) digits
with_hyphen last (Some n) digits = None

-- The state after a digit, with `n` as the number. It is `None` if `n` is 0, since a number must not begin with a zero.
abbrev pub with_number : ℕ → Option ℕ → ℕ → Option Begun
with_number last first n = cond (n == 0) None (Some (record { last = last; first = first; digits = Some n }))

-- The state that follows `b` when the character `c` of a range is read. It is `None` if `c` must not follow.
abbrev pub longer : Begun → ℕ → Option Begun
longer b c =
    cond (c == 45) (with_hyphen b.last b.first b.digits)
    (option_and_then (λ n. with_number b.last b.first n) (with_digit b.digits c))

-- The ranges of a text, the first of which has begun with the state `b`. A comma ends a range, and so does the end of
-- the text.
abbrev pub ranges_from : Begun → Text → Option (List Range)
ranges_from b [] = option_map (λ r. r ∷ []) (range_of b)
ranges_from b (c ∷ rest) =
    cond (c == 44) (option_and_then (λ r. option_map (λ rs. r ∷ rs) (ranges_from (fresh r.to) rest)) (range_of b))
    (option_and_then (λ next. ranges_from next rest) (longer b c))

-- The ranges of `text`, if `text` is a list of numbers and ranges from 1 to 2^64 - 1, in ascending order, separated by
-- single commas.
abbrev pub ranges_in : Text → Option (List Range)
ranges_in text = ranges_from (fresh 0) text

numbers_and_ranges : ranges_in (codes "3,7,9-12")
    ≡ Some ((record { from = 3; to = 3 }) ∷ (record { from = 7; to = 7 }) ∷ (record { from = 9; to = 12 }) ∷ [])
numbers_and_ranges = refl

adjacent : ranges_in (codes "3-4,5")
    ≡ Some ((record { from = 3; to = 4 }) ∷ (record { from = 5; to = 5 }) ∷ [])
adjacent = refl

greatest : ranges_in (codes "1-18446744073709551615")
    ≡ Some ((record { from = 1; to = 18446744073709551615 }) ∷ [])
greatest = refl

too_great : ranges_in (codes "18446744073709551616") ≡ None
too_great = refl

nothing : ranges_in (codes "") ≡ None
nothing = refl

zero_alone : ranges_in (codes "0") ≡ None
zero_alone = refl

leading_zero : ranges_in (codes "1,02") ≡ None
leading_zero = refl

a_sign : ranges_in (codes "+1") ≡ None
a_sign = refl

twice : ranges_in (codes "3,3") ≡ None
twice = refl

descending : ranges_in (codes "7,3") ≡ None
descending = refl

backwards : ranges_in (codes "5-4") ≡ None
backwards = refl

overlapping : ranges_in (codes "3-5,5-6") ≡ None
overlapping = refl

open_range : ranges_in (codes "3-") ≡ None
open_range = refl

two_hyphens : ranges_in (codes "3-4-5") ≡ None
two_hyphens = refl

last_comma : ranges_in (codes "3,") ≡ None
last_comma = refl

a_blank : ranges_in (codes "3, 4") ≡ None
a_blank = refl
