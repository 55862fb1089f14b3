-- The text of `--number`, which is the number of a message. (Our own.)
use Rattle.std.specs.Prelude.{◌≡◌, ℕ, ◌==◌, [], ◌∷◌, Option, Some, None, codes, cond, option_and_then, refl}
use Rattle.clap.specs.Words.{Text}
use Rattle.capn_args.specs.Path.{with_digit}

-- The number whose digits are those of `begun`, if it is given, and then those of a text. It is `None` if a character
-- is no digit, if there are no digits, if the number is 2^64 or more, or if the number begins with a zero.
abbrev pub number_from : Option ℕ → Text → Option ℕ
number_from begun [] = begun
number_from begun (c ∷ rest) =
    option_and_then (λ n. cond (n == 0) None (number_from (Some n) rest)) (with_digit begun c)

-- The number from 1 to 2^64 - 1 that `text` shows in digits, or `None` if `text` shows no such number.
abbrev pub number_of : Text → Option ℕ
number_of text = number_from None text

least : number_of (codes "1") ≡ Some 1
least = refl

greatest : number_of (codes "18446744073709551615") ≡ Some 18446744073709551615
greatest = refl

zeros_within : number_of (codes "1002") ≡ Some 1002
zeros_within = refl

too_great : number_of (codes "18446744073709551616") ≡ None
too_great = refl

nothing : number_of (codes "") ≡ None
nothing = refl

zero : number_of (codes "0") ≡ None
zero = refl

leading_zero : number_of (codes "01") ≡ None
leading_zero = refl

a_sign : number_of (codes "+1") ≡ None
a_sign = refl

a_blank : number_of (codes "1 ") ≡ None
a_blank = refl
