-- The text of a path, which is the numbers that lead from the root of a message to a slot below it. (Our own.)
use Rattle.std.specs.Prelude.{◌≡◌, ℕ, ◌+◌, ◌-◌, ◌*◌, ◌^◌, ◌==◌, ◌&&◌, nat_le, nat_lt, List, [], ◌∷◌, Option, Some, None}
use Rattle.std.specs.Prelude.{codes, cond, option_and_then, option_map, unwrap_or, refl}
use Rattle.std.specs.Borrow.{Bor}
use Rattle.clap.specs.Words.{Text}

-- The number `begun`, or 0 if there is none, with the digit `c` appended. It is `None` if `c` is no digit, or if the
-- number is 2^64 or more.
abbrev pub with_digit : Option ℕ → ℕ → Option ℕ
with_digit begun c = cond (nat_le 48 c && nat_le c 57)
    (cond (nat_lt (unwrap_or begun 0 * 10 + (c - 48)) (2 ^ 64)) (Some (unwrap_or begun 0 * 10 + (c - 48))) None) None

-- The numbers of a text, which are separated by dots. If `begun` is given, the first digits of the text are appended to
-- it. The result is `None` if a number is missing or too great, or if a character is neither a digit nor a dot.
abbrev pub path_from : Option ℕ → Text → Option (List ℕ)
path_from begun [] = option_map (λ n. n ∷ []) begun
path_from begun (c ∷ rest) = cond (c == 46)
    (option_and_then (λ n. option_map (λ path. n ∷ path) (path_from None rest)) begun)
    (option_and_then (λ n. path_from (Some n) rest) (with_digit begun c))

-- The numbers of `text`, which are below 2^64 and separated by single dots. The result is `None` if `text` is no path.
abbrev pub path_of : Text → Option (List ℕ)
path_of text = path_from None text

-- The numbers of a path, or no numbers if there is no path. The result is `None` if the text is not a path.
abbrev pub numbers_of : Option (Bor Text) → Option (List ℕ)
numbers_of None = Some []
numbers_of (Some text) = path_of text.now

three_numbers : path_of (codes "0.3.18446744073709551615") ≡ Some (0 ∷ 3 ∷ 18446744073709551615 ∷ [])
three_numbers = refl

one_number : path_of (codes "007") ≡ Some (7 ∷ [])
one_number = refl

too_great : path_of (codes "18446744073709551616") ≡ None
too_great = refl

nothing : path_of (codes "") ≡ None
nothing = refl

two_dots : path_of (codes "0..1") ≡ None
two_dots = refl

last_dot : path_of (codes "0.") ≡ None
last_dot = refl

first_dot : path_of (codes ".0") ≡ None
first_dot = refl

a_sign : path_of (codes "+1") ≡ None
a_sign = refl
