-- The code points that nobody sees, or that turn what others see. Between quotes each is written as its number. (Our
-- own.)
use Rattle.std.specs.Prelude.{◌≡◌, ℕ, ◌/◌, ◌%◌, List, [], ◌∷◌, ◌++◌, codes, Bool}
use Rattle.std.specs.Prelude.{◌&&◌, ◌||◌, ◌==◌, nat_le, nat_lt, cond, slice_index, refl}
use Rattle.hex.specs.Hex.{lower_digits}

-- True if `n` is from `low` to `high`.
abbrev pub is_from : ℕ → ℕ → ℕ → Bool
is_from low high n = nat_le low n && nat_le n high

-- True if the code point `c` is written as its number.
abbrev pub is_hidden : ℕ → Bool
is_hidden c = c == 0xad || (c == 0x61c || (c == 0x180e || (is_from 0x200b 0x200f c || (is_from 0x2028 0x202e c
    || (is_from 0x2060 0x206f c || (c == 0xfeff || (is_from 0xfff9 0xfffb c || is_from 0xe0000 0xe007f c)))))))

-- The hexadecimal digit, in lower case, of a number below 16.
abbrev pub digit : ℕ → ℕ
digit n = slice_index lower_digits n

-- The digits without the zeros before the first other digit.
abbrev pub without_zeros : List ℕ → List ℕ
without_zeros [] = []
without_zeros (d ∷ ds) = cond (d == 48) (without_zeros ds) (d ∷ ds)

-- The number `n`, which is below 2^20, in five hexadecimal digits.
abbrev pub five_digits : ℕ → List ℕ
five_digits n =
    digit (n / 65536 % 16) ∷ digit (n / 4096 % 16) ∷ digit (n / 256 % 16) ∷ digit (n / 16 % 16) ∷ digit (n % 16) ∷ []

-- The number `n`, which is below 2^20, in hexadecimal digits, without a zero before it.
abbrev pub hexadecimal : ℕ → List ℕ
hexadecimal n = without_zeros (five_digits n)

-- The code point `c`, written as its number.
abbrev pub numbered : ℕ → List ℕ
numbered c = codes "\\u{" ++ (hexadecimal c ++ 125 ∷ [])

-- True if some hidden code point has a number that begins with the hexadecimal digits of `n` and has more digits.
abbrev pub begins_longer : ℕ → Bool
begins_longer n = n == 0xa || (n == 0x6 || (n == 0x61 || (n == 0x1 || (n == 0x18 || (n == 0x180 || (n == 0x2
    || (n == 0x20 || (n == 0x200 || (n == 0x202 || (n == 0x206 || (n == 0xf || (n == 0xfe || (n == 0xfef || (n == 0xff
    || (n == 0xfff || (n == 0xe || (n == 0xe0 || (n == 0xe00 || is_from 0xe000 0xe007 n))))))))))))))))))

-- True if some hidden code point has a number that begins with the hexadecimal digits of `n`.
abbrev pub begins_hidden : ℕ → Bool
begins_hidden n = nat_lt n 0x100000 && (is_hidden n || begins_longer n)

a_soft_hyphen : numbered 0xad ≡ codes "\\u{ad}"
a_soft_hyphen = refl

right_to_left : numbered 0x202e ≡ codes "\\u{202e}"
right_to_left = refl

a_tag : numbered 0xe007f ≡ codes "\\u{e007f}"
a_tag = refl
