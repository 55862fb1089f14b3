-- Lemmas for `Pointers`: each field of a pointer fits its bits in the word, and can be read back from the word.
use Rattle.std.proofs.Common.{◌≡◌, ℕ, suc, ◌-◌, ◌^◌, ◌<◌, ◌≤◌, ◌==◌, nat_lt, Bool, true, false, ℤ, pos}
use Rattle.std.proofs.Common.{negsuc, refl, ap, ◌∙◌, arith}
use Rattle.std.specs.Int.{from_bool}
use Rattle.capn_words.specs.Pointers.{FitsOffset, offset_field, width_code, signed, width_of}
use Rattle.capn_words.specs.declared.pointer.Width.{Width}
use Rattle.capn_words.specs.declared.pointer.Width.TheVariants.{W0, W1, W8, W16, W32, W64, Link, Rows}
use Rattle.capn_words.proofs.shared.Choices.{if-yes, if-no, less-yes, less-no}

-- ---- offsets

-- if the offset `o` fits, `offset_field o` is below 2^30
pub offset_field-lt : (o : ℤ) → FitsOffset o → offset_field o < 2 ^ 30
offset_field-lt (pos n) h = omega arith
offset_field-lt (negsuc n) h = omega arith

-- if the offset `o` fits, `signed` reads it back from its 30 bits
pub signed-again : (o : ℤ) → FitsOffset o → signed (offset_field o) ≡ o
signed-again (pos n) h = if-yes (nat_lt n (2 ^ 29)) _ _ (less-yes n (2 ^ 29) h)
signed-again (negsuc n) h =
    let high : 2 ^ 29 ≤ 2 ^ 30 - suc n = omega arith in
    let back : 2 ^ 30 - suc (2 ^ 30 - suc n) ≡ n = omega arith in
    if-no (nat_lt (2 ^ 30 - suc n) (2 ^ 29)) _ _ (less-no (2 ^ 30 - suc n) (2 ^ 29) high) ∙ ap negsuc back

-- ---- widths

-- the code of the width `k` is below 8
pub width_code-lt : (k : Width) → width_code k < 8
width_code-lt W0 = omega arith
width_code-lt W1 = omega arith
width_code-lt W8 = omega arith
width_code-lt W16 = omega arith
width_code-lt W32 = omega arith
width_code-lt W64 = omega arith
width_code-lt Link = omega arith
width_code-lt Rows = omega arith

-- `width_of` reads the width `k` back from its code
pub width_of-width_code : (k : Width) → width_of (width_code k) ≡ k
width_of-width_code W0 = refl
width_of-width_code W1 = refl
width_of-width_code W8 = refl
width_of-width_code W16 = refl
width_of-width_code W32 = refl
width_of-width_code W64 = refl
width_of-width_code Link = refl
width_of-width_code Rows = refl

-- ---- the bit of a double far pointer

-- the truth value `d` as a number is at most 1
pub from_bool-le : (d : Bool) → from_bool d ≤ 1
from_bool-le true = omega arith
from_bool-le false = omega arith

-- the truth value `d` is true exactly if it is 1 as a number
pub bool-again : (d : Bool) → (from_bool d == 1) ≡ d
bool-again true = refl
bool-again false = refl
