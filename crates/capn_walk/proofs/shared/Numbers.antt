-- Lists of numbers, given the width in the pointer to the list. (For `CapsMet`, `Costs`, `Heights`, `Unique`,
-- capn_canon and capn_layout.)
use Rattle.std.proofs.Common.{◌≡◌, ℕ, ◌+◌, ◌≤◌, [], Some, None, Option, refl, sym, ap, subst, ◌∙◌, arith}
use Rattle.std.proofs.Math.Nat.{le_refl}
use Rattle.std.specs.Int.{div_ceil}
use Rattle.capn_words.specs.declared.pointer.Width.{Width}
use Rattle.capn_words.specs.declared.pointer.Width.TheVariants.{W1, W8, W16, W32, W64}
use Rattle.capn_value.specs.NumberWidth.{NumberWidth, bit, byte, pair, quad, oct, per_word}
use Rattle.capn_target.specs.declared.target.Shape.TheVariants as shapes
use Rattle.capn_target.specs.Target.{list_width, content_words}
use Rattle.capn_walk.specs.Visits.{slots, price}

-- the `NumberWidth` of a list with the given `Width`, or `None` if the elements are not numbers
abbrev pub number_width : Width → Option NumberWidth
number_width W1 = Some bit
number_width W8 = Some byte
number_width W16 = Some pair
number_width W32 = Some quad
number_width W64 = Some oct
number_width _ = None

pub number_width-list : (a : NumberWidth) → number_width (list_width a) ≡ Some a
number_width-list bit = refl
number_width-list byte = refl
number_width-list pair = refl
number_width-list quad = refl
number_width-list oct = refl

-- two widths of numbers are equal if their list widths are equal
pub same-list_width : (a b : NumberWidth) → list_width a ≡ list_width b → a ≡ b
same-list_width a b e = let same : Some a ≡ Some b =
    sym (number_width-list a) ∙ ap number_width e ∙ number_width-list b in cc

-- if `number_width w` is `None`, no list of numbers has the width `w`
pub no-number_width : (a : NumberWidth) (w : Width) → number_width w ≡ None → list_width a ≡ w → ⊥
no-number_width a w none e = let same : Some a ≡ None = sym (number_width-list a) ∙ ap number_width e ∙ none in
    absurd cc

-- a list of numbers has no slots
pub no-slots : (a : NumberWidth) (s start n : ℕ) → slots s start (shapes.Many (list_width a) n) ≡ []
no-slots bit s start n = refl
no-slots byte s start n = refl
no-slots pair s start n = refl
no-slots quad s start n = refl
no-slots oct s start n = refl

-- the sum of `base` and the words of `n` numbers is the price of a list of these numbers
pub numbers-price : (a : NumberWidth) (base n : ℕ)
    → base + div_ceil n (per_word a) ≡ price base (shapes.Many (list_width a) n)
numbers-price bit base n = omega arith
numbers-price byte base n = omega arith
numbers-price pair base n = omega arith
numbers-price quad base n = omega arith
numbers-price oct base n = omega arith

pub numbers-paid : (a : NumberWidth) (base n : ℕ)
    → base + div_ceil n (per_word a) ≤ price base (shapes.Many (list_width a) n)
numbers-paid a base n =
    subst (λ (k : ℕ). base + div_ceil n (per_word a) ≤ k) (numbers-price a base n)
    (le_refl (base + div_ceil n (per_word a)))

-- the number of words of a list of `n` numbers is at most the list's cost
pub numbers-sized : (a : NumberWidth) (base n : ℕ) → content_words (list_width a) n ≤ base + div_ceil n (per_word a)
numbers-sized bit base n = omega arith
numbers-sized byte base n = omega arith
numbers-sized pair base n = omega arith
numbers-sized quad base n = omega arith
numbers-sized oct base n = omega arith
