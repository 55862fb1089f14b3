-- Lemmas on one more read of the input. (For `read_words`.)
use Rattle.std.proofs.Common.{◌≡◌, ℕ, ◌<◌, ◌^◌, List, ◌++◌, length, refl, ap, ◌∙◌, arith, length-append, append-nil}
use Rattle.std.proofs.Common.{Option, None, Some, IfSome, Bool, true, false, nat_lt, ◌||◌}
use Rattle.std.proofs.lemmas.List.{take-append-le}
use Rattle.std.proofs.lemmas.Bool.Decides.{nat_tests}
use Rattle.capn_commands.specs.Text.{taken_of, has_more}
use Rattle.capn_commands.specs.inner.ReadInput.{Kept}

is_below : (a b : ℕ) → a < b → nat_lt a b ≡ true
is_below a b h = grind (arith, nat_tests)

pub has_broken : (old new : Bool) → new ≡ (old || true) → new ≡ true
has_broken false new is = is
has_broken true new is = is

pub still_fine : (old new : Bool) → old ≡ false → new ≡ (old || false) → new ≡ false
still_fine false new fine is = is
still_fine true new fine is = absurd (cc)

pub kept_all : (old new : Option (List ℕ)) (kept bytes : List ℕ) (is_longer : Bool) → Kept old new kept is_longer bytes
    → IfSome old (λ all. (taken_of all ≡ kept) × (has_more all ≡ is_longer))
kept_all None new kept bytes is_longer h = tt
kept_all (Some all) None kept bytes is_longer h = absurd h.read
kept_all (Some all) (Some rest) kept bytes false h =
    let whole : all ≡ bytes = h.read ∙ ap (λ (r : List ℕ). bytes ++ r) (h.ended refl) ∙ append-nil bytes in
    (ap taken_of whole ∙ h.are, ap has_more whole ∙ h.more)
kept_all (Some all) (Some rest) kept bytes true h =
    let more : 2 ^ 32 < length bytes = below (2 ^ 32) (length bytes) h.more in
    let is : all ≡ bytes ++ rest = h.read in (
      ap taken_of is ∙ take-append-le (2 ^ 32) bytes rest (omega arith) ∙ h.are,
      is_below (2 ^ 32) (length all) (rw is (omega (arith, length-append bytes rest))),
    )
  where
    below : (a b : ℕ) → nat_lt a b ≡ true → a < b
    below a b e = grind (arith, nat_tests)
