-- Lemmas for `push_bytes`: the digits of an empty list of bytes, and of a list with a first byte.
use Rattle.std.proofs.Common.{◌≡◌, ℕ, List, [], ◌∷◌, ◌++◌, refl}
use Rattle.hex.specs.Hex.{encode_with, encode_lower}

pub encode_lower-none : encode_lower [] ≡ []
unfolding encode_with
encode_lower-none = refl

pub encode_lower-cons : (b : ℕ) (bs : List ℕ) → encode_lower (b ∷ bs) ≡ encode_lower (b ∷ []) ++ encode_lower bs
unfolding encode_with
encode_lower-cons b bs = refl
