-- The bytes of a message of one segment.
use Rattle.std.specs.Prelude.{◌≡◌, ℕ, List, [], ◌∷◌}
use Rattle.capn_words.specs.Message.{IsBare}

-- `message` has only one segment, and the bytes of that segment are `bs`.
abbrev pub IsOnlySegment : List (List ℕ) → List ℕ → Type 0
IsOnlySegment message bs = (words : List ℕ) × (message ≡ words ∷ []) × IsBare bs words
