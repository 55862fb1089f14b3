-- The byte of a stream at which a word of a message lies.
use Rattle.std.specs.Prelude.{◌≡◌, ℕ, ◌+◌, ◌*◌, List, [], ◌∷◌, take, refl}
use Rattle.capn_words.specs.Message.{total}
use Rattle.capn_words.specs.declared.space.Place.{Place}

-- The offset in bytes of the word at `at` of a message whose table begins at `offset` and has `table` words. The
-- segments follow the table, one after the other.
abbrev pub place_byte : ℕ → ℕ → List (List ℕ) → Place → ℕ
place_byte offset table message at = offset + 8 * (table + total (take at.segment message) + at.word)

-- The offset of the second word of the third segment, in a message whose table of two words begins at byte 16.
third_segment : place_byte 16 2 ((1 ∷ 2 ∷ 3 ∷ []) ∷ (4 ∷ []) ∷ (5 ∷ 6 ∷ []) ∷ []) (record { segment = 2; word = 1 })
    ≡ 72
third_segment = refl

-- The offset of the first word of a bare segment.
bare_segment : place_byte 0 0 ((0 ∷ []) ∷ []) (record { segment = 0; word = 0 }) ≡ 0
bare_segment = refl
