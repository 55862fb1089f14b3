-- Worked kinds, lines and parts of lists.
use Rattle.std.proofs.Common.{◌≡◌, ℕ, true, false, List, [], ◌∷◌, refl}
use Rattle.capn_words.specs.declared.pointer.Width.{Width}
use Rattle.capn_words.specs.declared.pointer.Width.TheVariants.{W1, W8}
use Rattle.capn_cover.specs.declared.covered.Covered.{Covered}
use Rattle.capn_cover.specs.declared.covered.Role.{Role}
use Rattle.capn_cover.specs.declared.covered.Role.TheVariants as roles
use Rattle.capn_lines.specs.Kinds.{kind_in}
use Rattle.capn_lines.specs.Lines.{line_at}
use Rattle.capn_lines.specs.Lists.{has_bits_behind, padding_bits, part_of}
use Rattle.capn_lines.specs.declared.kind.Kind.TheVariants as kinds
use Rattle.capn_lines.specs.declared.line.Line.{Line}
use Rattle.capn_lines.specs.declared.list_parts.Elements.{Elements}

null : kind_in 0 roles.Slot ≡ kinds.Null
null = refl

pointer : kind_in 5 roles.Slot ≡ kinds.Pointer
pointer = refl

slack : kind_in 5 roles.Slack ≡ kinds.Slack
slack = refl

-- a word that is covered once, first by the visit of a slot
abbrev once : (slot : ℕ) → Role → Covered
once slot role = record {
  times = 1;
  slot = slot;
  holder = 0;
  role = role;
  overlap = false;
  is_followed = false;
  cut = false;
}

-- two structs of one word each and a third of two words: the two words of the last one are one line
abbrev message : List (List ℕ)
message = (7 ∷ 8 ∷ 9 ∷ 0 ∷ []) ∷ []

abbrev words : List Covered
words = once 0 roles.Data ∷ once 1 roles.Data ∷ once 2 roles.Data ∷ once 2 roles.Data ∷ []

abbrev data_line : (word n slot not_zero : ℕ) → Line
data_line word n slot not_zero = record {
  place = record { segment = 0; word = word };
  words = n;
  times = 1;
  kind = kinds.Data;
  slot = slot;
  cut = 0;
  not_zero = not_zero;
  overlap = false;
}

first : line_at message words (record { segment = 0; word = 0 }) ≡ data_line 0 1 0 1
first = refl

last : line_at message words (record { segment = 0; word = 2 }) ≡ data_line 2 2 2 1
last = refl

-- a list at word 3
abbrev list : Width → (n : ℕ) → Elements
list width n = record { place = record { segment = 0; word = 3 }; width = width; count = n }

bits : padding_bits (list W1 65) ≡ 63
bits = refl

full : padding_bits (list W8 8) ≡ 0
full = refl

hidden : has_bits_behind (list W8 9) 0x100 ≡ true
hidden = refl

shown : has_bits_behind (list W8 9) 0xff ≡ false
shown = refl

-- the second word of a list of 17 bytes, and the last one
middle : part_of (list W8 17) 4 1 0
    ≡ (record { width = W8; first = 8; count = 8; last = false; padding = 0; padding_not_zero = false })
middle = refl

end : part_of (list W8 17) 5 1 0x100
    ≡ (record { width = W8; first = 16; count = 1; last = true; padding = 56; padding_not_zero = true })
end = refl
