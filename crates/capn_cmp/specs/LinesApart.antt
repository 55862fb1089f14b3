-- The first lines in which two texts differ. (Our own.)
use Rattle.std.specs.Prelude.{◌≡◌, ◌≢◌, ℕ, List, [], ◌∷◌, ◌++◌, ⊤}

-- The bytes have no newline.
abbrev pub IsUnbroken : List ℕ → Type 0
IsUnbroken [] = ⊤
IsUnbroken (c ∷ cs) = (c ≢ 10) × IsUnbroken cs

-- Each text of the list is a line without its newline.
abbrev pub AreLines : List (List ℕ) → Type 0
AreLines [] = ⊤
AreLines (line ∷ lines) = IsUnbroken line × AreLines lines

-- The joined lines, each followed by a newline.
abbrev pub joined : List (List ℕ) → List ℕ
joined [] = []
joined (line ∷ lines) = line ++ 10 ∷ joined lines

-- `text` and `other` begin with the same lines. After these lines `text` has the line `first`, and `other` has the line
-- `second`. The lines `first` and `second` differ.
pub record AreApart (text other first second : List ℕ) : Type 0 where
  pub lines : List (List ℕ)
  pub each : AreLines lines
  pub more : List ℕ
  pub left : List ℕ
  pub text_is : text ≡ joined lines ++ (first ++ 10 ∷ more)
  pub other_is : other ≡ joined lines ++ (second ++ 10 ∷ left)
  pub first_line : IsUnbroken first
  pub second_line : IsUnbroken second
  pub differ : first ≢ second
