-- The words of a case and of its answer, as texts of bytes. (Our own.)
use Rattle.std.specs.Prelude.{ℕ, ◌≡◌, ◌⊎◌, ◌++◌, ◌∷◌, [], List, Ok, codes}
use Rattle.std.specs.Str.Parse.{digits_value, without_leading_plus}
use Rattle.hex.specs.Hex.{decode_of, encode_lower}
use Rattle.capn_canon.specs.declared.form.Form.{Form}
use Rattle.capn_canon.specs.declared.form.Form.TheVariants as forms

-- `number` is what the digits of a word stand for.
abbrev pub IsNumber : List ℕ → ℕ → Type 0
IsNumber digits number = number ≡ digits_value 10 (without_leading_plus digits)

-- `bytes` are those of a word: none for `-`, or else those of its hexadecimal digits.
abbrev pub AreBytes : List ℕ → List ℕ → Type 0
AreBytes digits bytes = ((digits ≡ codes "-") × (bytes ≡ [])) ⊎ (decode_of digits ≡ Ok bytes)

-- The digits of bytes in a case: `-` for none.
abbrev pub digits_of : List ℕ → List ℕ
digits_of [] = codes "-"
digits_of (b ∷ bs) = encode_lower (b ∷ bs)

-- The answer `text` and the answer `told` of the next step, with a comma between them if there was one before.
abbrev pub told_after : List ℕ → List ℕ → List ℕ
told_after [] told = told
told_after (b ∷ bs) told = (b ∷ bs) ++ codes ", " ++ told

-- The word that names a form.
abbrev pub form_word : Form → List ℕ
form_word forms.Stream = codes "stream"
form_word forms.Packed = codes "packed"
form_word forms.Bare = codes "bare"
