-- The length of the segment table of a message in an input. (Our own.)
use Rattle.std.specs.Prelude.{◌≡◌, ℕ, ◌+◌, ◌/◌, List, [], ◌∷◌, length, refl}
use Rattle.capn_canon.specs.declared.form.Form.{Form}
use Rattle.capn_canon.specs.declared.form.Form.TheVariants as forms

-- The number of words of the segment table of `message`, and 0 in a bare input. The table has 4 bytes for the number of
-- segments, 4 bytes for each segment, and padding up to a multiple of 8 bytes.
abbrev pub table_words : Form → List (List ℕ) → ℕ
table_words forms.Bare message = 0
table_words forms.Stream message = length message / 2 + 1
table_words forms.Packed message = length message / 2 + 1

two_segments : table_words forms.Stream (([]) ∷ [] ∷ []) ≡ 2
two_segments = refl
