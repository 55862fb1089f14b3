-- The properties of a style, and the text in a style of the value at a path of numbers. (Our own.)
use Rattle.std.specs.Prelude.{◌≡◌, ℕ, List, [], ◌∷◌, ◌++◌, Bool, true, false, Option, Some, None, codes, refl}
use Rattle.std.specs.Str.{chars, is_utf8}
use Rattle.capn_value.specs.NumberWidth.{byte}
use Rattle.capn_value.specs.Tree.{Tree, nil, node, numbers, no_trees, tree}
use Rattle.capn_value.specs.Text.{line, named, shown}
use Rattle.capn_show.specs.Part.{at_path, part_text, text_at}
use Rattle.capn_show.specs.Quoting.{quoted_bytes, shown_by}
use Rattle.capn_show.specs.Json.{json_line, json_line_by}
use Rattle.capn_show.specs.JsonTexts.{text_or_digits}
use Rattle.capn_show.specs.declared.style.Style.{Style}
use Rattle.capn_show.specs.declared.style.Style.TheVariants as styles

-- The bytes after the text of a message: the line `end` for a style of lines, and none for JSON.
abbrev pub end_of : Style → List ℕ
end_of styles.Lines = codes "end" ++ 10 ∷ []
end_of styles.Quoted = codes "end" ++ 10 ∷ []
end_of styles.Json = []
end_of styles.JsonText = []

-- True for a style of lines, and false for a style of JSON.
abbrev pub has_lines : Style → Bool
has_lines styles.Lines = true
has_lines styles.Quoted = true
has_lines styles.Json = false
has_lines styles.JsonText = false

-- True for `Quoted`, the style of lines in which texts are written between quotes.
abbrev pub is_quoted : Style → Bool
is_quoted styles.Lines = false
is_quoted styles.Quoted = true
is_quoted styles.Json = false
is_quoted styles.JsonText = false

-- For `Some t`, the text of `t` in a style. For `None`, the line `none`, or an empty line in JSON.
abbrev pub part_in : Style → Option Tree → List ℕ
part_in styles.Lines part = part_text part
part_in styles.Quoted None = line 0 (codes "none")
part_in styles.Quoted (Some t) = shown_by quoted_bytes 0 t
part_in styles.Json None = 10 ∷ []
part_in styles.Json (Some t) = json_line t
part_in styles.JsonText None = 10 ∷ []
part_in styles.JsonText (Some t) = json_line_by text_or_digits t

-- The text in `style` of the value at `path` from `t`. If there is no such value, the text is `part_in style None`.
abbrev pub styled : Style → List ℕ → Tree → List ℕ
styled style path t = part_in style (at_path t path)

-- A struct with one slot. The value in the slot is a list of bytes that is a text.
abbrev with_text : Tree
with_text = node [] (tree (numbers byte (104 ∷ 34 ∷ 0 ∷ [])) no_trees)

in_lines : (path : List ℕ) (t : Tree) → styled styles.Lines path t ≡ text_at path t
in_lines path t = refl

between_quotes : styled styles.Quoted (0 ∷ []) with_text
    ≡ line 0 (named (codes "bytes") 3 ++ codes " \"h\\\"\\0\"")
between_quotes = refl

no_text : styled styles.Quoted [] (numbers byte (255 ∷ [])) ≡ shown 0 (numbers byte (255 ∷ []))
no_text = refl

nothing_there : styled styles.Quoted (1 ∷ []) with_text ≡ line 0 (codes "none")
nothing_there = refl

null_in_json : styled styles.Json [] nil ≡ codes "null\n"
null_in_json = refl

nothing_in_json : styled styles.Json (1 ∷ []) with_text ≡ codes "\n"
nothing_in_json = refl

text_in_json : styled styles.JsonText (0 ∷ []) with_text ≡ codes "{\"text\":\"h\\\"\"}\n"
unfolding is_utf8 chars lib.Utf8.encode
text_in_json = refl

no_text_in_json : styled styles.JsonText [] (numbers byte (255 ∷ [])) ≡ styled styles.Json [] (numbers byte (255 ∷ []))
unfolding is_utf8 chars lib.Utf8.encode
no_text_in_json = refl
