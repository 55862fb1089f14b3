-- The text of a message in one of the styles that C has numbers for. (Our own.)
use Rattle.std.specs.Prelude.{◌≡◌, ◌⊎◌, ℕ, List, [], ◌∷◌, ◌++◌, codes, refl}
use Rattle.std.specs.Str.{chars, is_utf8}
use Rattle.capn_value.specs.NumberWidth.{byte}
use Rattle.capn_value.specs.Text.{line}
use Rattle.capn_value.specs.Tree.{Tree, nil, numbers}
use Rattle.capn_walk.specs.Accepted.{IsValueOf}
use Rattle.capn_walk.specs.Limits.{Bounds}
use Rattle.capn_show.specs.Style.{end_of, styled}
use Rattle.capn_show.specs.declared.style.Style.{Style}
use Rattle.capn_show.specs.declared.style.Style.TheVariants as styles
use Rattle.capn_abi.specs.Styles.{style_named}
use Rattle.capn_canon.specs.Denotes.{Denotes}
use Rattle.capn_canon.specs.MemoryNeed.{MayNeedMemory}
use Rattle.capn_canon.specs.declared.form.Form.{Form}

-- The complete text of a message with the value `v` in `style`: the text of `v`, and then the end of the style.
abbrev pub message_text : Style → Tree → List ℕ
message_text style v = styled style [] v ++ end_of style

-- `message` is accepted, and `text` is its complete text in `style`.
pub record ShowsMessage (message : List (List ℕ)) (limits : Bounds) (style : Style) (text : List ℕ) : Type 0 where
  pub value : Tree
  pub is : IsValueOf message limits value
  pub same : text ≡ message_text style value

-- `bs` are read as an accepted message, and `text` is its complete text in `style`.
pub record ShowsIn (form : Form) (bs : List ℕ) (limits : Bounds) (style : Style) (text : List ℕ) : Type 0 where
  pub value : Tree
  pub denotes : Denotes form bs limits value
  pub same : text ≡ message_text style value

-- Making the text of `bs` may need memory, to read `bs` or for the text of the value that `bs` denote.
abbrev pub MayNeedText : Form → List ℕ → Bounds → Type 0
MayNeedText form bs limits = MayNeedMemory form bs limits ⊎ ((v : Tree) × Denotes form bs limits v)

null_in_lines : message_text styles.Lines nil ≡ line 0 (codes "null") ++ codes "end\n"
null_in_lines = refl

null_in_json : message_text styles.Json nil ≡ codes "null\n"
null_in_json = refl

text_in_json : message_text (style_named 3) (numbers byte (104 ∷ 34 ∷ 0 ∷ [])) ≡ codes "{\"text\":\"h\\\"\"}\n"
unfolding is_utf8 chars lib.Utf8.encode
text_in_json = refl
