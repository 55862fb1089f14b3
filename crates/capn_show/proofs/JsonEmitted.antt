-- Lemmas for `show_json` and `json_text`: the text that the rule of JSON gives for a value is the JSON of the value.
use Rattle.std.proofs.Common.{◌≡◌, ℕ, suc, ◌+◌, List, [], ◌∷◌, ◌++◌, Bool, true, false, length, codes, map}
use Rattle.std.proofs.Common.{refl, sym, ap, ap₂, ◌∙◌, append_assoc, if◌then◌else◌}
use Rattle.std.specs.Fmt.{decimal}
use Rattle.hex.specs.Hex.{encode_lower}
use Rattle.capn_words.specs.declared.space.Place.{Place}
use Rattle.capn_value.specs.NumberWidth.{NumberWidth, bit, byte, pair, quad, oct, is_set}
use Rattle.capn_value.specs.Tree.{Tree, nil, node, voids, numbers, links, rows, cap, Trees}
use Rattle.capn_value.specs.Tree.{no_trees, tree, Bodies, no_bodies, body}
use Rattle.capn_value.specs.Text.{digits_of}
use Rattle.capn_quoted.specs.Texts.{is_clear_text}
use Rattle.capn_target.specs.declared.target.Target.{Target}
use Rattle.capn_target.specs.Target.{target}
use Rattle.capn_walk.specs.View.{step_place, row_of}
use Rattle.capn_show.specs.Descent.{named_by}
use Rattle.capn_show.specs.Emitted.{Rule, emitted, emitted_slots, emitted_rows, emitted_items}
use Rattle.capn_show.specs.Emitted.{emitted_digits, emitted_numbers, digit_lines}
use Rattle.capn_show.specs.Json.{after_commas, with_commas, word_text, number_text, struct_text, digits_json}
use Rattle.capn_show.specs.Json.{json_by, each_json_by, each_row_by}
use Rattle.capn_show.specs.JsonTexts.{text_json}
use Rattle.capn_show.specs.inner.JsonRule.{json_rule, bytes_json_of}
use Rattle.capn_show.proofs.TextDigits.{encode_lower-none}

pub closed : (head x : List ℕ) (c : ℕ) → head ++ (x ++ (c ∷ 125 ∷ [])) ≡ head ++ ((x ++ c ∷ []) ++ 125 ∷ [])
closed head x c = ap (λ (l : List ℕ). head ++ l) (sym (append_assoc x (c ∷ []) (125 ∷ [])))

struct-parts : (ws : List ℕ) (slots : List (List ℕ)) → codes "{\"words\":["
    ++ ((with_commas (map word_text ws) ++ codes "],\"slots\":[") ++ (with_commas slots ++ codes "]}"))
    ≡ struct_text ws slots
struct-parts ws slots =
    let own = with_commas (map word_text ws) in
    let below = with_commas slots in
    ap (λ (l : List ℕ). codes "{\"words\":[" ++ l) (append_assoc own (codes "],\"slots\":[") (below ++ codes "]}")
    ∙ ap (λ (l : List ℕ). own ++ (codes "],\"slots\":[" ++ l)) (sym (append_assoc below (93 ∷ []) (125 ∷ [])))
    ∙ sym (append_assoc own (93 ∷ []) (codes ",\"slots\":[" ++ ((below ++ 93 ∷ []) ++ 125 ∷ []))))

first : (x y rest end : List ℕ) → y ≡ rest ++ end → x ++ y ≡ (x ++ rest) ++ end
first x y rest end e = ap (λ (l : List ℕ). x ++ l) e ∙ sym (append_assoc x rest end)

module _ (asked : Bool) where
  abbrev rule : Rule
  rule = json_rule asked

  abbrev by : List ℕ → List ℕ
  by = bytes_json_of asked

  -- ---- lists without pointers

  module _ (size : ℕ) (piece_of : ℕ → List ℕ) (end path : List ℕ) where
    items-after : (i at : ℕ) (xs : List ℕ)
        → emitted_items rule size piece_of end path (suc i) at xs ≡ after_commas (map piece_of xs) ++ end
    items-after i at [] = refl
    items-after i at (x ∷ xs) =
        ap (λ (l : List ℕ). 44 ∷ l)
        (first (piece_of x) (emitted_items rule size piece_of end path (suc (suc i)) (at + size) xs)
        (after_commas (map piece_of xs)) end (items-after (suc i) (at + size) xs))

    items-in : (at : ℕ) (xs : List ℕ)
        → emitted_items rule size piece_of end path 0 at xs ≡ with_commas (map piece_of xs) ++ end
    items-in at [] = refl
    items-in at (x ∷ xs) =
        first (piece_of x) (emitted_items rule size piece_of end path 1 (at + size) xs)
        (after_commas (map piece_of xs)) end (items-after 0 (at + size) xs)

  bits-in : (level : ℕ) (path : List ℕ) (at : ℕ) (xs : List ℕ)
      → emitted_digits rule level path at (length xs) (digits_of (map is_set xs))
      ≡ digits_of (map is_set xs) ++ codes "\"}"
  bits-in level path at [] = refl
  bits-in level path at (x ∷ xs) = refl

  bytes-in : (level : ℕ) (path : List ℕ) (at : ℕ) (xs : List ℕ)
      → emitted_digits rule level path at (length xs) (encode_lower xs) ≡ encode_lower xs ++ codes "\"}"
  bytes-in level path at [] = ap (λ (l : List ℕ). l ++ codes "\"}") (sym encode_lower-none)
  bytes-in level path at (x ∷ xs) = refl

  digits-in : (level : ℕ) (path : List ℕ) (at : ℕ) (xs : List ℕ)
      → digit_lines rule level path at xs ≡ digits_json xs
  digits-in level path at xs =
      ap (λ (l : List ℕ). codes "{\"bytes\":\"" ++ l) (bytes-in (level + 1) path at xs)
      ∙ closed (codes "{\"bytes\":\"") (encode_lower xs) 34

  chosen-in : (text : Bool) (level : ℕ) (path : List ℕ) (at : ℕ) (xs : List ℕ)
      → (if (if text then is_clear_text xs else false) then text_json xs else digit_lines rule level path at xs)
      ≡ bytes_json_of text xs
  chosen-in true level path at xs =
      ap (λ (l : List ℕ). if is_clear_text xs then text_json xs else l) (digits-in level path at xs)
  chosen-in false level path at xs = digits-in level path at xs

  list-in : (a : NumberWidth) (level : ℕ) (path : List ℕ) (at : ℕ) (xs : List ℕ)
      → emitted_numbers rule a level path at xs ≡ json_by by (numbers a xs)
  list-in bit level path at xs =
      ap (λ (l : List ℕ). codes "{\"bits\":\"" ++ l) (bits-in (level + 1) path at xs)
      ∙ closed (codes "{\"bits\":\"") (digits_of (map is_set xs)) 34
  list-in byte level path at xs = chosen-in asked level path at xs
  list-in pair level path at xs =
      ap (λ (l : List ℕ). codes "{\"u16\":[" ++ l) (items-in 2 decimal (codes "]}") path at xs)
      ∙ closed (codes "{\"u16\":[") (with_commas (map decimal xs)) 93
  list-in quad level path at xs =
      ap (λ (l : List ℕ). codes "{\"u32\":[" ++ l) (items-in 4 decimal (codes "]}") path at xs)
      ∙ closed (codes "{\"u32\":[") (with_commas (map decimal xs)) 93
  list-in oct level path at xs =
      ap (λ (l : List ℕ). codes "{\"u64\":[" ++ l) (items-in 8 number_text (codes "]}") path at xs)
      ∙ closed (codes "{\"u64\":[") (with_commas (map number_text xs)) 93

  -- ---- values

  module _ (m : List (List ℕ)) where
    -- If the text of the slots is their JSON, the text of the struct is its JSON.
    struct-in : (level : ℕ) (path : List ℕ) (found : Target) (ws : List ℕ) (ss : Trees)
        → emitted_slots m rule (level + 1) path (step_place found) 0 ss
        ≡ with_commas (each_json_by by ss) ++ codes "]}"
        → emitted m rule level path found (node ws ss) ≡ struct_text ws (each_json_by by ss)
    struct-in level path found ws ss e =
        ap₂ (λ (x y : List ℕ). codes "{\"words\":[" ++ (x ++ y))
        (items-in 8 word_text (codes "],\"slots\":[") path 0 ws) e
        ∙ struct-parts ws (each_json_by by ss)

    mutual
      pub json-emitted : (level : ℕ) (path : List ℕ) (found : Target) (t : Tree)
          → emitted m rule level path found t ≡ json_by by t
      json-emitted level path found nil = refl
      json-emitted level path found (node ws ss) =
          struct-in level path found ws ss (each-in (level + 1) path (step_place found) ss)
      json-emitted level path found (voids n) = refl
      json-emitted level path found (numbers a xs) = list-in a level path 0 xs
      json-emitted level path found (links ts) =
          ap (λ (l : List ℕ). codes "{\"pointers\":[" ++ l) (each-in (level + 1) path (step_place found) ts)
          ∙ closed (codes "{\"pointers\":[") (with_commas (each_json_by by ts)) 93
      json-emitted level path found (rows bs) =
          ap (λ (l : List ℕ). codes "{\"rows\":[" ++ l) (rows-in (level + 1) path (row_of found) bs)
          ∙ closed (codes "{\"rows\":[") (with_commas (each_row_by by bs)) 93
      json-emitted level path found (cap k) = refl

      each-in : (level : ℕ) (path : List ℕ) (place : ℕ → Place) (ts : Trees)
          → emitted_slots m rule level path place 0 ts ≡ with_commas (each_json_by by ts) ++ codes "]}"
      each-in level path place no_trees = refl
      each-in level path place (tree t ts) =
          ap₂ (λ (x y : List ℕ). x ++ y) (json-emitted level path (named_by (target m (place 0))) t)
          (each-after level path place 0 ts)
          ∙ sym (append_assoc (json_by by t) (after_commas (each_json_by by ts)) (codes "]}"))

      each-after : (level : ℕ) (path : List ℕ) (place : ℕ → Place) (i : ℕ) (ts : Trees)
          → emitted_slots m rule level path place (suc i) ts ≡ after_commas (each_json_by by ts) ++ codes "]}"
      each-after level path place i no_trees = refl
      each-after level path place i (tree t ts) =
          ap₂ (λ (x y : List ℕ). 44 ∷ (x ++ y)) (json-emitted level path (named_by (target m (place (suc i)))) t)
          (each-after level path place (suc i) ts)
          ∙ ap (λ (l : List ℕ). 44 ∷ l)
          (sym (append_assoc (json_by by t) (after_commas (each_json_by by ts)) (codes "]}")))

      rows-in : (level : ℕ) (path : List ℕ) (row : ℕ → Target) (bs : Bodies)
          → emitted_rows m rule level path row 0 bs ≡ with_commas (each_row_by by bs) ++ codes "]}"
      rows-in level path row no_bodies = refl
      rows-in level path row (body ws ss bs) =
          ap₂ (λ (x y : List ℕ). x ++ y)
          (struct-in level path (row 0) ws ss (each-in (level + 1) path (step_place (row 0)) ss))
          (rows-after level path row 0 bs)
          ∙ sym (append_assoc (struct_text ws (each_json_by by ss)) (after_commas (each_row_by by bs)) (codes "]}"))

      rows-after : (level : ℕ) (path : List ℕ) (row : ℕ → Target) (i : ℕ) (bs : Bodies)
          → emitted_rows m rule level path row (suc i) bs ≡ after_commas (each_row_by by bs) ++ codes "]}"
      rows-after level path row i no_bodies = refl
      rows-after level path row i (body ws ss bs) =
          ap₂ (λ (x y : List ℕ). 44 ∷ (x ++ y))
          (struct-in level path (row (suc i)) ws ss (each-in (level + 1) path (step_place (row (suc i))) ss))
          (rows-after level path row (suc i) bs)
          ∙ ap (λ (l : List ℕ). 44 ∷ l)
          (sym (append_assoc (struct_text ws (each_json_by by ss)) (after_commas (each_row_by by bs)) (codes "]}")))
