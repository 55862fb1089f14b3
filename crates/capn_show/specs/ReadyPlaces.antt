-- Statements on the values at places of a message, and on the text that is written for these values.
use Rattle.std.specs.Prelude.{◌≡◌, ℕ, ◌+◌, ◌*◌, ◌<◌, ◌≤◌, List, Bool, ◌++◌, length, map, slice_index, ⊤, Option, Some}
use Rattle.std.specs.Prelude.{[], ◌∷◌, codes, replicate, true, false, ◌||◌, ◌==◌}
use Rattle.std.specs.Fmt.{decimal}
use Rattle.std.specs.Int.{from_bool}
use Rattle.capn_words.specs.declared.space.Place.{Place}
use Rattle.capn_words.specs.declared.pointer.Width.{Width}
use Rattle.capn_words.specs.declared.pointer.Width.TheVariants.{W0, W1, Link, Rows}
use Rattle.capn_value.specs.Tree.{Tree, Trees, Bodies, count, count_rows, tree_at}
use Rattle.capn_value.specs.Cost.{height, greatest, greatest_in_rows}
use Rattle.capn_target.specs.declared.target.Target.{Target}
use Rattle.capn_target.specs.declared.target.Target.TheVariants as targets
use Rattle.capn_target.specs.declared.target.Shape.TheVariants as shapes
use Rattle.capn_walk.specs.ValueAt.{IsAt, words_from}
use Rattle.capn_walk.specs.View.{number_in}
use Rattle.capn_walk.specs.ShownValue.{Shows, ShowsStruct, words_of_row, slots_of_row}
use Rattle.capn_walk.specs.Accepted.{root}
use Rattle.capn_quoted.specs.Escapes.{escapes}
use Rattle.capn_show.specs.Outgoing.{Outgoing, Adds}
use Rattle.capn_show.specs.Quoting.{plain_bytes, quoted_bytes}
use Rattle.capn_show.specs.Style.{part_in, styled}
use Rattle.capn_show.specs.declared.style.Style.{Style}
use Rattle.capn_show.specs.declared.style.Style.TheVariants as styles
use Rattle.capn_show.specs.declared.fault.ShowFault.{ShowFault}
use Rattle.capn_show.specs.declared.fault.ShowFault.TheVariants as ends
use Rattle.capn_show.specs.declared.fault.Broken.{Broken}
use Rattle.capn_show.specs.declared.fault.Broken.TheVariants as broken

-- The `ShowFault` for a text that breaks off, with the same reason: `Io` or `Memory`.
abbrev pub as_fault : Broken → ShowFault
as_fault broken.Io = ends.Io
as_fault broken.Memory = ends.Memory

-- The elements of a list of this width are numbers: they have at least one bit, and are neither pointers nor structs.
abbrev pub HasNumbers : Width → Type 0
HasNumbers W0 = ⊥
HasNumbers Link = ⊥
HasNumbers Rows = ⊥
HasNumbers _ = ⊤

-- The target of a struct of `a` data words and `b` slots that starts at word `w` of segment `s`.
abbrev pub struct_at : ℕ → ℕ → ℕ → ℕ → Target
struct_at s w a b = targets.Content s w (shapes.Node a b) 0

-- The text of a list of bytes at a level. If the first argument is true, a list that is a text is written between
-- quotes.
abbrev pub bytes_of : Bool → ℕ → List ℕ → List ℕ
bytes_of false = plain_bytes
bytes_of true = quoted_bytes

-- True if JSON escapes the byte `b` between quotes.
abbrev pub is_escaped : ℕ → Bool
is_escaped b = b == 34 || (b == 92 || (b == 9 || (b == 10 || b == 13)))

-- The style of lines. If the argument is true, a list of bytes that is a text is written between quotes.
abbrev pub lines_style : Bool → Style
lines_style false = styles.Lines
lines_style true = styles.Quoted

-- The style of JSON. If the argument is true, a list of bytes that is a text is written as a string.
abbrev pub json_style : Bool → Style
json_style false = styles.Json
json_style true = styles.JsonText

-- The front of the line of a text of `n` bytes, at `level`: the indent, the word `bytes`, the number `n` and the first
-- quote.
abbrev pub quoted_front : ℕ → ℕ → List ℕ
quoted_front level n = replicate (2 * level) 32 ++ (codes "bytes " ++ ((decimal n ++ 32 ∷ []) ++ 34 ∷ []))

-- From `p` to `q`, what is written between quotes of the front of `bytes` is added. `rest` is `bytes` without this
-- front.
abbrev pub AddsFront : Outgoing → Outgoing → List ℕ → List ℕ → Type 0
AddsFront p q bytes rest = (front : List ℕ) × Adds p q front × (escapes bytes ≡ front ++ escapes rest)

module _ (m : List (List ℕ)) where
  -- ---- the values at places

  -- The words of the message from word `w` of segment `s` on begin with `ws`.
  abbrev pub AreDataWords : ℕ → ℕ → List ℕ → Type 0
  AreDataWords s w ws = (i : ℕ) → i < length ws → slice_index (words_from m s w) i ≡ slice_index ws i

  -- The list with elements of `width` whose content starts at word `w` of segment `s` begins with the elements `xs`.
  abbrev pub AreNumbers : ℕ → ℕ → Width → List ℕ → Type 0
  AreNumbers s w width xs = (i : ℕ) → i < length xs → number_in width (words_from m s w) i ≡ slice_index xs i

  -- The values `ts` are in the slots that begin at word `w` of segment `s`.
  abbrev pub AreSlots : ℕ → ℕ → Trees → Type 0
  AreSlots s w ts = (i : ℕ) → i < count ts → IsAt m (record { segment = s; word = w + i }) (tree_at ts i)

  -- The rows `bs`, of `a` data words and `b` slots each, begin at word `w` of segment `s`.
  abbrev pub AreRowsAt : ℕ → ℕ → ℕ → ℕ → Bodies → Type 0
  AreRowsAt s w a b bs = (i : ℕ) → i < count_rows bs
      → ShowsStruct m (struct_at s (w + i * (a + b)) a b) (words_of_row bs i) (slots_of_row bs i)

  -- ---- values with a height of at most `depth`

  -- There is a value at `at`, and its height is at most `depth`.
  pub record IsReady (at : Place) (depth : ℕ) : Type 0 where
    pub value : Tree
    pub is : IsAt m at value
    pub low : height value ≤ depth

  -- The target `found` has a value, and the height of that value is at most `depth`.
  pub record IsFound (found : Target) (depth : ℕ) : Type 0 where
    pub value : Tree
    pub is : Shows m found value
    pub low : height value ≤ depth

  -- A struct of `a` data words and `b` slots is at word `w` of segment `s`. The values in its slots have a height of at
  -- most `depth`.
  pub record IsBody (s w a b depth : ℕ) : Type 0 where
    pub words : List ℕ
    pub slots : Trees
    pub is : ShowsStruct m (struct_at s w a b) words slots
    pub low : greatest slots ≤ depth

  -- The `number` slots from word `w` of segment `s` on have values. The height of each value is at most `depth`.
  pub record AreReady (s w number depth : ℕ) : Type 0 where
    pub values : Trees
    pub are : AreSlots s w values
    pub count : count values ≡ number
    pub low : greatest values ≤ depth

  -- There are `number` rows from word `w` of segment `s` on, with `a` data words and `b` slots each. The values in the
  -- slots have a height of at most `depth`.
  pub record AreRows (s w number a b depth : ℕ) : Type 0 where
    pub values : Bodies
    pub are : AreRowsAt s w a b values
    pub count : count_rows values ≡ number
    pub low : greatest_in_rows values ≤ depth

  -- Some value `v` is at `at`.
  abbrev pub Holds : Place → Type 0
  Holds at = (v : Tree) × IsAt m at v

  -- The target `found` has some value `v`.
  abbrev pub HasValue : Target → Type 0
  HasValue found = (v : Tree) × Shows m found v

  -- `below` is `Some value`, and the target `found` has this `value`. The height of `value` is at most that of `v`.
  pub record LeadsTo (v : Tree) (below : Option Tree) (found : Target) : Type 0 where
    pub value : Tree
    pub is : below ≡ Some value
    pub shown : Shows m found value
    pub low : height value ≤ height v

  -- ---- statements that `Says` holds of a text, for instance that the text was added

  -- `Says` holds of the text that `text` makes of the `number` numbers of the list at word `w` of segment `s`.
  abbrev pub NumbersShown : ℕ → ℕ → Width → ℕ → (List ℕ → List ℕ) → (List ℕ → Type 0) → Type 0
  NumbersShown s w width number text Says = (xs : List ℕ) → AreNumbers s w width xs → length xs ≡ number
      → Says (text xs)

  -- `Says` holds of the text that `text` makes of the `number` bits of the list at word `w` of segment `s`.
  abbrev pub BitsShown : ℕ → ℕ → ℕ → (List Bool → List ℕ) → (List ℕ → Type 0) → Type 0
  BitsShown s w number text Says = (xs : List Bool) → AreNumbers s w W1 (map from_bool xs) → length xs ≡ number
      → Says (text xs)

  -- `Says` holds of the text of the value with the target `found`, in `style`.
  abbrev pub IsThereShown : Style → Target → (List ℕ → Type 0) → Type 0
  IsThereShown style found Says = (v : Tree) → Shows m found v → Says (part_in style (Some v))

  -- `Says` holds of the text in `style` of the value at `path` from the root. If there is no such value, the text is
  -- `part_in style None`.
  abbrev pub IsPartShown : Style → List ℕ → (List ℕ → Type 0) → Type 0
  IsPartShown style path Says = (v : Tree) → IsAt m root v → Says (styled style path v)
