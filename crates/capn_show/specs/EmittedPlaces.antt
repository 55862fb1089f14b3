-- Statements that a property `Says` holds of the text of a value in a message. For instance, `Says` states that the
-- text was added to the output.
use Rattle.std.specs.Prelude.{◌≡◌, ℕ, ◌+◌, ◌*◌, List, ◌++◌, length}
use Rattle.capn_words.specs.declared.space.Place.{Place}
use Rattle.capn_value.specs.Tree.{Tree, Trees, Bodies, count, count_rows}
use Rattle.capn_target.specs.declared.target.Target.{Target}
use Rattle.capn_walk.specs.ValueAt.{IsAt}
use Rattle.capn_walk.specs.ShownValue.{Shows, ShowsStruct}
use Rattle.capn_show.specs.Descent.{begin}
use Rattle.capn_show.specs.Emitted.{Rule, emitted, emitted_body, emitted_rows, emitted_slot, emitted_slots}
use Rattle.capn_show.specs.ReadyPlaces.{struct_at, AreDataWords, AreSlots, AreRowsAt}

-- The emitter `new` has the rule and the path of the emitter `old`. If `old` was made for the message `m`, `new` was
-- made for `m` too.
module _ {E : Type 0} (rule_of : E → Rule) (path_of : E → List ℕ) (is_of : E → List (List ℕ) → Type 0) where
  pub record Keeps (old new : E) : Type 0 where
    pub rule : rule_of new ≡ rule_of old
    pub path : path_of new ≡ path_of old
    pub of : (m : List (List ℕ)) → is_of old m → is_of new m

module _ (m : List (List ℕ)) where
  -- `Says` holds of the text that `text` makes of the `number` data words at word `w` of segment `s`.
  abbrev pub WordsEmitted : ℕ → ℕ → ℕ → (List ℕ → List ℕ) → (List ℕ → Type 0) → Type 0
  WordsEmitted s w number text Says = (ws : List ℕ) → AreDataWords m s w ws → length ws ≡ number → Says (text ws)

  -- `Says` holds of the mark and the text of the value in the slot at `at`. The slot is item `i` of its object.
  abbrev pub IsEmitted : Rule → ℕ → ℕ → List ℕ → Place → (List ℕ → Type 0) → Type 0
  IsEmitted rule level i path at Says = (v : Tree) → IsAt m at v → Says (emitted_slot m rule level i path at v)

  -- `Says` holds of the mark and the text of the row at word `w` of segment `s`, with `a` data words and `b` slots. The
  -- row is item `i` of its list.
  abbrev pub IsRowEmitted : Rule → ℕ → ℕ → List ℕ → ℕ → ℕ → ℕ → ℕ → (List ℕ → Type 0) → Type 0
  IsRowEmitted rule level i path s w a b Says =
      (ws : List ℕ) (ss : Trees) → ShowsStruct m (struct_at s w a b) ws ss
      → Says (rule.mark i (rule.lies m (begin (struct_at s w a b))) path
      ++ emitted_body m rule level path (struct_at s w a b) ws ss)

  module _ (rule : Rule) (level : ℕ) (path : List ℕ) where
    -- `Says` holds of the text, without the mark, of the value with the target `found`.
    abbrev pub IsFoundEmitted : Target → (List ℕ → Type 0) → Type 0
    IsFoundEmitted found Says = (v : Tree) → Shows m found v → Says (emitted m rule level path found v)

    -- `Says` holds of the text, without the mark, of the struct with `a` data words and `b` slots at word `w` of
    -- segment `s`.
    abbrev pub IsBodyEmitted : ℕ → ℕ → ℕ → ℕ → (List ℕ → Type 0) → Type 0
    IsBodyEmitted s w a b Says = (ws : List ℕ) (ss : Trees) → ShowsStruct m (struct_at s w a b) ws ss
        → Says (emitted_body m rule level path (struct_at s w a b) ws ss)

    -- `Says` holds of the texts of the values in the `number` slots that begin at word `w` of segment `s`.
    abbrev pub AreEmitted : ℕ → ℕ → ℕ → (List ℕ → Type 0) → Type 0
    AreEmitted s w number Says = (ts : Trees) → AreSlots m s w ts → count ts ≡ number
        → Says (emitted_slots m rule level path (λ i. record { segment = s; word = w + i }) 0 ts)

    -- `Says` holds of the texts of `number` rows of `a` data words and `b` slots each. The rows begin at word `w` of
    -- segment `s`.
    abbrev pub RowsEmitted : ℕ → ℕ → ℕ → ℕ → ℕ → (List ℕ → Type 0) → Type 0
    RowsEmitted s w number a b Says = (bs : Bodies) → AreRowsAt m s w a b bs → count_rows bs ≡ number
        → Says (emitted_rows m rule level path (λ i. struct_at s (w + i * (a + b)) a b) 0 bs)
