-- The path from a slot or an object down to the slot that owns a word.
use Rattle.std.specs.Prelude.{◌≡◌, ℕ, ◌+◌, ◌*◌, ◌<◌, ◌≤◌, ◌^◌, List, [], ◌∷◌, ◌++◌, length, Some}
use Rattle.capn_words.specs.Message.{segment_at}
use Rattle.capn_words.specs.declared.space.Place.{Place}
use Rattle.capn_words.specs.declared.pointer.Width.TheVariants.{Link}
use Rattle.capn_target.specs.declared.target.Shape.{Shape}
use Rattle.capn_target.specs.declared.target.Shape.TheVariants as shapes
use Rattle.capn_walk.specs.Visits.{slots}
use Rattle.capn_target.specs.Target.{target}
use Rattle.capn_path.specs.Paths.{Leads}
use Rattle.capn_path.specs.Steps.{AreNumbersIn, DescendsTo}
use Rattle.capn_mismatch.specs.declared.slot_rows.SlotRows.{SlotRows}
use Rattle.capn_mismatch.specs.declared.word_kind.WordKind.{WordKind}
use Rattle.capn_mismatch.specs.inner.Search.{finds}

-- The slots of an object whose content starts at `start`, as rows of equal sizes.
abbrev pub rows_of : Place → Shape → SlotRows
rows_of start (shapes.Node a b) = record { at = start; count = 1; words = a; slots = b }
rows_of start (shapes.Many Link n) = record { at = start; count = 1; words = 0; slots = n }
rows_of start (shapes.Many width n) = record { at = start; count = 0; words = 0; slots = 0 }
rows_of start (shapes.Rows n a b span) = record {
  at = record { segment = start.segment; word = start.word + 1 };
  count = n;
  words = a;
  slots = b;
}

-- The place of slot `slot` in row `row` of `rows`.
abbrev pub place_in : SlotRows → ℕ → ℕ → Place
place_in rows row slot = record {
  segment = rows.at.segment;
  word = rows.at.word + row * (rows.words + rows.slots) + rows.words + slot;
}

-- The `rows` lie inside a segment of `message`, and a row has fewer than 2^32 words.
pub record AreWithin (message : List (List ℕ)) (rows : SlotRows) : Type 0 where
  pub inside : rows.at.word + rows.count * (rows.words + rows.slots) ≤ length (segment_at message rows.at.segment)
  pub small : rows.words + rows.slots < 2 ^ 32

-- The path numbers that lead to slot `slot` in row `row` of an object of `shape`.
abbrev pub numbers : Shape → ℕ → ℕ → List ℕ
numbers (shapes.Rows n a b span) row slot = row ∷ slot ∷ []
numbers shape row slot = slot ∷ []

module _ (m : List (List ℕ)) (base : ℕ) (word : Place) where
  -- The path `new` is the path `old` and then the numbers `rest`. `Onward` says that `rest` leads to the slot at `to`.
  -- That slot owns the word at `word`, which has the kind `x`.
  pub record ReachesIn (Onward : List ℕ → Place → ℕ → Type 0) (old new : List ℕ) (x : WordKind) : Type 0 where
    pub rest : List ℕ
    pub is : new ≡ old ++ rest
    pub to : Place
    pub number : ℕ
    pub found : finds word to (target m to) ≡ Some x
    pub leads : Onward rest to number

  -- `ReachesIn` for numbers that lead down from the slot at `at`, or for no numbers if that slot owns `word`.
  abbrev pub Reaches : ℕ → Place → List ℕ → List ℕ → WordKind → Type 0
  Reaches depth at = ReachesIn (Leads m base depth at)

  -- `ReachesIn` for numbers that lead down from the object of `shape` whose content starts at `start`.
  abbrev pub ReachesBelow : ℕ → Place → Shape → List ℕ → List ℕ → WordKind → Type 0
  ReachesBelow depth start shape =
      ReachesIn (DescendsTo m base depth (slots start.segment start.word shape) (AreNumbersIn shape))
