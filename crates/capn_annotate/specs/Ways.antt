-- The way of a slot: the numbers that lead from the root to it. A step through a list of structs is two numbers, the
-- row and its slot. (Our own.)
use Rattle.std.specs.Prelude.{ℕ, zero, suc, ◌+◌, ◌-◌, ◌/◌, ◌%◌, ◌==◌, List, [], ◌∷◌, ◌++◌, slice_index_or}
use Rattle.std.specs.Prelude.{if◌then◌else◌}
use Rattle.capn_target.specs.declared.target.Target.{Target}
use Rattle.capn_target.specs.declared.target.Target.TheVariants as targets
use Rattle.capn_target.specs.declared.target.Shape.TheVariants as shapes
use Rattle.capn_cover.specs.Covers.{unreached}
use Rattle.capn_cover.specs.Numbers.{number}
use Rattle.capn_cover.specs.declared.covered.Covered.{Covered}
use Rattle.capn_lines.specs.declared.line.Line.{Line}
use Rattle.capn_lines.specs.declared.kind.Kind.{Kind}
use Rattle.capn_lines.specs.declared.kind.Kind.TheVariants as kinds
use Rattle.capn_annotate.specs.Leads.{leads_to}

-- The row in which a word is, and the slot of that row: of rows with `a` words and `b` slots, the word has `n` words of
-- rows before it.
abbrev pub row_and_slot : (a b n : ℕ) → List ℕ
row_and_slot a b n = if a + b == 0 then [] else (n / (a + b)) ∷ (n % (a + b) - a) ∷ []

-- The row in which a word is: of rows with `a` words and `b` slots, the word has `n` words of rows before it.
abbrev pub row_alone : (a b n : ℕ) → List ℕ
row_alone a b n = if a + b == 0 then [] else (n / (a + b)) ∷ []

module _ (message : List (List ℕ)) where
  -- The numbers that lead from an object to its slot, which is the word with the number `n`.
  abbrev pub slot_in : Target → (n : ℕ) → List ℕ
  slot_in (targets.Content s start (shapes.Node a b) pads) n =
      (n - number message (record { segment = s; word = start }) - a) ∷ []
  slot_in (targets.Content s start (shapes.Many width k) pads) n =
      (n - number message (record { segment = s; word = start })) ∷ []
  slot_in (targets.Content s start (shapes.Rows k a b span) pads) n =
      row_and_slot a b (n - number message (record { segment = s; word = start }) - 1)
  slot_in _ n = []

  -- The numbers that lead from an object to the struct that has the data word with the number `n`: none for a struct,
  -- and the row for a list of structs.
  abbrev pub row_in : Target → (n : ℕ) → List ℕ
  row_in (targets.Content s start (shapes.Rows k a b span) pads) n =
      row_alone a b (n - number message (record { segment = s; word = start }) - 1)
  row_in _ n = []

  -- The step from the object or the landing pad of a line's slot to the first word of the line, the word with the
  -- number `n`: to a slot its number, to a data word its row, to any other word none. The root's slot has no step.
  abbrev pub last_step : Kind → (slot n : ℕ) → List ℕ
  last_step kinds.Pointer slot zero = []
  last_step kinds.Pointer slot (suc n) = slot_in (leads_to message slot) (suc n)
  last_step kinds.Null slot zero = []
  last_step kinds.Null slot (suc n) = slot_in (leads_to message slot) (suc n)
  last_step kinds.Data slot n = row_in (leads_to message slot) n
  last_step _ slot n = []

  module _ (words : List Covered) where
    -- The slot whose object has the slot with the number `n`.
    abbrev pub holder_of : (n : ℕ) → ℕ
    holder_of n = (slice_index_or words n unreached).holder

    -- The way of the slot with the number `n`, which is at most `levels` objects deep. The root's slot is word 0.
    abbrev pub way : (levels n : ℕ) → List ℕ
    way zero n = []
    way (suc levels) zero = []
    way (suc levels) (suc n) =
        way levels (holder_of (suc n)) ++ slot_in (leads_to message (holder_of (suc n))) (suc n)

    -- The way of the first word of a line.
    abbrev pub way_of : (levels : ℕ) → Line → List ℕ
    way_of levels line =
        way levels line.slot ++ last_step line.kind line.slot (number message line.place)
