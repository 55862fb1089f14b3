-- The text with marks of the value at a path of numbers in a message. (Our own.)
use Rattle.std.specs.Prelude.{◌≡◌, ℕ, List, [], ◌∷◌, ◌++◌, Option, Some, None, codes, if◌then◌else◌, Bool, true}
use Rattle.std.specs.Prelude.{false, refl}
use Rattle.capn_words.specs.declared.space.Place.{Place}
use Rattle.capn_value.specs.Tree.{Tree, nil}
use Rattle.capn_value.specs.Text.{line}
use Rattle.capn_target.specs.declared.target.Target.{Target}
use Rattle.capn_target.specs.Target.{target}
use Rattle.capn_walk.specs.Accepted.{root}
use Rattle.capn_marks.specs.Marked.{below, byte_at, mark, unmarked}
use Rattle.capn_show.specs.Descent.{named_by, step_at, step_to}
use Rattle.capn_show.specs.Part.{step_down}
use Rattle.capn_marks.specs.declared.marks.Marks.{Marks}
use Rattle.capn_show.specs.declared.style.Style.{Style}
use Rattle.capn_show.specs.declared.style.Style.TheVariants as styles

-- A value in a message: the place `at` of the value's slot or row, the target `found`, the value itself, and the text
-- of the path to the value.
pub record There : Type 0 where
  pub at : Place
  pub found : Target
  pub value : Tree
  pub path : List ℕ

-- The line `none` for a path that leads nowhere, with a tab before it for each kind of mark that `marks` asks for.
abbrev pub none_line : Marks → List ℕ
none_line marks =
    (if marks.offsets then 9 ∷ [] else []) ++ ((if marks.ways then 9 ∷ [] else []) ++ line 0 (codes "none"))

module _ (m : List (List ℕ)) where
  -- The value to which the number `i` leads from the value `there`, or `None` if `i` leads nowhere.
  abbrev pub stepped : There → ℕ → Option Tree → Option There
  stepped there i None = None
  stepped there i (Some t) = Some (record {
    at = step_at there.found i;
    found = step_to m there.found i;
    value = t;
    path = below there.path i;
  })

  -- The value to which a path of numbers leads from `there`, or `None` if a number of the path leads nowhere.
  abbrev pub led : List ℕ → Option There → Option There
  led [] there = there
  led (i ∷ numbers) None = None
  led (i ∷ numbers) (Some there) = led numbers (stepped there i (step_down there.value i))

  -- The value `t` at the root, with the root's place, its target, and the empty path.
  abbrev pub at_root : Tree → There
  at_root t = record { at = root; found = named_by (target m root); value = t; path = [] }

  module _ (marks : Marks) where
    -- The lines with marks of the value `there`, or the line `none` if there is no value.
    abbrev pub there_text : Option There → List ℕ
    there_text None = none_line marks
    there_text (Some there) =
        mark marks (byte_at m marks there.at) there.path ++ unmarked m marks 0 there.path there.found there.value

    -- The lines with marks of the value at the path `numbers`, given the value `t` at the root.
    abbrev pub marked_at : List ℕ → Tree → List ℕ
    marked_at numbers t = there_text (led numbers (Some (at_root t)))

-- The style of lines without marks, in which texts stand between quotes if `quoted` is true.
abbrev pub lines_style : Bool → Style
lines_style quoted = if quoted then styles.Quoted else styles.Lines

-- ---- examples: nothing is below null, in a message of one word

nothing_there : marked_at ((0 ∷ []) ∷ [])
    (record { offsets = true; ways = true; quoted = false; offset = 0; table = 1 }) (0 ∷ []) nil
    ≡ codes "\t\tnone\n"
unfolding line
nothing_there = refl
