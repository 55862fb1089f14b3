-- A text with neither offsets nor paths is the text without marks. (For the law `without_marks`.)
use Rattle.std.proofs.Common.{◌≡◌, ℕ, List, [], ◌∷◌, ◌++◌, Bool, true, false, codes}
use Rattle.std.proofs.Common.{refl, sym, ap, ap₂, ◌∙◌, if◌then◌else◌, Option, Some, None}
use Rattle.capn_value.specs.Tree.{Tree}
use Rattle.capn_value.specs.Text.{line}
use Rattle.capn_target.specs.declared.target.Target.{Target}
use Rattle.capn_show.specs.Quoting.{shown_by}
use Rattle.capn_marks.specs.declared.marks.Marks.{Marks}
use Rattle.capn_marks.specs.Annotation as annotation
use Rattle.capn_marks.specs.Marked.{mark, offset_mark, path_mark, byte_at, unmarked}
use Rattle.capn_show.specs.Part.{follow, step_down}
use Rattle.capn_marks.specs.MarkedPart.{There, at_root, led, lines_style, marked_at, stepped, there_text}
use Rattle.capn_show.specs.Style.{part_in, styled}
use Rattle.capn_show.specs.ReadyPlaces.{bytes_of}
use Rattle.capn_show.proofs.shared.BareTexts as texts
use Rattle.capn_show.proofs.shared.PlainTexts.{plain-shown}
use Rattle.capn_marks.proofs.AnnotatedTexts.{agree, same}

module _ (marks : Marks) (no_offsets : marks.offsets ≡ false) (no_ways : marks.ways ≡ false) where
  no-mark : (n : ℕ) (path : List ℕ) → mark marks n path ≡ []
  no-mark n path = ap₂ (λ (a b : Bool). offset_mark a n ++ path_mark b path) no_offsets no_ways

  module _ (m : List (List ℕ)) where
    bare : (level : ℕ) (path : List ℕ) (found : Target) (t : Tree)
        → unmarked m marks level path found t ≡ shown_by (bytes_of marks.quoted) level t
    bare level path found t =
        sym (same marks m path path (agree marks.ways path) level found t)
        ∙ texts.bare marks.quoted (λ m at. byte_at m marks at) (annotation.stepped marks.ways) (mark marks) no-mark m
        level path found t

    -- ---- the value at a path

    bare-chosen-style : (quoted : Bool) (t : Tree)
        → shown_by (bytes_of quoted) 0 t ≡ part_in (lines_style quoted) (Some t)
    bare-chosen-style true t = refl
    bare-chosen-style false t = plain-shown 0 t

    bare-nothing : (quoted : Bool) → line 0 (codes "none") ≡ part_in (lines_style quoted) None
    bare-nothing true = refl
    bare-nothing false = refl

    abbrev value_of : Option There → Option Tree
    value_of None = None
    value_of (Some there) = Some there.value

    value-stepped : (there : There) (i : ℕ) (t : Option Tree) → value_of (stepped m there i t) ≡ t
    value-stepped there i None = refl
    value-stepped there i (Some t) = refl

    bare-there : (there : Option There)
        → there_text m marks there ≡ part_in (lines_style marks.quoted) (value_of there)
    bare-there None =
        ap₂ (λ (a b : Bool). (if a then 9 ∷ [] else []) ++ ((if b then 9 ∷ [] else []) ++ line 0 (codes "none")))
        no_offsets no_ways
        ∙ bare-nothing marks.quoted
    bare-there (Some there) =
        ap₂ (λ (x y : List ℕ). x ++ y) (no-mark (byte_at m marks there.at) there.path)
        (bare 0 there.path there.found there.value)
        ∙ bare-chosen-style marks.quoted there.value

    bare-led : (path : List ℕ) (there : Option There)
        → there_text m marks (led m path there)
        ≡ part_in (lines_style marks.quoted) (follow path (value_of there))
    bare-led [] there = bare-there there
    bare-led (i ∷ path) None = bare-there None
    bare-led (i ∷ path) (Some there) =
        bare-led path (stepped m there i (step_down there.value i))
        ∙ ap (λ (t : Option Tree). part_in (lines_style marks.quoted) (follow path t))
        (value-stepped there i (step_down there.value i))

    pub bare-text : (path : List ℕ) (t : Tree)
        → marked_at m marks path t ≡ styled (lines_style marks.quoted) path t
    bare-text path t = bare-led path (Some (at_root m t))
