-- The rules of the encoding page for the canonical form, one by one, for the pointers of one segment in preorder. The
-- rules do not use the definition `canon`. (Page: canonicalization; what is our own is marked.)
use Rattle.std.specs.Prelude.{◌≡◌, ◌≢◌, ℕ, zero, ◌+◌, ◌-◌, ◌*◌, ◌/◌, ◌%◌, ◌^◌, ◌<◌, List, [], ◌∷◌, ◌++◌, length}
use Rattle.std.specs.Prelude.{slice_index, Ok, ⊤}
use Rattle.std.specs.List.{AllByRecursion}
use Rattle.capn_words.specs.declared.space.Place.{Place}
use Rattle.capn_target.specs.declared.target.Target.TheVariants as targets
use Rattle.capn_target.specs.declared.target.Shape.{Shape}
use Rattle.capn_target.specs.declared.target.Shape.TheVariants as shapes
use Rattle.capn_target.specs.Target.{target}
use Rattle.capn_target.specs.Shapes.{extent}
use Rattle.capn_walk.specs.Accepted.{root}
use Rattle.capn_walk.specs.Visits.{slots}
use Rattle.capn_layout.specs.FirstBits.{element_bits}

-- A visited pointer. It is null, or it is the pointer at the word `pointer` to an object of the given `shape` that
-- starts at the word `start`.
pub data Met : Type 0 where
  null : Met
  object : (pointer start : ℕ) (shape : Shape) → Met

-- The shape is that of an empty struct: it has no data and no pointers.
abbrev pub IsEmpty : Shape → Type 0
IsEmpty (shapes.Node zero zero) = ⊤
IsEmpty _ = ⊥

-- If the object is an empty struct, it starts at its own pointer. That pointer then has the offset -1. (Page:
-- canonicalization.)
abbrev pub PointsAtItself : Met → Type 0
PointsAtItself (object pointer start shape) = IsEmpty shape → start ≡ pointer
PointsAtItself null = ⊤

-- If the object is a list of structs, its `span` is exactly the number of words of its `n` structs. (Page: lists.)
abbrev pub IsWhole : Met → Type 0
IsWhole (object pointer start (shapes.Rows n a b span)) = span ≡ n * (a + b)
IsWhole _ = ⊤

module _ (words : List ℕ) where
  -- The visited pointers are those at the given places and below them, in preorder. No pointer is a far pointer. (Page:
  -- canonicalization.) No pointer is a capability. (Our own.)
  abbrev pub InPreorder : List Place → List Met → Type 0
  InPreorder [] [] = ⊤
  InPreorder (at ∷ others) (null ∷ rest) = (target (words ∷ []) at ≡ Ok targets.Nil) × InPreorder others rest
  InPreorder (at ∷ others) (object pointer start shape ∷ rest) =
      (pointer ≡ at.word) × (target (words ∷ []) at ≡ Ok (targets.Content 0 start shape 0))
      × InPreorder (slots 0 start shape ++ others) rest
  InPreorder _ _ = ⊥

  -- In the order of their pointers, the objects follow one another without a gap or an overlap, from the word `next` to
  -- the end of `words`. Only empty structs may start elsewhere. (Page: canonicalization.)
  abbrev pub WithoutGaps : (next : ℕ) → List Met → Type 0
  WithoutGaps next [] = next ≡ length words
  WithoutGaps next (null ∷ rest) = WithoutGaps next rest
  WithoutGaps next (object pointer start shape ∷ rest) =
      ((IsEmpty shape → ⊥) → start ≡ next) × WithoutGaps (next + extent shape) rest

  -- If `n` is not 0, the last of the `n` words from the word `from` on is not zero.
  abbrev pub EndsInSome : (from n : ℕ) → Type 0
  EndsInSome from n = 0 < n → slice_index words (from + (n - 1)) ≢ 0

  -- `many` rows have `n` words each: the first row from the word `from` on, each next row `step` words later. If `n` is
  -- not 0, the last of the `n` words is not zero in at least one row.
  abbrev pub OneEndsInSome : (many step from n : ℕ) → Type 0
  OneEndsInSome many step from n = 0 < n → (i : ℕ) × (i < many) × (slice_index words (from + i * step + (n - 1)) ≢ 0)

  -- In a struct, neither the data nor the pointers end in a zero word. In a list of structs, neither the data nor the
  -- pointers end in a word that is zero in all structs. (Page: canonicalization.)
  abbrev pub IsTruncated : Met → Type 0
  IsTruncated (object pointer start (shapes.Node a b)) = EndsInSome start a × EndsInSome (start + a) b
  IsTruncated (object pointer start (shapes.Rows n a b span)) =
      OneEndsInSome n (a + b) (start + 1) a × OneEndsInSome n (a + b) (start + 1 + a) b
  IsTruncated _ = ⊤

  -- The bits after the last element of a list, in its last word, are zero. (Our own.)
  abbrev pub IsPadded : Met → Type 0
  IsPadded (object pointer start (shapes.Many width n)) =
      let bits : ℕ = element_bits width * n in
      0 < bits % 64 → slice_index words (start + bits / 64) < 2 ^ (bits % 64)
  IsPadded _ = ⊤

  -- `words` follow all rules of the page. The visited pointers are the root at word 0 and those below it, and the
  -- objects begin at word 1.
  pub record IsPageForm : Type 0 where
    pub pointers : List Met
    pub preorder : InPreorder (root ∷ []) pointers
    pub no_gap : WithoutGaps 1 pointers
    pub truncated : AllByRecursion IsTruncated pointers
    pub empty_structs : AllByRecursion PointsAtItself pointers
    pub padded : AllByRecursion IsPadded pointers
    pub whole : AllByRecursion IsWhole pointers
