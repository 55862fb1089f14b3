-- The three ways in which a pointer leads to content: near, through a landing pad of one word, or through a pad of two
-- words. (Page: structs, lists, inter-segment pointers.) The definitions state what `target` computes, without the
-- order of its tests.
use Rattle.std.specs.Prelude.{◌≡◌, ◌⊎◌, ℕ, ◌+◌, ◌*◌, ◌<◌, ◌≤◌, true, false, List, length, slice_index, Ok}
use Rattle.capn_words.specs.Message.{segment_at}
use Rattle.capn_words.specs.Pointers.{field}
use Rattle.capn_words.specs.declared.space.Place.{Place}
use Rattle.capn_words.specs.declared.pointer.Pointer.{Pointer}
use Rattle.capn_words.specs.declared.pointer.Pointer.TheVariants.{Nil, Node, Many, Far}
use Rattle.capn_words.specs.declared.pointer.Width.TheVariants.{Rows}
use Rattle.capn_target.specs.declared.target.Shape.{Shape}
use Rattle.capn_target.specs.declared.target.Shape.TheVariants as shapes
use Rattle.capn_target.specs.Target.{content_words, content_start, pointer_in}

-- the offset of a struct or list pointer at word `w`, counted from the word after the pointer, leads to word `start`
abbrev pub LeadsTo : ℕ → Pointer → ℕ → Type 0
LeadsTo w (Node offset words slots) start = content_start w offset ≡ Ok start
LeadsTo w (Many offset width n) start = content_start w offset ≡ Ok start
LeadsTo w _ start = ⊥

-- `tag` is the tag word of the composite list `shape`, whose rows are within `n` words
abbrev pub HasRows : ℕ → ℕ → Shape → Type 0
HasRows tag n shape =
    (field 0 2 tag ≡ 0) × (shape ≡ shapes.Rows (field 2 30 tag) (field 32 16 tag) (field 48 16 tag) n)
    × (field 2 30 tag * (field 32 16 tag + field 48 16 tag) ≤ n)

module _ (message : List (List ℕ)) where
  -- `n` words from `start` on are within segment `s`
  abbrev pub Lies : ℕ → ℕ → ℕ → Type 0
  Lies s start n = start + n ≤ length (segment_at message s)

  -- The pointer, without its offset, describes content of the form `shape` at word `start` of segment `s`. The content
  -- is within the segment.
  abbrev pub Describes : Pointer → ℕ → ℕ → Shape → Type 0
  Describes Nil s start shape = (shape ≡ shapes.Node 0 0) × Lies s start 0
  Describes (Node offset words slots) s start shape = (shape ≡ shapes.Node words slots) × Lies s start (words + slots)
  Describes (Many offset Rows n) s start shape = Lies s start (1 + n)
      × HasRows (slice_index (segment_at message s) start) n shape
  Describes (Many offset width n) s start shape = (shape ≡ shapes.Many width n) × Lies s start (content_words width n)
  Describes _ s start shape = ⊥

  -- segment `s` exists, and a landing pad of `n` words at `word` is within the segment
  abbrev pub IsPad : ℕ → ℕ → ℕ → Type 0
  IsPad s word n = (s < length message) × Lies s word n

  -- the pointer at `at` is a struct or list pointer, and leads by its own offset to the content of the form `shape` at
  -- word `start` of segment `s`, which is the pointer's own segment
  pub record Near (at : Place) (s start : ℕ) (shape : Shape) (pads : ℕ) : Type 0 where
    pub offset : LeadsTo at.word (pointer_in message at.segment at.word) start
    pub content : Describes (pointer_in message at.segment at.word) s start shape
    pub here : s ≡ at.segment
    pub none : pads ≡ 0

  -- the pointer at `at` is a far pointer to a pad of one word, and this word is a struct or list pointer to the content
  pub record ByOnePad (at : Place) (s start : ℕ) (shape : Shape) (pads : ℕ) : Type 0 where
    pub word : ℕ
    pub far : pointer_in message at.segment at.word ≡ Far false word s
    pub pad : IsPad s word 1
    pub offset : LeadsTo word (pointer_in message s word) start
    pub content : Describes (pointer_in message s word) s start shape
    pub one : pads ≡ 1

  -- the pointer at `at` is a far pointer to a pad of two words: the first is a far pointer to the content, and the
  -- second describes the content
  pub record ByTwoPads (at : Place) (s start : ℕ) (shape : Shape) (pads : ℕ) : Type 0 where
    pub segment : ℕ
    pub word : ℕ
    pub far : pointer_in message at.segment at.word ≡ Far true word segment
    pub pad : IsPad segment word 2
    pub first : pointer_in message segment word ≡ Far false start s
    pub there : s < length message
    pub content : Describes (pointer_in message segment (word + 1)) s start shape
    pub two : pads ≡ 2

  -- the pointer at `at` leads to the content in one of the three ways
  abbrev pub OneOfThree : Place → ℕ → ℕ → Shape → ℕ → Type 0
  OneOfThree at s start shape pads = Near at s start shape pads
      ⊎ (ByOnePad at s start shape pads ⊎ ByTwoPads at s start shape pads)
