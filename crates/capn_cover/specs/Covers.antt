-- The words that the visits of a walk cover, in order. The root's slot is covered by the message itself, before all
-- visits. (Our own.)
use Rattle.std.specs.Prelude.{ℕ, zero, suc, ◌+◌, ◌-◌, ◌*◌, ◌==◌, List, [], ◌∷◌, ◌++◌}
use Rattle.std.specs.Prelude.{Bool, true, false, ◌&&◌, ◌||◌, Result, Ok, if◌then◌else◌}
use Rattle.capn_words.specs.declared.space.Place.{Place}
use Rattle.capn_words.specs.declared.pointer.Pointer.{Pointer}
use Rattle.capn_words.specs.declared.pointer.Pointer.TheVariants.{Far}
use Rattle.capn_words.specs.declared.pointer.Width.TheVariants.{Link}
use Rattle.capn_target.specs.declared.target.Target.{Target}
use Rattle.capn_target.specs.declared.target.Target.TheVariants as targets
use Rattle.capn_target.specs.declared.target.Shape.{Shape}
use Rattle.capn_target.specs.declared.target.Shape.TheVariants as shapes
use Rattle.capn_target.specs.declared.target.Fault.{Fault}
use Rattle.capn_target.specs.Target.{content_words, pointer_in, target}
use Rattle.capn_walk.specs.Visits.{Visit, pays, fails}
use Rattle.capn_walk.specs.Accepted.{visits_within}
use Rattle.capn_walk.specs.Limits.{Bounds}
use Rattle.capn_cover.specs.declared.covered.Covered.{Covered}
use Rattle.capn_cover.specs.declared.covered.Role.{Role}
use Rattle.capn_cover.specs.declared.covered.Role.TheVariants as roles
use Rattle.capn_cover.specs.Numbers.{number}
use Rattle.capn_cover.specs.Parts.{differs}
use Rattle.capn_cover.specs.Cuts.{is_cut}

-- one word that is covered once: the number of the word, the number of the slot whose visit covers it, and what the
-- word is there
pub record Covering : Type 0 where
  pub word : ℕ
  pub slot : ℕ
  pub role : Role

-- `n` words from the number `first` on, in one role
abbrev pub run : (slot : ℕ) → Role → (first n : ℕ) → List Covering
run slot role first zero = []
run slot role first (suc n) = (record { word = first; slot = slot; role = role }) ∷ run slot role (first + 1) n

-- the words of `n` rows from the number `first` on, each with `a` data words and then `b` slots
abbrev pub rows_run : (slot first a b n : ℕ) → List Covering
rows_run slot first a b zero = []
rows_run slot first a b (suc n) =
    (run slot roles.Data first a ++ run slot roles.Slot (first + a) b) ++ rows_run slot (first + (a + b)) a b n

-- the words of an object whose first word has the number `first`: of a struct its words and slots, of a list the words
-- of its elements, of a list of structs the tag, the rows and the words behind them
abbrev pub content_run : (slot first : ℕ) → Shape → List Covering
content_run slot first (shapes.Node a b) = run slot roles.Data first a ++ run slot roles.Slot (first + a) b
content_run slot first (shapes.Many Link n) = run slot roles.Slot first n
content_run slot first (shapes.Many width n) = run slot roles.Numbers first (content_words width n)
content_run slot first (shapes.Rows n a b span) =
    run slot roles.Tag first 1
    ++ (rows_run slot (first + 1) a b n
    ++ run slot roles.Slack (first + 1 + n * (a + b)) (span - n * (a + b)))

module _ (message : List (List ℕ)) where
  -- the `pads` words of the landing pad that the pointer of a slot names
  abbrev pub pad_run : (slot pads : ℕ) → Pointer → List Covering
  pad_run slot pads (Far double word segment) =
      run slot roles.Pad (number message (record { segment = segment; word = word })) pads
  pad_run slot pads _ = []

  -- the words that a visit of the slot at `at` covers, given the slot's target: first the landing pad, then the content
  abbrev pub covers : Place → Result Target Fault → List Covering
  covers at (Ok (targets.Content s start shape pads)) =
      pad_run (number message at) pads (pointer_in message at.segment at.word)
      ++ content_run (number message at) (number message (record { segment = s; word = start })) shape
  covers at _ = []

  -- the words that the visits cover, one visit after another
  abbrev pub covered : List Visit → List Covering
  covered [] = []
  covered (pays at n ∷ vs) = covers at (target message at) ++ covered vs
  covered (fails at e ∷ vs) = covered vs

-- the root's slot, which the message itself covers
abbrev pub whole : Covering
whole = record { word = 0; slot = 0; role = roles.Root }

-- all coverings of a message: the root's slot, and then the words that the visits of the walk cover
abbrev pub coverings : List (List ℕ) → Bounds → List Covering
coverings message limits = whole ∷ covered message (visits_within message limits)

-- ---- what the coverings make of one word

-- how often the word with the number `w` is covered
abbrev pub times : List Covering → ℕ → ℕ
times [] w = 0
times (c ∷ cs) w = (if c.word == w then 1 else 0) + times cs w

-- a word in the given role is read as a slot
abbrev pub is_read : Role → Bool
is_read roles.Root = true
is_read roles.Slot = true
is_read _ = false

-- the covering reads the word with the number `w` as a slot
abbrev pub reads : Covering → ℕ → Bool
reads c w = (c.word == w) && is_read c.role

-- one of the coverings is by the visit of the slot with the number `w`
abbrev pub is_followed : List Covering → ℕ → Bool
is_followed [] w = false
is_followed (c ∷ cs) w = (c.slot == w) || is_followed cs w

-- The slot through whose object the walk first comes to the slot with the number `w`: of the coverings before the first
-- one by the visit of `w` itself, the last that reads `w` as a slot is by the visit of the holder. If none does, it is
-- the slot `so_far`.
abbrev pub holder : List Covering → (so_far w : ℕ) → ℕ
holder [] so_far w = so_far
holder (c ∷ cs) so_far w = if c.slot == w then so_far else holder cs (if reads c w then c.slot else so_far) w

-- the word that nothing covers
abbrev pub unreached : Covered
unreached = record {
  times = 0;
  slot = 0;
  holder = 0;
  role = roles.Unreached;
  overlap = false;
  is_followed = false;
  cut = false;
}

module _ (message : List (List ℕ)) where
  -- one of the coverings of the word with the number `w` is by another part than the slot's in the given role
  abbrev pub is_overlap : (slot : ℕ) → Role → List Covering → (w : ℕ) → Bool
  is_overlap slot role [] w = false
  is_overlap slot role (c ∷ cs) w =
      (if c.word == w then differs message slot role c.slot c.role else false) || is_overlap slot role cs w

  -- what the coverings make of the word with the number `w`, but for what they say of it as a slot: `c` is the first of
  -- its coverings, and `cs` come behind it
  abbrev pub belonging : Covering → List Covering → (w : ℕ) → Covered
  belonging c cs w = record {
    times = 1 + times cs w;
    slot = c.slot;
    holder = 0;
    role = c.role;
    overlap = is_overlap c.slot c.role cs w;
    is_followed = false;
    cut = is_cut message c.slot c.role w;
  }

  -- the same for a list of coverings: the first covering of the word says where the word belongs to and what it is
  -- there
  abbrev pub belongs_at : List Covering → (w : ℕ) → Covered
  belongs_at [] w = unreached
  belongs_at (c ∷ cs) w = if c.word == w then belonging c cs w else belongs_at cs w

  -- what the coverings make of the word with the number `w`
  abbrev pub cover_at : List Covering → (w : ℕ) → Covered
  cover_at cs w = record (belongs_at cs w) { holder = holder cs 0 w; is_followed = is_followed cs w }
