-- The value that each entry of an index describes. The value is read from the entries and the message's words. No
-- pointer is read.
use Rattle.std.specs.Prelude.{◌≡◌, ◌↔◌, ℕ, suc, ◌+◌, ◌*◌, ◌<◌, List, length, Ok, ⊤}
use Rattle.capn_words.specs.Message.{IsPlace}
use Rattle.capn_words.specs.declared.space.Place.{Place}
use Rattle.capn_words.specs.declared.pointer.Width.TheVariants.{W0, Link}
use Rattle.capn_value.specs.Tree.{Tree, nil, node, voids, numbers, links, rows, cap, Trees}
use Rattle.capn_value.specs.Tree.{no_trees, tree, Bodies, no_bodies, body, count, count_rows}
use Rattle.capn_walk.specs.declared.entry.Entry.{Entry}
use Rattle.capn_target.specs.declared.target.Target.TheVariants as targets
use Rattle.capn_target.specs.declared.target.Shape.{Shape}
use Rattle.capn_target.specs.declared.target.Shape.TheVariants as shapes
use Rattle.capn_target.specs.Target.{target, list_width}
use Rattle.capn_walk.specs.Limits.{Bounds}
use Rattle.capn_walk.specs.Accepted.{IsAccepted, IsValueOf}
use Rattle.capn_walk.specs.ValueAt.{IsAt, AreWordsAt, AreNumbers, words_from}
use Rattle.capn_walk.specs.Index.{index_of, entry_target, entry_at, beside, kept_of}

module _ (message : List (List ℕ)) (es : List Entry) where
  -- entry `i` describes an object of `shape`, and `Inside` is true of the segment and the word at which the
  -- object's content starts
  pub record EntryNames (i : ℕ) (shape : Shape) (Inside : ℕ → ℕ → Type 0) : Type 0 where
    pub segment : ℕ
    pub start : ℕ
    pub is : entry_target (entry_at es i) ≡ targets.Content segment start shape 0
    pub inside : Inside segment start

  -- the tree is the value that entry `i` of `es` describes
  abbrev mutual
    pub IsReadAt : ℕ → Tree → Type 0
    IsReadAt i nil = entry_target (entry_at es i) ≡ targets.Nil
    IsReadAt i (cap k) = entry_target (entry_at es i) ≡ targets.Cap k
    IsReadAt i (node ws ss) =
        EntryNames i (shapes.Node (length ws) (count ss)) (λ s w. AreWordsAt message s w ws × AreReadAt (i + 1) ss)
    IsReadAt i (voids n) = EntryNames i (shapes.Many W0 n) (λ s w. ⊤)
    IsReadAt i (numbers a xs) =
        EntryNames i (shapes.Many (list_width a) (length xs)) (λ s w. AreNumbers a (words_from message s w) xs)
    IsReadAt i (links ts) = EntryNames i (shapes.Many Link (count ts)) (λ s w. AreReadAt (i + 1) ts)
    IsReadAt i (rows bs) = (a b : ℕ) × EntryNames i (shapes.Rows (count_rows bs) a b (count_rows bs * (a + b)))
        (λ s w. RowsReadAt a b s (suc w) (i + 1) bs)

    -- the trees are the values of consecutive slots. The first slot has entry `i`, and the entry of each next slot is
    -- one span further on.
    pub AreReadAt : ℕ → Trees → Type 0
    AreReadAt i no_trees = ⊤
    AreReadAt i (tree t ts) = IsReadAt i t × AreReadAt (i + (entry_at es i).span) ts

    -- the bodies are the consecutive rows from word `w` of segment `s` on, with `a` words and `b` slots each. The first
    -- slot of the first row has entry `i`.
    pub RowsReadAt : ℕ → ℕ → ℕ → ℕ → ℕ → Bodies → Type 0
    RowsReadAt a b s w i no_bodies = ⊤
    RowsReadAt a b s w i (body ws ss bs) = (length ws ≡ a) × (count ss ≡ b) × AreWordsAt message s w ws × AreReadAt i ss
        × RowsReadAt a b s (w + a + b) (beside es i b) bs

-- `v` is the value of an accepted message exactly if `v` is the value that entry 0 of the message's index describes
abbrev pub IndexesSayValues : Type 0
IndexesSayValues = (message : List (List ℕ)) (limits : Bounds) (v : Tree) → IsAccepted message limits
    → IsValueOf message limits v ↔ IsReadAt message (index_of message limits) 0 v

-- if entry `i` of the index describes the target of the slot at `at` (`kept_of`), then `v` is the value at `at` exactly
-- if `v` is the value that entry `i` describes
abbrev pub EntriesSayValues : Type 0
EntriesSayValues = (message : List (List ℕ)) (limits : Bounds) (i : ℕ) (at : Place) (v : Tree)
    → IsAccepted message limits → i < length (index_of message limits) → IsPlace message at
    → kept_of (target message at) ≡ Ok (entry_target (entry_at (index_of message limits) i))
    → IsAt message at v ↔ IsReadAt message (index_of message limits) i v
