-- Lemmas for the cycle `slots`, `show_numbers` and `show_words`: words, numbers, slots and rows as texts of numbered
-- items.
use Rattle.std.proofs.Common.{◌≡◌, ℕ, zero, suc, ◌+◌, ◌*◌, List, [], ◌∷◌, ◌++◌, length, get_or}
use Rattle.std.proofs.Common.{refl, sym, ap, ap₂, ◌∙◌, arith, append_assoc}
use Rattle.capn_words.specs.declared.space.Place.{Place}
use Rattle.capn_value.specs.Tree.{Tree, nil, Trees, no_trees, tree, Bodies, no_bodies, body, count, count_rows, tree_at}
use Rattle.capn_target.specs.declared.target.Target.{Target}
use Rattle.capn_walk.specs.ShownValue.{words_of_row, slots_of_row}
use Rattle.capn_show.specs.Emitted.{Rule, emitted_items, emitted_slot, emitted_slots, emitted_rows}
use Rattle.capn_show.specs.declared.piece.Piece.TheVariants as pieces
use Rattle.capn_show.specs.Descent.{begin}
use Rattle.capn_show.specs.Emitted.{emitted_body}
use Rattle.capn_show.specs.ReadyPlaces.{struct_at}
use Rattle.capn_show.proofs.ItemTexts.{texts}

-- ---- words and numbers

module _ (rule : Rule) (size : ℕ) (piece_of : ℕ → List ℕ) (end path : List ℕ) (first : ℕ) where
  -- The mark and the piece of the number `x`, which has `i` items before it.
  abbrev pub number_item : ℕ → ℕ → List ℕ
  number_item i x = rule.mark i (first + i * size) path ++ piece_of x

  numbers-from : (k at : ℕ) (xs : List ℕ) → at ≡ first + k * size
      → texts number_item k xs ++ end ≡ emitted_items rule size piece_of end path k at xs
  numbers-from k at [] e = refl
  numbers-from k at (x ∷ xs) e =
      let next : suc k * size ≡ size + k * size = omega arith in
      let rest = texts number_item (suc k) xs in
      append_assoc (number_item k x) rest end
      ∙ ap (λ (n : ℕ). (rule.mark k n path ++ piece_of x) ++ (rest ++ end)) (sym e)
      ∙ append_assoc (rule.mark k at path) (piece_of x) (rest ++ end)
      ∙ ap (λ (l : List ℕ). rule.mark k at path ++ (piece_of x ++ l))
      (numbers-from (suc k) (at + size) xs (omega arith))

  pub numbers-items : (xs : List ℕ)
      → texts number_item 0 xs ++ end ≡ emitted_items rule size piece_of end path 0 first xs
  numbers-items xs = numbers-from 0 first xs (omega arith)

-- ---- slots

abbrev pub listed : Trees → List Tree
listed no_trees = []
listed (tree t ts) = t ∷ listed ts

pub length-listed : (ts : Trees) → length (listed ts) ≡ count ts
length-listed no_trees = refl
length-listed (tree t ts) = ap suc (length-listed ts)

pub listed-at : (ts : Trees) (i : ℕ) → get_or (listed ts) i nil ≡ tree_at ts i
listed-at no_trees i = refl
listed-at (tree t ts) zero = refl
listed-at (tree t ts) (suc i) = listed-at ts i

-- A row: its data words and its slots.
pub record Row : Type 0 where
  pub words : List ℕ
  pub slots : Trees

abbrev pub rows_listed : Bodies → List Row
rows_listed no_bodies = []
rows_listed (body ws ss bs) = record { words = ws; slots = ss } ∷ rows_listed bs

-- The row that stands for a missing row. It has no words and no slots.
abbrev pub no_row : Row
no_row = record { words = []; slots = no_trees }

pub length-rows_listed : (bs : Bodies) → length (rows_listed bs) ≡ count_rows bs
length-rows_listed no_bodies = refl
length-rows_listed (body ws ss bs) = ap suc (length-rows_listed bs)

pub words-listed : (bs : Bodies) (i : ℕ) → (get_or (rows_listed bs) i no_row).words ≡ words_of_row bs i
words-listed no_bodies i = refl
words-listed (body ws ss bs) zero = refl
words-listed (body ws ss bs) (suc i) = words-listed bs i

pub slots-listed : (bs : Bodies) (i : ℕ) → (get_or (rows_listed bs) i no_row).slots ≡ slots_of_row bs i
slots-listed no_bodies i = refl
slots-listed (body ws ss bs) zero = refl
slots-listed (body ws ss bs) (suc i) = slots-listed bs i

module _ (m : List (List ℕ)) (rule : Rule) (level : ℕ) (path : List ℕ) where
  abbrev pub slot_item : (ℕ → Place) → ℕ → Tree → List ℕ
  slot_item place i t = emitted_slot m rule level i (rule.below path i) (place i) t

  abbrev pub end : List ℕ
  end = rule.piece level pieces.EndItems

  pub slots-items : (place : ℕ → Place) (k : ℕ) (ts : Trees)
      → texts (slot_item place) k (listed ts) ++ end ≡ emitted_slots m rule level path place k ts
  slots-items place k no_trees = refl
  slots-items place k (tree t ts) =
      append_assoc (slot_item place k t) (texts (slot_item place) (suc k) (listed ts)) end
      ∙ ap (λ (l : List ℕ). slot_item place k t ++ l) (slots-items place (suc k) ts)

  abbrev pub row_item : (ℕ → Target) → ℕ → Row → List ℕ
  row_item row i r = rule.mark i (rule.lies m (begin (row i))) (rule.below path i)
      ++ emitted_body m rule level (rule.below path i) (row i) r.words r.slots

  pub rows-items : (row : ℕ → Target) (k : ℕ) (bs : Bodies)
      → texts (row_item row) k (rows_listed bs) ++ end ≡ emitted_rows m rule level path row k bs
  rows-items row k no_bodies = refl
  rows-items row k (body ws ss bs) =
      let here = row_item row k (record { words = ws; slots = ss }) in
      append_assoc here (texts (row_item row) (suc k) (rows_listed bs)) end
      ∙ ap (λ (l : List ℕ). here ++ l) (rows-items row (suc k) bs)

-- The place of slot `k` of the slots that begin at `first`.
abbrev pub nth : Place → ℕ → Place
nth first k = record { segment = first.segment; word = first.word + k }

abbrev pub nth_row : Place → ℕ → ℕ → ℕ → Target
nth_row first a b k = struct_at first.segment (first.word + k * (a + b)) a b

-- Let `r` and `rule` be equal rules, and `here` and `path` equal paths. Both rules then give an item the same text.
module _ (m : List (List ℕ)) (rule : Rule) (level : ℕ) (path : List ℕ) (r : Rule) (here : List ℕ) (e : r ≡ rule)
    (f : here ≡ path) where
  pub item-is : (place : ℕ → Place) (ts : Trees) (i : ℕ)
      → emitted_slot m r level i (r.below here i) (place i) (tree_at ts i)
      ≡ slot_item m rule level path place i (get_or (listed ts) i nil)
  item-is place ts i =
      ap₂ (λ (x : Rule) (w : List ℕ). emitted_slot m x level i (x.below w i) (place i) (tree_at ts i)) e f
      ∙ ap (slot_item m rule level path place i) (sym (listed-at ts i))

  pub row-is : (first : Place) (a b next : ℕ) (bs : Bodies) (i : ℕ) → next ≡ first.word + i * (a + b)
      → r.mark i (r.lies m (begin (struct_at first.segment next a b))) (r.below here i)
      ++ emitted_body m r level (r.below here i) (struct_at first.segment next a b) (words_of_row bs i)
      (slots_of_row bs i)
      ≡ row_item m rule level path (nth_row first a b) i (get_or (rows_listed bs) i no_row)
  row-is first a b next bs i n =
      ap₂ (λ (x : Rule) (w : List ℕ). x.mark i (x.lies m (begin (struct_at first.segment next a b))) (x.below w i)
      ++ emitted_body m x level (x.below w i) (struct_at first.segment next a b) (words_of_row bs i)
      (slots_of_row bs i)) e f
      ∙ ap (λ (k : ℕ). rule.mark i (rule.lies m (begin (struct_at first.segment k a b))) (rule.below path i)
      ++ emitted_body m rule level (rule.below path i) (struct_at first.segment k a b) (words_of_row bs i)
      (slots_of_row bs i)) n
      ∙ ap₂ (λ (ws : List ℕ) (ss : Trees). rule.mark i (rule.lies m (begin (nth_row first a b i))) (rule.below path i)
      ++ emitted_body m rule level (rule.below path i) (nth_row first a b i) ws ss)
      (sym (words-listed bs i)) (sym (slots-listed bs i))

pub closing : (level : ℕ) {r s : Rule} → r ≡ s → r.piece level pieces.EndItems ≡ s.piece level pieces.EndItems
closing level e = ap (λ (x : Rule). x.piece level pieces.EndItems) e
