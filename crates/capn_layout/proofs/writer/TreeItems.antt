-- Lemmas on the items of values in memory: lists of numbers, slots and rows. (For `tree_layout.rt` and
-- `tree_slots.rt`.)
use Rattle.std.proofs.Common.{◌≡◌, ℕ, zero, suc, ◌+◌, ◌*◌, ◌<◌, ◌≤◌, drop, append_assoc, List, [], ◌∷◌, ◌++◌, length}
use Rattle.std.proofs.Common.{take, map}
use Rattle.std.proofs.Common.{replicate, refl, ap, sym, subst, ◌∙◌, arith, append-nil, get_or, Bool}
use Rattle.std.proofs.lemmas.List.{length-replicate, length-map, drop_more, drop_all}
use Rattle.std.specs.Int.{from_bool}
use Rattle.capn_words.specs.declared.pointer.Width.TheVariants.{W0, W1}
use Rattle.capn_value.specs.NumberWidth.{NumberWidth, bit, oct, bits_in, per_word}
use Rattle.capn_value.specs.Tree.{Tree, node, voids, numbers, links, rows, Trees, no_trees}
use Rattle.capn_value.specs.Tree.{tree, tree_at, count, Bodies, no_bodies, body, count_rows}
use Rattle.capn_value.specs.TreeOf.{tree_of, trees_of, rows_of}
use Rattle.capn_value.specs.Views.{count-trees_of, count_rows-rows_of}
use Rattle.capn_value.specs.declared.value.Value.{Value}
use Rattle.capn_value.specs.declared.value.Body.{Body}
use Rattle.capn_target.specs.Target.{words_for, content_words, list_width}
use Rattle.capn_layout.specs.Layout.{packed, point, lay}
use Rattle.capn_layout.specs.LayoutSteps.{AreRowsOver, zero_rows, slots_at}
use Rattle.capn_layout.specs.Sound.{AreWide, Sound, Sounds, SoundRows}
use Rattle.capn_layout.specs.declared.tree_slots.TreeRows.{TreeRows}
use Rattle.capn_layout.specs.inner.Source.{IsListOf, IsGrown, IsStruct, AreLinks, AreStructs}
use Rattle.capn_layout.specs.inner.TreeSlots.{HasValue, AreBodies, bodies_of}
use Rattle.capn_layout.proofs.shared.KeptLengths.{kept_words-le, kept_slots-le}

-- ---- lists of numbers

pub voids-list : (v : Tree) (n : ℕ) → v ≡ voids n → Sound v → IsListOf v W0 n []
unfolding point
voids-list v n e s = record {
  few = subst Sound e s;
  pointer = λ from to. ap (λ (x : Tree). point x from to) e;
  content = λ at. ap (λ (x : Tree). lay x at) e;
}

-- The words that pack the numbers `xs` of the given width.
abbrev number_words : NumberWidth → List ℕ → List ℕ
number_words oct xs = xs
number_words a xs = packed (per_word a) (bits_in a) (content_words (list_width a) (length xs)) xs

laid-numbers : (a : NumberWidth) (xs : List ℕ) (at : ℕ) → lay (numbers a xs) at ≡ number_words a xs
laid-numbers oct xs at = refl
laid-numbers a xs at = refl

pub numbers-list : (a : NumberWidth) (v : Tree) (xs : List ℕ) → v ≡ numbers a xs → Sound v
    → IsListOf v (list_width a) (length xs) (number_words a xs)
unfolding point
numbers-list a v xs e s = record {
  few = (subst Sound e s).0;
  pointer = λ from to. ap (λ (x : Tree). point x from to) e;
  content = λ at. ap (λ (x : Tree). lay x at) e ∙ laid-numbers a xs at;
}

pub bits-list : (v : Tree) (xs : List Bool) → v ≡ numbers bit (map from_bool xs) → Sound v
    → IsListOf v W1 (length xs) (packed 64 1 (words_for (length xs)) (map from_bool xs))
bits-list v xs e s =
    subst (λ (n : ℕ). IsListOf v W1 n (packed 64 1 (words_for n) (map from_bool xs))) (length-map xs from_bool)
    (numbers-list bit v (map from_bool xs) e s)

-- ---- slots and rows

module _ {B : Type 0} where
  pub value-at : (slots : List (Value B)) (k : ℕ) (d : Value B) → k < length slots
      → tree_of (get_or slots k d) ≡ tree_at (trees_of slots) k
  value-at [] k d h = absurd (omega arith)
  value-at (v ∷ vs) zero d h = refl
  value-at (v ∷ vs) (suc k) d h = value-at vs k d (omega arith)

  pub slots-of : (bs : List (Body B)) (i : ℕ) (d : Body B) → i < length bs
      → trees_of (get_or bs i d).slots ≡ slots_at (rows_of bs) i
  slots-of [] i d h = absurd (omega arith)
  slots-of (b ∷ bs) zero d h = refl
  slots-of (b ∷ bs) (suc i) d h = slots-of bs i d (omega arith)

pub sound-slots : (ts : Trees) (k : ℕ) → Sounds ts → k < count ts → Sound (tree_at ts k)
sound-slots no_trees k s h = absurd (omega arith)
sound-slots (tree t ts) zero s h = s.0
sound-slots (tree t ts) (suc k) s h = sound-slots ts k s.1 (omega arith)

pub sound-row : (bs : Bodies) (i : ℕ) → SoundRows bs → Sounds (slots_at bs i)
sound-row no_bodies i s = tt
sound-row (body ws ss bs) zero s = s.0
sound-row (body ws ss bs) (suc i) s = sound-row bs i s.1

module _ {B : Type 0} (v : Tree) where
  -- Case: `v` is a struct, given as one row.
  pub struct-item : (row : Body B) (d : TreeRows B) → v ≡ node row.words (trees_of row.slots) → Sound v
      → bodies_of d ≡ body row.words (trees_of row.slots) no_bodies → (bs : Bodies) × IsStruct v bs × AreBodies d bs
  struct-item row d e sound ed =
      let ws = row.words in
      let ss = trees_of row.slots in
      let s = subst Sound e sound in
      let a = s.0 in
      let b = s.1 in
      let x = kept_words-le ws in
      let y = kept_slots-le ss in (
        body ws ss no_bodies,
        (ws, ss, e, refl),
        record {
          are = sym ed;
          sound = (s.2, tt);
          words = omega arith;
          slots = omega arith;
        },
      )

  -- Case: `v` is a list of pointers, given as one row without words.
  pub links-item : (vs : List (Value B)) (d : TreeRows B) (n : ℕ) → v ≡ links (trees_of vs) → Sound v → n ≡ length vs
      → bodies_of d ≡ body [] (trees_of vs) no_bodies → (bs : Bodies) × AreLinks n v bs × AreBodies d bs
  links-item vs d n e sound en ed =
      let ts = trees_of vs in
      let s = subst Sound e sound in
      let a = s.0 in
      let y = kept_slots-le ts in
      let c = count-trees_of vs in (
        body [] ts no_bodies,
        (ts, e, c ∙ sym en, refl),
        record {
          are = sym ed;
          sound = (s.1, tt);
          words = omega arith;
          slots = omega arith;
        },
      )

  -- Case: `v` is a list of structs.
  pub rows-item : (rs : List (Body B)) (d : TreeRows B) (n : ℕ) → v ≡ rows (rows_of rs) → Sound v → n ≡ length rs
      → bodies_of d ≡ rows_of rs → (bs : Bodies) × AreStructs n v bs × AreBodies d bs
  rows-item rs d n e sound en ed =
      let s = subst Sound e sound in
      let a = s.1 in
      let b = s.2 in (
        rows_of rs,
        (e, count_rows-rows_of rs ∙ sym en),
        record {
          are = sym ed;
          sound = s.5;
          words = omega arith;
          slots = omega arith;
        },
      )

pub zeros-over : (a b : ℕ) (bs : Bodies) → AreRowsOver a b bs (zero_rows a b bs)
zeros-over a b no_bodies = refl
zeros-over a b (body ws ss bs) =
    (replicate b 0, zero_rows a b bs, refl, length-replicate {A = ℕ} b 0, zeros-over a b bs)

pub zeros-grown : (a b : ℕ) (bs : Bodies) (p q : List ℕ) → q ≡ p ++ zero_rows a b bs → IsGrown a b bs p q
zeros-grown a b bs p q e = record { cells = zero_rows a b bs; over = zeros-over a b bs; grown = e }

pub slots-grown : (a b : ℕ) (ts : Trees) (p q : List ℕ) → q ≡ p ++ replicate b 0
    → IsGrown a b (body [] ts no_bodies) p q
slots-grown a b ts p q e = record {
  cells = replicate b 0;
  over = (
    replicate b 0,
    [],
    sym (append-nil (replicate b 0)) ∙ none a (replicate b 0 ++ []),
    length-replicate {A = ℕ} b 0,
    refl,
  );
  grown = e;
}
  where
    none : (a : ℕ) (xs : List ℕ) → xs ≡ take {A = ℕ} a [] ++ xs
    none zero xs = refl
    none (suc a) xs = refl

pub row-grown : (a b : ℕ) (ws : List ℕ) (ts : Trees) (p q : List ℕ) → q ≡ p ++ (take a ws ++ replicate b 0)
    → IsGrown a b (body ws ts no_bodies) p q
row-grown a b ws ts p q e = record {
  cells = take a ws ++ replicate b 0;
  over = (
    replicate b 0,
    [],
    ap (λ (x : List ℕ). take a ws ++ x) (sym (append-nil (replicate b 0))),
    length-replicate {A = ℕ} b 0,
    refl,
  );
  grown = e;
}

-- ---- one slot

some-row : (cs : Bodies) (i k : ℕ) → k < count (slots_at cs i) → i < count_rows cs
some-row no_bodies i k h = absurd (omega arith)
some-row (body ws ss cs) zero k h = omega arith
some-row (body ws ss cs) (suc i) k h = let r = some-row cs i k h in omega arith

module _ {B : Type 0} where
  pub only-value : (t : Tree) (v : Value B) → tree_of v ≡ t → Sound t → HasValue (v ∷ []) 0 t
  only-value t v et s = record { inside = omega arith; is = sym et; sound = s }

  pub root-is : (v : Value B) (k : ℕ) (t : Tree) → HasValue (v ∷ []) k t → t ≡ tree_of v
  root-is v zero t h = h.is
  root-is v (suc k) t h = let l = h.inside in absurd (omega arith)

  pub slot-is : (vs : List (Value B)) (k : ℕ) (t : Tree) (v : Value B) → v ≡ get_or vs k v → HasValue vs k t
      → t ≡ tree_of v
  slot-is vs k t v e h = h.is ∙ sym (value-at vs k v h.inside) ∙ ap tree_of (sym e)

  has-slot : (vs : List (Value B)) (ts : Trees) (k : ℕ) → ts ≡ trees_of vs → Sounds ts → k < count ts
      → HasValue vs k (tree_at ts k)
  has-slot vs ts k e s lt = record {
    inside = let c = ap count e in let n = count-trees_of vs in omega arith;
    is = ap (λ (x : Trees). tree_at x k) e;
    sound = sound-slots ts k s lt;
  }

  pub rows-slots : (rs : List (Body B)) (bs : Bodies) (i k : ℕ) (row : Body B) (vs : List (Value B)) → bs ≡ rows_of rs
      → SoundRows bs → vs ≡ (get_or rs i row).slots → k < count (slots_at bs i)
      → HasValue vs k (tree_at (slots_at bs i) k)
  rows-slots rs bs i k row vs e s ev lt =
      let n = count_rows-rows_of rs in
      let c = ap count_rows e in
      let r = some-row bs i k lt in
      has-slot vs (slots_at bs i) k
      (ap (λ (x : Bodies). slots_at x i) e ∙ sym (slots-of rs i row (omega arith))
      ∙ ap trees_of (sym ev)) (sound-row bs i s) lt

  pub row-slots : (ws : List ℕ) (ts vs : List (Value B)) (bs : Bodies) (i k : ℕ) → bs ≡ body ws (trees_of ts) no_bodies
      → SoundRows bs → vs ≡ ts → k < count (slots_at bs i) → HasValue vs k (tree_at (slots_at bs i) k)
  row-slots ws ts vs bs i k e s ev lt =
      let c = ap count_rows e in
      let r = some-row bs i k lt in
      let z : i ≡ 0 = omega arith in
      has-slot vs (slots_at bs i) k
      (ap (λ (x : Bodies). slots_at x i) e ∙ ap (slots_at (body ws (trees_of ts) no_bodies)) z ∙ ap trees_of (sym ev))
      (sound-row bs i s) lt

-- ---- the next row

module _ {B : Type 0} (bodies : List (Body B)) (i : ℕ) (row : Body B) (lt : i < length bodies)
    (is : row ≡ get_or bodies i row) (a b : ℕ) where
  pub next-row : rows_of (drop i bodies) ≡ body row.words (trees_of row.slots) (rows_of (drop (i + 1) bodies))
  next-row = ap rows_of (drop_more bodies i row lt ∙ ap (λ (x : Body B). x ∷ drop (i + 1) bodies) (sym is))

  pub next-zeros : zero_rows a b (rows_of (drop i bodies))
      ≡ (take a row.words ++ replicate b 0) ++ zero_rows a b (rows_of (drop (i + 1) bodies))
  next-zeros =
      ap (zero_rows a b) next-row
      ∙ sym (append_assoc (take a row.words) (replicate b 0) (zero_rows a b (rows_of (drop (i + 1) bodies))))

  pub next-wide : AreWide a b (rows_of (drop i bodies)) → (a ≤ length row.words)
      × AreWide a b (rows_of (drop (i + 1) bodies))
  next-wide h = let x = subst (AreWide a b) next-row h in (x.0, x.2)

  pub next-count : count_rows (rows_of (drop i bodies)) * (a + b)
      ≡ a + b + count_rows (rows_of (drop (i + 1) bodies)) * (a + b)
  next-count = ap (λ (x : Bodies). count_rows x * (a + b)) next-row ∙ omega arith

pub past-rows : {B : Type 0} (bodies : List (Body B)) (i : ℕ) → length bodies ≤ i → rows_of (drop i bodies) ≡ no_bodies
past-rows bodies i h = ap rows_of (drop_all i bodies h)
