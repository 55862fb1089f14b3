-- Words that follow the rules of the page denote a value without capabilities. (For `page`.)
use Rattle.std.proofs.Common.{◌≡◌, ℕ, zero, suc, ◌+◌, ◌*◌, ◌≤◌, List, [], ◌∷◌, ◌++◌, length, take, drop, Option, None}
use Rattle.std.proofs.Common.{Option, None, refl, ap, subst, ◌∙◌, sym, arith, length-drop}
use Rattle.std.specs.Option.{option_or}
use Rattle.std.proofs.lemmas.List.{length-take-le}
use Rattle.capn_words.specs.declared.space.Place.{Place}
use Rattle.capn_words.specs.declared.pointer.Width.TheVariants.{W0, W1, W8, W16, W32, W64, Link, Rows}
use Rattle.capn_value.specs.NumberWidth.{NumberWidth, bit, byte, pair, quad, oct, bits_in, per_word}
use Rattle.capn_value.specs.Tree.{Tree, nil, node, voids, numbers, links, rows, Trees, no_trees, tree, Bodies}
use Rattle.capn_value.specs.Tree.{no_bodies, body, count, count_rows}
use Rattle.capn_value.specs.FirstCap.{first_cap, first_in, first_in_rows}
use Rattle.capn_target.specs.declared.target.Shape.{Shape}
use Rattle.capn_target.specs.declared.target.Shape.TheVariants as shapes
use Rattle.capn_target.specs.Target.{list_width}
use Rattle.capn_target.specs.Shapes.{extent, RowsFit}
use Rattle.capn_target.proofs.shared.Inside.{inside}
use Rattle.capn_walk.specs.Accepted.{root}
use Rattle.capn_walk.specs.ValueAt.{IsAt, AreAt, RowsAt, IsInside, element}
use Rattle.capn_walk.specs.Visits.{places, row_places, slots}
use Rattle.capn_walk.proofs.shared.Listed.{listed, length-listed, elements-listed}
use Rattle.capn_walk.proofs.shared.Walks.{is-inside, inside-struct, inside-links, inside-rows}
use Rattle.capn_canon.specs.PageForm.{Met, null, object, InPreorder, IsPageForm}

none-or : (a b : Option ℕ) → a ≡ None → b ≡ None → option_or a b ≡ None
none-or a b e f = ap (λ (x : Option ℕ). option_or x b) e ∙ f

module _ (all : List ℕ) where
  abbrev only : List (List ℕ)
  only = all ∷ []

  -- The given values are at the given places, one at each, and have no capability.
  abbrev AtPlaces : List Place → Trees → Type 0
  AtPlaces [] no_trees = Unit {0}
  AtPlaces (at ∷ ps) (tree t ts) = IsAt only at t × (first_cap t ≡ None) × AtPlaces ps ts
  AtPlaces _ _ = ⊥

  -- Values without capabilities, `first` at the places `ps` and `others` at the places `qs`.
  record Parted (ps qs : List Place) : Type 0 where
    pub first : Trees
    pub others : Trees
    pub at_first : AtPlaces ps first
    pub at_others : AtPlaces qs others

  parted : (ps qs : List Place) (ts : Trees) → AtPlaces (ps ++ qs) ts → Parted ps qs
  parted [] qs ts h = record { first = no_trees; others = ts; at_first = tt; at_others = h }
  parted (p ∷ ps) qs no_trees h = absurd h
  parted (p ∷ ps) qs (tree t ts) h =
      let k = parted ps qs ts h.2 in
      record { first = tree t k.first; others = k.others; at_first = (h.0, h.1, k.at_first); at_others = k.at_others }

  slots-at : (w n : ℕ) (ts : Trees) → AtPlaces (places 0 w n) ts → AreAt only 0 w ts × (count ts ≡ n)
      × (first_in ts ≡ None)
  slots-at w zero no_trees h = (tt, refl, refl)
  slots-at w zero (tree t ts) h = absurd h
  slots-at w (suc n) no_trees h = absurd h
  slots-at w (suc n) (tree t ts) h =
      let e : w + 1 ≡ suc w = omega arith in
      let k = slots-at (w + 1) n ts h.2 in (
        (h.0, subst (λ (x : ℕ). AreAt only 0 x ts) e k.0),
        ap suc k.1,
        none-or (first_cap t) (first_in ts) h.1 k.2,
      )

  rows-at : (a b n w : ℕ) (ts : Trees) → w + n * (a + b) ≤ length all → AtPlaces (row_places 0 w a b n) ts
      → (bs : Bodies) × RowsAt only a b 0 w bs × (count_rows bs ≡ n) × (first_in_rows bs ≡ None)
  rows-at a b zero w ts le h = (no_bodies, tt, refl, refl)
  rows-at a b (suc n) w ts le h =
      let m : suc n * (a + b) ≡ a + b + n * (a + b) = omega arith in
      let p = parted (places 0 (w + a) b) (row_places 0 (w + a + b) a b n) ts h in
      let k = slots-at (w + a) b p.first p.at_first in
      let (bs, are, many, free) = rows-at a b n (w + a + b) p.others (omega arith) p.at_others in
      let d = length-drop w all in
      let l : length (take a (drop w all)) ≡ a = length-take-le a (drop w all) (omega arith) in (
        body (take a (drop w all)) p.first bs,
        (l, k.1, ap (λ (x : ℕ). take x (drop w all)) l, k.0, are),
        ap suc many,
        none-or (first_in p.first) (first_in_rows bs) k.2 free,
      )

  -- Some value without capabilities has its content, of the given shape, at the word `start`.
  abbrev Held : ℕ → Shape → Type 0
  Held start shape = (v : Tree) × IsInside only shape 0 start v × (first_cap v ≡ None)

  numbers-held : (a : NumberWidth) (n start : ℕ) → start + n ≤ length all → a ≡ oct
      → Held start (shapes.Many (list_width a) n)
  numbers-held oct n start le e =
      let d = length-drop start all in
      let l : length (take n (drop start all)) ≡ n = length-take-le n (drop start all) (omega arith) in (
        numbers oct (take n (drop start all)),
        (ap (shapes.Many W64) (sym l), ap (λ (k : ℕ). take k (drop start all)) l),
        refl,
      )
  numbers-held bit n start le e = absurd cc
  numbers-held byte n start le e = absurd cc
  numbers-held pair n start le e = absurd cc
  numbers-held quad n start le e = absurd cc

  small-held : (a : NumberWidth) (n start : ℕ) → (a ≡ oct → ⊥) → Held start (shapes.Many (list_width a) n)
  small-held oct n start other = absurd (other refl)
  small-held a n start other = (
    numbers a (listed (element (per_word a) (bits_in a) (drop start all)) n),
    (
      ap (shapes.Many (list_width a)) (sym (length-listed (element (per_word a) (bits_in a) (drop start all)) n)),
      elements-listed (per_word a) (bits_in a) (drop start all) n,
    ),
    refl,
  )

  -- An object has a value (`Held`) if there are values at all its slots (`AtPlaces`).
  held : (start : ℕ) (shape : Shape) (ts : Trees) → start + extent shape ≤ length all → RowsFit shape
      → AtPlaces (slots 0 start shape) ts → Held start shape
  held start (shapes.Node a b) ts le fit h =
      let k = slots-at (start + a) b ts h in
      let d = length-drop start all in
      let l : length (take a (drop start all)) ≡ a = length-take-le a (drop start all) (omega arith) in (
        node (take a (drop start all)) ts,
        inside-struct only 0 start (shapes.Node a b) a b (take a (drop start all)) ts refl l refl k.1 k.0,
        k.2,
      )
  held start (shapes.Many W0 n) ts le fit h = (voids n, refl, refl)
  held start (shapes.Many W1 n) ts le fit h = small-held bit n start (λ e. cc)
  held start (shapes.Many W8 n) ts le fit h = small-held byte n start (λ e. cc)
  held start (shapes.Many W16 n) ts le fit h = small-held pair n start (λ e. cc)
  held start (shapes.Many W32 n) ts le fit h = small-held quad n start (λ e. cc)
  held start (shapes.Many W64 n) ts le fit h = numbers-held oct n start le refl
  held start (shapes.Many Link n) ts le fit h =
      let k = slots-at start n ts h in
      (links ts, inside-links only 0 start (shapes.Many Link n) n ts refl k.1 k.0, k.2)
  held start (shapes.Many Rows n) ts le fit h = absurd fit
  held start (shapes.Rows n a b span) ts le fit h =
      let (bs, are, many, free) = rows-at a b n (start + 1) ts (omega arith) h in
      let e : start + 1 ≡ suc start = omega arith in (
        rows bs,
        inside-rows only 0 start (shapes.Rows n a b span) n a b span bs refl many
            (subst (λ (x : ℕ). RowsAt only a b 0 x bs) e are),
        free,
      )

  -- If the pointers at and below the places `todo` are visited in preorder, there is a value at each place of `todo`.
  valued : (met : List Met) (todo : List Place) → InPreorder all todo met → (ts : Trees) × AtPlaces todo ts
  valued [] [] h = (no_trees, tt)
  valued [] (at ∷ todo) h = absurd h
  valued (m ∷ met) [] h = absurd h
  valued (null ∷ met) (at ∷ todo) h = let (ts, k) = valued met todo h.1 in (tree nil ts, (h.0, refl, k))
  valued (object pointer start shape ∷ met) (at ∷ todo) h =
      let (ts, k) = valued met (slots 0 start shape ++ todo) h.2 in
      let p = parted (slots 0 start shape) todo ts k in
      let i = inside only at 0 start 0 shape h.1 in
      let (v, it, free) = held start shape p.first i.0 i.1 p.at_first in
      (tree v p.others, (is-inside only at 0 start 0 shape v h.1 it, free, p.at_others))

  pub form-denotes : IsPageForm all → (v : Tree) × IsAt only root v × (first_cap v ≡ None)
  form-denotes f = let (ts, k) = valued f.pointers (root ∷ []) f.preorder in from ts k
    where
      from : (ts : Trees) → AtPlaces (root ∷ []) ts → (v : Tree) × IsAt only root v × (first_cap v ≡ None)
      from no_trees h = absurd h
      from (tree t ts) h = (t, h.0, h.1)
