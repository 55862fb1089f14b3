-- An object is laid out canonically if and only if its own words pass the tests that the one pass makes, and each
-- object below is laid out canonically. (For `check_numbers`, `open_composite`, `open_struct` and
-- `survey_bare_counted`.)
use Rattle.std.proofs.Common.{◌≡◌, ◌⊎◌, inl, inr, ℕ, zero, suc, ◌+◌, ◌^◌, ◌<◌, ◌≤◌, List, [], ◌∷◌, ◌++◌}
use Rattle.std.proofs.Common.{length, take, slice_index, Ok, refl, ap, ap₂, sym, subst, ◌∙◌, arith}
use Rattle.std.proofs.Common.{false}
use Rattle.std.specs.Bool.{IsTrue}
use Rattle.std.proofs.lemmas.List.{take_all}
use Rattle.capn_words.specs.Message.{segment_at}
use Rattle.capn_words.specs.declared.pointer.Width.TheVariants.{Link}
use Rattle.capn_value.specs.Tree.{Tree, nil, node, links, Trees, no_trees, tree, count}
use Rattle.capn_value.specs.Trim.{kept_words, kept_slots}
use Rattle.capn_target.specs.declared.target.Target.TheVariants as targets
use Rattle.capn_target.specs.declared.target.Shape.TheVariants as shapes
use Rattle.capn_target.specs.Target.{target}
use Rattle.capn_walk.specs.ValueAt.{AreAt, AreWordsAt, words_from}
use Rattle.capn_walk.specs.ValueAt.{IsInside}
use Rattle.capn_layout.specs.Layout.{size, sizes, point, points, lay, lays, struct_to, list_to}
use Rattle.capn_layout.specs.Sound.{Sound}
use Rattle.capn_canon.proofs.reading.LaidPointers.{struct-names, list-names}
use Rattle.capn_layout.proofs.shared.KeptLengths.{kept_words-le, kept_slots-le}
use Rattle.capn_layout.proofs.shared.LayLengths.{length-lay, length-points}
use Rattle.capn_canon.specs.inner.WordsOfLayout.{Stand, IsLaidAt, AreLaidAt}
use Rattle.capn_layout.proofs.shared.Nulls.{kept-slots}
use Rattle.capn_layout.proofs.shared.Shaped.{IsNode, as-node, IsLinks, as-links}
use Rattle.capn_canon.proofs.places.Standing.{stand-none, stand-join, stand-front, stand-back, stand-room, stand-cons}
use Rattle.capn_canon.proofs.places.Standing.{stand-head, stand-tail}

point-node : (ws : List ℕ) (ss : Trees) (from to : ℕ)
    → point (node ws ss) from to ≡ struct_to from to (kept_words ws) (kept_slots ss)
unfolding point
point-node ws ss from to = refl

point-links : (ts : Trees) (from to : ℕ) → point (links ts) from to ≡ list_to from to Link (count ts)
unfolding point
point-links ts from to = refl

pub not-true : IsTrue false → ⊥
not-true e = cc

-- If the content of `v` starts within the words `all`, it ends within `all`.
pub laid-room : (all : List ℕ) (v : Tree) (from to : ℕ) → Sound v → to ≤ length all → IsLaidAt all v from to
    → to + size v ≤ length all
laid-room all v from to o le h = from_size (size v) (length-lay v to o)
  where
    from_size : (n : ℕ) → length (lay v to) ≡ n → to + n ≤ length all
    from_size zero e = omega arith
    from_size (suc n) e = let r = stand-room all to (lay v to) (omega arith) h.content in omega arith

-- ---- values with nothing below

pub null-told : (all : List ℕ) (v : Tree) (from to : ℕ) → v ≡ nil → slice_index all from ≡ 0 → IsLaidAt all v from to
    × (to ≡ to + size v)
unfolding point
null-told all v from to e z =
    subst (λ (x : Tree). IsLaidAt all x from to × (to ≡ to + size x)) (sym e)
    (record { pointer = z; content = stand-none all to }, omega arith)

-- ---- slots

module _ (all : List ℕ) (t : Tree) (ts : Trees) (from to : ℕ) (inside : from < length all) (o : Sound t) where
  pub slots-first : AreLaidAt all (tree t ts) from to → IsLaidAt all t from to
  slots-first h = record {
    pointer = stand-head all from (point t from to) (points ts (suc from) (to + size t)) inside h.pointers;
    content = stand-front all to (lay t to) (lays ts (to + size t)) h.contents;
  }

  pub slots-others : AreLaidAt all (tree t ts) from to → AreLaidAt all ts (suc from) (to + size t)
  slots-others h = record {
    pointers = stand-tail all from (point t from to) (points ts (suc from) (to + size t)) inside h.pointers;
    contents = subst (λ (k : ℕ). Stand all (to + k) (lays ts (to + size t))) (length-lay t to o)
        (stand-back all to (lay t to) (lays ts (to + size t)) h.contents);
  }

  pub slots-both : IsLaidAt all t from to → AreLaidAt all ts (suc from) (to + size t)
      → AreLaidAt all (tree t ts) from to
  slots-both h k = record {
    pointers = stand-cons all from (point t from to) (points ts (suc from) (to + size t)) inside h.pointer k.pointers;
    contents = stand-join all to (lay t to) (lays ts (to + size t)) h.content
        (subst (λ (j : ℕ). Stand all (to + j) (lays ts (to + size t))) (sym (length-lay t to o)) k.contents);
  }

-- ---- a struct

module _ (all : List ℕ) (a b s w from to pads : ℕ)
    (e : target (all ∷ []) (record { segment = 0; word = from }) ≡ Ok (targets.Content s w (shapes.Node a b) pads))
    (small : length all ≤ 2 ^ 29) (inside : w + (a + b) ≤ length (segment_at (all ∷ []) s)) (order : from < to)
    (v : Tree) (i : IsInside (all ∷ []) (shapes.Node a b) s w v) (o : Sound v) (fits : to ≤ length all) where
  pub struct-is : IsNode (all ∷ []) a b s w v
  struct-is = as-node (all ∷ []) a b s w v i

  kept-own : kept_words (take a (words_from (all ∷ []) s w)) ≡ kept_words struct-is.words
  kept-own = ap kept_words struct-is.own

  kept-below : kept_words (take b (words_from (all ∷ []) s (w + a))) ≡ kept_slots struct-is.slots
  kept-below =
      let c = struct-is.count in
      sym (kept-slots (all ∷ []) struct-is.slots s (w + a) struct-is.below (omega arith)
      ∙ ap (λ (j : ℕ). kept_words (take j (words_from (all ∷ []) s (w + a)))) c)

  pub struct-sound : Sound (node struct-is.words struct-is.slots)
  struct-sound = subst Sound struct-is.is o

  narrow : (a < 2 ^ 16) × (b < 2 ^ 16)
  narrow = let x = struct-sound.0 in let y = struct-sound.1 in let c = struct-is.count in let d = struct-is.number in
      (omega arith, omega arith)

  -- If the struct is laid out canonically, trimming keeps all its words and slots, and the word of its pointer is
  -- `struct_to`.
  pub struct-passes : IsLaidAt all v from to →
      (kept_words (take a (words_from (all ∷ []) s w)) ≡ a)
      × (kept_words (take b (words_from (all ∷ []) s (w + a))) ≡ b) × (slice_index all from ≡ struct_to from to a b)
      × (to + (a + b) ≤ length all)
  struct-passes h =
      let ws = struct-is.words in
      let ss = struct-is.slots in
      let r = laid-room all v from to o fits h in
      let z : size v ≡ kept_words ws + kept_slots ss + sizes ss = ap size struct-is.is in
      let p : slice_index all from ≡ struct_to from to (kept_words ws) (kept_slots ss) = h.pointer
      ∙ ap (λ (x : Tree). point x from to) struct-is.is ∙ point-node ws ss from to in
      let ka = kept_own_le in
      let kb = kept_below_le in
      let f = struct-names all small from to (kept_words ws) (kept_slots ss) order (omega arith) (let x = narrow.0 in
      omega arith) (let x = narrow.1 in omega arith) p in
      let ea : a ≡ kept_words ws = same-a f.0 (kept_words ws) (kept_slots ss) f.1 in
      let eb : b ≡ kept_slots ss = same-b f.0 (kept_words ws) (kept_slots ss) f.1 in
      (kept-own ∙ sym ea, kept-below ∙ sym eb, p ∙ ap₂ (struct_to from to) (sym ea) (sym eb), omega arith)
    where
      kept_own_le : kept_words struct-is.words ≤ a
      kept_own_le = let k = kept_words-le struct-is.words in let c = struct-is.number in omega arith

      kept_below_le : kept_slots struct-is.slots ≤ b
      kept_below_le = let k = kept_slots-le struct-is.slots in let c = struct-is.count in omega arith

      same-a : (start x y : ℕ)
          → target (all ∷ []) (record { segment = 0; word = from }) ≡ Ok (targets.Content 0 start (shapes.Node x y) 0)
          → a ≡ x
      same-a start x y f = cc

      same-b : (start x y : ℕ)
          → target (all ∷ []) (record { segment = 0; word = from }) ≡ Ok (targets.Content 0 start (shapes.Node x y) 0)
          → b ≡ y
      same-b start x y f = cc

  -- In this block trimming keeps all words and slots of the struct, and the word of its pointer is `struct_to`. So the
  -- struct is at the next free word, or it has no words and no slots.
  module _ (ka : kept_words (take a (words_from (all ∷ []) s w)) ≡ a)
      (kb : kept_words (take b (words_from (all ∷ []) s (w + a))) ≡ b)
      (p : slice_index all from ≡ struct_to from to a b) (room : to + (a + b) ≤ length all) where
    located : (start : ℕ)
        × (target (all ∷ []) (record { segment = 0; word = from }) ≡ Ok (targets.Content 0 start (shapes.Node a b) 0))
        × ((start ≡ to) ⊎ ((a ≡ 0) × (b ≡ 0)))
    located = struct-names all small from to a b order room narrow.0 narrow.1 p

    same-segment : (start : ℕ)
        → target (all ∷ []) (record { segment = 0; word = from }) ≡ Ok (targets.Content 0 start (shapes.Node a b) 0)
        → s ≡ 0
    same-segment start f = cc

    same-start : (start : ℕ)
        → target (all ∷ []) (record { segment = 0; word = from }) ≡ Ok (targets.Content 0 start (shapes.Node a b) 0)
        → w ≡ start
    same-start start f = cc

    in-place : (w ≡ to) ⊎ ((a ≡ 0) × (b ≡ 0))
    in-place =
        let l = located in
        elim l.2 as (λ _. (w ≡ to) ⊎ ((a ≡ 0) × (b ≡ 0))) [ inl x ↦ inl (same-start l.0 l.1 ∙ x) | inr y ↦ inr y ]

    first-segment : s ≡ 0
    first-segment = let l = located in same-segment l.0 l.1

    words-here : Stand all to struct-is.words
    words-here =
        let h : AreWordsAt (all ∷ []) 0 w struct-is.words =
        subst (λ (k : ℕ). AreWordsAt (all ∷ []) k w struct-is.words) first-segment
        (subst (λ (k : ℕ). take k (words_from (all ∷ []) s w) ≡ struct-is.words) (sym struct-is.number)
        struct-is.own) in
        elim in-place as (λ _. Stand all to struct-is.words) [
          | inl x ↦ subst (λ (k : ℕ). Stand all k struct-is.words) x h
          | inr y ↦ none struct-is.words (struct-is.number ∙ y.0)
        ]
      where
        none : (xs : List ℕ) → length xs ≡ 0 → Stand all to xs
        none [] q = refl
        none (x ∷ xs) q = absurd (omega arith)

    pub slots-here : AreAt (all ∷ []) 0 (to + a) struct-is.slots
    slots-here =
        let h : AreAt (all ∷ []) 0 (w + a) struct-is.slots =
        subst (λ (k : ℕ). AreAt (all ∷ []) k (w + a) struct-is.slots) first-segment struct-is.below in
        elim in-place as (λ _. AreAt (all ∷ []) 0 (to + a) struct-is.slots) [
          | inl x ↦ subst (λ (k : ℕ). AreAt (all ∷ []) 0 (k + a) struct-is.slots) x h
          | inr y ↦ none struct-is.slots (struct-is.count ∙ y.1)
        ]
      where
        none : (ts : Trees) → count ts ≡ 0 → AreAt (all ∷ []) 0 (to + a) ts
        none no_trees q = tt
        none (tree t ts) q = absurd (omega arith)

    kw : kept_words struct-is.words ≡ a
    kw = sym kept-own ∙ ka

    ks : kept_slots struct-is.slots ≡ b
    ks = sym kept-below ∙ kb

    -- The layout of the struct is its words, its pointers, and the layouts of the objects below it.
    lay-is : lay (node struct-is.words struct-is.slots) to ≡ struct-is.words
        ++ (points struct-is.slots (to + a) (to + a + b) ++ lays struct-is.slots (to + a + b))
    lay-is =
        let ws = struct-is.words in
        let ss = struct-is.slots in
        let c : to + (a + b) ≡ to + a + b = omega arith in
        let lw : length ws ≤ a = let n = struct-is.number in omega arith in
        let lp : length (points ss (to + a) (to + a + b)) ≤ b = let n = struct-is.count in let l =
        length-points ss (to + a) (to + a + b) in omega arith in
        ap₂ (λ (x y : ℕ). take x ws ++ (take y (points ss (to + x) (to + (x + y))) ++ lays ss (to + (x + y)))) kw ks
        ∙ ap (λ (x : ℕ). take a ws ++ (take b (points ss (to + a) x) ++ lays ss x)) c
        ∙ ap₂ (λ (x y : List ℕ). x ++ (y ++ lays ss (to + a + b))) (take_all a ws lw)
        (take_all b (points ss (to + a) (to + a + b)) lp)

    pub struct-to-slots : IsLaidAt all v from to → AreLaidAt all struct-is.slots (to + a) (to + a + b)
    struct-to-slots h =
        let ws = struct-is.words in
        let ss = struct-is.slots in
        let x = subst (Stand all to) (ap (λ (t : Tree). lay t to) struct-is.is ∙ lay-is) h.content in
        let y = subst (λ (k : ℕ). Stand all (to + k) (points ss (to + a) (to + a + b) ++ lays ss (to + a + b)))
        struct-is.number (stand-back all to ws (points ss (to + a) (to + a + b) ++ lays ss (to + a + b)) x) in
        let l = length-points ss (to + a) (to + a + b) ∙ struct-is.count in
        record {
          pointers = stand-front all (to + a) (points ss (to + a) (to + a + b)) (lays ss (to + a + b)) y;
          contents = subst (λ (k : ℕ). Stand all (to + a + k) (lays ss (to + a + b))) l
              (stand-back all (to + a) (points ss (to + a) (to + a + b)) (lays ss (to + a + b)) y);
        }

    pub struct-from-slots : AreLaidAt all struct-is.slots (to + a) (to + a + b) → IsLaidAt all v from to
    struct-from-slots h =
        let ws = struct-is.words in
        let ss = struct-is.slots in
        let l = length-points ss (to + a) (to + a + b) ∙ struct-is.count in
        let y = stand-join all (to + a) (points ss (to + a) (to + a + b)) (lays ss (to + a + b)) h.pointers
        (subst (λ (k : ℕ). Stand all (to + a + k) (lays ss (to + a + b))) (sym l) h.contents) in
        let x = stand-join all to ws (points ss (to + a) (to + a + b) ++ lays ss (to + a + b)) words-here
        (subst (λ (k : ℕ). Stand all (to + k) (points ss (to + a) (to + a + b) ++ lays ss (to + a + b)))
        (sym struct-is.number) y) in
        record {
          pointer = p ∙ sym (ap (λ (t : Tree). point t from to) struct-is.is ∙ point-node ws ss from to
              ∙ ap₂ (struct_to from to) kw ks);
          content = subst (Stand all to) (sym (ap (λ (t : Tree). lay t to) struct-is.is ∙ lay-is)) x;
        }

    pub struct-size : to + a + b + sizes struct-is.slots ≡ to + size v
    struct-size = let z : size v ≡ kept_words struct-is.words + kept_slots struct-is.slots + sizes struct-is.slots =
        ap size struct-is.is in let x = kw in let y = ks in omega arith

-- ---- a list of pointers

module _ (all : List ℕ) (n s w from to pads : ℕ)
    (e : target (all ∷ []) (record { segment = 0; word = from }) ≡ Ok (targets.Content s w (shapes.Many Link n) pads))
    (small : length all ≤ 2 ^ 29) (order : from < to) (v : Tree) (i : IsInside (all ∷ []) (shapes.Many Link n) s w v)
    (o : Sound v) (fits : to ≤ length all) where
  pub links-is : IsLinks (all ∷ []) n s w v
  links-is = as-links (all ∷ []) n s w v i

  pub links-sound : Sound (links links-is.slots)
  links-sound = subst Sound links-is.is o

  pub links-few : n < 2 ^ 29
  links-few = let c = links-is.count in let d = links-sound.0 in omega arith

  pub size-is : size v ≡ n + sizes links-is.slots
  size-is = ap size links-is.is ∙ ap (λ (k : ℕ). k + sizes links-is.slots) links-is.count

  pointer-is : point v from to ≡ list_to from to Link n
  pointer-is = ap (λ (x : Tree). point x from to) links-is.is ∙ point-links links-is.slots from to
      ∙ ap (list_to from to Link) links-is.count

  pub links-passes : IsLaidAt all v from to → (slice_index all from ≡ list_to from to Link n) × (to + n ≤ length all)
  links-passes h =
      (h.pointer ∙ pointer-is, (let r = laid-room all v from to o fits h in let z = size-is in omega arith))

  module _ (p : slice_index all from ≡ list_to from to Link n) (room : to + n ≤ length all) where
    named-here : target (all ∷ []) (record { segment = 0; word = from })
        ≡ Ok (targets.Content 0 to (shapes.Many Link n) 0)
    named-here = list-names all small from to n Link tt order room links-few p

    at-segment : s ≡ 0
    at-segment = let f = named-here in cc

    at-start : w ≡ to
    at-start = let f = named-here in cc

    pub links-here : AreAt (all ∷ []) 0 to links-is.slots
    links-here = subst (λ (k : ℕ). AreAt (all ∷ []) 0 k links-is.slots) at-start
        (subst (λ (k : ℕ). AreAt (all ∷ []) k w links-is.slots) at-segment links-is.below)

    links-lay : lay v to ≡ points links-is.slots to (to + n) ++ lays links-is.slots (to + n)
    links-lay = ap (λ (x : Tree). lay x to) links-is.is
        ∙ ap (λ (k : ℕ). points links-is.slots to (to + k) ++ lays links-is.slots (to + k)) links-is.count

    links-length : length (points links-is.slots to (to + n)) ≡ n
    links-length = length-points links-is.slots to (to + n) ∙ links-is.count

    pub links-to-slots : IsLaidAt all v from to → AreLaidAt all links-is.slots to (to + n)
    links-to-slots h =
        let x = subst (Stand all to) links-lay h.content in
        record {
          pointers = stand-front all to (points links-is.slots to (to + n)) (lays links-is.slots (to + n)) x;
          contents = subst (λ (k : ℕ). Stand all (to + k) (lays links-is.slots (to + n))) links-length
              (stand-back all to (points links-is.slots to (to + n)) (lays links-is.slots (to + n)) x);
        }

    pub links-from-slots : AreLaidAt all links-is.slots to (to + n) → IsLaidAt all v from to
    links-from-slots h = record {
      pointer = p ∙ sym pointer-is;
      content = subst (Stand all to) (sym links-lay)
          (stand-join all to (points links-is.slots to (to + n)) (lays links-is.slots (to + n)) h.pointers
          (subst (λ (k : ℕ). Stand all (to + k) (lays links-is.slots (to + n))) (sym links-length) h.contents));
    }
