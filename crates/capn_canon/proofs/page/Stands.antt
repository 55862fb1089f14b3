-- If pointers follow the rules of the page, the values are laid out canonically. (For `LaidFollows` and
-- `ThePage`.)
use Rattle.std.proofs.Common.{◌≡◌, ◌⊎◌, inl, inr, ℕ, zero, suc, ◌+◌, ◌*◌, ◌/◌, ◌^◌, ◌<◌, ◌≤◌, List, [], ◌∷◌, ◌++◌}
use Rattle.std.proofs.Common.{length, take, drop, slice_index, Option, None, Ok, refl, ap, sym, subst, ◌∙◌, arith}
use Rattle.std.proofs.Common.{append_assoc}
use Rattle.std.specs.Prelude.{pos}
use Rattle.std.specs.Option.{option_or}
use Rattle.capn_words.specs.Message.{IsMessage}
use Rattle.capn_words.specs.Pointers.{word_of}
use Rattle.capn_words.specs.declared.space.Place.{Place}
use Rattle.capn_words.specs.declared.pointer.Pointer.TheVariants.{Node}
use Rattle.capn_words.specs.declared.pointer.Width.{Width}
use Rattle.capn_words.specs.declared.pointer.Width.TheVariants.{W0, W1, W8, W16, W32, W64, Link, Rows}
use Rattle.capn_value.specs.NumberWidth.{NumberWidth, bit, byte, pair, quad, oct}
use Rattle.capn_value.specs.Tree.{Tree, nil, node, voids, numbers, links, rows, cap, Trees, no_trees, tree}
use Rattle.capn_value.specs.Tree.{Bodies, no_bodies, body, count, count_rows}
use Rattle.capn_value.specs.FirstCap.{first_cap, first_in, first_in_rows}
use Rattle.capn_value.specs.Trim.{kept_words}
use Rattle.capn_target.specs.declared.target.Target.TheVariants as targets
use Rattle.capn_target.specs.declared.target.Shape.{Shape}
use Rattle.capn_target.specs.declared.target.Shape.TheVariants as shapes
use Rattle.capn_target.specs.Target.{target, list_width, content_words}
use Rattle.capn_target.specs.Shapes.{extent, IsPlain}
use Rattle.capn_target.proofs.shared.Inside.{inside}
use Rattle.capn_walk.specs.ValueAt.{IsAt, AreAt, RowsAt, AreWordsAt, IsInside}
use Rattle.capn_walk.specs.Visits.{places, row_places, slots}
use Rattle.capn_layout.specs.FirstBits.{element_bits}
use Rattle.capn_layout.specs.Layout.{size, sizes, sizes_in_rows, struct_to, list_to, lays}
use Rattle.capn_layout.proofs.shared.LayLengths.{length-lays}
use Rattle.capn_layout.specs.RowWords.{kept_each}
use Rattle.capn_layout.specs.Sound.{Sound, Sounds, SoundRows}
use Rattle.capn_layout.proofs.shared.Copied.{part-below}
use Rattle.capn_layout.proofs.shared.FirstBits.{plain-words}
use Rattle.capn_layout.proofs.shared.Nulls.{other-than-nil}
use Rattle.capn_layout.proofs.shared.Shaped.{inside-of, null-of}
use Rattle.capn_canon.specs.PageForm.{Met, null, object, IsEmpty, IsPadded}
use Rattle.capn_canon.specs.inner.WordsOfLayout.{IsLaidAt, AreLaidAt, RowsLaidAt}
use Rattle.capn_canon.proofs.places.Standing.{stand-none, stand-room}
use Rattle.capn_canon.proofs.places.Compared.{laid-room, null-told, slots-both, struct-is, slots-here}
use Rattle.capn_canon.proofs.places.Compared.{struct-from-slots}
use Rattle.capn_canon.proofs.places.Compared.{struct-size, links-is, links-here, links-from-slots}
use Rattle.capn_canon.proofs.places.ComparedList.{list-stands, list-size}
use Rattle.capn_canon.proofs.places.ComparedRows.{row-both, rows-is, rows-here, rows-from-slots, rows-size}
use Rattle.capn_canon.proofs.page.Rules.{IsRight, Follows}
use Rattle.capn_canon.proofs.page.Ends.{ends-kept, each-ends-kept, padded-stand}
use Rattle.capn_canon.proofs.page.PointerWords.{struct-pointer, list-pointer, rows-pointer}
use Rattle.capn_canon.proofs.reading.OneSegment.{here}

-- A struct has words or slots, or it is empty.
pub empty-or-not : (a b : ℕ) → ((IsEmpty (shapes.Node a b) → ⊥) × (0 < a + b))
    ⊎ (IsEmpty (shapes.Node a b) × (a ≡ 0) × (b ≡ 0))
empty-or-not zero zero = inr (tt, refl, refl)
empty-or-not zero (suc b) = inl ((λ e. e), omega arith)
empty-or-not (suc a) b = inl ((λ e. e), omega arith)

-- A list without pointers has no slots.
pub plain-slots : (width : Width) → IsPlain width → (start n : ℕ) → slots 0 start (shapes.Many width n) ≡ []
plain-slots W0 h start n = refl
plain-slots W1 h start n = refl
plain-slots W8 h start n = refl
plain-slots W16 h start n = refl
plain-slots W32 h start n = refl
plain-slots W64 h start n = refl
plain-slots Link h start n = absurd h
plain-slots Rows h start n = absurd h

pub plain-numbers : (a : NumberWidth) → IsPlain (list_width a)
plain-numbers bit = tt
plain-numbers byte = tt
plain-numbers pair = tt
plain-numbers quad = tt
plain-numbers oct = tt

none-or : (a b : Option ℕ) → a ≡ None → b ≡ None → option_or a b ≡ None
none-or a b e f = ap (λ (x : Option ℕ). option_or x b) e ∙ f

module _ (all : List ℕ) (message : IsMessage (all ∷ [])) where
  abbrev only : List (List ℕ)
  only = all ∷ []

  pub small : length all ≤ 2 ^ 29
  small = let r = message.room in omega arith

  -- The value `v`, without capabilities, is laid out with its pointer at `from` and its content at `to`. The pointers
  -- at and below the places `others` follow the rules.
  pub record Stands (v : Tree) (from to : ℕ) (others : List Place) : Type 0 where
    pub laid : IsLaidAt all v from to
    pub free : first_cap v ≡ None
    pub rest : List Met
    pub follows : Follows all (to + size v) others rest

  pub record SlotsStand (ts : Trees) (from to : ℕ) (others : List Place) : Type 0 where
    pub laid : AreLaidAt all ts from to
    pub free : first_in ts ≡ None
    pub rest : List Met
    pub follows : Follows all (to + sizes ts) others rest

  pub record RowsStand (a b : ℕ) (bs : Bodies) (from to : ℕ) (others : List Place) : Type 0 where
    pub laid : RowsLaidAt all a b bs from to
    pub free : first_in_rows bs ≡ None
    pub rest : List Met
    pub follows : Follows all (to + sizes_in_rows bs) others rest

  -- The pointer at the slot `from` leads to an object of `shape` at `start`. That object follows the rules, and so do
  -- the pointers at and below its slots and the places `others`.
  record Here (from to start : ℕ) (shape : Shape) (others : List Place) (rest : List Met) : Type 0 where
    pub named : target only (here from) ≡ Ok (targets.Content 0 start shape 0)
    pub right : IsRight all to from start shape
    pub follows : Follows all (to + extent shape) (slots 0 start shape ++ others) rest

  null-stands : (v : Tree) (from to : ℕ) (others : List Place) (rest : List Met) → IsAt only (here from) v
      → target only (here from) ≡ Ok targets.Nil → Follows all to others rest → Stands v from to others
  null-stands v from to others rest is e f =
      let n = null-of only (here from) v e is in
      let t = null-told all v from to n (other-than-nil only (here from) e) in
      record {
        laid = t.0;
        free = ap first_cap n;
        rest = rest;
        follows = subst (λ (k : ℕ). Follows all k others rest) t.1 f;
      }

  -- ---- a struct

  module _ (from to start : ℕ) (ws : List ℕ) (ss : Trees) (others : List Place) (rest : List Met)
      (h : Here from to start (shapes.Node (length ws) (count ss)) others rest) (own : AreWordsAt only 0 start ws)
      (below : AreAt only 0 (start + length ws) ss) (o : Sound (node ws ss)) (order : from < to)
      (fits : to ≤ length all) where
    abbrev a : ℕ
    a = length ws

    abbrev b : ℕ
    b = count ss

    placed : ((start ≡ to) × (0 < a + b)) ⊎ ((start ≡ from) × (a ≡ 0) × (b ≡ 0))
    placed = elim (empty-or-not a b) as
        (λ _. ((start ≡ to) × (0 < a + b)) ⊎ ((start ≡ from) × (a ≡ 0) × (b ≡ 0))) [
          | inl x ↦ inl (h.right.begins x.0, x.1)
          | inr y ↦ inr (h.right.empty y.0, y.1, y.2)
        ]

    word : slice_index all from ≡ struct_to from to a b
    word = struct-pointer all (message.each 0) from to start a b order h.named placed

    lies : start + (a + b) ≤ length all
    lies = (inside only (here from) 0 start 0 (shapes.Node a b) h.named).0

    room : to + (a + b) ≤ length all
    room = let l = lies in elim placed as (λ _. to + (a + b) ≤ length all) [
      | inl x ↦ (let e = x.0 in omega arith)
      | inr y ↦ (let u = y.1 in let v = y.2 in omega arith)
    ]

    it : IsInside only (shapes.Node a b) 0 start (node ws ss)
    it = (refl, own, below)

    ka : kept_words (take a (drop start all)) ≡ a
    ka = ends-kept all start a h.right.truncated.0

    kb : kept_words (take b (drop (start + a) all)) ≡ b
    kb = ends-kept all (start + a) b h.right.truncated.1

    same : (struct-is all a b 0 start from to 0 h.named small lies order (node ws ss) it o fits).slots ≡ ss
    same = let e = (struct-is all a b 0 start from to 0 h.named small lies order (node ws ss) it o fits).is in cc

    struct-slots : AreAt only 0 (to + a) ss
    struct-slots = subst (AreAt only 0 (to + a)) same
        (slots-here all a b 0 start from to 0 h.named small lies order (node ws ss) it o fits ka kb word room)

    struct-goes : Follows all (to + a + b) (places 0 (to + a) b ++ others) rest
    struct-goes =
        let e : to + (a + b) ≡ to + a + b = omega arith in
        subst (λ (k : ℕ). Follows all k (places 0 (to + a) b ++ others) rest) e
        (subst (λ (ps : List Place). Follows all (to + (a + b)) (ps ++ others) rest) moved-places h.follows)
      where
        moved-places : places 0 (start + a) b ≡ places 0 (to + a) b
        moved-places = elim placed as (λ _. places 0 (start + a) b ≡ places 0 (to + a) b) [
          | inl x ↦ ap (λ (k : ℕ). places 0 (k + a) b) x.0
          | inr y ↦ ap (places 0 (start + a)) y.2 ∙ sym (ap (places 0 (to + a)) y.2)
        ]

    struct-done : SlotsStand ss (to + a) (to + a + b) others → Stands (node ws ss) from to others
    struct-done k = record {
      laid = struct-from-slots all a b 0 start from to 0 h.named small lies order (node ws ss) it o fits ka kb word room
          (subst (λ (x : Trees). AreLaidAt all x (to + a) (to + a + b)) (sym same) k.laid);
      free = k.free;
      rest = k.rest;
      follows = subst (λ (n : ℕ). Follows all n others k.rest)
          (ap (λ (x : Trees). to + a + b + sizes x) (sym same)
          ∙ struct-size all a b 0 start from to 0 h.named small lies order (node ws ss) it o fits ka kb word room)
          k.follows;
    }

  -- ---- a list without pointers

  plain-stands : (from to start : ℕ) (width : Width) (n : ℕ) (v : Tree) (others : List Place) (rest : List Met)
      → Here from to start (shapes.Many width n) others rest → IsPlain width → n < 2 ^ 29
      → IsInside only (shapes.Many width n) 0 start v → first_cap v ≡ None → Sound v → from < to → to ≤ length all
      → Stands v from to others
  plain-stands from to start width n v others rest h plain few it free o order fits =
      let lies = (inside only (here from) 0 start 0 (shapes.Many width n) h.named).0 in
      let e : start ≡ to = h.right.begins (λ x. x) in
      let named : target only (here from) ≡ Ok (targets.Content 0 to (shapes.Many width n) 0) =
      h.named ∙ ap (λ (x : ℕ). Ok (targets.Content 0 x (shapes.Many width n) 0)) e in
      let p = list-pointer all (message.each 0) from to n width order named in
      let w = plain-words width n plain in
      let room : to + (element_bits width * n + 63) / 64 ≤ length all = omega arith in
      let padded = subst (λ (x : ℕ). IsPadded all (object from x (shapes.Many width n))) e h.right.padded in
      let sized = list-size all width n 0 start from to 0 h.named plain few small (part-below only 0 start message) lies
      order v it o fits in
      let ends : to + content_words width n ≡ to + size v = omega arith in
      record {
        laid = list-stands all width n 0 start from to 0 h.named plain few small (part-below only 0 start message) lies
            order v it o fits p room (padded-stand all to (element_bits width * n) room padded);
        free = free;
        rest = rest;
        follows = subst (λ (k : ℕ). Follows all k others rest) ends
            (subst (λ (ps : List Place). Follows all (to + content_words width n) (ps ++ others) rest)
            (plain-slots width plain start n) h.follows);
      }

  -- ---- a list of pointers

  module _ (from to start : ℕ) (ts : Trees) (others : List Place) (rest : List Met)
      (h : Here from to start (shapes.Many Link (count ts)) others rest) (below : AreAt only 0 start ts)
      (o : Sound (links ts)) (order : from < to) (fits : to ≤ length all) where
    links-start : start ≡ to
    links-start = h.right.begins (λ x. x)

    links-it : IsInside only (shapes.Many Link (count ts)) 0 start (links ts)
    links-it = (refl, below)

    links-room : to + count ts ≤ length all
    links-room =
        let l = (inside only (here from) 0 start 0 (shapes.Many Link (count ts)) h.named).0 in
        let e = links-start in
        omega arith

    links-word : slice_index all from ≡ list_to from to Link (count ts)
    links-word = list-pointer all (message.each 0) from to (count ts) Link order
        (h.named ∙ ap (λ (x : ℕ). Ok (targets.Content 0 x (shapes.Many Link (count ts)) 0)) links-start)

    links-same : (links-is all (count ts) 0 start from to 0 h.named small order (links ts) links-it o fits).slots ≡ ts
    links-same =
        let e = (links-is all (count ts) 0 start from to 0 h.named small order (links ts) links-it o fits).is in cc

    links-slots : AreAt only 0 to ts
    links-slots = subst (AreAt only 0 to) links-same
        (links-here all (count ts) 0 start from to 0 h.named small order (links ts) links-it o fits links-word
        links-room)

    links-goes : Follows all (to + count ts) (places 0 to (count ts) ++ others) rest
    links-goes = subst (λ (x : ℕ). Follows all (to + count ts) (places 0 x (count ts) ++ others) rest) links-start
        h.follows

    links-done : SlotsStand ts to (to + count ts) others → Stands (links ts) from to others
    links-done k = record {
      laid = links-from-slots all (count ts) 0 start from to 0 h.named small order (links ts) links-it o fits links-word
          links-room (subst (λ (x : Trees). AreLaidAt all x to (to + count ts)) (sym links-same) k.laid);
      free = k.free;
      rest = k.rest;
      follows = let e : to + count ts + sizes ts ≡ to + size (links ts) = omega arith in
          subst (λ (n : ℕ). Follows all n others k.rest) e k.follows;
    }

  -- ---- a list of structs

  module _ (from to start a b span : ℕ) (bs : Bodies) (others : List Place) (rest : List Met)
      (h : Here from to start (shapes.Rows (count_rows bs) a b span) others rest)
      (below : RowsAt only a b 0 (suc start) bs) (o : Sound (rows bs)) (order : from < to)
      (fits : to ≤ length all) where
    abbrev n : ℕ
    n = count_rows bs

    rows-start : start ≡ to
    rows-start = h.right.begins (λ x. x)

    rows-it : IsInside only (shapes.Rows n a b span) 0 start (rows bs)
    rows-it = (a, b, span, refl, below)

    rows-span : span ≡ n * (a + b)
    rows-span = h.right.whole

    rows-lies : start + 1 + n * (a + b) ≤ length all
    rows-lies =
        let l = (inside only (here from) 0 start 0 (shapes.Rows n a b span) h.named).0 in
        let e = rows-span in
        omega arith

    rows-room : to + (1 + n * (a + b)) ≤ length all
    rows-room = let l = rows-lies in let e = rows-start in omega arith

    rows-words : (slice_index all from ≡ list_to from to Rows span) × (slice_index all to ≡ word_of (Node (pos n) a b))
    rows-words = rows-pointer all (message.each 0) from to n a b span order
        (h.named ∙ ap (λ (x : ℕ). Ok (targets.Content 0 x (shapes.Rows n a b span) 0)) rows-start)

    rows-word : slice_index all from ≡ list_to from to Rows (n * (a + b))
    rows-word = rows-words.0 ∙ ap (list_to from to Rows) rows-span

    rows-ka : kept_each only 0 (start + 1) a (a + b) n ≡ a
    rows-ka = each-ends-kept all (start + 1) a (a + b) n h.right.truncated.0

    rows-kb : kept_each only 0 (start + 1 + a) b (a + b) n ≡ b
    rows-kb = each-ends-kept all (start + 1 + a) b (a + b) n h.right.truncated.1

    rows-same : (rows-is all n a b span 0 start from to 0 h.named small rows-lies order (rows bs) rows-it o fits).bodies
        ≡ bs
    rows-same =
        let e = (rows-is all n a b span 0 start from to 0 h.named small rows-lies order (rows bs) rows-it o fits).is in
        cc

    rows-slots : RowsAt only a b 0 (to + 1) bs
    rows-slots = subst (RowsAt only a b 0 (to + 1)) rows-same
        (rows-here all n a b span 0 start from to 0 h.named small rows-lies order (rows bs) rows-it o fits rows-ka
        rows-kb rows-word rows-room rows-words.1)

    rows-goes : Follows all (to + 1 + n * (a + b)) (row_places 0 (to + 1) a b n ++ others) rest
    rows-goes =
        let e : to + (1 + span) ≡ to + 1 + n * (a + b) = let s = rows-span in omega arith in
        subst (λ (k : ℕ). Follows all k (row_places 0 (to + 1) a b n ++ others) rest) e
        (subst (λ (x : ℕ). Follows all (to + (1 + span)) (row_places 0 (x + 1) a b n ++ others) rest) rows-start
        h.follows)

    rows-done : RowsStand a b bs (to + 1) (to + 1 + n * (a + b)) others → Stands (rows bs) from to others
    rows-done k = record {
      laid = rows-from-slots all n a b span 0 start from to 0 h.named small rows-lies order (rows bs) rows-it o fits
          rows-ka rows-kb rows-word rows-room rows-words.1
          (subst (λ (x : Bodies). RowsLaidAt all a b x (to + 1) (to + 1 + n * (a + b))) (sym rows-same) k.laid);
      free = k.free;
      rest = k.rest;
      follows = subst (λ (m : ℕ). Follows all m others k.rest)
          (ap (λ (x : Bodies). to + 1 + n * (a + b) + sizes_in_rows x) (sym rows-same)
          ∙ rows-size all n a b span 0 start from to 0 h.named small rows-lies order (rows bs) rows-it o fits rows-ka
          rows-kb rows-word rows-room rows-words.1) k.follows;
    }

  -- ---- every value

  shaped : (from to pointer start : ℕ) (shape x : Shape) (others : List Place) (rest : List Met) → shape ≡ x
      → pointer ≡ from → target only (here from) ≡ Ok (targets.Content 0 start shape 0)
      → IsRight all to pointer start shape → Follows all (to + extent shape) (slots 0 start shape ++ others) rest
      → Here from to start x others rest
  shaped from to pointer start shape x others rest e p t r f =
      subst (λ (y : Shape). Here from to start y others rest) e (record {
        named = t;
        right = subst (λ (k : ℕ). IsRight all to k start shape) p r;
        follows = f;
      })

  -- If the contents of `ts` start within the words `all`, they end within `all`.
  pub slots-room : (ts : Trees) (from to : ℕ) → Sounds ts → to ≤ length all → AreLaidAt all ts from to
      → to + sizes ts ≤ length all
  slots-room ts from to o le h = from_size (sizes ts) (length-lays ts to o)
    where
      from_size : (n : ℕ) → length (lays ts to) ≡ n → to + n ≤ length all
      from_size zero e = omega arith
      from_size (suc n) e = let r = stand-room all to (lays ts to) (omega arith) h.contents in omega arith

  mutual
    pub value-stands : (v : Tree) (from to : ℕ) (others : List Place) (met : List Met) → IsAt only (here from) v
        → Sound v → from < to → to ≤ length all → Follows all to (here from ∷ others) met → Stands v from to others
    value-stands v from to others [] is o order fits f = absurd f
    value-stands v from to others (null ∷ rest) is o order fits f = null-stands v from to others rest is f.0 f.1
    value-stands nil from to others (object p start shape ∷ rest) is o order fits f = absurd (let e = f.1 in cc)
    value-stands (cap k) from to others (object p start shape ∷ rest) is o order fits f = absurd (let e = f.1 in cc)
    value-stands (node ws ss) from to others (object p start shape ∷ rest) is o order fits f =
        let i = inside-of only (here from) 0 start 0 shape f.1 (node ws ss) is in
        let h = shaped from to p start shape (shapes.Node (length ws) (count ss)) others rest i.0 f.0 f.1 f.2 f.3 in
        let r = room from to start ws ss others rest h i.1 i.2 o order fits in
        struct-done from to start ws ss others rest h i.1 i.2 o order fits
        (slots-stand ss (to + length ws) (to + length ws + count ss) others rest
        (struct-slots from to start ws ss others rest h i.1 i.2 o order fits) o.2 (omega arith) (omega arith)
        (struct-goes from to start ws ss others rest h i.1 i.2 o order fits))
    value-stands (voids n) from to others (object p start shape ∷ rest) is o order fits f =
        let i = inside-of only (here from) 0 start 0 shape f.1 (voids n) is in
        let h = shaped from to p start shape (shapes.Many W0 n) others rest i f.0 f.1 f.2 f.3 in
        plain-stands from to start W0 n (voids n) others rest h tt o refl refl o order fits
    value-stands (numbers a xs) from to others (object p start shape ∷ rest) is o order fits f =
        let i = inside-of only (here from) 0 start 0 shape f.1 (numbers a xs) is in
        let h = shaped from to p start shape (shapes.Many (list_width a) (length xs)) others rest i.0 f.0 f.1 f.2 f.3 in
        plain-stands from to start (list_width a) (length xs) (numbers a xs) others rest h (plain-numbers a) o.0
        (refl, i.1) refl o order fits
    value-stands (links ts) from to others (object p start shape ∷ rest) is o order fits f =
        let i = inside-of only (here from) 0 start 0 shape f.1 (links ts) is in
        let h = shaped from to p start shape (shapes.Many Link (count ts)) others rest i.0 f.0 f.1 f.2 f.3 in
        let r = links-room from to start ts others rest h i.1 o order fits in
        links-done from to start ts others rest h i.1 o order fits
        (slots-stand ts to (to + count ts) others rest (links-slots from to start ts others rest h i.1 o order fits) o.1
        (omega arith) (omega arith) (links-goes from to start ts others rest h i.1 o order fits))
    value-stands (rows bs) from to others (object p start shape ∷ rest) is o order fits f =
        let i = inside-of only (here from) 0 start 0 shape f.1 (rows bs) is in
        let (a, b, span, e, below) = i in
        let h = shaped from to p start shape (shapes.Rows (count_rows bs) a b span) others rest e f.0 f.1 f.2 f.3 in
        let r = rows-room from to start a b span bs others rest h below o order fits in
        rows-done from to start a b span bs others rest h below o order fits
        (rows-stand a b bs (to + 1) (to + 1 + count_rows bs * (a + b)) others rest
        (rows-slots from to start a b span bs others rest h below o order fits) o.5 (omega arith) (omega arith)
        (rows-goes from to start a b span bs others rest h below o order fits))

    slots-stand : (ts : Trees) (from to : ℕ) (others : List Place) (met : List Met) → AreAt only 0 from ts → Sounds ts
        → from + count ts ≤ to → to ≤ length all → Follows all to (places 0 from (count ts) ++ others) met
        → SlotsStand ts from to others
    slots-stand no_trees from to others met are o order fits f =
        let e : to ≡ to + 0 = omega arith in
        record {
          laid = record { pointers = stand-none all from; contents = stand-none all to };
          free = refl;
          rest = met;
          follows = subst (λ (k : ℕ). Follows all k others met) e f;
        }
    slots-stand (tree t ts) from to others met are o order fits f =
        let h = value-stands t from to (places 0 (from + 1) (count ts) ++ others) met are.0 o.0 (omega arith) fits f in
        let e : from + 1 ≡ suc from = omega arith in
        let l = laid-room all t from to o.0 fits h.laid in
        let k = slots-stand ts (suc from) (to + size t) others h.rest are.1 o.1 (omega arith) l
        (subst (λ (x : ℕ). Follows all (to + size t) (places 0 x (count ts) ++ others) h.rest) e h.follows) in
        let z : to + size t + sizes ts ≡ to + (size t + sizes ts) = omega arith in
        record {
          laid = slots-both all t ts from to (omega arith) o.0 h.laid k.laid;
          free = none-or (first_cap t) (first_in ts) h.free k.free;
          rest = k.rest;
          follows = subst (λ (x : ℕ). Follows all x others k.rest) z k.follows;
        }

    rows-stand : (a b : ℕ) (bs : Bodies) (from to : ℕ) (others : List Place) (met : List Met)
        → RowsAt only a b 0 from bs → SoundRows bs → from + count_rows bs * (a + b) ≤ to → to ≤ length all
        → Follows all to (row_places 0 from a b (count_rows bs) ++ others) met → RowsStand a b bs from to others
    rows-stand a b no_bodies from to others met are o order fits f =
        let e : to ≡ to + 0 = omega arith in
        record {
          laid = record { rows = stand-none all from; contents = stand-none all to };
          free = refl;
          rest = met;
          follows = subst (λ (k : ℕ). Follows all k others met) e f;
        }
    rows-stand a b (body ws ss bs) from to others met are o order fits f =
        let m : suc (count_rows bs) * (a + b) ≡ a + b + count_rows bs * (a + b) = omega arith in
        let later = row_places 0 (from + a + b) a b (count_rows bs) in
        let g = subst (λ (ps : List Place). Follows all to ps met)
        (append_assoc (places 0 (from + a) b) later others) f in
        let lb = are.1 in
        let h = slots-stand ss (from + a) to (later ++ others) met are.3 o.0 (omega arith) fits
        (subst (λ (k : ℕ). Follows all to (places 0 (from + a) k ++ (later ++ others)) met) (sym lb) g) in
        let l = slots-room ss (from + a) to o.0 fits h.laid in
        let k = rows-stand a b bs (from + a + b) (to + sizes ss) others h.rest are.4 o.1 (omega arith) l h.follows in
        let z : to + sizes ss + sizes_in_rows bs ≡ to + (sizes ss + sizes_in_rows bs) = omega arith in
        record {
          laid = row-both all a b ws ss bs from to are.0 are.1 are.2 o.0 h.laid k.laid;
          free = none-or (first_in ss) (first_in_rows bs) h.free k.free;
          rest = k.rest;
          follows = subst (λ (x : ℕ). Follows all x others k.rest) z k.follows;
        }
