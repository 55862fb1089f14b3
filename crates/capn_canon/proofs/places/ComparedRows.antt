-- Rows are laid out canonically if and only if three conditions hold. Trimming keeps all words and slots of the rows,
-- the rows begin at the next free word, and each object below the rows is laid out canonically. (For
-- `DueComposite`, `DueSlots`, `InPlace` and others.)
use Rattle.std.proofs.Common.{◌≡◌, ℕ, suc, ◌+◌, ◌*◌, ◌^◌, ◌<◌, ◌≤◌, List, [], ◌∷◌, ◌++◌}
use Rattle.std.proofs.Common.{length, slice_index, Ok, refl, ap, ap₂, sym, subst, ◌∙◌, arith}
use Rattle.std.specs.Prelude.{pos}
use Rattle.std.proofs.lemmas.List.{take_all}
use Rattle.capn_words.specs.Message.{segment_at}
use Rattle.capn_words.specs.Pointers.{word_of}
use Rattle.capn_words.specs.declared.pointer.Pointer.TheVariants.{Node}
use Rattle.capn_words.specs.declared.pointer.Width.TheVariants.{Rows}
use Rattle.capn_value.specs.Tree.{Tree, rows, Trees, count, Bodies, body, count_rows}
use Rattle.capn_value.specs.Trim.{kept_words_of_rows, kept_slots_of_rows}
use Rattle.capn_target.specs.declared.target.Target.TheVariants as targets
use Rattle.capn_target.specs.declared.target.Shape.TheVariants as shapes
use Rattle.capn_target.specs.Target.{target}
use Rattle.capn_walk.specs.ValueAt.{RowsAt}
use Rattle.capn_walk.specs.ValueAt.{IsInside}
use Rattle.capn_layout.specs.Layout.{own, size, sizes, sizes_in_rows, row_size, point, points, lay, lays, row_contents}
use Rattle.capn_layout.specs.Layout.{lays_in_rows, list_to}
use Rattle.capn_layout.specs.Sound.{Sound, Sounds, AreWide}
use Rattle.capn_canon.proofs.reading.LaidPointers.{rows-names}
use Rattle.capn_layout.proofs.shared.LayLengths.{length-lays, length-points, length-row_contents}
use Rattle.capn_layout.specs.RowWords.{kept_each}
use Rattle.capn_canon.specs.inner.WordsOfLayout.{Stand, IsLaidAt, AreLaidAt, RowsLaidAt}
use Rattle.capn_layout.proofs.shared.EachRow.{kept-rows-words, kept-rows-slots}
use Rattle.capn_layout.proofs.shared.Shaped.{IsRows, as-rows}
use Rattle.capn_canon.proofs.places.Compared.{laid-room}
use Rattle.capn_canon.proofs.places.Standing.{stand-join, stand-front, stand-back, stand-cons}
use Rattle.capn_canon.proofs.places.Standing.{stand-head, stand-tail}

-- ---- a row before the others

module _ (all : List ℕ) (a b : ℕ) (ws : List ℕ) (ss : Trees) (bs : Bodies) (from to : ℕ) (la : length ws ≡ a)
    (lb : count ss ≡ b) (here : Stand all from ws) (o : Sounds ss) where
  contents-is : row_contents a b (body ws ss bs) from to ≡ ws
      ++ (points ss (from + a) to ++ row_contents a b bs (from + a + b) (to + sizes ss))
  contents-is =
      let l = length-points ss (from + a) to in
      ap₂ (λ (x y : List ℕ). x ++ (y ++ row_contents a b bs (from + a + b) (to + sizes ss)))
      (take_all a ws (omega arith)) (take_all b (points ss (from + a) to) (omega arith))

  behind : RowsLaidAt all a b (body ws ss bs) from to
      → Stand all (from + a) (points ss (from + a) to ++ row_contents a b bs (from + a + b) (to + sizes ss))
  behind h =
      let x = subst (Stand all from) contents-is h.rows in
      subst (λ (k : ℕ). Stand all (from + k)
      (points ss (from + a) to ++ row_contents a b bs (from + a + b) (to + sizes ss))) la
      (stand-back all from ws (points ss (from + a) to ++ row_contents a b bs (from + a + b) (to + sizes ss)) x)

  pub row-first : RowsLaidAt all a b (body ws ss bs) from to → AreLaidAt all ss (from + a) to
  row-first h = record {
    pointers = stand-front all (from + a) (points ss (from + a) to) (row_contents a b bs (from + a + b) (to + sizes ss))
        (behind h);
    contents = stand-front all to (lays ss to) (lays_in_rows bs (to + sizes ss)) h.contents;
  }

  points-length : length (points ss (from + a) to) ≡ b
  points-length = length-points ss (from + a) to ∙ lb

  pub row-others : RowsLaidAt all a b (body ws ss bs) from to → RowsLaidAt all a b bs (from + a + b) (to + sizes ss)
  row-others h = record {
    rows = subst (λ (k : ℕ). Stand all (from + a + k) (row_contents a b bs (from + a + b) (to + sizes ss)))
        points-length
        (stand-back all (from + a) (points ss (from + a) to) (row_contents a b bs (from + a + b) (to + sizes ss))
        (behind h));
    contents = subst (λ (k : ℕ). Stand all (to + k) (lays_in_rows bs (to + sizes ss))) (length-lays ss to o)
        (stand-back all to (lays ss to) (lays_in_rows bs (to + sizes ss)) h.contents);
  }

  pub row-both : AreLaidAt all ss (from + a) to → RowsLaidAt all a b bs (from + a + b) (to + sizes ss)
      → RowsLaidAt all a b (body ws ss bs) from to
  row-both h k =
      let rest = row_contents a b bs (from + a + b) (to + sizes ss) in
      let y = stand-join all (from + a) (points ss (from + a) to) rest h.pointers
      (subst (λ (j : ℕ). Stand all (from + a + j) rest) (sym points-length) k.rows) in
      let x = stand-join all from ws (points ss (from + a) to ++ rest) here
      (subst (λ (j : ℕ). Stand all (from + j) (points ss (from + a) to ++ rest)) (sym la) y) in
      record {
        rows = subst (Stand all from) (sym contents-is) x;
        contents = stand-join all to (lays ss to) (lays_in_rows bs (to + sizes ss)) h.contents
            (subst (λ (j : ℕ). Stand all (to + j) (lays_in_rows bs (to + sizes ss))) (sym (length-lays ss to o))
            k.contents);
      }

-- ---- the tag and the rows

point-rows : (bs : Bodies) (from to : ℕ) → point (rows bs) from to ≡ list_to from to Rows (count_rows bs * row_size bs)
unfolding point
point-rows bs from to = refl

module _ (all : List ℕ) (n a b span s w from to pads : ℕ)
    (e : target (all ∷ []) (record { segment = 0; word = from })
    ≡ Ok (targets.Content s w (shapes.Rows n a b span) pads))
    (small : length all ≤ 2 ^ 29) (inside : w + 1 + n * (a + b) ≤ length (segment_at (all ∷ []) s)) (order : from < to)
    (v : Tree) (i : IsInside (all ∷ []) (shapes.Rows n a b span) s w v) (o : Sound v) (fits : to ≤ length all) where
  pub rows-is : IsRows (all ∷ []) n a b s w v
  rows-is = as-rows (all ∷ []) n a b span s w v i

  pub rows-sound : Sound (rows rows-is.bodies)
  rows-sound = subst Sound rows-is.is o

  pub rows-few : n < 2 ^ 29
  rows-few = let c = rows-is.count in let d = rows-sound.0 in omega arith

  ex : kept_words_of_rows rows-is.bodies ≡ kept_each (all ∷ []) s (w + 1) a (a + b) n
  ex = kept-rows-words (all ∷ []) rows-is.bodies a b s (w + 1) n rows-is.below rows-is.count

  ey : kept_slots_of_rows rows-is.bodies ≡ kept_each (all ∷ []) s (w + 1 + a) b (a + b) n
  ey = kept-rows-slots (all ∷ []) rows-is.bodies a b s (w + 1) n rows-is.below rows-is.count inside

  pub rows-passes : IsLaidAt all v from to →
      (kept_each (all ∷ []) s (w + 1) a (a + b) n ≡ a) × (kept_each (all ∷ []) s (w + 1 + a) b (a + b) n ≡ b)
      × (slice_index all from ≡ list_to from to Rows (n * (a + b)))
      × (to + (1 + n * (a + b)) ≤ length all) × (slice_index all to ≡ word_of (Node (pos n) a b))
  rows-passes h =
      let bs = rows-is.bodies in
      let x = kept_words_of_rows bs in
      let y = kept_slots_of_rows bs in
      let r = laid-room all v from to o fits h in
      let z : size v ≡ 1 + count_rows bs * (x + y) + sizes_in_rows bs = ap size rows-is.is in
      let c : count_rows bs * (x + y) ≡ n * (x + y) = ap (λ (k : ℕ). k * (x + y)) rows-is.count in
      let p : slice_index all from ≡ list_to from to Rows (n * (x + y)) = h.pointer
      ∙ ap (λ (t : Tree). point t from to) rows-is.is ∙ point-rows bs from to ∙ ap (list_to from to Rows) c in
      let body_is = subst (Stand all to) (ap (λ (t : Tree). lay t to) rows-is.is) h.content in
      let t : slice_index all to ≡ word_of (Node (pos n) x y) =
      stand-head all to (word_of (Node (pos (count_rows bs)) x y))
      (row_contents x y bs (suc to) (to + own (rows bs)) ++ lays_in_rows bs (to + own (rows bs))) (omega arith) body_is
      ∙ ap (λ (k : ℕ). word_of (Node (pos k) x y)) rows-is.count in
      let d = rows-sound.3 in
      let f = rows-names all small from to n x y order (omega arith) rows-few rows-sound.1 rows-sound.2 (omega arith) p
      t in
      let ea = same-a n x y (n * (x + y)) f in
      let eb = same-b n x y (n * (x + y)) f in (
        sym ex ∙ sym ea,
        sym ey ∙ sym eb,
        p ∙ ap₂ (λ (j k : ℕ). list_to from to Rows (n * (j + k))) (sym ea) (sym eb),
        (let g : n * (a + b) ≡ n * (x + y) = ap₂ (λ (j k : ℕ). n * (j + k)) ea eb in omega arith),
        t ∙ ap₂ (λ (j k : ℕ). word_of (Node (pos n) j k)) (sym ea) (sym eb),
      )
    where
      same-a : (c x y d : ℕ)
          → target (all ∷ []) (record { segment = 0; word = from }) ≡ Ok (targets.Content 0 to (shapes.Rows c x y d) 0)
          → a ≡ x
      same-a c x y d f = cc

      same-b : (c x y d : ℕ)
          → target (all ∷ []) (record { segment = 0; word = from }) ≡ Ok (targets.Content 0 to (shapes.Rows c x y d) 0)
          → b ≡ y
      same-b c x y d f = cc

  module _ (ka : kept_each (all ∷ []) s (w + 1) a (a + b) n ≡ a)
      (kb : kept_each (all ∷ []) s (w + 1 + a) b (a + b) n ≡ b)
      (p : slice_index all from ≡ list_to from to Rows (n * (a + b)))
      (room : to + (1 + n * (a + b)) ≤ length all) (t : slice_index all to ≡ word_of (Node (pos n) a b)) where
    pub kw : kept_words_of_rows rows-is.bodies ≡ a
    kw = ex ∙ ka

    pub ks : kept_slots_of_rows rows-is.bodies ≡ b
    ks = ey ∙ kb

    total : count_rows rows-is.bodies * row_size rows-is.bodies ≡ n * (a + b)
    total = ap₂ ◌*◌ rows-is.count (ap₂ ◌+◌ kw ks)

    named-here : target (all ∷ []) (record { segment = 0; word = from })
        ≡ Ok (targets.Content 0 to (shapes.Rows n a b (n * (a + b))) 0)
    named-here =
        let x = rows-sound.1 in let y = rows-sound.2 in let d = rows-sound.3 in let q = total in let u = kw in let z =
        ks in
        rows-names all small from to n a b order (omega arith) rows-few (omega arith) (omega arith) (omega arith) p t

    at-segment : s ≡ 0
    at-segment = let f = named-here in cc

    at-start : w ≡ to
    at-start = let f = named-here in cc

    pub rows-here : RowsAt (all ∷ []) a b 0 (to + 1) rows-is.bodies
    rows-here = subst (λ (k : ℕ). RowsAt (all ∷ []) a b 0 (k + 1) rows-is.bodies) at-start
        (subst (λ (k : ℕ). RowsAt (all ∷ []) a b k (w + 1) rows-is.bodies) at-segment rows-is.below)

    wide : AreWide a b rows-is.bodies
    wide = subst (λ (x : ℕ). AreWide x b rows-is.bodies) kw
        (subst (λ (x : ℕ). AreWide (kept_words_of_rows rows-is.bodies) x rows-is.bodies) ks rows-sound.4)

    rows-length : length (row_contents a b rows-is.bodies (to + 1) (to + 1 + n * (a + b))) ≡ n * (a + b)
    rows-length = length-row_contents a b rows-is.bodies (to + 1) (to + 1 + n * (a + b)) wide
        ∙ ap (λ (k : ℕ). k * (a + b)) rows-is.count

    rows-lay : lay v to
        ≡ word_of (Node (pos n) a b) ∷
        (row_contents a b rows-is.bodies (to + 1) (to + 1 + n * (a + b))
        ++ lays_in_rows rows-is.bodies (to + 1 + n * (a + b)))
    rows-lay =
        let bs = rows-is.bodies in
        let u : suc to ≡ to + 1 = omega arith in
        let z : to + own (rows bs) ≡ to + 1 + n * (a + b) = let q = total in omega arith in
        ap (λ (x : Tree). lay x to) rows-is.is
        ∙ ap (λ (k : ℕ). word_of (Node (pos k) (kept_words_of_rows bs) (kept_slots_of_rows bs)) ∷
        (row_contents (kept_words_of_rows bs) (kept_slots_of_rows bs) bs (suc to) (to + own (rows bs))
        ++ lays_in_rows bs (to + own (rows bs)))) rows-is.count
        ∙ ap₂ (λ (x y : ℕ). word_of (Node (pos n) x y) ∷
        (row_contents x y bs (suc to) (to + own (rows bs)) ++ lays_in_rows bs (to + own (rows bs)))) kw ks
        ∙ ap₂ (λ (x y : ℕ). word_of (Node (pos n) a b) ∷ (row_contents a b bs x y ++ lays_in_rows bs y)) u z

    pub rows-to-slots : IsLaidAt all v from to → RowsLaidAt all a b rows-is.bodies (to + 1) (to + 1 + n * (a + b))
    rows-to-slots h =
        let bs = rows-is.bodies in
        let rc = row_contents a b bs (to + 1) (to + 1 + n * (a + b)) in
        let lr = lays_in_rows bs (to + 1 + n * (a + b)) in
        let u : suc to ≡ to + 1 = omega arith in
        let x = subst (λ (k : ℕ). Stand all k (rc ++ lr)) u
        (stand-tail all to (word_of (Node (pos n) a b)) (rc ++ lr) (omega arith)
        (subst (Stand all to) rows-lay h.content)) in
        record {
          rows = stand-front all (to + 1) rc lr x;
          contents = subst (λ (k : ℕ). Stand all (to + 1 + k) lr) rows-length (stand-back all (to + 1) rc lr x);
        }

    pub rows-from-slots : RowsLaidAt all a b rows-is.bodies (to + 1) (to + 1 + n * (a + b)) → IsLaidAt all v from to
    rows-from-slots h =
        let bs = rows-is.bodies in
        let rc = row_contents a b bs (to + 1) (to + 1 + n * (a + b)) in
        let lr = lays_in_rows bs (to + 1 + n * (a + b)) in
        let u : to + 1 ≡ suc to = omega arith in
        let x = stand-join all (to + 1) rc lr h.rows
        (subst (λ (k : ℕ). Stand all (to + 1 + k) lr) (sym rows-length) h.contents) in
        record {
          pointer = p ∙ sym (ap (λ (x : Tree). point x from to) rows-is.is ∙ point-rows bs from to
              ∙ ap (list_to from to Rows) total);
          content = subst (Stand all to) (sym rows-lay)
              (stand-cons all to (word_of (Node (pos n) a b)) (rc ++ lr) (omega arith) t
              (subst (λ (k : ℕ). Stand all k (rc ++ lr)) u x));
        }

    pub rows-size : to + 1 + n * (a + b) + sizes_in_rows rows-is.bodies ≡ to + size v
    rows-size = let z : size v ≡ 1 + count_rows rows-is.bodies * row_size rows-is.bodies
        + sizes_in_rows rows-is.bodies = ap size rows-is.is in let q = total in omega arith
