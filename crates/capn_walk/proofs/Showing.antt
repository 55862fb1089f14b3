-- A view of a slot shows the slot's value. (For `views_show_values`.)
use Rattle.std.proofs.Common.{◌≡◌, ℕ, zero, suc, ◌+◌, ◌*◌, ◌<◌, List, length, slice_index, Ok, refl, ap, sym, ◌∙◌}
use Rattle.std.proofs.Common.{arith}
use Rattle.std.proofs.lemmas.List.{get_or-take}
use Rattle.capn_words.specs.declared.space.Place.{Place}
use Rattle.capn_words.specs.declared.pointer.Width.TheVariants.{W0, Link}
use Rattle.capn_value.specs.NumberWidth.{NumberWidth, oct}
use Rattle.capn_value.specs.Tree.{Tree, nil, node, voids, numbers, links, rows, cap, Trees}
use Rattle.capn_value.specs.Tree.{no_trees, tree, Bodies, no_bodies, body, count, count_rows, tree_at}
use Rattle.capn_target.specs.declared.target.Target.{Target}
use Rattle.capn_target.specs.declared.target.Target.TheVariants as targets
use Rattle.capn_target.specs.declared.target.Shape.TheVariants as shapes
use Rattle.capn_target.specs.Target.{target, list_width}
use Rattle.capn_walk.specs.ValueAt.{IsAt, AreAt, RowsAt, AreWordsAt, AreNumbers, words_from}
use Rattle.capn_walk.specs.ShownValue.{Shows, ShowsStruct, ShowsNumbers, words_of_row, slots_of_row}
use Rattle.capn_walk.specs.View.{kind_of_list}
use Rattle.capn_walk.proofs.shared.Walks.{slot}

module _ (m : List (List ℕ)) where
  slot-at : (ts : Trees) (s w i : ℕ) → AreAt m s w ts → i < count ts → IsAt m (slot s (w + i)) (tree_at ts i)
  slot-at no_trees s w i a h = absurd (omega arith)
  slot-at (tree t ts) s w zero a h = let e : w + 0 ≡ w = omega arith in rw e a.0
  slot-at (tree t ts) s w (suc i) a h = let e : w + suc i ≡ suc w + i = omega arith in
      rw e (slot-at ts s (suc w) i a.1 (omega arith))

  word-at : (s w : ℕ) (ws : List ℕ) (i : ℕ) → AreWordsAt m s w ws → i < length ws
      → slice_index (words_from m s w) i ≡ slice_index ws i
  word-at s w ws i a h = sym (get_or-take (length ws) (words_from m s w) i 0 h)
      ∙ ap (λ (xs : List ℕ). slice_index xs i) a

  of-struct : (s start a b pads : ℕ) (ws : List ℕ) (ss : Trees) → length ws ≡ a → count ss ≡ b → AreWordsAt m s start ws
      → AreAt m s (start + a) ss →
      ShowsStruct m (targets.Content s start (shapes.Node a b) pads) ws ss
  of-struct s start a b pads ws ss la lb words are = record {
    kind = refl;
    words = sym la;
    slots = sym lb;
    word = λ i h. word-at s start ws i words h;
    slot = λ i h. slot-at ss s (start + a) i are h;
  }

  of-numbers : (a : NumberWidth) (s start pads : ℕ) (xs : List ℕ) → AreNumbers a (words_from m s start) xs →
      ShowsNumbers m (targets.Content s start (shapes.Many (list_width a) (length xs)) pads)
      (kind_of_list (list_width a)) xs
  of-numbers oct s start pads xs h =
      record { kind = refl; len = refl; numbers = refl; number = λ i b. word-at s start xs i h b }
  of-numbers a s start pads xs h =
      record { kind = refl; len = refl; numbers = refl; number = λ i b. sym (h i b) }

  row-shown : (bs : Bodies) (a b s w i : ℕ) → RowsAt m a b s w bs → i < count_rows bs →
      ShowsStruct m (targets.Content s (w + i * (a + b)) (shapes.Node a b) 0) (words_of_row bs i) (slots_of_row bs i)
  row-shown no_bodies a b s w i r h = absurd (omega arith)
  row-shown (body ws ss bs) a b s w zero r h =
      let e : w + 0 * (a + b) ≡ w = omega arith in
      rw e (of-struct s w a b 0 ws ss r.0 r.1 r.2 r.3)
  row-shown (body ws ss bs) a b s w (suc i) r h =
      let e : w + suc i * (a + b) ≡ w + a + b + i * (a + b) = omega arith in
      rw e (row-shown bs a b s (w + a + b) i r.4 (omega arith))

  same-found : (at : Place) (found t : Target) → target m at ≡ Ok found → target m at ≡ Ok t → t ≡ found
  same-found at found t e f = cc

  pub shows : (at : Place) (found : Target) (v : Tree) → target m at ≡ Ok found → IsAt m at v → Shows m found v
  shows at found nil e i = sym (same-found at found targets.Nil e i)
  shows at found (cap k) e i = sym (same-found at found (targets.Cap k) e i)
  shows at found (node ws ss) e i =
      rw (← same-found at found (targets.Content i.segment i.start (shapes.Node (length ws) (count ss)) i.pads) e i.is)
      (of-struct i.segment i.start (length ws) (count ss) i.pads ws ss refl refl i.inside.0 i.inside.1)
  shows at found (voids n) e i =
      rw (← same-found at found (targets.Content i.segment i.start (shapes.Many W0 n) i.pads) e i.is) (refl, refl)
  shows at found (numbers a xs) e i =
      rw (← same-found at found (targets.Content i.segment i.start (shapes.Many (list_width a) (length xs)) i.pads) e
      i.is) (of-numbers a i.segment i.start i.pads xs i.inside)
  shows at found (links ts) e i =
      rw (← same-found at found (targets.Content i.segment i.start (shapes.Many Link (count ts)) i.pads) e i.is)
      (record { kind = refl; len = refl; links = refl; slot = λ j h. slot-at ts i.segment i.start j i.inside h })
  shows at found (rows bs) e i =
      let n = i.3 in
      rw (← same-found at found (targets.Content n.segment n.start (shapes.Rows (count_rows bs) i.0 i.1 i.2) n.pads) e
      n.is)
      (record {
        kind = refl;
        len = refl;
        rows = refl;
        row = λ j h. let z : suc n.start ≡ n.start + 1 = omega arith in
            row-shown bs i.0 i.1 n.segment (n.start + 1) j (rw z at n.inside) h;
      })
