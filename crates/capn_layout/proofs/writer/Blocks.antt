-- Structs, lists of pointers and lists of structs are blocks (`IsBlock`): a tag or none, rows of words and slots, and
-- the contents below the rows. (For the cycle `objects` and the cycle `sizes`.)
use Rattle.std.proofs.Common.{◌≡◌, ℕ, suc, ◌+◌, ◌-◌, ◌*◌, ◌<◌, ◌≤◌, List, [], ◌∷◌, ◌++◌, length, take, set}
use Rattle.std.proofs.Common.{ap, ap₂, sym, subst, ◌∙◌, arith, append_assoc, append-nil, length-append}
use Rattle.std.proofs.lemmas.List.{length-set}
use Rattle.std.proofs.Math.Seq.{take-length}
use Rattle.std.specs.Prelude.{pos}
use Rattle.capn_words.specs.Pointers.{word_of}
use Rattle.capn_words.specs.declared.pointer.Pointer.TheVariants.{Node}
use Rattle.capn_words.specs.declared.pointer.Width.TheVariants.{Link, Rows}
use Rattle.capn_value.specs.Tree.{Tree, node, links, rows, Trees, count, Bodies, no_bodies, body, count_rows, tree_at}
use Rattle.capn_value.specs.Trim.{kept_words, kept_slots, kept_words_of_rows, kept_slots_of_rows}
use Rattle.capn_value.specs.Cost.{height}
use Rattle.capn_layout.specs.Layout.{size, sizes, point, points, struct_to, list_to, row_contents}
use Rattle.capn_layout.specs.Layout.{lays, lays_in_rows, sizes_in_rows}
use Rattle.capn_layout.specs.LayoutSteps.{laid, laid_slots, laid_rows, slots_at}
use Rattle.capn_layout.specs.Ready.{IsBlock, IsOpened, AreReady, AreLaid, RowsReady, RowsLaid}
use Rattle.capn_layout.specs.Sound.{Sound}
use Rattle.capn_layout.specs.inner.Source.{IsStruct, AreLinks, AreStructs}
use Rattle.capn_layout.proofs.shared.KeptLengths.{kept_words-le, kept_slots-le}
use Rattle.capn_layout.proofs.shared.LayLengths.{length-points}
use Rattle.capn_layout.proofs.writer.Laid.{laid-is, laid-rows-is, length-over, rows-none, rows-next, row-at}
use Rattle.capn_layout.proofs.writer.Laid.{length-slots, length-rows}

-- ---- the content of a struct, of a list of pointers and of a list of structs

node-block : (ws : List ℕ) (ss : Trees) → Sound (node ws ss)
    → IsBlock (node ws ss) [] (kept_words ws) (kept_slots ss) (body ws ss no_bodies)
node-block ws ss s = record {
  sound = (s.2, tt);
  wide = (kept_words-le ws, kept_slots-le ss, tt);
  kept = omega arith;
  low = omega arith;
  size_is = omega arith;
  lay_is = λ at.
      let to = at + 0 + 1 * (kept_words ws + kept_slots ss) in
      let z : at + kept_words ws ≡ at + 0 + kept_words ws = omega arith in
      let e : at + (kept_words ws + kept_slots ss) ≡ to = omega arith in
      let slots = take (kept_slots ss) (points ss (at + 0 + kept_words ws) to) in
      ap (λ (x : List ℕ). take (kept_words ws) ws ++ x)
      (ap₂ (λ (x y : List ℕ). x ++ y)
      (ap₂ (λ (i j : ℕ). take (kept_slots ss) (points ss i j)) z e ∙ sym (append-nil slots))
      (ap (λ (j : ℕ). lays ss j) e ∙ sym (append-nil (lays ss to))))
      ∙ sym (append_assoc (take (kept_words ws) ws) (slots ++ []) (lays ss to ++ []));
}

pub struct-block : (v : Tree) (bs : Bodies) → IsStruct v bs → Sound v
    → IsBlock v [] (kept_words_of_rows bs) (kept_slots_of_rows bs) bs
struct-block v bs h sound =
    let ws = h.0 in
    let ss = h.1 in
    let a : kept_words ws ≡ kept_words_of_rows (body ws ss no_bodies) = omega arith in
    let b : kept_slots ss ≡ kept_slots_of_rows (body ws ss no_bodies) = omega arith in
    let n = node-block ws ss (subst Sound h.2 sound) in
    let k = subst (λ (x : ℕ). IsBlock (node ws ss) [] x (kept_slots ss) (body ws ss no_bodies)) a n in
    let l = subst (λ (x : ℕ). IsBlock (node ws ss) [] (kept_words_of_rows (body ws ss no_bodies)) x
    (body ws ss no_bodies)) b k in
    let m = subst (λ (x : Tree). IsBlock x [] (kept_words_of_rows (body ws ss no_bodies))
    (kept_slots_of_rows (body ws ss no_bodies)) (body ws ss no_bodies)) (sym h.2) l in
    subst (λ (x : Bodies). IsBlock v [] (kept_words_of_rows x) (kept_slots_of_rows x) x) (sym h.3) m

all-links : (ts : Trees) → Sound (links ts) → IsBlock (links ts) [] 0 (count ts) (body [] ts no_bodies)
all-links ts s = record {
  sound = (s.1, tt);
  wide = (omega arith, omega arith, tt);
  kept = let k = kept_slots-le ts in omega arith;
  low = omega arith;
  size_is = omega arith;
  lay_is = λ at.
      let to = at + 0 + 1 * (0 + count ts) in
      let z : at ≡ at + 0 + 0 = omega arith in
      let e : at + count ts ≡ to = omega arith in
      let ps = points ts (at + 0 + 0) to in
      let all : ps ≡ take (count ts) ps =
      sym (ap (λ (k : ℕ). take k ps) (sym (length-points ts (at + 0 + 0) to)) ∙ take-length ps) in
      ap₂ (λ (x y : List ℕ). x ++ y)
      (ap₂ (λ (i j : ℕ). points ts i j) z e ∙ all ∙ sym (append-nil (take (count ts) ps)))
      (ap (λ (j : ℕ). lays ts j) e ∙ sym (append-nil (lays ts to)));
}

pub links-block : (n : ℕ) (v : Tree) (bs : Bodies) → AreLinks n v bs → Sound v → IsBlock v [] 0 n bs
links-block n v bs h sound =
    let ts = h.0 in
    let l = subst (λ (k : ℕ). IsBlock (links ts) [] 0 k (body [] ts no_bodies)) h.2
    (all-links ts (subst Sound h.1 sound)) in
    let m = subst (λ (x : Tree). IsBlock x [] 0 n (body [] ts no_bodies)) (sym h.1) l in
    subst (λ (x : Bodies). IsBlock v [] 0 n x) (sym h.3) m

abbrev pub tag_of_rows : Bodies → ℕ
tag_of_rows bs = word_of (Node (pos (count_rows bs)) (kept_words_of_rows bs) (kept_slots_of_rows bs))

all-rows : (bs : Bodies) → Sound (rows bs)
    → IsBlock (rows bs) (tag_of_rows bs ∷ []) (kept_words_of_rows bs) (kept_slots_of_rows bs) bs
all-rows bs s =
    let a = kept_words_of_rows bs in
    let b = kept_slots_of_rows bs in
    record {
      sound = s.5;
      wide = s.4;
      kept = omega arith;
      low = omega arith;
      size_is = omega arith;
      lay_is = λ at.
          let z : suc at ≡ at + 1 = omega arith in
          let e : at + (1 + count_rows bs * (a + b)) ≡ at + 1 + count_rows bs * (a + b) = omega arith in
          ap₂ (λ (i j : ℕ). tag_of_rows bs ∷ (row_contents a b bs i j ++ lays_in_rows bs j)) z e;
    }

pub rows-block : (n : ℕ) (v : Tree) (bs : Bodies) → AreStructs n v bs → Sound v
    → IsBlock v (tag_of_rows bs ∷ []) (kept_words_of_rows bs) (kept_slots_of_rows bs) bs
rows-block n v bs h sound =
    subst (λ (x : Tree). IsBlock x (tag_of_rows bs ∷ []) (kept_words_of_rows bs) (kept_slots_of_rows bs) bs) (sym h.0)
    (all-rows bs (subst Sound h.0 sound))

-- ---- the pointers

pub point-struct : (v : Tree) (bs : Bodies) (from to : ℕ) → IsStruct v bs
    → point v from to ≡ struct_to from to (kept_words_of_rows bs) (kept_slots_of_rows bs)
unfolding point
point-struct v bs from to h =
    let ws = h.0 in
    let ss = h.1 in
    let a : kept_words ws ≡ kept_words_of_rows (body ws ss no_bodies) = omega arith in
    let b : kept_slots ss ≡ kept_slots_of_rows (body ws ss no_bodies) = omega arith in
    ap (λ (x : Tree). point x from to) h.2 ∙ ap₂ (struct_to from to) a b
    ∙ ap (λ (x : Bodies). struct_to from to (kept_words_of_rows x) (kept_slots_of_rows x)) (sym h.3)

pub point-links : (n : ℕ) (v : Tree) (bs : Bodies) (from to : ℕ) → AreLinks n v bs
    → point v from to ≡ list_to from to Link n
unfolding point
point-links n v bs from to h = ap (λ (x : Tree). point x from to) h.1 ∙ ap (list_to from to Link) h.2

pub point-rows : (n : ℕ) (v : Tree) (bs : Bodies) (from to : ℕ) → AreStructs n v bs
    → point v from to ≡ list_to from to Rows (n * (kept_words_of_rows bs + kept_slots_of_rows bs))
unfolding point
point-rows n v bs from to h =
    ap (λ (x : Tree). point x from to) h.0
    ∙ ap (λ (k : ℕ). list_to from to Rows (k * (kept_words_of_rows bs + kept_slots_of_rows bs))) h.1

-- ---- the contents below the rows are laid out

one-row : (a b : ℕ) (bs : Bodies) (at : ℕ) (p : List ℕ) → count_rows bs ≡ 1
    → laid_rows a b bs at p ≡ laid_slots b (slots_at bs 0) (at + a) p
one-row a b no_bodies at p e = absurd (omega arith)
one-row a b (body ws ss no_bodies) at p e = rows-next a b ws ss no_bodies at p ∙ rows-none a b (at + a + b) _
one-row a b (body ws ss (body vs ts bs)) at p e = absurd (omega arith)

module _ (v : Tree) (bs : Bodies) (from : ℕ) (p q : List ℕ) (first a b depth : ℕ) (o : IsOpened v bs from p q first a b)
    {most : ℕ} (room : length p + size v ≤ most) (low : height v ≤ depth) where
  abbrev pointed : List ℕ
  pointed = set p from (point v from (length p))

  abbrev tagged : List ℕ
  tagged = pointed ++ o.tag

  length-tagged : length tagged ≡ first
  length-tagged =
      let e = o.at in
      let k = length-set p from (point v from (length p)) in
      length-append pointed o.tag ∙ omega arith

  pub opened-length : length q ≡ first + count_rows bs * (a + b)
  opened-length =
      let l = length-tagged in
      let c = length-over a b bs o.cells o.block.wide o.over in
      ap length o.grown ∙ length-append tagged o.cells ∙ omega arith

  pub opened-room : length q + sizes_in_rows bs ≤ most
  opened-room = let l = opened-length in let e = o.at in let z = o.block.size_is in omega arith

  pub opened-rows : laid_rows a b bs first q ≡ laid v pointed
  opened-rows =
      let k = length-set p from (point v from (length p)) in
      let e : first ≡ length pointed + length o.tag = let x = o.at in omega arith in
      let c = length-over a b bs o.cells o.block.wide o.over in
      let t = length-tagged in
      let to = length pointed + length o.tag + count_rows bs * (a + b) in
      ap (laid_rows a b bs first) (o.grown ∙ ap (λ (x : List ℕ). tagged ++ x) (sym (append-nil o.cells)))
      ∙ laid-rows-is a b bs tagged o.cells [] first to o.block.sound o.block.wide o.block.kept o.over length-tagged
      (omega arith)
      ∙ append_assoc pointed o.tag (row_contents a b bs first to ++ lays_in_rows bs to)
      ∙ ap (λ (x : ℕ). pointed ++ (o.tag ++ (row_contents a b bs x to ++ lays_in_rows bs to))) e
      ∙ ap (λ (x : List ℕ). pointed ++ x) (sym (o.block.lay_is (length pointed)))
      ∙ sym (laid-is v pointed)

  pub opened-first : count_rows bs ≡ 1 → first + a + b ≤ length q
  opened-first one =
      let l = opened-length in
      let m : count_rows bs * (a + b) ≡ a + b = ap (λ (k : ℕ). k * (a + b)) one ∙ omega arith in
      omega arith

  -- Case: `bs` is one row, and its slots are slots of `source`.
  module _ {S : Type 0} (has : S → ℕ → Tree → Type 0) (source : S) (one : count_rows bs ≡ 1)
      (are : (k : ℕ) → k < count (slots_at bs 0) → has source k (tree_at (slots_at bs 0) k)) where
    long : b ≤ count (slots_at bs 0)
    long = (row-at a b 0 bs (omega arith) o.block.wide o.block.sound).long

    one-size : (cs : Bodies) → count_rows cs ≡ 1 → sizes (slots_at cs 0) ≤ sizes_in_rows cs
    one-size no_bodies e = omega arith
    one-size (body ws ss cs) e = omega arith

    pub one-ready : AreReady has source 0 b (depth - 1) (length q) most
    one-ready = record {
      values = slots_at bs 0;
      are = λ k lt. are k (let l = long in omega arith);
      count = long;
      sound = (row-at a b 0 bs (omega arith) o.block.wide o.block.sound).sound;
      low =
          let r = (row-at a b 0 bs (omega arith) o.block.wide o.block.sound).low in
          let l = o.block.low in
          omega arith;
      room = let r = opened-room in let l = one-size bs one in omega arith;
    }

    pub one-laid : (r : List ℕ) → AreLaid has source b (first + a) q r → r ≡ laid v pointed
    one-laid r h =
        h (slots_at bs 0) long (λ k lt. are k (let l = long in omega arith))
        ∙ sym (one-row a b bs first q one) ∙ opened-rows

    pub one-grown : (r : List ℕ) → AreLaid has source b (first + a) q r → length q ≤ length r
    one-grown r h =
        let s = (row-at a b 0 bs (omega arith) o.block.wide o.block.sound).sound in
        let l = length-slots b (slots_at bs 0) (first + a) q s in
        omega (arith, ap length (h (slots_at bs 0) long (λ k lt. are k (let l = long in omega arith))), l.0)

  -- Case: `bs` are the `n` rows of `source`.
  module _ {R : Type 0} (are : R → Bodies → Type 0) (source : R) (n : ℕ) (en : count_rows bs ≡ n)
      (is : are source bs) where
    pub all-ready : RowsReady are source 0 n a b (depth - 1) (length q) most
    all-ready = record {
      values = bs;
      is = is;
      count = en;
      wide = o.block.wide;
      kept = o.block.kept;
      sound = o.block.sound;
      low = let l = o.block.low in omega arith;
      room = opened-room;
    }

    pub all-inside : first + n * (a + b) ≤ length q
    all-inside =
        let l = opened-length in
        let e : count_rows bs * (a + b) ≡ n * (a + b) = ap (λ (k : ℕ). k * (a + b)) en in
        omega arith

    pub all-grown : (r : List ℕ) → RowsLaid are source n a b first q r → length q ≤ length r
    all-grown r h =
        omega (arith, ap length (h bs is en o.block.wide o.block.sound), length-rows a b bs first q o.block.sound)

    pub all-laid : (r : List ℕ) → RowsLaid are source n a b first q r → r ≡ laid v pointed
    all-laid r h = h bs is en o.block.wide o.block.sound ∙ opened-rows

pub struct-one : (v : Tree) (bs : Bodies) → IsStruct v bs → count_rows bs ≡ 1
struct-one v bs h = ap count_rows h.3

pub links-one : (n : ℕ) (v : Tree) (bs : Bodies) → AreLinks n v bs → count_rows bs ≡ 1
links-one n v bs h = ap count_rows h.3
