-- Lemmas on the items of values whose content is in a message. (For `item_at` and `slots`.)
use Rattle.std.proofs.Common.{◌≡◌, ℕ, zero, suc, ◌+◌, ◌*◌, ◌^◌, ◌<◌, ◌≤◌, List, [], take, refl, ap, sym, subst}
use Rattle.std.proofs.Common.{◌∙◌, arith, length-drop}
use Rattle.capn_words.specs.Message.{IsMessage, segment_at}
use Rattle.capn_words.specs.declared.space.Place.{Place}
use Rattle.capn_words.specs.declared.pointer.Width.{Width}
use Rattle.capn_words.specs.declared.pointer.Width.TheVariants.{W0, W1, W8, W16, W32, W64, Link, Rows}
use Rattle.capn_value.specs.Tree.{Tree, Trees, tree, no_trees, tree_at, Bodies, no_bodies, body, count, count_rows}
use Rattle.capn_target.specs.declared.target.Shape.TheVariants as shapes
use Rattle.capn_walk.specs.ValueAt.{IsAt, AreAt, RowsAt, IsInside, words_from}
use Rattle.capn_target.specs.Shapes.{IsContent, IsPlain, RowsFit}
use Rattle.capn_target.specs.Target.{content_words, words_for}
use Rattle.capn_target.proofs.shared.Segments.{segment-room}
use Rattle.capn_layout.specs.FirstBits.{element_bits, first_bits}
use Rattle.capn_layout.specs.LayoutSteps.{slots_at}
use Rattle.capn_layout.specs.MessageSlots.{HasSlot, PacksBits, AreRows}
use Rattle.capn_layout.specs.inner.Source.{IsListOf, IsStruct, AreLinks, AreStructs}
use Rattle.capn_layout.proofs.shared.Copied.{part-below}
use Rattle.capn_layout.proofs.shared.FirstBits.{list-of, plain-words}
use Rattle.capn_layout.proofs.shared.Shaped.{as-node, as-links, as-rows}

short : (width : Width) (n : ℕ) → n < 2 ^ 29 → element_bits width * n < 2 ^ 36
short W0 n h = omega arith
short W1 n h = omega arith
short W8 n h = omega arith
short W16 n h = omega arith
short W32 n h = omega arith
short W64 n h = omega arith
short Link n h = omega arith
short Rows n h = omega arith

pub plain-width : (width : Width) (n : ℕ) → (width ≡ Link → ⊥) → RowsFit (shapes.Many width n) → IsPlain width
plain-width W0 n h r = tt
plain-width W1 n h r = tt
plain-width W8 n h r = tt
plain-width W16 n h r = tt
plain-width W32 n h r = tt
plain-width W64 n h r = tt
plain-width Link n h r = h refl
plain-width Rows n h r = r

module _ (m : List (List ℕ)) (start : Place) (message : IsMessage m) where
  pub struct-rows : (a b : ℕ) (v : Tree) → IsContent m start (a + b) → a + b < 2 ^ 30
      → IsInside m (shapes.Node a b) start.segment start.word v
      → (bs : Bodies) × IsStruct v bs × AreRows m start 1 a b bs
  struct-rows a b v content narrow h =
      let x = as-node m a b start.segment start.word v h in (
        body x.words x.slots no_bodies,
        (x.words, x.slots, x.is, refl),
        record {
          message = message;
          content = let w = content.within in record { exists = content.exists; within = omega arith };
          number = refl;
          narrow = narrow;
          rows = (
            x.number,
            x.count,
            subst (λ (k : ℕ). take k (words_from m start.segment start.word) ≡ x.words) (sym x.number) x.own,
            x.below,
            tt,
          );
        },
      )

  pub links-rows : (n : ℕ) (v : Tree) → IsContent m start n → IsInside m (shapes.Many Link n) start.segment start.word v
      → (bs : Bodies) × AreLinks n v bs × AreRows m start 1 0 n bs
  links-rows n v content h =
      let x = as-links m n start.segment start.word v h in
      let z : start.word ≡ start.word + 0 = omega arith in
      let w = content.within in
      let all = segment-room m start.segment message content.exists in (
        body [] x.slots no_bodies,
        (x.slots, x.is, x.count, refl),
        record {
          message = message;
          content = record { exists = content.exists; within = omega arith };
          number = refl;
          narrow = omega arith;
          rows = (refl, x.count, refl, subst (λ (k : ℕ). AreAt m start.segment k x.slots) z x.below, tt);
        },
      )

  pub all-rows : (n a b span : ℕ) (v : Tree) → IsContent m start (1 + span) → n * (a + b) ≤ span → a + b < 2 ^ 30
      → IsInside m (shapes.Rows n a b span) start.segment start.word v
      → (bs : Bodies) × AreStructs n v bs
      × AreRows m (record { segment = start.segment; word = start.word + 1 }) n a b bs
  all-rows n a b span v content fits narrow h =
      let x = as-rows m n a b span start.segment start.word v h in
      let w = content.within in (
        x.bodies,
        (x.is, x.count),
        record {
          message = message;
          content = record { exists = content.exists; within = omega arith };
          number = x.count;
          narrow = narrow;
          rows = x.below;
        },
      )

  pub numbers-packed : (width : Width) (n bits : ℕ) (v : Tree) → IsPlain width → n < 2 ^ 29
      → bits ≡ element_bits width * n → IsContent m start (content_words width n)
      → IsInside m (shapes.Many width n) start.segment start.word v
      → (ws : List ℕ) × PacksBits m start bits ws × IsListOf v width n ws
  numbers-packed width n bits v plain few e content h =
      let k = plain-words width n plain in
      let w = content.within in
      let d = length-drop start.word (segment_at m start.segment) in
      let l = list-of m width n start.segment start.word plain (part-below m start.segment start.word message)
      (omega arith) v h in (
        first_bits bits (words_from m start.segment start.word),
        record {
          message = message;
          content = record { exists = content.exists; within = let f = ap words_for e in omega arith };
          few = let f = short width n few in omega arith;
          is = refl;
        },
        record {
          few = few;
          pointer = l.1;
          content = λ at. l.0 at ∙ ap (λ (j : ℕ). first_bits j (words_from m start.segment start.word)) (sym e);
        },
      )

slot-at : (m : List (List ℕ)) (s w : ℕ) (ts : Trees) (k : ℕ) → AreAt m s w ts → k < count ts
    → IsAt m (record { segment = s; word = w + k }) (tree_at ts k)
slot-at m s w no_trees k h lt = absurd (omega arith)
slot-at m s w (tree t ts) zero h lt =
    let z : w ≡ w + 0 = omega arith in
    subst (λ (j : ℕ). IsAt m (record { segment = s; word = j }) t) z h.0
slot-at m s w (tree t ts) (suc k) h lt =
    let z : suc w + k ≡ w + suc k = omega arith in
    subst (λ (j : ℕ). IsAt m (record { segment = s; word = j }) (tree_at ts k)) z
    (slot-at m s (suc w) ts k h.1 (omega arith))

row-slots : (m : List (List ℕ)) (a b s w : ℕ) (bs : Bodies) (i : ℕ) → RowsAt m a b s w bs → i < count_rows bs
    → (count (slots_at bs i) ≡ b) × AreAt m s (w + (i * (a + b) + a)) (slots_at bs i)
row-slots m a b s w no_bodies i h lt = absurd (omega arith)
row-slots m a b s w (body ws ss bs) zero h lt =
    let z : w + a ≡ w + (0 * (a + b) + a) = omega arith in
    (h.1, subst (λ (j : ℕ). AreAt m s j ss) z h.3)
row-slots m a b s w (body ws ss bs) (suc i) h lt =
    let r = row-slots m a b s (w + a + b) bs i h.4 (omega arith) in
    let d : suc i * (a + b) ≡ a + b + i * (a + b) = omega arith in
    let z : w + a + b + (i * (a + b) + a) ≡ w + (suc i * (a + b) + a) = omega arith in
    (r.0, subst (λ (j : ℕ). AreAt m s j (slots_at bs i)) z r.1)

pub row-within : (n i a b : ℕ) → i < n → i * (a + b) + a + b ≤ n * (a + b)
row-within (suc n) zero a b h = let d : suc n * (a + b) ≡ a + b + n * (a + b) = omega arith in omega arith
row-within (suc n) (suc i) a b h =
    let r = row-within n i a b (omega arith) in
    let d : suc n * (a + b) ≡ a + b + n * (a + b) = omega arith in
    let e : suc i * (a + b) ≡ a + b + i * (a + b) = omega arith in
    omega arith
row-within zero i a b h = absurd (omega arith)

pub slots-of-row : (m : List (List ℕ)) (start : Place) (n a b : ℕ) (bs : Bodies) (i k : ℕ) → AreRows m start n a b bs
    → i < count_rows bs → k < count (slots_at bs i)
    → HasSlot m start.segment (start.word + (i * (a + b) + a) + k) (tree_at (slots_at bs i) k)
slots-of-row m start n a b bs i k r lt l =
    let x = row-slots m a b start.segment start.word bs i r.rows lt in
    let e = r.number in
    let c = x.0 in
    let w = row-within n i a b (omega arith) in
    let h = r.content.within in
    record {
      message = r.message;
      exists = r.content.exists;
      place = omega arith;
      at = slot-at m start.segment (start.word + (i * (a + b) + a)) (slots_at bs i) k x.1 l;
    }
