-- The shape of a value's content decides the kind of the value. (For `item`, capn_canon and capn_mismatch.)
use Rattle.std.proofs.Common.{◌≡◌, ℕ, suc, ◌+◌, List, length, take, Ok, refl, subst, arith}
use Rattle.capn_words.specs.declared.space.Place.{Place}
use Rattle.capn_words.specs.declared.pointer.Width.{Width}
use Rattle.capn_words.specs.declared.pointer.Width.TheVariants.{W0, Link}
use Rattle.capn_value.specs.Tree.{Tree, nil, node, voids, numbers, links, rows, cap, Trees}
use Rattle.capn_value.specs.Tree.{Bodies, count, count_rows}
use Rattle.capn_target.specs.declared.target.Target.{Target}
use Rattle.capn_target.specs.declared.target.Target.TheVariants as targets
use Rattle.capn_target.specs.declared.target.Shape.{Shape}
use Rattle.capn_target.specs.declared.target.Shape.TheVariants as shapes
use Rattle.capn_target.specs.Target.{target, list_width}
use Rattle.capn_walk.specs.ValueAt.{IsAt, AreAt, RowsAt, AreWordsAt, AreNumbers, words_from}
use Rattle.capn_walk.specs.ValueAt.{IsInside}
use Rattle.capn_walk.proofs.shared.Numbers.{no-number_width}

both : (P : ℕ → ℕ → Type 0) (a b c d : ℕ) → a ≡ b → c ≡ d → P a c → P b d
both P a b c d e f h = subst (λ (x : ℕ). P x d) e (subst (P a) f h)

module _ (m : List (List ℕ)) where
  -- If `v` is the value at `at`, `at` has a target.
  pub found : (at : Place) (v : Tree) → IsAt m at v → (t : Target) × (target m at ≡ Ok t)
  found at nil h = (targets.Nil, h)
  found at (cap k) h = (targets.Cap k, h)
  found at (node ws ss) h = (_, h.is)
  found at (voids n) h = (_, h.is)
  found at (numbers a xs) h = (_, h.is)
  found at (links ts) h = (_, h.is)
  found at (rows bs) h = (_, h.3.is)

  -- If the target of `at` is `Nil`, the value at `at` is `nil`.
  pub null-of : (at : Place) (v : Tree) → target m at ≡ Ok targets.Nil → IsAt m at v → v ≡ nil
  null-of at nil e h = refl
  null-of at (cap k) e h = cc
  null-of at (node ws ss) e h = let f = h.is in cc
  null-of at (voids n) e h = let f = h.is in cc
  null-of at (numbers a xs) e h = let f = h.is in cc
  null-of at (links ts) e h = let f = h.is in cc
  null-of at (rows bs) e h = let f = h.3.is in cc

  -- If the target of `at` is the capability `k`, the value at `at` is `cap k`.
  pub cap-at : (at : Place) (v : Tree) (k : ℕ) → target m at ≡ Ok (targets.Cap k) → IsAt m at v → v ≡ cap k
  cap-at at nil k e h = cc
  cap-at at (cap j) k e h = cc
  cap-at at (node ws ss) k e h = let f = h.is in cc
  cap-at at (voids n) k e h = let f = h.is in cc
  cap-at at (numbers a xs) k e h = let f = h.is in cc
  cap-at at (links ts) k e h = let f = h.is in cc
  cap-at at (rows bs) k e h = let f = h.3.is in cc

  module _ (at : Place) (s start pads : ℕ) (shape : Shape) (e : target m at ≡ Ok (targets.Content s start shape pads))
    where
      same-shape : (t u p : ℕ) (x : Shape) → target m at ≡ Ok (targets.Content t u x p) → shape ≡ x
      same-shape t u p x f = cc

      same-segment : (t u p : ℕ) (x : Shape) → target m at ≡ Ok (targets.Content t u x p) → t ≡ s
      same-segment t u p x f = cc

      same-start : (t u p : ℕ) (x : Shape) → target m at ≡ Ok (targets.Content t u x p) → u ≡ start
      same-start t u p x f = cc

      -- If the target of `at` is content of `shape` at `start`, the value `v` at `at` is inside that content
      -- (`IsInside`).
      pub inside-of : (v : Tree) → IsAt m at v → IsInside m shape s start v
      inside-of nil h = cc
      inside-of (cap k) h = cc
      inside-of (node ws ss) h = (
        same-shape h.segment h.start h.pads (shapes.Node (length ws) (count ss)) h.is,
        both (λ (t u : ℕ). AreWordsAt m t u ws) h.segment s h.start start (same-segment h.segment h.start h.pads _ h.is)
            (same-start h.segment h.start h.pads _ h.is) h.inside.0,
        both (λ (t u : ℕ). AreAt m t (u + length ws) ss) h.segment s h.start start
            (same-segment h.segment h.start h.pads _ h.is) (same-start h.segment h.start h.pads _ h.is) h.inside.1,
      )
      inside-of (voids n) h = same-shape h.segment h.start h.pads (shapes.Many W0 n) h.is
      inside-of (numbers a xs) h = (
        same-shape h.segment h.start h.pads (shapes.Many (list_width a) (length xs)) h.is,
        both (λ (t u : ℕ). AreNumbers a (words_from m t u) xs) h.segment s h.start start
            (same-segment h.segment h.start h.pads _ h.is) (same-start h.segment h.start h.pads _ h.is) h.inside,
      )
      inside-of (links ts) h = (
        same-shape h.segment h.start h.pads (shapes.Many Link (count ts)) h.is,
        both (λ (t u : ℕ). AreAt m t u ts) h.segment s h.start start (same-segment h.segment h.start h.pads _ h.is)
            (same-start h.segment h.start h.pads _ h.is) h.inside,
      )
      inside-of (rows bs) h = let n = h.3 in (
        h.0,
        h.1,
        h.2,
        same-shape n.segment n.start n.pads (shapes.Rows (count_rows bs) h.0 h.1 h.2) n.is,
        both (λ (t u : ℕ). RowsAt m h.0 h.1 t (suc u) bs) n.segment s n.start start
            (same-segment n.segment n.start n.pads _ n.is) (same-start n.segment n.start n.pads _ n.is) n.inside,
      )

-- `v` is a struct with `a` words and `b` slots, and its words begin at word `w` of segment `s`. Its slots follow its
-- words.
pub record IsNode (m : List (List ℕ)) (a b s w : ℕ) (v : Tree) : Type 0 where
  pub words : List ℕ
  pub slots : Trees
  pub is : v ≡ node words slots
  pub number : length words ≡ a
  pub count : count slots ≡ b
  pub own : take a (words_from m s w) ≡ words
  pub below : AreAt m s (w + a) slots

no-node : {A : Type 0} (a b : ℕ) (width : Width) (n : ℕ) → shapes.Node a b ≡ shapes.Many width n → A
no-node a b width n e = absurd (cc)

pub as-node : (m : List (List ℕ)) (a b s w : ℕ) (v : Tree) → IsInside m (shapes.Node a b) s w v → IsNode m a b s w v
as-node m a b s w (node ws ss) h =
    let e : length ws ≡ a = let f = h.0 in cc in
    let d : count ss ≡ b = let f = h.0 in cc in
    record {
      words = ws;
      slots = ss;
      is = refl;
      number = e;
      count = d;
      own = subst (λ (x : ℕ). take x (words_from m s w) ≡ ws) e h.1;
      below = subst (λ (x : ℕ). AreAt m s (w + x) ss) e h.2;
    }
as-node m a b s w nil h = absurd h
as-node m a b s w (cap k) h = absurd h
as-node m a b s w (voids n) h = no-node a b W0 n h
as-node m a b s w (numbers k xs) h = no-node a b (list_width k) (length xs) h.0
as-node m a b s w (links ts) h = no-node a b Link (count ts) h.0
as-node m a b s w (rows bs) h = let f = h.3 in absurd (cc)

-- `v` is a list of `n` pointers, and its slots begin at word `w` of segment `s`.
pub record IsLinks (m : List (List ℕ)) (n s w : ℕ) (v : Tree) : Type 0 where
  pub slots : Trees
  pub is : v ≡ links slots
  pub count : count slots ≡ n
  pub below : AreAt m s w slots

pub as-links : (m : List (List ℕ)) (n s w : ℕ) (v : Tree) → IsInside m (shapes.Many Link n) s w v → IsLinks m n s w v
as-links m n s w (links ts) h = record { slots = ts; is = refl; count = let f = h.0 in cc; below = h.1 }
as-links m n s w nil h = absurd h
as-links m n s w (cap k) h = absurd h
as-links m n s w (node ws ss) h = let f = h.0 in absurd (cc)
as-links m n s w (voids k) h = absurd (cc)
as-links m n s w (numbers a xs) h = absurd (no-number_width a Link refl (let f = h.0 in cc))
as-links m n s w (rows bs) h = let f = h.3 in absurd (cc)

-- `v` is a list of `n` structs. Its tag is word `w` of segment `s`, and its rows have `a` words and `b` slots each.
pub record IsRows (m : List (List ℕ)) (n a b s w : ℕ) (v : Tree) : Type 0 where
  pub bodies : Bodies
  pub is : v ≡ rows bodies
  pub count : count_rows bodies ≡ n
  pub below : RowsAt m a b s (w + 1) bodies

pub as-rows : (m : List (List ℕ)) (n a b span s w : ℕ) (v : Tree) → IsInside m (shapes.Rows n a b span) s w v
    → IsRows m n a b s w v
as-rows m n a b span s w (rows bs) h =
    let f = h.3 in
    let ea : h.0 ≡ a = cc in
    let eb : h.1 ≡ b = cc in
    let z : suc w ≡ w + 1 = omega arith in
    record {
      bodies = bs;
      is = refl;
      count = cc;
      below = subst (λ (x : ℕ). RowsAt m a b s x bs) z
          (both (λ (x y : ℕ). RowsAt m x y s (suc w) bs) h.0 a h.1 b ea eb h.4);
    }
as-rows m n a b span s w nil h = absurd h
as-rows m n a b span s w (cap k) h = absurd h
as-rows m n a b span s w (node ws ss) h = let f = h.0 in absurd (cc)
as-rows m n a b span s w (voids k) h = absurd (cc)
as-rows m n a b span s w (numbers k xs) h = let f = h.0 in absurd (cc)
as-rows m n a b span s w (links ts) h = let f = h.0 in absurd (cc)
