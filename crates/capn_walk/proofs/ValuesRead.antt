-- The value of an accepted message is the value that its index describes. (For `indexes`.)
use Rattle.std.proofs.Common.{◌≡◌, ◌≢◌, ◌⊎◌, inl, inr, ℕ, zero, suc, ◌+◌, ◌*◌, ◌<◌, List, [], ◌∷◌, ◌++◌, length}
use Rattle.std.proofs.Common.{get_or, Result, Ok, Err, refl, ap, sym, subst, ◌∙◌, arith}
use Rattle.std.specs.Bool.{⊤}
use Rattle.capn_words.specs.Message.{IsPlace}
use Rattle.capn_words.specs.declared.space.Place.{Place}
use Rattle.capn_words.specs.declared.pointer.Width.TheVariants.{W0, W1, W8, W16, W32, W64, Link, Rows}
use Rattle.capn_value.specs.NumberWidth.{NumberWidth, bit, byte, pair, quad, oct}
use Rattle.capn_value.specs.Tree.{Tree, nil, node, voids, numbers, links, rows, cap, Trees}
use Rattle.capn_value.specs.Tree.{no_trees, tree, Bodies, no_bodies, body, count, count_rows}
use Rattle.capn_walk.specs.declared.entry.Entry.{Entry}
use Rattle.capn_target.specs.declared.target.Target.{Target}
use Rattle.capn_target.specs.declared.target.Target.TheVariants as targets
use Rattle.capn_target.specs.declared.target.Shape.{Shape}
use Rattle.capn_target.specs.declared.target.Shape.TheVariants as shapes
use Rattle.capn_target.specs.declared.target.Fault.{Fault}
use Rattle.capn_target.specs.Target.{target, list_width}
use Rattle.capn_walk.specs.Visits.{places, row_places}
use Rattle.capn_walk.specs.Accepted.{root}
use Rattle.capn_walk.specs.ValueAt.{IsAt, AreAt, RowsAt}
use Rattle.capn_walk.specs.View.{slots_below}
use Rattle.capn_target.specs.Shapes.{IsInMessage}
use Rattle.capn_walk.specs.Index.{entry_target, entry_at, slots_at, beside, kept, kept_of, IsReadable, index_of}
use Rattle.capn_walk.specs.IndexValues.{IsReadAt, AreReadAt, RowsReadAt, IndexesSayValues, EntriesSayValues}
use Rattle.capn_walk.proofs.IndexLaws.{AllPlaces, in-slots, readable, not-empty}
use Rattle.capn_target.proofs.shared.Inside.{found-inside}

-- ---- a target, given the target that its entry describes (`kept`)

-- `kept t` is content at word `start` of segment `s`, with the shape `shape` or with some shape of rows
abbrev KeptAs : Target → ℕ → ℕ → Shape → Type 0
KeptAs t s start shape = (kept t ≡ targets.Content s start shape 0)
    ⊎ ((c a b span : ℕ) × (kept t ≡ targets.Content s start (shapes.Rows c a b span) 0))

kept-content : (s start pads : ℕ) (shape : Shape) → KeptAs (targets.Content s start shape pads) s start shape
kept-content s start pads (shapes.Node a b) = inl refl
kept-content s start pads (shapes.Many W0 c) = inl refl
kept-content s start pads (shapes.Many W1 c) = inl refl
kept-content s start pads (shapes.Many W8 c) = inl refl
kept-content s start pads (shapes.Many W16 c) = inl refl
kept-content s start pads (shapes.Many W32 c) = inl refl
kept-content s start pads (shapes.Many W64 c) = inl refl
kept-content s start pads (shapes.Many Link c) = inl refl
kept-content s start pads (shapes.Many Rows c) = inr (c, 0, 0, c * (0 + 0), refl)
kept-content s start pads (shapes.Rows c a b span) = inr (c, a, b, c * (a + b), refl)

unkept-plain : (t u : Target) → ((s start pads : ℕ) (shape : Shape) → u ≢ targets.Content s start shape pads)
    → kept t ≡ u → t ≡ u
unkept-plain targets.Nil u n h = h
unkept-plain (targets.Cap k) u n h = h
unkept-plain (targets.Content s start shape pads) u n h = by-shape (kept-content s start pads shape)
  where
    by-shape : KeptAs (targets.Content s start shape pads) s start shape → targets.Content s start shape pads ≡ u
    by-shape (inl e) = absurd (n s start 0 shape (sym h ∙ e))
    by-shape (inr (c, a, b, span, e)) = absurd (n s start 0 (shapes.Rows c a b span) (sym h ∙ e))

unkept : (t : Target) (s start : ℕ) (shape : Shape) → ((c a b span : ℕ) → shape ≢ shapes.Rows c a b span)
    → kept t ≡ targets.Content s start shape 0 → (pads : ℕ) × (t ≡ targets.Content s start shape pads)
unkept targets.Nil s start shape n h = absurd cc
unkept (targets.Cap k) s start shape n h = absurd cc
unkept (targets.Content r from x pads) s start shape n h = by-shape (kept-content r from pads x)
  where
    by-shape : KeptAs (targets.Content r from x pads) r from x
        → (more : ℕ) × (targets.Content r from x pads ≡ targets.Content s start shape more)
    by-shape (inl e) = (pads, let f = sym e ∙ h in cc)
    by-shape (inr (c, a, b, span, e)) = absurd (n c a b span (let f = sym e ∙ h in cc))

unkept-rows : (m : List (List ℕ)) (t : Target) (s start c a b span : ℕ) → IsInMessage m t
    → kept t ≡ targets.Content s start (shapes.Rows c a b span) 0
    → (more pads : ℕ) × (t ≡ targets.Content s start (shapes.Rows c a b more) pads)
unkept-rows m targets.Nil s start c a b span i h = absurd cc
unkept-rows m (targets.Cap k) s start c a b span i h = absurd cc
unkept-rows m (targets.Content r from (shapes.Node x y) pads) s start c a b span i h = absurd cc
unkept-rows m (targets.Content r from (shapes.Many W0 n) pads) s start c a b span i h = absurd cc
unkept-rows m (targets.Content r from (shapes.Many W1 n) pads) s start c a b span i h = absurd cc
unkept-rows m (targets.Content r from (shapes.Many W8 n) pads) s start c a b span i h = absurd cc
unkept-rows m (targets.Content r from (shapes.Many W16 n) pads) s start c a b span i h = absurd cc
unkept-rows m (targets.Content r from (shapes.Many W32 n) pads) s start c a b span i h = absurd cc
unkept-rows m (targets.Content r from (shapes.Many W64 n) pads) s start c a b span i h = absurd cc
unkept-rows m (targets.Content r from (shapes.Many Link n) pads) s start c a b span i h = absurd cc
unkept-rows m (targets.Content r from (shapes.Many Rows n) pads) s start c a b span i h = absurd i.1
unkept-rows m (targets.Content r from (shapes.Rows n x y more) pads) s start c a b span i h = (more, pads, cc)

length-places : (s w n : ℕ) → length (places s w n) ≡ n
length-places s w zero = refl
length-places s w (suc n) = ap suc (length-places s (w + 1) n)

found-kept : (r : Result Target Fault) (t : Target) → kept_of r ≡ Ok t → (u : Target) × (r ≡ Ok u) × (kept u ≡ t)
found-kept (Ok u) t h = (u, refl, cc)
found-kept (Err e) t h = absurd cc

kept-numbers : (a : NumberWidth) (s start n pads : ℕ)
    → kept (targets.Content s start (shapes.Many (list_width a) n) pads)
    ≡ targets.Content s start (shapes.Many (list_width a) n) 0
kept-numbers bit s start n pads = refl
kept-numbers byte s start n pads = refl
kept-numbers pair s start n pads = refl
kept-numbers quad s start n pads = refl
kept-numbers oct s start n pads = refl

module _ (m : List (List ℕ)) (es : List Entry) (readable : (i : ℕ) → i < length es → IsReadable m es i) where
  -- ---- the slots of entries

  -- entry `i` of `es` describes the target of the slot at `at` (`kept_of`)
  record Of (at : Place) (i : ℕ) : Type 0 where
    place : IsPlace m at
    within : i < length es
    is : kept_of (target m at) ≡ Ok (entry_target (entry_at es i))

  -- the entries of the slots at the given places stand in `es` from index `i` on, one span apart
  abbrev AllOf : List Place → ℕ → Type 0
  AllOf [] i = ⊤
  AllOf (p ∷ ps) i = Of p i × AllOf ps (i + (entry_at es i).span)

  all-front : (ps qs : List Place) (i : ℕ) → AllOf (ps ++ qs) i → AllOf ps i
  all-front [] qs i h = tt
  all-front (p ∷ ps) qs i h = (h.0, all-front ps qs (i + (entry_at es i).span) h.1)

  all-back : (ps qs : List Place) (i : ℕ) → AllOf (ps ++ qs) i → AllOf qs (beside es i (length ps))
  all-back [] qs i h = h
  all-back (p ∷ ps) qs i h = all-back ps qs (i + (entry_at es i).span) h.1

  all-each : (ps : List Place) (i : ℕ) → AllPlaces m ps → ((j : ℕ) → j < length ps → (beside es i j < length es)
      × (kept_of (target m (get_or ps j root)) ≡ Ok (entry_target (entry_at es (beside es i j))))) → AllOf ps i
  all-each [] i a h = tt
  all-each (p ∷ ps) i a h = (
    let o = h 0 (omega arith) in record { place = a.0; within = o.0; is = o.1 },
    all-each ps (i + (entry_at es i).span) a.1 (λ j l. h (suc j) (omega arith)),
  )

  all-below : (i : ℕ) → i < length es → AllOf (slots_at es i) (i + 1)
  all-below i h =
      let r = readable i h in
      let w = r.within in
      all-each (slots_at es i) (i + 1) (in-slots m (entry_target (entry_at es i)) r.inside)
      (λ j l. let b = r.below j l in let x = b.0 in (omega arith, b.1))

  all-said : (i : ℕ) (t : Target) → i < length es → entry_target (entry_at es i) ≡ t → AllOf (slots_below t) (i + 1)
  all-said i t h e = subst (λ (x : Target). AllOf (slots_below x) (i + 1)) e (all-below i h)

  -- ---- the target that an entry describes, given the slot's target, and conversely

  said : (at : Place) (i : ℕ) (t : Target) → Of at i → target m at ≡ Ok t → entry_target (entry_at es i) ≡ kept t
  said at i t o e = let f = sym o.is ∙ ap kept_of e in cc

  found : (at : Place) (i s start : ℕ) (shape : Shape) → Of at i
      → ((c a b span : ℕ) → shape ≢ shapes.Rows c a b span)
      → entry_target (entry_at es i) ≡ targets.Content s start shape 0
      → (pads : ℕ) × (target m at ≡ Ok (targets.Content s start shape pads))
  found at i s start shape o n e =
      let (t, is, k) = found-kept (target m at) (entry_target (entry_at es i)) o.is in
      let (pads, x) = unkept t s start shape n (k ∙ e) in
      (pads, is ∙ ap Ok x)

  found-plain : (at : Place) (i : ℕ) (t : Target) → Of at i
      → ((s start pads : ℕ) (shape : Shape) → t ≢ targets.Content s start shape pads)
      → entry_target (entry_at es i) ≡ t → target m at ≡ Ok t
  found-plain at i t o n e =
      let (u, is, k) = found-kept (target m at) (entry_target (entry_at es i)) o.is in
      is ∙ ap Ok (unkept-plain u t n (k ∙ e))

  found-rows : (at : Place) (i s start c a b span : ℕ) → Of at i
      → entry_target (entry_at es i) ≡ targets.Content s start (shapes.Rows c a b span) 0
      → (more pads : ℕ) × (target m at ≡ Ok (targets.Content s start (shapes.Rows c a b more) pads))
  found-rows at i s start c a b span o e =
      let (t, is, k) = found-kept (target m at) (entry_target (entry_at es i)) o.is in
      let (more, pads, x) = unkept-rows m t s start c a b span (found-inside m at t o.place is) (k ∙ e) in
      (more, pads, is ∙ ap Ok x)

  -- ---- the value at a place is the value of the entry for that place

  mutual
    reads : (v : Tree) (at : Place) (i : ℕ) → Of at i → IsAt m at v → IsReadAt m es i v
    reads nil at i o h = said at i targets.Nil o h
    reads (cap k) at i o h = said at i (targets.Cap k) o h
    reads (node ws ss) at i o h =
        let e = said at i (targets.Content h.segment h.start (shapes.Node (length ws) (count ss)) h.pads) o h.is in
        record {
          segment = h.segment;
          start = h.start;
          is = e;
          inside = (
            h.inside.0,
            reads-slots ss h.segment (h.start + length ws) (i + 1)
                (all-said i (targets.Content h.segment h.start (shapes.Node (length ws) (count ss)) 0) o.within e)
                h.inside.1,
          );
        }
    reads (voids n) at i o h = record {
      segment = h.segment;
      start = h.start;
      is = said at i (targets.Content h.segment h.start (shapes.Many W0 n) h.pads) o h.is;
      inside = tt;
    }
    reads (numbers a xs) at i o h = record {
      segment = h.segment;
      start = h.start;
      is = said at i (targets.Content h.segment h.start (shapes.Many (list_width a) (length xs)) h.pads) o h.is
          ∙ kept-numbers a h.segment h.start (length xs) h.pads;
      inside = h.inside;
    }
    reads (links ts) at i o h =
        let e = said at i (targets.Content h.segment h.start (shapes.Many Link (count ts)) h.pads) o h.is in
        record {
          segment = h.segment;
          start = h.start;
          is = e;
          inside = reads-slots ts h.segment h.start (i + 1)
              (all-said i (targets.Content h.segment h.start (shapes.Many Link (count ts)) 0) o.within e) h.inside;
        }
    reads (rows bs) at i o (a, b, span, h) =
        let n = count_rows bs * (a + b) in
        let e = said at i (targets.Content h.segment h.start (shapes.Rows (count_rows bs) a b span) h.pads) o h.is in
        let below = all-said i (targets.Content h.segment h.start (shapes.Rows (count_rows bs) a b n) 0) o.within e in
        let z : h.start + 1 ≡ suc h.start = omega arith in (
          a,
          b,
          record {
            segment = h.segment;
            start = h.start;
            is = e;
            inside = reads-rows bs a b h.segment (suc h.start) (i + 1)
                (subst (λ (w : ℕ). AllOf (row_places h.segment w a b (count_rows bs)) (i + 1)) z below) h.inside;
          },
        )

    reads-slots : (ts : Trees) (s w i : ℕ) → AllOf (places s w (count ts)) i → AreAt m s w ts → AreReadAt m es i ts
    reads-slots no_trees s w i o h = tt
    reads-slots (tree t ts) s w i o h =
        let z : w + 1 ≡ suc w = omega arith in
        let next = i + (entry_at es i).span in (
          reads t (record { segment = s; word = w }) i o.0 h.0,
          reads-slots ts s (suc w) next (subst (λ (x : ℕ). AllOf (places s x (count ts)) next) z o.1) h.1,
        )

    reads-rows : (bs : Bodies) (a b s w i : ℕ) → AllOf (row_places s w a b (count_rows bs)) i → RowsAt m a b s w bs
        → RowsReadAt m es a b s w i bs
    reads-rows no_bodies a b s w i o h = tt
    reads-rows (body ws ss bs) a b s w i o h =
        let here = places s (w + a) b in
        let rest = row_places s (w + a + b) a b (count_rows bs) in
        let front = subst (λ (n : ℕ). AllOf (places s (w + a) n) i) (sym h.1) (all-front here rest i o) in
        let back = subst (λ (n : ℕ). AllOf rest (beside es i n)) (length-places s (w + a) b) (all-back here rest i o) in
        (h.0, h.1, h.2, reads-slots ss s (w + a) i front h.3, reads-rows bs a b s (w + a + b) (beside es i b) back h.4)

  -- ---- the value of an entry is the value at the place of the entry

  mutual
    stands : (v : Tree) (at : Place) (i : ℕ) → Of at i → IsReadAt m es i v → IsAt m at v
    stands nil at i o h = found-plain at i targets.Nil o (λ s start pads shape e. absurd cc) h
    stands (cap k) at i o h = found-plain at i (targets.Cap k) o (λ s start pads shape e. absurd cc) h
    stands (node ws ss) at i o h =
        let (pads, e) = found at i h.segment h.start (shapes.Node (length ws) (count ss)) o (λ c a b span x. absurd cc)
        h.is in
        record {
          segment = h.segment;
          start = h.start;
          pads = pads;
          is = e;
          inside = (
            h.inside.0,
            stands-slots ss h.segment (h.start + length ws) (i + 1)
                (all-said i (targets.Content h.segment h.start (shapes.Node (length ws) (count ss)) 0) o.within h.is)
                h.inside.1,
          );
        }
    stands (voids n) at i o h =
        let (pads, e) = found at i h.segment h.start (shapes.Many W0 n) o (λ c a b span x. absurd cc) h.is in
        record { segment = h.segment; start = h.start; pads = pads; is = e; inside = tt }
    stands (numbers a xs) at i o h =
        let (pads, e) = found at i h.segment h.start (shapes.Many (list_width a) (length xs)) o
        (λ c a b span x. absurd cc) h.is in
        record { segment = h.segment; start = h.start; pads = pads; is = e; inside = h.inside }
    stands (links ts) at i o h =
        let (pads, e) = found at i h.segment h.start (shapes.Many Link (count ts)) o (λ c a b span x. absurd cc) h.is in
        record {
          segment = h.segment;
          start = h.start;
          pads = pads;
          is = e;
          inside = stands-slots ts h.segment h.start (i + 1)
              (all-said i (targets.Content h.segment h.start (shapes.Many Link (count ts)) 0) o.within h.is) h.inside;
        }
    stands (rows bs) at i o (a, b, h) =
        let n = count_rows bs * (a + b) in
        let (span, pads, e) = found-rows at i h.segment h.start (count_rows bs) a b n o h.is in
        let t = targets.Content h.segment h.start (shapes.Rows (count_rows bs) a b n) 0 in
        let below = all-said i t o.within h.is in
        let z : h.start + 1 ≡ suc h.start = omega arith in (
          a,
          b,
          span,
          record {
            segment = h.segment;
            start = h.start;
            pads = pads;
            is = e;
            inside = stands-rows bs a b h.segment (suc h.start) (i + 1)
                (subst (λ (w : ℕ). AllOf (row_places h.segment w a b (count_rows bs)) (i + 1)) z below) h.inside;
          },
        )

    stands-slots : (ts : Trees) (s w i : ℕ) → AllOf (places s w (count ts)) i → AreReadAt m es i ts → AreAt m s w ts
    stands-slots no_trees s w i o h = tt
    stands-slots (tree t ts) s w i o h =
        let z : w + 1 ≡ suc w = omega arith in
        let next = i + (entry_at es i).span in (
          stands t (record { segment = s; word = w }) i o.0 h.0,
          stands-slots ts s (suc w) next (subst (λ (x : ℕ). AllOf (places s x (count ts)) next) z o.1) h.1,
        )

    stands-rows : (bs : Bodies) (a b s w i : ℕ) → AllOf (row_places s w a b (count_rows bs)) i
        → RowsReadAt m es a b s w i bs → RowsAt m a b s w bs
    stands-rows no_bodies a b s w i o h = tt
    stands-rows (body ws ss bs) a b s w i o h =
        let here = places s (w + a) b in
        let rest = row_places s (w + a + b) a b (count_rows bs) in
        let front = subst (λ (n : ℕ). AllOf (places s (w + a) n) i) (sym h.1) (all-front here rest i o) in
        let l = length-places s (w + a) b in
        let back = subst (λ (n : ℕ). AllOf rest (beside es i n)) l (all-back here rest i o) in (
          h.0,
          h.1,
          h.2,
          stands-slots ss s (w + a) i front h.3,
          stands-rows bs a b s (w + a + b) (beside es i b) back h.4,
        )

pub entries-say : EntriesSayValues
entries-say m limits i at v a l place e =
    let es = index_of m limits in
    let o : Of m es (readable m limits a).1 at i = record { place = place; within = l; is = e } in
    (reads m es (readable m limits a).1 v at i o, stands m es (readable m limits a).1 v at i o)

pub say : IndexesSayValues
say m limits v a =
    let r = readable m limits a in
    let h = entries-say m limits 0 root v a (not-empty m limits a) a.some r.0 in
    ((λ x. h.0 x.is), (λ x. record { accepted = a; is = h.1 x }))
