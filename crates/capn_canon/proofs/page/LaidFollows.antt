-- If values are laid out canonically, their pointers follow the rules of the page. (For `ThePage`.)
use Rattle.std.proofs.Common.{◌≡◌, ◌⊎◌, inl, inr, ℕ, zero, suc, ◌+◌, ◌*◌, ◌^◌, ◌<◌, ◌≤◌, List, [], ◌∷◌, ◌++◌, length}
use Rattle.std.proofs.Common.{take, drop, slice_index, Option, Some, None, Ok, refl, ap, ap₂, sym, subst, ◌∙◌, arith}
use Rattle.std.proofs.Common.{append_assoc}
use Rattle.std.specs.Prelude.{pos}
use Rattle.std.specs.Option.{option_or}
use Rattle.capn_words.specs.Message.{IsMessage, segment_at}
use Rattle.capn_words.specs.Pointers.{word_of}
use Rattle.capn_words.specs.declared.space.Place.{Place}
use Rattle.capn_words.specs.declared.pointer.Pointer.TheVariants.{Node}
use Rattle.capn_words.specs.declared.pointer.Width.{Width}
use Rattle.capn_words.specs.declared.pointer.Width.TheVariants.{W0, Link, Rows}
use Rattle.capn_value.specs.Tree.{Tree, nil, node, voids, numbers, links, rows, cap, Trees, no_trees, tree, Bodies}
use Rattle.capn_value.specs.Tree.{no_bodies, body, count, count_rows}
use Rattle.capn_value.specs.FirstCap.{first_cap, first_in, first_in_rows}
use Rattle.capn_value.specs.Trim.{kept_words}
use Rattle.capn_target.specs.declared.target.Target.TheVariants as targets
use Rattle.capn_target.specs.declared.target.Shape.{Shape}
use Rattle.capn_target.specs.declared.target.Shape.TheVariants as shapes
use Rattle.capn_target.specs.Target.{target, list_width, content_words}
use Rattle.capn_target.specs.Shapes.{extent, IsPlain}
use Rattle.capn_target.proofs.shared.Inside.{inside}
use Rattle.capn_walk.specs.ValueAt.{IsAt, AreAt, RowsAt, IsInside, words_from}
use Rattle.capn_walk.specs.Visits.{places, row_places, slots}
use Rattle.capn_layout.specs.FirstBits.{element_bits}
use Rattle.capn_layout.specs.Layout.{size, sizes, sizes_in_rows, struct_to, list_to}
use Rattle.capn_layout.specs.RowWords.{kept_each}
use Rattle.capn_layout.specs.Sound.{Sound, Sounds, SoundRows}
use Rattle.capn_layout.proofs.shared.Copied.{part-below}
use Rattle.capn_layout.proofs.shared.FirstBits.{plain-words}
use Rattle.capn_canon.specs.PageForm.{Met, null, object, IsEmpty}
use Rattle.capn_canon.specs.inner.WordsOfLayout.{IsLaidAt, AreLaidAt, RowsLaidAt}
use Rattle.capn_canon.proofs.places.Compared.{laid-room, slots-first, slots-others, struct-is, struct-passes}
use Rattle.capn_canon.proofs.places.Compared.{slots-here, struct-to-slots, struct-size, links-is, links-passes}
use Rattle.capn_canon.proofs.places.Compared.{links-here, links-to-slots}
use Rattle.capn_canon.proofs.places.ComparedList.{list-size, list-passes, list-bits, plain-too}
use Rattle.capn_canon.proofs.places.ComparedRows.{row-first, row-others, rows-is, rows-passes, rows-here, rows-to-slots}
use Rattle.capn_canon.proofs.places.ComparedRows.{rows-size, kw, ks}
use Rattle.capn_canon.proofs.page.Rules.{IsRight, Follows}
use Rattle.capn_canon.proofs.page.Ends.{kept-ends, each-kept-ends, stand-padded}
use Rattle.capn_canon.proofs.page.Stands.{empty-or-not, plain-slots, plain-numbers, small, slots-room}
use Rattle.capn_canon.proofs.reading.LaidPointers.{struct-names, list-names, rows-names}
use Rattle.capn_canon.proofs.reading.OneSegment.{here, names-empty}

none-both : (a b : Option ℕ) → option_or a b ≡ None → (a ≡ None) × (b ≡ None)
none-both None b e = (refl, e)
none-both (Some k) b e = absurd cc

module _ (all : List ℕ) (message : IsMessage (all ∷ [])) where
  abbrev only : List (List ℕ)
  only = all ∷ []

  few-words : length all ≤ 2 ^ 29
  few-words = small all message

  -- Case: the object that the slot `from` points to follows the rules, and so do the pointers at and below its slots
  -- and `others`.
  meets : (from to start : ℕ) (shape : Shape) (others : List Place)
      → target only (here from) ≡ Ok (targets.Content 0 start shape 0) → IsRight all to from start shape
      → (met : List Met) × Follows all (to + extent shape) (slots 0 start shape ++ others) met
      → (met : List Met) × Follows all to (here from ∷ others) met
  meets from to start shape others e r (met, f) = (object from start shape ∷ met, (refl, e, r, f))

  -- ---- a struct

  module _ (from to s w pads : ℕ) (ws : List ℕ) (ss : Trees) (others : List Place)
      (e : target only (here from) ≡ Ok (targets.Content s w (shapes.Node (length ws) (count ss)) pads))
      (it : IsInside only (shapes.Node (length ws) (count ss)) s w (node ws ss)) (o : Sound (node ws ss))
      (order : from < to) (fits : to ≤ length all) (laid : IsLaidAt all (node ws ss) from to) where
    abbrev a : ℕ
    a = length ws

    abbrev b : ℕ
    b = count ss

    lies : w + (a + b) ≤ length (segment_at only s)
    lies = (inside only (here from) s w pads (shapes.Node a b) e).0

    passes : (kept_words (take a (words_from only s w)) ≡ a) × (kept_words (take b (words_from only s (w + a))) ≡ b)
        × (slice_index all from ≡ struct_to from to a b) × (to + (a + b) ≤ length all)
    passes = struct-passes all a b s w from to pads e few-words lies order (node ws ss) it o fits laid

    -- The struct begins at the next free word `to`, or at its pointer if it has no words and no slots.
    struct-named : (start : ℕ) × (target only (here from) ≡ Ok (targets.Content 0 start (shapes.Node a b) 0))
        × (((IsEmpty (shapes.Node a b) → ⊥) × (start ≡ to)) ⊎ ((start ≡ from) × (a ≡ 0) × (b ≡ 0)))
    struct-named =
        let f = struct-names all few-words from to a b order passes.3 o.0 o.1 passes.2 in
        elim (empty-or-not a b) as (λ _. (start : ℕ)
        × (target only (here from) ≡ Ok (targets.Content 0 start (shapes.Node a b) 0))
        × (((IsEmpty (shapes.Node a b) → ⊥) × (start ≡ to)) ⊎ ((start ≡ from) × (a ≡ 0) × (b ≡ 0)))) [
          | inl x ↦ (f.0, f.1, inl (x.0, at-next f.0 f.2 x.1))
          | inr y ↦ (
            from,
            names-empty all from (passes.2 ∙ ap₂ (struct_to from to) y.1 y.2) (omega arith)
                ∙ ap₂ (λ (i j : ℕ). Ok (targets.Content 0 from (shapes.Node i j) 0)) (sym y.1) (sym y.2),
            inr (refl, y.1, y.2),
          )
        ]
      where
        at-next : (start : ℕ) → (start ≡ to) ⊎ ((a ≡ 0) × (b ≡ 0)) → 0 < a + b → start ≡ to
        at-next start (inl x) some = x
        at-next start (inr y) some = let u = y.0 in let v = y.1 in absurd (omega arith)

    abbrev start : ℕ
    start = struct-named.0

    first-segment : s ≡ 0
    first-segment = let f = e in let g = struct-named.1 in cc

    first-start : w ≡ start
    first-start = let f = e in let g = struct-named.1 in cc

    own-kept : kept_words (take a (drop start all)) ≡ a
    own-kept =
        subst (λ (k : ℕ). kept_words (take a (drop k all)) ≡ a) first-start
        (subst (λ (k : ℕ). kept_words (take a (drop w (segment_at only k))) ≡ a) first-segment passes.0)

    below-kept : kept_words (take b (drop (start + a) all)) ≡ b
    below-kept =
        subst (λ (k : ℕ). kept_words (take b (drop (k + a) all)) ≡ b) first-start
        (subst (λ (k : ℕ). kept_words (take b (drop (w + a) (segment_at only k))) ≡ b) first-segment passes.1)

    struct-right : IsRight all to from start (shapes.Node a b)
    struct-right = record {
      begins = λ n. elim struct-named.2 as (λ _. start ≡ to) [
        | inl x ↦ x.1
        | inr y ↦ absurd (n (is-empty a b y.1 y.2))
      ];
      truncated = (kept-ends all start a own-kept, kept-ends all (start + a) b below-kept);
      empty = λ n. elim struct-named.2 as (λ _. start ≡ from) [ inl x ↦ absurd (x.0 n) | inr y ↦ y.0 ];
      padded = tt;
      whole = tt;
    }
      where
        is-empty : (i j : ℕ) → i ≡ 0 → j ≡ 0 → IsEmpty (shapes.Node i j)
        is-empty zero zero ei ej = tt
        is-empty zero (suc j) ei ej = absurd (omega arith)
        is-empty (suc i) j ei ej = absurd (omega arith)

    same : (struct-is all a b s w from to pads e few-words lies order (node ws ss) it o fits).slots ≡ ss
    same = let f = (struct-is all a b s w from to pads e few-words lies order (node ws ss) it o fits).is in cc

    struct-slots : AreAt only 0 (to + a) ss
    struct-slots = subst (AreAt only 0 (to + a)) same
        (slots-here all a b s w from to pads e few-words lies order (node ws ss) it o fits passes.0 passes.1 passes.2
        passes.3)

    struct-laid : AreLaidAt all ss (to + a) (to + a + b)
    struct-laid = subst (λ (x : Trees). AreLaidAt all x (to + a) (to + a + b)) same
        (struct-to-slots all a b s w from to pads e few-words lies order (node ws ss) it o fits passes.0 passes.1
        passes.2 passes.3 laid)

    struct-ends : to + size (node ws ss) ≡ to + a + b + sizes ss
    struct-ends = sym (ap (λ (x : Trees). to + a + b + sizes x) (sym same)
        ∙ struct-size all a b s w from to pads e few-words lies order (node ws ss) it o fits passes.0 passes.1 passes.2
        passes.3)

    struct-room : to + a + b ≤ length all
    struct-room = let r = passes.3 in omega arith

    struct-meets : (met : List Met) × Follows all (to + a + b) (places 0 (to + a) b ++ others) met
        → (met : List Met) × Follows all to (here from ∷ others) met
    struct-meets (met, f) =
        let z : to + a + b ≡ to + (a + b) = omega arith in
        meets from to start (shapes.Node a b) others struct-named.1 struct-right (
          met,
          subst (λ (ps : List Place). Follows all (to + (a + b)) (ps ++ others) met) moved-places
              (subst (λ (k : ℕ). Follows all k (places 0 (to + a) b ++ others) met) z f),
        )
      where
        moved-places : places 0 (to + a) b ≡ places 0 (start + a) b
        moved-places = elim struct-named.2 as (λ _. places 0 (to + a) b ≡ places 0 (start + a) b) [
          | inl x ↦ ap (λ (k : ℕ). places 0 (k + a) b) (sym x.1)
          | inr y ↦ ap (places 0 (to + a)) y.2 ∙ sym (ap (places 0 (start + a)) y.2)
        ]

  -- ---- a list without pointers

  plain-goes : (from to s w pads : ℕ) (width : Width) (n : ℕ) (v : Tree) (others : List Place) (met : List Met)
      → target only (here from) ≡ Ok (targets.Content s w (shapes.Many width n) pads) → IsPlain width → n < 2 ^ 29
      → IsInside only (shapes.Many width n) s w v → Sound v → from < to → to ≤ length all → IsLaidAt all v from to
      → Follows all (to + size v) others met → (met : List Met) × Follows all to (here from ∷ others) met
  plain-goes from to s w pads width n v others met e plain few it o order fits laid f =
      let lies = (inside only (here from) s w pads (shapes.Many width n) e).0 in
      let below = part-below only s w message in
      let p = list-passes all width n s w from to pads e plain few few-words below lies order v it o fits laid in
      let sized = list-size all width n s w from to pads e plain few few-words below lies order v it o fits in
      let bits = list-bits all width n s w from to pads e plain few few-words below lies order v it o fits p.0 p.1
      laid in
      let k = plain-words width n plain in
      let r = p.1 in
      let named = list-names all few-words from to n width (plain-too width plain) order (omega arith) few p.0 in
      let z : to + size v ≡ to + content_words width n = omega arith in
      meets from to to (shapes.Many width n) others named (record {
        begins = λ x. refl;
        truncated = tt;
        empty = λ x. absurd x;
        padded = stand-padded all to (element_bits width * n) r bits;
        whole = tt;
      }) (
        met,
        subst (λ (ps : List Place). Follows all (to + content_words width n) (ps ++ others) met)
            (sym (plain-slots width plain to n)) (subst (λ (x : ℕ). Follows all x others met) z f),
      )

  -- ---- a list of pointers

  module _ (from to s w pads : ℕ) (ts : Trees) (others : List Place)
      (e : target only (here from) ≡ Ok (targets.Content s w (shapes.Many Link (count ts)) pads))
      (it : IsInside only (shapes.Many Link (count ts)) s w (links ts)) (o : Sound (links ts)) (order : from < to)
      (fits : to ≤ length all) (laid : IsLaidAt all (links ts) from to) where
    links-passed : (slice_index all from ≡ list_to from to Link (count ts)) × (to + count ts ≤ length all)
    links-passed = links-passes all (count ts) s w from to pads e few-words order (links ts) it o fits laid

    links-same : (links-is all (count ts) s w from to pads e few-words order (links ts) it o fits).slots ≡ ts
    links-same = let f = (links-is all (count ts) s w from to pads e few-words order (links ts) it o fits).is in cc

    links-slots : AreAt only 0 to ts
    links-slots = subst (AreAt only 0 to) links-same
        (links-here all (count ts) s w from to pads e few-words order (links ts) it o fits links-passed.0
        links-passed.1)

    links-laid : AreLaidAt all ts to (to + count ts)
    links-laid = subst (λ (x : Trees). AreLaidAt all x to (to + count ts)) links-same
        (links-to-slots all (count ts) s w from to pads e few-words order (links ts) it o fits links-passed.0
        links-passed.1 laid)

    links-meets : (met : List Met) × Follows all (to + count ts) (places 0 to (count ts) ++ others) met
        → (met : List Met) × Follows all to (here from ∷ others) met
    links-meets f =
        meets from to to (shapes.Many Link (count ts)) others
        (list-names all few-words from to (count ts) Link tt order links-passed.1 o.0 links-passed.0) (record {
          begins = λ x. refl;
          truncated = tt;
          empty = λ x. absurd x;
          padded = λ x. absurd (omega arith);
          whole = tt;
        }) f

  -- ---- a list of structs

  module _ (from to s w pads a b span : ℕ) (bs : Bodies) (others : List Place)
      (e : target only (here from) ≡ Ok (targets.Content s w (shapes.Rows (count_rows bs) a b span) pads))
      (it : IsInside only (shapes.Rows (count_rows bs) a b span) s w (rows bs)) (o : Sound (rows bs))
      (order : from < to) (fits : to ≤ length all) (laid : IsLaidAt all (rows bs) from to) where
    abbrev n : ℕ
    n = count_rows bs

    rows-lies : w + 1 + n * (a + b) ≤ length (segment_at only s)
    rows-lies =
        let i = inside only (here from) s w pads (shapes.Rows n a b span) e in
        let x = i.0 in
        let y = i.1 in
        omega arith

    rows-passed : (kept_each only s (w + 1) a (a + b) n ≡ a) × (kept_each only s (w + 1 + a) b (a + b) n ≡ b)
        × (slice_index all from ≡ list_to from to Rows (n * (a + b)))
        × (to + (1 + n * (a + b)) ≤ length all) × (slice_index all to ≡ word_of (Node (pos n) a b))
    rows-passed = rows-passes all n a b span s w from to pads e few-words rows-lies order (rows bs) it o fits laid

    same-bodies : (rows-is all n a b span s w from to pads e few-words rows-lies order (rows bs) it o fits).bodies ≡ bs
    same-bodies =
        let f = (rows-is all n a b span s w from to pads e few-words rows-lies order (rows bs) it o fits).is in cc

    narrow : (a < 2 ^ 16) × (b < 2 ^ 16) × (n * (a + b) < 2 ^ 29)
    narrow =
        let x = kw all n a b span s w from to pads e few-words rows-lies order (rows bs) it o fits rows-passed.0
        rows-passed.1 rows-passed.2 rows-passed.3 rows-passed.4 in
        let y = ks all n a b span s w from to pads e few-words rows-lies order (rows bs) it o fits rows-passed.0
        rows-passed.1 rows-passed.2 rows-passed.3 rows-passed.4 in
        let q = same-bodies in
        let u = o.1 in
        let v = o.2 in
        let r = rows-passed.3 in
        let same-x = ap Rattle.capn_value.specs.Trim.kept_words_of_rows q in
        let same-y = ap Rattle.capn_value.specs.Trim.kept_slots_of_rows q in
        (omega arith, omega arith, omega arith)

    rows-named : target only (here from) ≡ Ok (targets.Content 0 to (shapes.Rows n a b (n * (a + b))) 0)
    rows-named = rows-names all few-words from to n a b order rows-passed.3 o.0 narrow.0 narrow.1 narrow.2 rows-passed.2
        rows-passed.4

    rows-segment : s ≡ 0
    rows-segment = let f = e in let g = rows-named in cc

    rows-start : w ≡ to
    rows-start = let f = e in let g = rows-named in cc

    words-kept : kept_each only 0 (to + 1) a (a + b) n ≡ a
    words-kept = subst (λ (k : ℕ). kept_each only 0 (k + 1) a (a + b) n ≡ a) rows-start
        (subst (λ (k : ℕ). kept_each only k (w + 1) a (a + b) n ≡ a) rows-segment rows-passed.0)

    slots-kept : kept_each only 0 (to + 1 + a) b (a + b) n ≡ b
    slots-kept = subst (λ (k : ℕ). kept_each only 0 (k + 1 + a) b (a + b) n ≡ b) rows-start
        (subst (λ (k : ℕ). kept_each only k (w + 1 + a) b (a + b) n ≡ b) rows-segment rows-passed.1)

    rows-slots : RowsAt only a b 0 (to + 1) bs
    rows-slots = subst (RowsAt only a b 0 (to + 1)) same-bodies
        (rows-here all n a b span s w from to pads e few-words rows-lies order (rows bs) it o fits rows-passed.0
        rows-passed.1 rows-passed.2 rows-passed.3 rows-passed.4)

    rows-laid : RowsLaidAt all a b bs (to + 1) (to + 1 + n * (a + b))
    rows-laid = subst (λ (x : Bodies). RowsLaidAt all a b x (to + 1) (to + 1 + n * (a + b))) same-bodies
        (rows-to-slots all n a b span s w from to pads e few-words rows-lies order (rows bs) it o fits rows-passed.0
        rows-passed.1 rows-passed.2 rows-passed.3 rows-passed.4 laid)

    rows-ends : to + size (rows bs) ≡ to + 1 + n * (a + b) + sizes_in_rows bs
    rows-ends = sym (ap (λ (x : Bodies). to + 1 + n * (a + b) + sizes_in_rows x) (sym same-bodies)
        ∙ rows-size all n a b span s w from to pads e few-words rows-lies order (rows bs) it o fits rows-passed.0
        rows-passed.1 rows-passed.2 rows-passed.3 rows-passed.4)

    rows-room : to + 1 + n * (a + b) ≤ length all
    rows-room = let r = rows-passed.3 in omega arith

    rows-meets : (met : List Met) × Follows all (to + 1 + n * (a + b)) (row_places 0 (to + 1) a b n ++ others) met
        → (met : List Met) × Follows all to (here from ∷ others) met
    rows-meets (met, f) =
        let z : to + 1 + n * (a + b) ≡ to + (1 + n * (a + b)) = omega arith in
        meets from to to (shapes.Rows n a b (n * (a + b))) others rows-named (record {
          begins = λ x. refl;
          truncated = (
            each-kept-ends all (to + 1) a (a + b) n words-kept,
            each-kept-ends all (to + 1 + a) b (a + b) n slots-kept,
          );
          empty = λ x. absurd x;
          padded = tt;
          whole = refl;
        }) (met, subst (λ (k : ℕ). Follows all k (row_places 0 (to + 1) a b n ++ others) met) z f)

  -- ---- every value

  mutual
    pub value-goes : (v : Tree) (from to : ℕ) (others : List Place) (met : List Met) → IsAt only (here from) v
        → Sound v → first_cap v ≡ None → from < to → to ≤ length all → IsLaidAt all v from to
        → Follows all (to + size v) others met → (met : List Met) × Follows all to (here from ∷ others) met
    value-goes nil from to others met is o free order fits laid f =
        let e : to + 0 ≡ to = omega arith in
        (null ∷ met, (is, subst (λ (k : ℕ). Follows all k others met) e f))
    value-goes (cap k) from to others met is o free order fits laid f = absurd cc
    value-goes (node ws ss) from to others met is o free order fits laid f =
        let s = is.segment in
        let w = is.start in
        let it : IsInside only (shapes.Node (length ws) (count ss)) s w (node ws ss) =
        (refl, is.inside.0, is.inside.1) in
        let r = struct-room from to s w is.pads ws ss others is.is it o order fits laid in
        struct-meets from to s w is.pads ws ss others is.is it o order fits laid
        (slots-go ss (to + length ws) (to + length ws + count ss) others met
        (struct-slots from to s w is.pads ws ss others is.is it o order fits laid) o.2 free (omega arith) r
        (struct-laid from to s w is.pads ws ss others is.is it o order fits laid)
        (subst (λ (k : ℕ). Follows all k others met)
        (struct-ends from to s w is.pads ws ss others is.is it o order fits laid) f))
    value-goes (voids n) from to others met is o free order fits laid f =
        plain-goes from to is.segment is.start is.pads W0 n (voids n) others met is.is tt o refl o order fits laid f
    value-goes (numbers a xs) from to others met is o free order fits laid f =
        plain-goes from to is.segment is.start is.pads (list_width a) (length xs) (numbers a xs) others met is.is
        (plain-numbers a) o.0 (refl, is.inside) o order fits laid f
    value-goes (links ts) from to others met is o free order fits laid f =
        let s = is.segment in
        let w = is.start in
        let it : IsInside only (shapes.Many Link (count ts)) s w (links ts) = (refl, is.inside) in
        let p = links-passed from to s w is.pads ts others is.is it o order fits laid in
        let r = p.1 in
        let e : to + size (links ts) ≡ to + count ts + sizes ts = omega arith in
        links-meets from to s w is.pads ts others is.is it o order fits laid
        (slots-go ts to (to + count ts) others met
        (links-slots from to s w is.pads ts others is.is it o order fits laid) o.1 free (omega arith) (omega arith)
        (links-laid from to s w is.pads ts others is.is it o order fits laid)
        (subst (λ (k : ℕ). Follows all k others met) e f))
    value-goes (rows bs) from to others met is o free order fits laid f =
        let (a, b, span, at) = is in
        let s = at.segment in
        let w = at.start in
        let it : IsInside only (shapes.Rows (count_rows bs) a b span) s w (rows bs) = (a, b, span, refl, at.inside) in
        let r = rows-room from to s w at.pads a b span bs others at.is it o order fits laid in
        rows-meets from to s w at.pads a b span bs others at.is it o order fits laid
        (rows-go a b bs (to + 1) (to + 1 + count_rows bs * (a + b)) others met
        (rows-slots from to s w at.pads a b span bs others at.is it o order fits laid) o.5 free (omega arith) r
        (rows-laid from to s w at.pads a b span bs others at.is it o order fits laid)
        (subst (λ (k : ℕ). Follows all k others met)
        (rows-ends from to s w at.pads a b span bs others at.is it o order fits laid) f))

    slots-go : (ts : Trees) (from to : ℕ) (others : List Place) (met : List Met) → AreAt only 0 from ts → Sounds ts
        → first_in ts ≡ None → from + count ts ≤ to → to ≤ length all → AreLaidAt all ts from to
        → Follows all (to + sizes ts) others met
        → (met : List Met) × Follows all to (places 0 from (count ts) ++ others) met
    slots-go no_trees from to others met are o free order fits laid f =
        let e : to + 0 ≡ to = omega arith in
        (met, subst (λ (k : ℕ). Follows all k others met) e f)
    slots-go (tree t ts) from to others met are o free order fits laid f =
        let n = none-both (first_cap t) (first_in ts) free in
        let first = slots-first all t ts from to (omega arith) o.0 laid in
        let rest = slots-others all t ts from to (omega arith) o.0 laid in
        let l = laid-room all t from to o.0 fits first in
        let z : to + (size t + sizes ts) ≡ to + size t + sizes ts = omega arith in
        let (later, g) = slots-go ts (suc from) (to + size t) others met are.1 o.1 n.1 (omega arith) l rest
        (subst (λ (k : ℕ). Follows all k others met) z f) in
        let e : suc from ≡ from + 1 = omega arith in
        value-goes t from to (places 0 (from + 1) (count ts) ++ others) later are.0 o.0 n.0 (omega arith) fits first
        (subst (λ (x : ℕ). Follows all (to + size t) (places 0 x (count ts) ++ others) later) e g)

    rows-go : (a b : ℕ) (bs : Bodies) (from to : ℕ) (others : List Place) (met : List Met) → RowsAt only a b 0 from bs
        → SoundRows bs → first_in_rows bs ≡ None → from + count_rows bs * (a + b) ≤ to → to ≤ length all
        → RowsLaidAt all a b bs from to → Follows all (to + sizes_in_rows bs) others met
        → (met : List Met) × Follows all to (row_places 0 from a b (count_rows bs) ++ others) met
    rows-go a b no_bodies from to others met are o free order fits laid f =
        let e : to + 0 ≡ to = omega arith in
        (met, subst (λ (k : ℕ). Follows all k others met) e f)
    rows-go a b (body ws ss bs) from to others met are o free order fits laid f =
        let m : suc (count_rows bs) * (a + b) ≡ a + b + count_rows bs * (a + b) = omega arith in
        let later = row_places 0 (from + a + b) a b (count_rows bs) in
        let n = none-both (first_in ss) (first_in_rows bs) free in
        let lb = are.1 in
        let first = row-first all a b ws ss bs from to are.0 are.1 are.2 o.0 laid in
        let rest = row-others all a b ws ss bs from to are.0 are.1 are.2 o.0 laid in
        let l = slots-room all message ss (from + a) to o.0 fits first in
        let z : to + (sizes ss + sizes_in_rows bs) ≡ to + sizes ss + sizes_in_rows bs = omega arith in
        let (after, g) = rows-go a b bs (from + a + b) (to + sizes ss) others met are.4 o.1 n.1 (omega arith) l rest
        (subst (λ (k : ℕ). Follows all k others met) z f) in
        let (own, h) = slots-go ss (from + a) to (later ++ others) after are.3 o.0 n.0 (omega arith) fits first g in (
          own,
          subst (λ (ps : List Place). Follows all to ps own)
              (sym (append_assoc (places 0 (from + a) b) later others))
              (subst (λ (k : ℕ). Follows all to (places 0 (from + a) k ++ (later ++ others)) own) lb h),
        )
