-- The case of `Belonging` in which word `k` belongs to a list of structs, or lies below that list. (For `Belonging`.)
use Rattle.std.proofs.Common.{◌≡◌, ◌⊎◌, inl, inr, ℕ, suc, ◌+◌, ◌-◌, ◌*◌, ◌^◌, ◌<◌, ◌≤◌, ◌==◌}
use Rattle.std.proofs.Common.{◌&&◌, List, [], ◌∷◌, ◌++◌, length, slice_index}
use Rattle.std.proofs.Common.{Some, Ok, Result, pos, refl, ap, ap₂, sym, subst, ◌∙◌, arith}
use Rattle.std.proofs.lemmas.Bool.Decides.{nat_tests}
use Rattle.std.specs.List.{flat_map}
use Rattle.capn_words.specs.declared.pointer.Width.TheVariants.{Rows}
use Rattle.capn_words.proofs.shared.Choices.{if-yes}
use Rattle.capn_value.specs.Tree.{rows}
use Rattle.capn_value.specs.Tree.{Bodies, count_rows}
use Rattle.capn_value.specs.Trim.{kept_words_of_rows, kept_slots_of_rows}
use Rattle.capn_target.specs.declared.target.Target.{Target}
use Rattle.capn_target.specs.declared.target.Target.TheVariants as targets
use Rattle.capn_target.specs.declared.target.Shape.{Shape}
use Rattle.capn_target.specs.declared.target.Shape.TheVariants as shapes
use Rattle.capn_target.specs.declared.target.Fault.{Fault}
use Rattle.capn_target.specs.Target.{target}
use Rattle.capn_walk.specs.Visits.{row_places, visits}
use Rattle.capn_walk.specs.ValueAt.{RowsAt}
use Rattle.capn_layout.specs.Layout.{list_to}
use Rattle.capn_target.specs.Target.{if_inside, tagged}
use Rattle.capn_layout.specs.Layout.{point, row_contents, lays_in_rows}
use Rattle.capn_layout.proofs.shared.LayLengths.{length-row_contents}
use Rattle.capn_layout.proofs.shared.Shaped.{found, inside-of}
use Rattle.capn_mismatch.specs.declared.word_kind.WordKind.TheVariants as finding
use Rattle.capn_words.specs.Pointers.{word_of}
use Rattle.capn_words.specs.declared.pointer.Pointer.TheVariants.{Node}
use Rattle.capn_mismatch.proofs.Pointed.{here, has-room, had-room, rows-named, tag-named}
use Rattle.capn_mismatch.proofs.Owned.{found-begins, not-there}
use Rattle.capn_mismatch.proofs.Lying.{lies-back, Lies, lies-front, lies-as}
use Rattle.capn_mismatch.proofs.Told.{OwnRows, Slot, Told, rows-own, RowSlots, below, decided}

module _ (ws cs : List ℕ) (base k : ℕ) (small : length cs ≤ 2 ^ 29)
    (same : (j : ℕ) → j < k → slice_index ws j ≡ slice_index cs j) where
  abbrev pub n : List (List ℕ)
  n = ws ∷ []

  abbrev pub m : List (List ℕ)
  m = cs ∷ []

  -- ---- a list of structs

  module _ (bs : Bodies) (p to d : ℕ) (h : Slot ws cs base k (rows bs) p to d) where
    abbrev pub ra : ℕ
    ra = kept_words_of_rows bs

    abbrev pub rb : ℕ
    rb = kept_slots_of_rows bs

    abbrev pub span : ℕ
    span = count_rows bs * (ra + rb)

    pub rows-pointer : slice_index cs p ≡ list_to p to Rows span
    unfolding point
    rows-pointer = h.pointer

    pub tag-there : slice_index cs to ≡ word_of (Node (pos (count_rows bs)) ra rb)
    tag-there =
        let z : to + 0 ≡ to = omega arith in
        ap (slice_index cs) (sym z) ∙ h.content 0 (omega arith)

    abbrev pub shape : Shape
    shape = shapes.Rows (count_rows bs) ra rb span

    pub rows-canonical : target m (here p) ≡ Ok (targets.Content 0 to shape 0)
    rows-canonical =
        let o = h.sound in
        let r = h.room in
        let e = h.ends in
        let q = h.order in
        let c = o.0 in
        rows-named cs p to span q (omega arith) o.3 rows-pointer
        ∙ has-room cs to (1 + span) (tagged m 0 to 0 span (slice_index cs to)) (omega arith)
        ∙ tag-named cs to (count_rows bs) ra rb span (slice_index cs to) tag-there (omega arith) o.1 o.2 (omega arith)

    abbrev pub tagged-there : Result Target Fault
    tagged-there = tagged n 0 to 0 span (slice_index ws to)

    pub rows-within : target n (here p) ≡ if_inside n 0 to (1 + span) tagged-there
    rows-within =
        let o = h.sound in
        let r = h.room in
        let e = h.ends in
        rows-named ws p to span h.order (omega arith) o.3 (same p h.before ∙ rows-pointer)

    pub rows-room : to + (1 + span) ≤ length ws
    rows-room =
        let x = found n (here p) (rows bs) h.is in
        (had-room ws to (1 + span) tagged-there x.0 (sym rows-within ∙ x.1)).0

    -- Case: if word `k` is the tag, `Told` holds.
    pub tag-told : k ≤ to → Told ws cs base k (visits m base d (here p))
    tag-told le =
        let s = h.starts in
        let r = rows-room in
        let z : to ≡ k = omega arith in (
          omega arith,
          inr (found-begins cs base k d (here p) finding.Tag (not-there cs base k p (Ok (targets.Content 0 to shape 0))
              (Some finding.Tag)
              h.before rows-canonical (if-yes ((0 == 0) && (to == k)) _ _ (grind (arith, nat_tests))))),
        )

    -- Case: word `k` comes after the tag.
    module _ (lt : to < k) where
      rows-message : target n (here p) ≡ Ok (targets.Content 0 to shape 0)
      rows-message =
          let o = h.sound in
          let c = o.0 in
          rows-within ∙ has-room ws to (1 + span) tagged-there rows-room
          ∙ tag-named ws to (count_rows bs) ra rb span (slice_index ws to) (same to lt ∙ tag-there) (omega arith) o.1
          o.2 (omega arith)

      rows-are : RowsAt n ra rb 0 (to + 1) bs
      rows-are =
          let i = inside-of n (here p) 0 to 0 shape rows-message (rows bs) h.is in
          let f = i.3 in
          let ea : i.0 ≡ ra = cc in
          let eb : i.1 ≡ rb = cc in
          let z : suc to ≡ to + 1 = omega arith in
          subst (λ (x : ℕ). RowsAt n ra rb 0 x bs) z
          (subst (λ (x : ℕ). RowsAt n x rb 0 (suc to) bs) ea
          (subst (λ (y : ℕ). RowsAt n i.0 y 0 (suc to) bs) eb i.4))

      abbrev next-free : ℕ
      next-free = to + 1 + span

      rows-content : Lies cs (to + 1) (row_contents ra rb bs (to + 1) next-free ++ lays_in_rows bs next-free)
      rows-content =
          let u : suc to ≡ to + 1 = omega arith in
          let v : to + (1 + span) ≡ to + 1 + span = omega arith in
          lies-as cs (to + 1) _ _ (ap₂ (λ (x y : ℕ). row_contents ra rb bs x y ++ lays_in_rows bs y) u v)
          (lies-back cs to 1 (word_of (Node (pos (count_rows bs)) ra rb) ∷ []) _ refl h.content)

      rows-length : length (row_contents ra rb bs (to + 1) next-free) ≡ span
      rows-length = length-row_contents ra rb bs (to + 1) next-free h.sound.4

      rows-below : Told ws cs base k (flat_map (visits m base (d - 1)) (row_places 0 (to + 1) ra rb (count_rows bs)))
          → Told ws cs base k (visits m base d (here p))
      rows-below t = let l = h.low in below ws cs base k p d 0 to 0 shape rows-canonical (omega arith) t

      rows-own-told : k < next-free → OwnRows ws cs base k ra rb bs (to + 1) (d - 1)
          → Told ws cs base k (flat_map (visits m base (d - 1)) (row_places 0 (to + 1) ra rb (count_rows bs)))
      rows-own-told u o = let r = rows-room in (omega arith, o)

      rows-told : (RowSlots ws cs base k ra rb bs (to + 1) next-free (d - 1)
          → Told ws cs base k (flat_map (visits m base (d - 1)) (row_places 0 (to + 1) ra rb (count_rows bs))))
          → Told ws cs base k (visits m base d (here p))
      rows-told next = rows-below (from (decided k next-free))
        where
          from : (k < next-free) ⊎ (next-free ≤ k)
              → Told ws cs base k (flat_map (visits m base (d - 1)) (row_places 0 (to + 1) ra rb (count_rows bs)))
          from (inl u) =
              rows-own-told u (rows-own ws cs base k ra rb bs (to + 1) next-free (d - 1) rows-are
              (lies-front cs (to + 1) (row_contents ra rb bs (to + 1) next-free) (lays_in_rows bs next-free)
              rows-content) (omega arith) u)
          from (inr u) =
              let o = h.sound in
              let r = h.room in
              let e = h.ends in
              let l = h.low in
              next (record {
                sound = o.5;
                are = rows-are;
                order = omega arith;
                before = u;
                pointers = lies-front cs (to + 1) (row_contents ra rb bs (to + 1) next-free) (lays_in_rows bs next-free)
                    rows-content;
                contents = lies-back cs (to + 1) span (row_contents ra rb bs (to + 1) next-free)
                    (lays_in_rows bs next-free) rows-length rows-content;
                room = omega arith;
                starts = u;
                ends = omega arith;
                low = omega arith;
              })

  pub tag-or-rows : (bs : Bodies) (p to d : ℕ) (h : Slot ws cs base k (rows bs) p to d) → (to < k) ⊎ (k ≤ to)
      → (RowSlots ws cs base k (ra bs p to d h) (rb bs p to d h) bs (to + 1) (to + 1 + span bs p to d h) (d - 1)
      → Told ws cs base k (flat_map (visits m base (d - 1))
      (row_places 0 (to + 1) (ra bs p to d h) (rb bs p to d h) (count_rows bs))))
      → Told ws cs base k (visits m base d (here p))
  tag-or-rows bs p to d h (inr u) next = tag-told bs p to d h u
  tag-or-rows bs p to d h (inl u) next = rows-told bs p to d h u next
