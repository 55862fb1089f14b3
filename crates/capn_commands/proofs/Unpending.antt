-- Lemmas on a packed input that is unpacked while it is read. (For `end_pending`, `read_words` and `take_chunk`.)
use Rattle.std.proofs.Common.{◌≡◌, ◌⊎◌, inl, inr, ℕ, ◌+◌, ◌*◌, ◌≤◌, List, [], ◌∷◌, ◌++◌, length, take, drop, refl, ap}
use Rattle.std.proofs.Common.{sym, subst, ◌∙◌, arith, append_assoc, append-nil, length-append, take-append-drop}
use Rattle.std.proofs.Common.{length-take, Bool, true, false, Ok, Vec}
use Rattle.std.proofs.lemmas.Grind.{flat_map-append}
use Rattle.capn_pack.specs.Packed.{Group, group_text, group_bytes, Packs, texts, contents}
use Rattle.capn_pack.specs.UnpackRefusal.{IsCut, IsTooLong, Stands}
use Rattle.capn_pack.specs.WholeGroups.{StandsNext, UnpacksSome}
use Rattle.capn_pack.proofs.shared.GroupLemmas.{count_append, each_append, length_contents}
use Rattle.capn_pack.specs.declared.whole_groups.Next.{Next}
use Rattle.capn_pack.specs.declared.whole_groups.Next.TheVariants as nexts
use Rattle.capn_commands.specs.inner.Pending.{Holds, IsPending}
use Rattle.capn_commands.specs.WholeInput.{Gives}
use Rattle.capn_commands.specs.declared.plan.Whole.TheVariants as wholes

pub begins_pending : (most : ℕ) → Holds most [] [] [] 0 most
begins_pending most = record {
  groups = [];
  each = tt;
  text = refl;
  content = refl;
  offset = refl;
  counted = omega arith;
  begun = inl refl;
}

module _ (most : ℕ) (seen words held piece : List ℕ) (at left : ℕ) (h : Holds most seen words held at left)
    (new : List ℕ) (taken count : ℕ) where
  split : (groups : List Group) → take taken (held ++ piece) ≡ texts groups
      → seen ++ piece ≡ texts (h.groups ++ groups) ++ drop taken (held ++ piece)
  split groups e =
      ap (λ (xs : List ℕ). xs ++ piece) h.text
      ∙ append_assoc (texts h.groups) held piece
      ∙ ap (λ (xs : List ℕ). texts h.groups ++ xs) (sym (take-append-drop taken (held ++ piece)))
      ∙ ap (λ (xs : List ℕ). texts h.groups ++ (xs ++ drop taken (held ++ piece))) e
      ∙ sym (append_assoc (texts h.groups) (texts groups) (drop taken (held ++ piece)))
      ∙ ap (λ (xs : List ℕ). xs ++ drop taken (held ++ piece)) (sym (flat_map-append group_text h.groups groups))

  -- Case: the chunk `piece` ends after a complete group, or in an unfinished group.
  pub goes_on : (next : Next) (rest : List ℕ) (to room : ℕ)
      → UnpacksSome (held ++ piece) left words new taken count next
      → rest ≡ drop taken (held ++ piece) → to ≡ at + taken → room + count ≡ left
      → (rest ≡ []) ⊎ IsCut room rest → Holds most (seen ++ piece) new rest to room
  goes_on next rest to room u is further less begun = record {
    groups = h.groups ++ u.groups;
    each = each_append h.groups u.groups h.each u.each;
    text = split u.groups u.text ∙ ap (λ (xs : List ℕ). texts (h.groups ++ u.groups) ++ xs) (sym is);
    content =
        u.content
        ∙ ap (λ (xs : List ℕ). xs ++ contents u.groups) h.content
        ∙ sym (flat_map-append group_bytes h.groups u.groups);
    offset = omega (
      arith,
      further,
      h.offset,
      u.inside,
      ap length u.text,
      length-take taken (held ++ piece),
      ap length (flat_map-append group_text h.groups u.groups),
      length-append (texts h.groups) (texts u.groups),
    );
    counted = omega (arith, less, h.counted, u.counted, count_append h.groups u.groups);
    begun = begun;
  }

  -- Case: the next group has more than `left` words.
  pub stops_long : (to : ℕ) → UnpacksSome (held ++ piece) left words new taken count nexts.TooLong → to ≡ at + taken
      → Stands IsTooLong (seen ++ piece) most to
  stops_long to u further = record {
    groups = h.groups ++ u.groups;
    rest = drop taken (held ++ piece);
    each = each_append h.groups u.groups h.each u.each;
    text = split u.groups u.text;
    offset = omega (
      arith,
      further,
      h.offset,
      u.inside,
      ap length u.text,
      length-take taken (held ++ piece),
      ap length (flat_map-append group_text h.groups u.groups),
      length-append (texts h.groups) (texts u.groups),
    );
    left = u.left;
    counted = omega (arith, u.fits, h.counted, u.counted, count_append h.groups u.groups);
    fault = u.stops;
  }

-- Case: the input ends after a complete group.
pub all_unpacked : (most : ℕ) (seen words held : List ℕ) (at left : ℕ) → Holds most seen words held at left
    → length held ≡ 0 → Packs seen words × (length words ≤ 8 * most)
all_unpacked most seen words held at left h none = (
  record {
    groups = h.groups;
    each = h.each;
    is_text = h.text ∙ ap (λ (xs : List ℕ). texts h.groups ++ xs) (nothing held none) ∙ append-nil (texts h.groups);
    are_bytes = h.content;
  },
  omega (arith, h.counted, ap length h.content, length_contents h.groups h.each),
)
  where
    nothing : (xs : List ℕ) → length xs ≡ 0 → xs ≡ []
    nothing [] e = refl
    nothing (x ∷ xs) e = absurd (omega (arith, e))

pub ends_whole : {A : Type 0} (most : ℕ) (seen held : List ℕ) (words : Vec ℕ A) (at left : ℕ) (long : Bool)
    → long ≡ false → length held ≡ 0 → IsPending most seen words.items held at left long
    → Gives (wholes.Unpacked most) seen (Ok words)
ends_whole most seen held words at left true e none p = absurd (let bad : true ≡ false = e in cc)
ends_whole most seen held words at left false e none p = all_unpacked most seen words.items held at left p none

-- Case: a chunk `piece` was read, which ends after a complete group or in an unfinished group.
pub taken_piece : (most : ℕ) (seen words held piece : List ℕ) (at left : ℕ) (long : Bool) (new : List ℕ)
    (taken count : ℕ) (next is : Next) (rest : List ℕ) (to room : ℕ) → long ≡ false
    → UnpacksSome (held ++ piece) left words new taken count next → next ≡ is
    → (is ≡ nexts.End) ⊎ (is ≡ nexts.Cut)
    → rest ≡ drop taken (held ++ piece) → to ≡ at + taken → room + count ≡ left
    → IsPending most seen words held at left long → IsPending most (seen ++ piece) new rest to room long
taken_piece most seen words held piece at left true new taken count next is rest to room off u e kind r further less p =
    absurd (let bad : true ≡ false = off in cc)
taken_piece most seen words held piece at left false new taken count next is rest to room off u e kind r further less
    p =
    goes_on most seen words held piece at left p new taken count next rest to room u r further less begun
  where
    same_room : u.left ≡ room
    same_room = omega (arith, u.fits, less)

    begun : (rest ≡ []) ⊎ IsCut room rest
    begun = elim kind [
      | inl end ↦
          (let s : StandsNext nexts.End u.left (drop taken (held ++ piece)) =
          subst (λ (n : Next). StandsNext n u.left (drop taken (held ++ piece))) (e ∙ end) u.stops in
          inl (r ∙ s))
      | inr cut ↦
          (let s : StandsNext nexts.Cut u.left (drop taken (held ++ piece)) =
          subst (λ (n : Next). StandsNext n u.left (drop taken (held ++ piece))) (e ∙ cut) u.stops in
          inr (subst (λ (xs : List ℕ). IsCut room xs) (sym r)
          (subst (λ (n : ℕ). IsCut n (drop taken (held ++ piece))) same_room s.0)))
    ]

-- Case: a chunk `piece` was read, which ends after a complete group.
pub taken_end : (most : ℕ) (seen words held piece : List ℕ) (at left : ℕ) (long : Bool) (new : List ℕ)
    (taken count : ℕ) (next : Next) (to room : ℕ) → long ≡ false
    → UnpacksSome (held ++ piece) left words new taken count next → next ≡ nexts.End
    → to ≡ at + taken → room + count ≡ left
    → IsPending most seen words held at left long → IsPending most (seen ++ piece) new [] to room long
taken_end most seen words held piece at left long new taken count next to room off u e further less p =
    let s : StandsNext nexts.End u.left (drop taken (held ++ piece)) =
    subst (λ (n : Next). StandsNext n u.left (drop taken (held ++ piece))) e u.stops in
    taken_piece most seen words held piece at left long new taken count next nexts.End [] to room off u e (inl refl)
    (sym s) further less p

-- Case: a chunk `piece` was read, and one of its groups has too many words.
pub taken_long : (most : ℕ) (seen words held piece : List ℕ) (at left : ℕ) (long : Bool) (new : List ℕ)
    (taken count : ℕ) (next : Next) (rest : List ℕ) (to room : ℕ) → long ≡ false
    → UnpacksSome (held ++ piece) left words new taken count next → next ≡ nexts.TooLong → to ≡ at + taken
    → IsPending most seen words held at left long → IsPending most (seen ++ piece) new rest to room true
taken_long most seen words held piece at left true new taken count next rest to room off u e further p =
    absurd (let bad : true ≡ false = off in cc)
taken_long most seen words held piece at left false new taken count next rest to room off u e further p =
    stops_long most seen words held piece at left p new taken count to
    (subst (λ (n : Next). UnpacksSome (held ++ piece) left words new taken count n) e u) further
