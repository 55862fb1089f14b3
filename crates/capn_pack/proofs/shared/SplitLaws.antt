-- Lemmas for `splitting`, capn_commands and capn_serve: each text is a row of complete groups and a rest that begins
-- with no group, in exactly one way.
use Rattle.std.proofs.Common.{◌≡◌, ◌⊎◌, inl, inr, ℕ, zero, suc, ◌+◌, ◌*◌, ◌/◌, ◌%◌, ◌^◌, ◌<◌, ◌≤◌, List, [], ◌∷◌}
use Rattle.std.proofs.Common.{◌++◌, length, take, drop, get_or, slice_range, refl, ap, sym, ◌∙◌, arith}
use Rattle.std.proofs.Common.{append_assoc, length-append, length-drop, take-append-drop}
use Rattle.std.proofs.lemmas.Bool.{cases_lt}
use Rattle.std.proofs.lemmas.Bool.Decides.{nat_tests}
use Rattle.std.specs.Prelude.{count_ones}
use Rattle.std.specs.List.{AllByRecursion}
use Rattle.capn_pack.specs.Packed.{Group, IsGroup, group_text, group_bytes, texts, contents, named_bytes, IsNamedBy}
use Rattle.capn_pack.specs.Packed.Group.{Zeros, Named, Raw}
use Rattle.capn_pack.specs.PackedPieces.{Splits, NoGroupFirst}
use Rattle.capn_pack.proofs.shared.GroupLaws.{group_same, no_group}
use Rattle.capn_pack.proofs.shared.GroupLemmas.{raw_is_group, take_first, take_raw_text, take_two, text_some}
use Rattle.capn_pack.proofs.shared.SpreadLemmas.{named_none, named_one, no_ones, ones_half, parity}
use Rattle.capn_pack.proofs.shared.StreamLemmas.{nothing_first, splits_open}

-- ---- a word with given named bytes

-- `word` has `n` bytes. The bytes that `tag` names are the first bytes of `xs`, and all other bytes are zero.
record Word (n tag : ℕ) (xs : List ℕ) : Type 0 where
  word : List ℕ
  size : length word ≡ n
  named : IsNamedBy tag word
  bytes : named_bytes tag word ≡ take (count_ones tag) xs

named_odd : (n tag : ℕ) (xs : List ℕ) → tag % 2 ≡ 1 → count_ones tag ≤ length xs
    → ((ys : List ℕ) → count_ones (tag / 2) ≤ length ys → Word n (tag / 2) ys) → Word (suc n) tag xs
named_odd n tag [] odd room next = absurd (omega (arith, ones_half tag, odd, room))
named_odd n tag (x ∷ xs) odd room next =
    let more : count_ones tag ≡ suc (count_ones (tag / 2)) = omega (arith, ones_half tag, odd) in
    let ih = next xs (omega (arith, more, room)) in
    record {
      word = x ∷ ih.word;
      size = ap suc ih.size;
      named = (λ h. absurd (omega (arith, h, odd)), ih.named);
      bytes = named_one tag x ih.word odd ∙ ap (λ (l : List ℕ). x ∷ l) ih.bytes
          ∙ ap (λ (k : ℕ). take k (x ∷ xs)) (sym more);
    }

named_word : (n tag : ℕ) (xs : List ℕ) → tag < 2 ^ n → count_ones tag ≤ length xs → Word n tag xs
named_word zero tag xs small room =
    let none : tag ≡ 0 = omega arith in
    record {
      word = [];
      size = refl;
      named = tt;
      bytes =
          sym (ap (λ (t : ℕ). take (count_ones t) xs) none ∙ ap (λ (k : ℕ). take k xs) no_ones);
    }
named_word (suc n) tag xs small room = elim (parity tag) [
  | inl even ↦
      (let same : count_ones tag ≡ count_ones (tag / 2) = omega (arith, ones_half tag, even) in
      let ih = named_word n (tag / 2) xs (omega arith) (omega (arith, same, room)) in
      record {
        word = 0 ∷ ih.word;
        size = ap suc ih.size;
        named = (λ h. refl, ih.named);
        bytes = named_none tag 0 ih.word even ∙ ih.bytes ∙ ap (λ (k : ℕ). take k xs) (sym same);
      })
  | inr odd ↦ named_odd n tag xs odd room (λ ys h. named_word n (tag / 2) ys (omega arith) h)
]

-- ---- bytes that begin with a group, and bytes that begin with none

-- `bs` begin with the text of a group
record First (bs : List ℕ) : Type 0 where
  group : Group
  more : List ℕ
  is : IsGroup group
  text_is : bs ≡ group_text group ++ more

-- if the first `n` bytes of `bs` are the text of the group `g`, `bs` begin with a group
first_of : (bs : List ℕ) (n : ℕ) (g : Group) → IsGroup g → take n bs ≡ group_text g → First bs
first_of bs n g is e =
    record {
      group = g;
      more = drop n bs;
      is = is;
      text_is = sym (take-append-drop n bs)
          ∙ ap (λ (l : List ℕ). l ++ drop n bs) e;
    }

-- if `bs` begin with the text of the group `g`, the first byte of `bs` is the tag of `g`
tag_of_first : (bs : List ℕ) (g : Group) (more : List ℕ) → bs ≡ group_text g ++ more
    → get_or bs 0 0 ≡ get_or (group_text g) 0 0
tag_of_first bs (Zeros n) more e = ap (λ (l : List ℕ). get_or l 0 0) e
tag_of_first bs (Named tag word) more e = ap (λ (l : List ℕ). get_or l 0 0) e
tag_of_first bs (Raw word n further) more e = ap (λ (l : List ℕ). get_or l 0 0) e

-- a list whose first number is above 255 begins with no group
no_tag : (bs : List ℕ) → 256 ≤ get_or bs 0 0 → NoGroupFirst bs
no_tag bs great (Zeros n) more is e = let t = tag_of_first bs (Zeros n) more e in absurd (omega (arith, t, great))
no_tag bs great (Named tag word) more is e = let t = tag_of_first bs (Named tag word) more e in
    absurd (omega (arith, t, great, is.1))
no_tag bs great (Raw word n further) more is e = let t = tag_of_first bs (Raw word n further) more e in
    absurd (omega (arith, t, great))

no_zeros : (bs : List ℕ) → get_or bs 0 0 ≡ 0 → 256 ≤ get_or bs 1 0 → NoGroupFirst bs
no_zeros bs tag great (Zeros n) more is e = let c : get_or bs 1 0 ≡ n = ap (λ (l : List ℕ). get_or l 1 0) e in
    absurd (omega (arith, c, great, is))
no_zeros bs tag great (Named t word) more is e = let f = tag_of_first bs (Named t word) more e in
    absurd (omega (arith, f, tag, is.0))
no_zeros bs tag great (Raw word n further) more is e = let f = tag_of_first bs (Raw word n further) more e in
    absurd (omega (arith, f, tag))

no_raw : (bs : List ℕ) → get_or bs 0 0 ≡ 255 → 256 ≤ get_or bs 9 0 → NoGroupFirst bs
no_raw bs tag great (Zeros n) more is e = let f = tag_of_first bs (Zeros n) more e in absurd (omega (arith, f, tag))
no_raw bs tag great (Named t word) more is e = let f = tag_of_first bs (Named t word) more e in
    absurd (omega (arith, f, tag, is.1))
no_raw bs tag great (Raw (a ∷ b ∷ c ∷ d ∷ k ∷ f ∷ g ∷ h ∷ []) n further) more is e =
    let count : get_or bs 9 0 ≡ n = ap (λ (l : List ℕ). get_or l 9 0) e in
    absurd (omega (arith, count, great, is.1))
no_raw bs tag great (Raw _ n further) more is e = absurd (omega (arith, is.0))

zeros_first : (bs : List ℕ) → 0 < length bs → get_or bs 0 0 ≡ 0 → First bs ⊎ NoGroupFirst bs
zeros_first bs some tag = elim (cases_lt (length bs) 2) [
  | inl short ↦ inr (no_group 0 bs (some, inl (grind (arith, nat_tests))))
  | inr long ↦ elim (cases_lt (get_or bs 1 0) 256) [
    | inl small ↦ inl
        (first_of bs 2 (Zeros (get_or bs 1 0)) small (take_two bs long ∙ ap (λ (b : ℕ). b ∷ get_or bs 1 0 ∷ []) tag))
    | inr great ↦ inr (no_zeros bs tag great)
  ]
]

raw_first : (bs : List ℕ) → 0 < length bs → get_or bs 0 0 ≡ 255 → First bs ⊎ NoGroupFirst bs
raw_first bs some tag = elim (cases_lt (get_or bs 9 0) 256) [
  | inl small ↦ elim (cases_lt (length bs) (10 + 8 * get_or bs 9 0)) [
    | inl short ↦ inr (no_group 256 bs (some, inr (rw tag (omega (arith, small), omega (arith, short)))))
    | inr long ↦ inl
        (first_of bs (10 + 8 * get_or bs 9 0)
        (Raw (slice_range bs 1 9) (get_or bs 9 0) (slice_range bs 10 (10 + 8 * get_or bs 9 0)))
        (raw_is_group bs (get_or bs 9 0) long small)
        (take_raw_text bs (get_or bs 9 0) long
        ∙ ap (λ (b : ℕ). b ∷ slice_range bs 1 9 ++ get_or bs 9 0 ∷ slice_range bs 10 (10 + 8 * get_or bs 9 0)) tag))
  ]
  | inr great ↦ inr (no_raw bs tag great)
]

named_first : (bs : List ℕ) → 0 < length bs → 0 < get_or bs 0 0 → get_or bs 0 0 < 255 → First bs ⊎ NoGroupFirst bs
named_first bs some above below =
    let tag : ℕ = get_or bs 0 0 in
    elim (cases_lt (length bs) (1 + count_ones tag)) [
      | inl short ↦ inr (no_group 0 bs (some, inl (grind (arith, nat_tests))))
      | inr long ↦
          (let w = named_word 8 tag (drop 1 bs) (omega arith) (omega (arith, length-drop 1 bs, long)) in
          inl (first_of bs (1 + count_ones tag) (Named tag w.word) (above, below, w.size, w.named)
          (take_first (count_ones tag) bs some ∙ ap (λ (l : List ℕ). tag ∷ l) (sym w.bytes))))
    ]

-- ---- each text is split

-- `bs` are split into some groups and a rest that begins with no group
pub record Split (bs old : List ℕ) : Type 0 where
  pub rest : List ℕ
  pub new : List ℕ
  pub len : ℕ
  pub splits : Splits bs rest old new len

-- if the bytes `bs` are the text of the group `g` and then `more`, and `more` splits, then `bs` split
split_more : (bs old : List ℕ) (g : Group) (more : List ℕ) → IsGroup g → bs ≡ group_text g ++ more
    → Split more (old ++ group_bytes g) → Split bs old
split_more bs old g more is e s = record {
  rest = s.rest;
  new = s.new;
  len = length (group_text g) + s.len;
  splits = record {
    groups = g ∷ s.splits.groups;
    each = (is, s.splits.each);
    text = e ∙ ap (λ (l : List ℕ). group_text g ++ l) s.splits.text
        ∙ sym (append_assoc (group_text g) (texts s.splits.groups) s.rest);
    content = s.splits.content ∙ append_assoc old (group_bytes g) (contents s.splits.groups);
    size = omega (arith, s.splits.size, length-append (group_text g) (texts s.splits.groups));
    open_rest = s.splits.open_rest;
  };
}

split_open : (bs old : List ℕ) → NoGroupFirst bs → Split bs old
split_open bs old none = record { rest = bs; new = old; len = 0; splits = splits_open bs old old none refl }

first_or_none : (bs : List ℕ) → 0 < length bs → First bs ⊎ NoGroupFirst bs
first_or_none bs some = elim (cases_lt 0 (get_or bs 0 0)) [
  | inl above ↦ elim (cases_lt (get_or bs 0 0) 255) [
    | inl below ↦ named_first bs some above below
    | inr top ↦ elim (cases_lt (get_or bs 0 0) 256)
        [ inl small ↦ raw_first bs some (omega (arith, small, top)) | inr great ↦ inr (no_tag bs great) ]
  ]
  | inr none ↦ zeros_first bs some (omega (arith, none))
]

split_all : (n : ℕ) (bs old : List ℕ) → length bs < n → Split bs old
split_all zero bs old short = absurd (omega arith)
split_all (suc n) [] old short = split_open [] old nothing_first
split_all (suc n) (b ∷ bs) old short = elim (first_or_none (b ∷ bs) (omega arith)) [
  | inl f ↦ split_more (b ∷ bs) old f.group f.more f.is f.text_is
      (split_all n f.more (old ++ group_bytes f.group)
      (omega (arith, short, ap length f.text_is, length-append (group_text f.group) f.more, text_some f.group)))
  | inr none ↦ split_open (b ∷ bs) old none
]

-- all bytes `bs` are split into complete groups and a rest that begins with no group
pub splits_all : (bs old : List ℕ) → Split bs old
splits_all bs old = split_all (suc (length bs)) bs old (omega arith)

-- ---- only one way to split

-- for one text, there is at most one row of groups before a rest that begins with no group
pub one_row : (gs hs : List Group) (r s : List ℕ) → AllByRecursion IsGroup gs → AllByRecursion IsGroup hs
    → NoGroupFirst r → NoGroupFirst s → texts gs ++ r ≡ texts hs ++ s → (gs ≡ hs) × (r ≡ s)
one_row [] [] r s f g n m e = (refl, e)
one_row [] (h ∷ hs) r s f g n m e = absurd (n h (texts hs ++ s) g.0 (e ∙ append_assoc (group_text h) (texts hs) s))
one_row (g ∷ gs) [] r s f k n m e = absurd (m g (texts gs ++ r) f.0 (sym e ∙ append_assoc (group_text g) (texts gs) r))
one_row (g ∷ gs) (h ∷ hs) r s f k n m e =
    let same = group_same g h (texts gs ++ r) (texts hs ++ s) f.0 k.0
    (sym (append_assoc (group_text g) (texts gs) r) ∙ e
    ∙ append_assoc (group_text h) (texts hs) s) in
    let ih = one_row gs hs r s f.1 k.1 n m same.1 in
    (rw (same.0, ih.0) refl, ih.1)

-- the bytes `bs` are split in at most one way
pub one_split : (bs r s old new other : List ℕ) (len more : ℕ) → Splits bs r old new len → Splits bs s old other more
    → (r ≡ s) × ((new ≡ other) × (len ≡ more))
one_split bs r s old new other len more f g =
    let same = one_row f.groups g.groups r s f.each g.each f.open_rest g.open_rest (sym f.text ∙ g.text) in (
      same.1,
      (
        f.content ∙ ap (λ (gs : List Group). old ++ contents gs) same.0 ∙ sym g.content,
        omega (arith, f.size, g.size, ap (λ (gs : List Group). length (texts gs)) same.0),
      ),
    )
