-- Lemmas for `settle`, `settled_part` and `unpacked_part`: the prefix of a packed text that no later word changes.
use Rattle.std.proofs.Common.{◌≡◌, inl, inr, ℕ, ◌+◌, ◌-◌, ◌*◌, ◌/◌, ◌<◌, ◌≤◌, List, [], ◌∷◌}
use Rattle.std.proofs.Common.{◌++◌, length, take, drop, get_or, refl, ap, sym, subst, ◌∙◌, arith}
use Rattle.std.proofs.Common.{append-nil, append_assoc, length-append, length-drop, length-take-le, take-append-drop}
use Rattle.std.specs.Prelude.{⊤}
use Rattle.std.proofs.Math.Seq.{drop-append_seam, take-append-add, take-length}
use Rattle.std.proofs.lemmas.List.{drop-append-le, drop_all, get_or-drop, take-append-le}
use Rattle.std.proofs.lemmas.Bool.{cases_lt}
use Rattle.std.proofs.lemmas.Grind.{flat_map-append}
use Rattle.std.specs.List.{AllByRecursion}
use Rattle.capn_pack.specs.Packed.{Group, IsGroup, group_text, group_bytes, group_words, texts, contents, word_count}
use Rattle.capn_pack.specs.Packed.Group.{Zeros, Named, Raw}
use Rattle.capn_pack.specs.Chosen.{AllDense, Chosen, IsChoice, IsChosenRow, IsDense}
use Rattle.capn_pack.specs.WholeGroups.{StandsNext, UnpacksSome}
use Rattle.capn_pack.specs.declared.whole_groups.Next.{Next}
use Rattle.capn_pack.specs.declared.whole_groups.Next.TheVariants as nexts
use Rattle.capn_pack.proofs.shared.ChosenLaws.{chosen_whole}
use Rattle.capn_pack.proofs.shared.GroupLaws.{goes_on, head_of, no_group}
use Rattle.capn_pack.proofs.shared.GroupLemmas.{count_append, length_content, length_contents, text_some}
use Rattle.capn_commands.specs.PackRun.{AreOpen, IsSettled, MayGoOn, Settles, most_held, whole_of}
use Rattle.capn_commands.proofs.HeldBack.{open_more, open_none}

-- ---- complete words

pub whole_after : (front bytes : List ℕ) (n : ℕ) → length front ≡ 8 * n
    → whole_of (front ++ bytes) ≡ front ++ whole_of bytes
whole_after front bytes n size =
    let count : length (front ++ bytes) / 8 * 8 ≡ length front + length bytes / 8 * 8 =
    omega (arith, size, length-append front bytes) in
    ap (λ (k : ℕ). take k (front ++ bytes)) count ∙ take-append-add front bytes (length bytes / 8 * 8)

-- ---- the words after a group

choice_longer : (g : Group) (a b : List ℕ) → 8 ≤ length a → IsChoice g a → IsChoice g (a ++ b)
choice_longer (Zeros more) a b long c = λ less e. c less (sym (take-append-le 8 a b long) ∙ e)
choice_longer (Named tag word) a b long c = c
choice_longer (Raw word count more) a b long c =
    (c.0, c.1, λ less dense. c.2 less (subst IsDense (take-append-le 8 a b long) dense))

-- No later word changes the group: it is a run of 256 words, or no run.
abbrev pub IsFull : Group → Type 0
IsFull (Zeros more) = more ≡ 255
IsFull (Named tag word) = ⊤
IsFull (Raw word count more) = count ≡ 255

choice_full : (g : Group) (a b : List ℕ) → IsFull g → IsChoice g a → IsChoice g b
choice_full (Zeros more) a b full c = λ less e. absurd (omega (arith, full, less))
choice_full (Named tag word) a b full c = c
choice_full (Raw word count more) a b full c = (c.0, c.1, λ less dense. absurd (omega (arith, full, less)))

row_join : (gs us vs : List Group) (more : List ℕ) → IsChosenRow (gs ++ us) → contents vs ≡ contents us ++ more
    → 8 ≤ length (contents us) → IsChosenRow vs → IsChosenRow (gs ++ vs)
row_join [] us vs more row same long next = next
row_join (g ∷ gs) us vs more row same long next =
    let front : contents (gs ++ us) ++ more ≡ contents (gs ++ vs) =
    ap (λ (l : List ℕ). l ++ more) (flat_map-append group_bytes gs us)
    ∙ append_assoc (contents gs) (contents us) more
    ∙ ap (λ (l : List ℕ). contents gs ++ l) (sym same)
    ∙ sym (flat_map-append group_bytes gs vs) in
    let size : 8 ≤ length (contents (gs ++ us)) =
    omega (arith, long, ap length (flat_map-append group_bytes gs us), length-append (contents gs) (contents us)) in (
      row.0,
      subst (IsChoice g) front (choice_longer g (contents (gs ++ us)) more size row.1),
      row_join gs us vs more row.2 same long next,
    )

pub row_after : (gs us : List Group) → IsChosenRow (gs ++ us) → IsChosenRow us
row_after [] us row = row
row_after (g ∷ gs) us row = row_after gs us row.2

pub words_some : (g : Group) → 1 ≤ group_words g
words_some (Zeros more) = omega arith
words_some (Named tag word) = omega arith
words_some (Raw word count more) = omega arith

row_full : (gs : List Group) (h : Group) (vs : List Group) → IsFull h → IsChosenRow (gs ++ h ∷ []) → IsChosenRow vs
    → IsChosenRow (gs ++ h ∷ vs)
row_full gs h vs full row next =
    let last = row_after gs (h ∷ []) row in
    let same : contents (h ∷ vs) ≡ contents (h ∷ []) ++ contents vs =
    ap (λ (l : List ℕ). l ++ contents vs) (sym (append-nil (group_bytes h))) in
    let size : 8 ≤ length (contents (h ∷ [])) =
    omega (arith, length_content h last.0, length-append (group_bytes h) [], words_some h) in
    row_join gs (h ∷ []) (h ∷ vs) (contents vs) row same size (last.0, choice_full h [] (contents vs) full last.1, next)

-- ---- the settled text of a row of groups

each_of : (gs : List Group) → IsChosenRow gs → AllByRecursion IsGroup gs
each_of [] row = tt
each_of (g ∷ gs) row = (row.0, each_of gs row.2)

pub each_front : (gs us : List Group) → IsChosenRow (gs ++ us) → AllByRecursion IsGroup gs
each_front [] us row = tt
each_front (g ∷ gs) us row = (row.0, each_front gs us row.2)

settles_row : (gs : List Group) (rest : List ℕ) → AllByRecursion IsGroup gs
    → ((next : List ℕ) (vs : List Group) → contents vs ≡ whole_of (rest ++ next) → IsChosenRow vs
    → IsChosenRow (gs ++ vs)) → Settles (contents gs ++ rest) (texts gs) rest
settles_row gs rest each law = record {
  settled = λ next t c. record {
    groups = gs ++ c.groups;
    chosen = law next c.groups (sym c.content) c.chosen;
    text = ap (λ (l : List ℕ). texts gs ++ l) c.text ∙ sym (flat_map-append group_text gs c.groups);
    content =
        ap whole_of (append_assoc (contents gs) rest next)
        ∙ whole_after (contents gs) (rest ++ next) (word_count gs) (length_contents gs each)
        ∙ ap (λ (l : List ℕ). contents gs ++ l) c.content
        ∙ sym (flat_map-append group_bytes gs c.groups);
  };
}

-- If the packer may choose `gs` and then `h`, `Settles` holds for the text of `gs`.
settles_front : (gs : List Group) (h : Group) (more : List ℕ) → AllByRecursion IsGroup gs → IsChosenRow (gs ++ h ∷ [])
    → Settles (contents gs ++ (group_bytes h ++ more)) (texts gs) (group_bytes h ++ more)
settles_front gs h more each row =
    let last = row_after gs (h ∷ []) row in
    let size : length (group_bytes h) ≡ 8 * group_words h = length_content h last.0 in
    let long : 8 ≤ length (contents (h ∷ [])) = omega (arith, size, length-append (group_bytes h) [], words_some h) in
    settles_row gs (group_bytes h ++ more) each
    (λ next vs e rows. row_join gs (h ∷ []) vs (whole_of (more ++ next)) row
    (e
    ∙ ap whole_of (append_assoc (group_bytes h) more next)
    ∙ whole_after (group_bytes h) (more ++ next) (group_words h) size
    ∙ ap (λ (l : List ℕ). l ++ whole_of (more ++ next)) (sym (append-nil (group_bytes h)))) long rows)

-- If the packer may choose `gs` and then `h`, and `h` is full, `Settles` holds for the text of `gs` and `h`.
settles_all : (gs : List Group) (h : Group) (more : List ℕ) → IsFull h → IsChosenRow (gs ++ h ∷ [])
    → Settles (contents (gs ++ h ∷ []) ++ more) (texts (gs ++ h ∷ [])) more
settles_all gs h more full row =
    settles_row (gs ++ h ∷ []) more (each_of (gs ++ h ∷ []) row)
    (λ next vs e rows. subst IsChosenRow (sym (append_assoc gs (h ∷ []) vs)) (row_full gs h vs full row rows))

-- ---- the last group of a text

-- The first `taken` bytes of `text_of` are the text of `groups`, and `last` is the only group after them.
pub record Last (text_of words_of : List ℕ) (count taken known : ℕ) : Type 0 where
  pub groups : List Group
  pub last : Group
  pub each : AllByRecursion IsGroup groups
  pub row : IsChosenRow (groups ++ last ∷ [])
  pub front : take taken text_of ≡ texts groups
  pub behind : drop taken text_of ≡ group_text last
  pub counted : word_count groups ≡ known
  pub words_are : known + group_words last ≡ count
  pub content_is : words_of ≡ contents groups ++ group_bytes last

one_left : (next : Next) (left : ℕ) (h : Group) (more : List ℕ) → IsGroup h → group_words h ≤ left
    → StandsNext next left (group_text h ++ more) → ⊥
one_left nexts.End left h more is fits none =
    omega (arith, ap length none, text_some h, length-append (group_text h) more)
one_left nexts.Cut left h more is fits (cut, short) = no_group left (group_text h ++ more) cut h more is refl
one_left nexts.TooLong left h more is fits long = omega (arith, long.2, (head_of h more is).count, fits)

module _ (t bs : List ℕ) (count taken known : ℕ) (old new : List ℕ) (next : Next) (c : Chosen t bs)
    (size : length bs ≡ 8 * count) (some : 0 < count) (u : UnpacksSome t (count - 1) old new taken known next) where
  split_of : t ≡ texts u.groups ++ drop taken t
  split_of = sym (take-append-drop taken t) ∙ ap (λ (l : List ℕ). l ++ drop taken t) u.text

  words_all : (us : List Group) → us ≡ c.groups → word_count us ≡ count
  words_all us same =
      let long : length bs ≡ 8 * word_count c.groups = ap length c.content
      ∙ length_contents c.groups (each_of c.groups c.chosen) in
      ap word_count same ∙ omega (arith, long, size)

  last_among : (more : List Group) → c.groups ≡ u.groups ++ more → AllByRecursion IsGroup more
      → drop taken t ≡ texts more → Last t bs count taken known
  last_among [] whole each is =
      let all : word_count u.groups + 0 ≡ count = sym (count_append u.groups [])
      ∙ words_all (u.groups ++ []) (sym whole) in
      absurd (omega (arith, all, u.counted, u.fits, some))
  last_among (h ∷ []) whole each is = record {
    groups = u.groups;
    last = h;
    each = u.each;
    row = subst IsChosenRow whole c.chosen;
    front = u.text;
    behind = is ∙ append-nil (group_text h);
    counted = sym u.counted;
    words_are =
        let all : word_count u.groups + (group_words h + 0) ≡ count = sym (count_append u.groups (h ∷ []))
        ∙ words_all (u.groups ++ h ∷ []) (sym whole) in
        omega (arith, all, u.counted);
    content_is = c.content ∙ ap contents whole ∙ flat_map-append group_bytes u.groups (h ∷ [])
        ∙ ap (λ (l : List ℕ). contents u.groups ++ l) (append-nil (group_bytes h));
  }
  last_among (h ∷ k ∷ ks) whole each is =
      let all : word_count u.groups + (group_words h + (group_words k + word_count ks)) ≡ count =
      sym (count_append u.groups (h ∷ k ∷ ks)) ∙ words_all (u.groups ++ h ∷ k ∷ ks) (sym whole) in
      absurd
      (one_left next u.left h (texts (k ∷ ks)) each.0 (omega (arith, all, u.counted, u.fits, words_some k))
      (subst (StandsNext next u.left) is u.stops))

  pub last_group : Last t bs count taken known
  last_group =
      let r = goes_on c.groups u.groups (drop taken t) (each_of c.groups c.chosen) u.each (sym c.text ∙ split_of) in
      last_among r.more r.whole r.each r.text

-- ---- the settled prefix

no_bytes : (bs : List ℕ) → length bs ≡ 0 → bs ≡ []
no_bytes [] none = refl
no_bytes (b ∷ bs) none = absurd (omega (arith, none))

-- Case: `bs` is less than one word, and nothing is settled.
pub settled_none : (t bs : List ℕ) → Chosen t bs → length bs < 8 → IsSettled t bs 0 0
settled_none t bs c less = record {
  inside = omega arith;
  settled = λ more. record { settled = λ next s c. c };
  short = omega (arith, less);
  open_words = open_none bs (no_bytes bs (omega (arith, chosen_whole t bs c, less)));
}

module _ (t bs : List ℕ) (count taken known : ℕ) (l : Last t bs count taken known) where
  pub last_inside : taken < length t
  last_inside = omega (arith, ap length l.behind, length-drop taken t, text_some l.last)

  front_size : length (contents l.groups) ≡ 8 * known
  front_size = length_contents l.groups l.each ∙ ap (λ (k : ℕ). 8 * k) l.counted

  rest_of : drop (8 * known) bs ≡ group_bytes l.last
  rest_of = ap (drop (8 * known)) l.content_is
      ∙ ap (λ (k : ℕ). drop k (contents l.groups ++ group_bytes l.last)) (sym front_size)
      ∙ drop-append_seam (contents l.groups) (group_bytes l.last)

  -- Case: the last group is a run that may continue.
  pub settled_front : length bs ≡ 8 * count → count - known < 256 → AreOpen (group_bytes l.last)
      → IsSettled t bs taken (8 * known)
  settled_front size less is_open = record {
    inside = omega (arith, size, l.words_are);
    settled = λ more.
        let law = settles_front l.groups l.last more l.each l.row in
        subst (λ (first : List ℕ). Settles (bs ++ more) first (drop (8 * known) bs ++ more)) (sym l.front)
        (subst (λ (rest : List ℕ). Settles (bs ++ more) (texts l.groups) (rest ++ more)) (sym rest_of)
        (subst (λ (all : List ℕ). Settles all (texts l.groups) (group_bytes l.last ++ more))
        (sym (ap (λ (x : List ℕ). x ++ more) l.content_is ∙ append_assoc (contents l.groups) (group_bytes l.last) more))
        law));
    short = omega (arith, size, l.words_are, less);
    open_words = subst AreOpen (sym rest_of) is_open;
  }

  full_last : (h : Group) → IsGroup h
      → (group_words h < 256 → (0 < get_or (group_text h) 0 0) × (get_or (group_text h) 0 0 < 255))
      → IsFull h
  full_last (Zeros more) is closed = elim (cases_lt (1 + more) 256) [
    | inl less ↦ absurd (let c = closed less in omega (arith, c.0))
    | inr all ↦ omega (arith, is, all)
  ]
  full_last (Named tag word) is closed = tt
  full_last (Raw word n more) is closed = elim (cases_lt (1 + n) 256) [
    | inl less ↦ absurd (let c = closed less in omega (arith, c.1))
    | inr all ↦ omega (arith, is.1, all)
  ]

  pub settled_whole : Chosen t bs → (count - known < 256 → (0 < get_or (drop taken t) 0 0)
      × (get_or (drop taken t) 0 0 < 255)) → IsSettled t bs (length t) (length bs)
  settled_whole c closed =
      let rows = l.groups ++ l.last ∷ [] in
      let is = (row_after l.groups (l.last ∷ []) l.row).0 in
      let full : IsFull l.last = full_last l.last is
      (λ less. subst (λ (x : List ℕ). (0 < get_or x 0 0) × (get_or x 0 0 < 255)) l.behind
      (closed (omega (arith, l.words_are, less)))) in
      let all : bs ≡ contents rows = l.content_is
      ∙ ap (λ (x : List ℕ). contents l.groups ++ x) (sym (append-nil (group_bytes l.last)))
      ∙ sym (flat_map-append group_bytes l.groups (l.last ∷ [])) in
      let text_is : t ≡ texts rows = sym (take-append-drop taken t) ∙ (λ i. l.front i ++ l.behind i)
      ∙ ap (λ (x : List ℕ). texts l.groups ++ x) (sym (append-nil (group_text l.last)))
      ∙ sym (flat_map-append group_text l.groups (l.last ∷ [])) in
      record {
        inside = omega arith;
        settled = λ more.
            let law = settles_all l.groups l.last more full l.row in
            subst (λ (first : List ℕ). Settles (bs ++ more) first (drop (length bs) bs ++ more)) (sym (take-length t))
            (subst (λ (rest : List ℕ). Settles (bs ++ more) t (rest ++ more))
            (sym (drop_all (length bs) bs (omega arith)))
            (subst (λ (x : List ℕ). Settles (bs ++ more) x more) (sym text_is)
            (subst (λ (x : List ℕ). Settles (x ++ more) (texts rows) more) (sym all) law)));
        short = omega arith;
        open_words = open_none (drop (length bs) bs) (drop_all (length bs) bs (omega arith));
      }

-- Case: the tag at `taken` shows that the last group is full. All of `t` is settled.
pub settled_tag : (t bs : List ℕ) (count taken known tag : ℕ) → Last t bs count taken known → Chosen t bs
    → get_or t taken 0 ≡ tag → (count - known < 256 → (0 < tag) × (tag < 255)) → IsSettled t bs (length t) (length bs)
settled_tag t bs count taken known tag l c is closed =
    let at : taken + 0 ≡ taken = omega arith in
    let same : get_or (drop taken t) 0 0 ≡ tag = get_or-drop taken t 0 0 ∙ ap (λ (k : ℕ). get_or t k 0) at ∙ is in
    settled_whole t bs count taken known l c (λ less. subst (λ (x : ℕ). (0 < x) × (x < 255)) (sym same) (closed less))

-- If at most `length bs / 8 - 1` words may be unpacked from `t`, all groups of `t` but the last are unpacked.
pub last_of : (t bs : List ℕ) (taken known : ℕ) (old new : List ℕ) (next : Next) → Chosen t bs → 8 ≤ length bs
    → UnpacksSome t (length bs / 8 - 1) old new taken known next → Last t bs (length bs / 8) taken known
last_of t bs taken known old new next c some u =
    last_group t bs (length bs / 8) taken known old new next c (omega (arith, chosen_whole t bs c))
    (omega (arith, some)) u

-- ---- the bytes `held`

dense_behind : (held : List ℕ) (cut whole : ℕ) → cut ≤ whole → whole ≤ length held
    → drop cut held ≡ drop cut (take whole held) ++ drop whole held
dense_behind held cut whole before inside =
    ap (drop cut) (sym (take-append-drop whole held))
    ∙ drop-append-le cut (take whole held) (drop whole held) (omega (arith, before, length-take-le whole held inside))

-- If `take first t` is settled for the words `take cut held`, then `take first t` is also settled for all of `held`.
-- `rest_of`, the bytes that are left, has fewer than `most_held` bytes, and `MayGoOn` holds for `rest_of`.
pub settled_held : (held t first_of rest_of : List ℕ) (cut whole first at n : ℕ)
    → IsSettled t (take cut held) first at → length held < length (take cut held) + 2048 → first_of ≡ take first t
    → rest_of ≡ drop at held → cut ≤ whole → whole ≤ length held → length held < whole + 8
    → AllDense n (drop cut (take whole held))
    → Settles held first_of rest_of × (length rest_of < most_held) × MayGoOn rest_of
settled_held held t first_of rest_of cut whole first at n s long text_is rest_is before inside near dense =
    let all : take cut held ++ drop cut held ≡ held = take-append-drop cut held in
    let behind : drop at (take cut held) ++ drop cut held ≡ rest_of =
    sym (drop-append-le at (take cut held) (drop cut held) s.inside) ∙ ap (drop at) all ∙ sym rest_is in
    let law = s.settled (drop cut held) in (
      subst (λ (l : List ℕ). Settles held l rest_of) (sym text_is)
          (subst (λ (l : List ℕ). Settles held (take first t) l) behind
          (subst (λ (l : List ℕ). Settles l (take first t) (drop at (take cut held) ++ drop cut held)) all law)),
      omega (arith, s.short, long, ap length rest_is, length-drop at held),
      record {
        words = drop at (take cut held) ++ drop cut (take whole held);
        tail = drop whole held;
        is =
            sym behind
            ∙ ap (λ (l : List ℕ). drop at (take cut held) ++ l) (dense_behind held cut whole before inside)
            ∙ sym (append_assoc (drop at (take cut held)) (drop cut (take whole held)) (drop whole held));
        open_words = open_more (drop at (take cut held)) (drop cut (take whole held)) n s.open_words dense;
        short = omega (arith, near, length-drop whole held);
      },
    )
