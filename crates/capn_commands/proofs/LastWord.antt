-- Lemmas for `settled_part`, `unpacked_part` and `zeros_part`: the last word of `bs` determines the kind of the last
-- group of `t`, the packed text of `bs`.
use Rattle.std.proofs.Common.{◌≡◌, ◌≢◌, ◌⊎◌, inl, inr, ℕ, zero, suc, ◌+◌, ◌-◌, ◌*◌, ◌/◌, ◌^◌, ◌<◌, ◌≤◌, List, [], ◌∷◌}
use Rattle.std.proofs.Common.{◌++◌, length, take, drop, replicate, get_or, eqb, false, refl, ap, sym, subst, ◌∙◌, arith}
use Rattle.std.proofs.Common.{append-nil, length-append, length-drop, drop-drop, take_all}
use Rattle.std.proofs.Math.Seq.{drop-append-add, drop-append_seam, take-append_seam}
use Rattle.std.proofs.lemmas.Bool.{cases_lt, ne_eqb}
use Rattle.std.proofs.lemmas.List.{drop-replicate, get_or-drop, length-replicate}
use Rattle.std.proofs.lemmas.Grind.{flat_map-append}
use Rattle.std.specs.List.{AllByRecursion}
use Rattle.capn_pack.specs.Packed.{Group, IsGroup, group_text, group_bytes, group_words, tag_of, texts, contents}
use Rattle.capn_pack.specs.Packed.{word_count}
use Rattle.capn_pack.specs.Packed.Group.{Zeros, Named, Raw}
use Rattle.capn_pack.specs.Chosen.{AllDense, Chosen, IsChoice, IsChosenRow, zero_count}
use Rattle.capn_pack.proofs.shared.ChosenLaws.{chosen_whole}
use Rattle.capn_pack.proofs.shared.GroupLemmas.{length_content, length_contents}
use Rattle.capn_commands.specs.PackRun.{AreOpen, IsSettled, last_word}
use Rattle.capn_commands.proofs.HeldBack.{open_raw, open_zeros}
use Rattle.capn_commands.proofs.Settled.{Last, each_front, row_after, settled_front, settled_whole, words_some}

-- ---- zero bytes and tags

some_first : (x : ℕ) (xs : List ℕ) → (tag_of (suc x ∷ xs) ≡ 1 + 2 * tag_of xs)
    × (zero_count (suc x ∷ xs) ≡ zero_count xs)
some_first x xs =
    let some : eqb (suc x) 0 ≡ false = ne_eqb (suc x) 0 (λ e. absurd (omega arith)) in
    (rw some refl, rw some (omega arith))

few_zeros : (xs : List ℕ) → zero_count xs ≤ length xs
few_zeros [] = omega arith
few_zeros (zero ∷ xs) = omega (arith, few_zeros xs)
few_zeros (suc x ∷ xs) = omega (arith, few_zeros xs, (some_first x xs).1)

pub full_tag : (n : ℕ) (xs : List ℕ) → length xs ≡ n → 1 + tag_of xs ≡ 2 ^ n → zero_count xs ≡ 0
full_tag zero [] size full = refl
full_tag zero (x ∷ xs) size full = absurd (omega (arith, size))
full_tag (suc n) [] size full = refl
full_tag (suc n) (zero ∷ xs) size full = absurd (omega (arith, full))
full_tag (suc n) (suc x ∷ xs) size full =
    let some = some_first x xs in
    some.1 ∙ full_tag n xs (omega (arith, size)) (omega (arith, full, some.0))

zero_tag : (xs : List ℕ) → zero_count xs ≡ length xs → tag_of xs ≡ 0
zero_tag [] all = refl
zero_tag (zero ∷ xs) all = omega (arith, zero_tag xs (omega (arith, all)))
zero_tag (suc x ∷ xs) all = absurd (omega (arith, all, few_zeros xs, (some_first x xs).1))

-- ---- the last word

last_append : (a b : List ℕ) → 8 ≤ length b → last_word (a ++ b) ≡ last_word b
last_append a b long =
    let at : length (a ++ b) - 8 ≡ length a + (length b - 8) = omega (arith, length-append a b, long) in
    ap (λ (k : ℕ). drop k (a ++ b)) at ∙ drop-append-add a b (length b - 8)

last_alone : (word : List ℕ) → length word ≡ 8 → last_word word ≡ word
last_alone word size =
    let at : length word - 8 ≡ 0 = omega (arith, size) in
    ap (λ (k : ℕ). drop k word) at

dense_last : (n : ℕ) (bs : List ℕ) → AllDense (suc n) bs → length bs ≡ 8 * suc n → zero_count (last_word bs) ≤ 1
dense_last zero bs dense long =
    let all : take 8 bs ≡ last_word bs = take_all 8 bs (omega (arith, long))
    ∙ sym (last_alone bs (omega (arith, long))) in
    subst (λ (l : List ℕ). zero_count l ≤ 1) all dense.0.1
dense_last (suc n) bs dense long =
    let size : length (drop 8 bs) ≡ 8 * suc n = omega (arith, long, length-drop 8 bs) in
    let at : 8 + (length (drop 8 bs) - 8) ≡ length bs - 8 = omega (arith, size, long) in
    let all : last_word (drop 8 bs) ≡ last_word bs = drop-drop (length (drop 8 bs) - 8) 8 bs
    ∙ ap (λ (k : ℕ). drop k bs) at in
    subst (λ (l : List ℕ). zero_count l ≤ 1) all (dense_last n (drop 8 bs) dense.1 size)

raw_last : (word : List ℕ) (count : ℕ) (more : List ℕ) → length word ≡ 8 → length more ≡ 8 * count
    → tag_of word ≡ 255 → AllDense count more → zero_count (last_word (word ++ more)) ≤ 1
raw_last word zero more size long full dense =
    let none : zero_count word ≡ 0 = full_tag 8 word size (omega (arith, full)) in
    let all : last_word (word ++ more) ≡ word = ap (λ (l : List ℕ). last_word (word ++ l)) dense
    ∙ ap last_word (append-nil word) ∙ last_alone word size in
    subst (λ (l : List ℕ). zero_count l ≤ 1) (sym all) (omega (arith, none))
raw_last word (suc n) more size long full dense =
    subst (λ (l : List ℕ). zero_count l ≤ 1) (sym (last_append word more (omega (arith, long))))
    (dense_last n more dense long)

zeros_last : (more : ℕ) → zero_count (last_word (group_bytes (Zeros more))) ≡ 8
zeros_last more =
    let size = length-replicate {A = ℕ} (8 * (1 + more)) 0 in
    let at : 8 * (1 + more) - (length (group_bytes (Zeros more)) - 8) ≡ 8 = omega (arith, size) in
    ap zero_count
    (drop-replicate (length (group_bytes (Zeros more)) - 8) (8 * (1 + more)) 0
    ∙ ap (λ (k : ℕ). replicate {A = ℕ} k 0) at)

-- ---- the last group

pub record HasLast (gs : List Group) : Type 0 where
  pub front : List Group
  pub last : Group
  pub whole : gs ≡ front ++ last ∷ []

has_last : (g : Group) (gs : List Group) → HasLast (g ∷ gs)
has_last g [] = record { front = []; last = g; whole = refl }
has_last g (h ∷ gs) =
    let r = has_last h gs in
    record { front = g ∷ r.front; last = r.last; whole = ap (λ (l : List Group). g ∷ l) r.whole }

some_last : (gs : List Group) → 0 < length (contents gs) → HasLast gs
some_last [] some = absurd (omega (arith, some))
some_last (g ∷ gs) some = has_last g gs

-- Facts about `r.last`, the last group of the packed text `t` of `bs`.
module _ (t bs : List ℕ) (count : ℕ) (c : Chosen t bs) (size : length bs ≡ 8 * count) (r : HasLast c.groups) where
  last_row : IsChosenRow (r.front ++ r.last ∷ [])
  last_row = subst IsChosenRow r.whole c.chosen

  front_each : AllByRecursion IsGroup r.front
  front_each = each_front r.front (r.last ∷ []) last_row

  text_whole : t ≡ texts r.front ++ group_text r.last
  text_whole = c.text
      ∙ ap texts r.whole
      ∙ flat_map-append group_text r.front (r.last ∷ [])
      ∙ ap (λ (l : List ℕ). texts r.front ++ l) (append-nil (group_text r.last))

  content_whole : bs ≡ contents r.front ++ group_bytes r.last
  content_whole = c.content
      ∙ ap contents r.whole
      ∙ flat_map-append group_bytes r.front (r.last ∷ [])
      ∙ ap (λ (l : List ℕ). contents r.front ++ l) (append-nil (group_bytes r.last))

  last_is : Last t bs count (length (texts r.front)) (word_count r.front)
  last_is = record {
    groups = r.front;
    last = r.last;
    each = front_each;
    row = last_row;
    front = ap (take (length (texts r.front))) text_whole ∙ take-append_seam (texts r.front) (group_text r.last);
    behind = ap (drop (length (texts r.front))) text_whole ∙ drop-append_seam (texts r.front) (group_text r.last);
    counted = refl;
    words_are = omega (
      arith,
      size,
      ap length content_whole,
      length-append (contents r.front) (group_bytes r.last),
      length_contents r.front front_each,
      length_content r.last (row_after r.front (r.last ∷ []) last_row).0,
    );
    content_is = content_whole;
  }

-- ---- which group is the last

-- The last word of a group may have `nulls` zero bytes. `nulls` is eight for a run of zero words, less than two for a
-- run of raw words, and less than eight for any other group.
abbrev pub EndsBy : Group → ℕ → Type 0
EndsBy (Zeros more) nulls = nulls ≡ 8
EndsBy (Named tag word) nulls = nulls < 8
EndsBy (Raw word count more) nulls = nulls < 2

ends_by : (g : Group) (behind : List ℕ) → IsGroup g → IsChoice g behind
    → EndsBy g (zero_count (last_word (group_bytes g)))
ends_by (Zeros more) behind is choice = zeros_last more
ends_by (Named tag word) behind is choice =
    let all : last_word word ≡ word = last_alone word is.2 in
    elim (cases_lt (zero_count word) 8) [
      | inl less ↦ subst (λ (l : List ℕ). zero_count l < 8) (sym all) less
      | inr none ↦ absurd (omega (
        arith,
        is.0,
        choice,
        zero_tag word (omega (arith, none, few_zeros word, is.2)),
      ))
    ]
ends_by (Raw word count more) behind is choice =
    let few = raw_last word count more is.0 is.2 choice.0 choice.1 in
    omega (arith, few)

full_by : (g : Group) (nulls : ℕ) → IsGroup g → EndsBy g nulls → 2 ≤ nulls → nulls < 8
    → (0 < get_or (group_text g) 0 0) × (get_or (group_text g) 0 0 < 255)
full_by (Zeros more) nulls is kind some few = absurd (omega (arith, kind, few))
full_by (Named tag word) nulls is kind some few = (is.0, is.1)
full_by (Raw word count more) nulls is kind some few = absurd (omega (arith, kind, some))

zeros_by : (g : Group) (nulls : ℕ) → EndsBy g nulls → nulls ≡ 8 → (more : ℕ) × (g ≡ Zeros more)
zeros_by (Zeros more) nulls kind all = (more, refl)
zeros_by (Named tag word) nulls kind all = absurd (omega (arith, kind, all))
zeros_by (Raw word count more) nulls kind all = absurd (omega (arith, kind, all))

pub open_group : (g : Group) (behind : List ℕ) → IsGroup g → IsChoice g behind
    → (get_or (group_text g) 0 0 ≡ 0) ⊎ (get_or (group_text g) 0 0 ≡ 255) → AreOpen (group_bytes g)
open_group (Zeros more) behind is choice tag = open_zeros more (group_bytes (Zeros more)) refl
open_group (Named tag word) behind is choice (inl none) = absurd (omega (arith, is.0, none))
open_group (Named tag word) behind is choice (inr full) = absurd (omega (arith, is.1, full))
open_group (Raw word count more) behind is choice tag =
    let none : zero_count word ≡ 0 = full_tag 8 word is.0 (omega (arith, choice.0)) in
    open_raw word more count (group_bytes (Raw word count more)) (is.0, omega (arith, none)) choice.1 refl

pub open_last : (t bs : List ℕ) (count taken known tag : ℕ) (l : Last t bs count taken known)
    → get_or t taken 0 ≡ tag → (tag ≡ 0) ⊎ (tag ≡ 255) → AreOpen (group_bytes l.last)
open_last t bs count taken known tag l is kind =
    let at : taken + 0 ≡ taken = omega arith in
    let same : get_or (group_text l.last) 0 0 ≡ tag = ap (λ (x : List ℕ). get_or x 0 0) (sym l.behind)
    ∙ get_or-drop taken t 0 0 ∙ ap (λ (k : ℕ). get_or t k 0) at ∙ is in
    let group_is = row_after l.groups (l.last ∷ []) l.row in
    open_group l.last [] group_is.0 group_is.1 (subst (λ (x : ℕ). (x ≡ 0) ⊎ (x ≡ 255)) (sym same) kind)

-- ---- the settled prefix of the packed text

-- `t` ends with a group of `more` + 1 zero words. If `more` is below 255, the text before that group is settled, and
-- otherwise all of `t` is settled.
pub record ZerosEnd (t bs : List ℕ) : Type 0 where
  pub more : ℕ
  pub byte : get_or t (length t - 1) 0 ≡ more
  pub in_text : 2 ≤ length t
  pub in_words : 8 * (1 + more) ≤ length bs
  pub going : more < 255 → IsSettled t bs (length t - 2) (length bs - 8 * (1 + more))
  pub full : more ≡ 255 → IsSettled t bs (length t) (length bs)

module _ (t bs : List ℕ) (count taken known : ℕ) (l : Last t bs count taken known) where
  group_is : IsChosenRow (l.last ∷ [])
  group_is = row_after l.groups (l.last ∷ []) l.row

  word_is : last_word bs ≡ last_word (group_bytes l.last)
  word_is = ap last_word l.content_is
      ∙ last_append (contents l.groups) (group_bytes l.last)
      (omega (arith, length_content l.last group_is.0, words_some l.last))

  kind : EndsBy l.last (zero_count (last_word bs))
  kind =
      subst (λ (w : List ℕ). EndsBy l.last (zero_count w)) (sym word_is) (ends_by l.last [] group_is.0 group_is.1)

  -- Case: the last word is neither zero nor dense. All of `t` is settled.
  named_settled : Chosen t bs → 2 ≤ zero_count (last_word bs) → zero_count (last_word bs) < 8
      → IsSettled t bs (length t) (length bs)
  named_settled c some few =
      settled_whole t bs count taken known l c
      (λ less. subst (λ (x : List ℕ). (0 < get_or x 0 0) × (get_or x 0 0 < 255)) (sym l.behind)
      (full_by l.last (zero_count (last_word bs)) group_is.0 kind some few))

  zeros_end : Chosen t bs → length bs ≡ 8 * count → zero_count (last_word bs) ≡ 8 → ZerosEnd t bs
  zeros_end c size nulls =
      let (more, is) = zeros_by l.last (zero_count (last_word bs)) kind nulls in
      let words_are : known + (1 + more) ≡ count = sym (ap (λ (g : Group). known + group_words g) is) ∙ l.words_are in
      let behind : drop taken t ≡ 0 ∷ more ∷ [] = l.behind ∙ ap group_text is in
      let long : length t - taken ≡ 2 = sym (length-drop taken t) ∙ ap length behind in
      let at : length t - 1 ≡ taken + 1 = omega (arith, long) in
      let first : taken ≡ length t - 2 = omega (arith, long) in
      let front : 8 * known ≡ length bs - 8 * (1 + more) = omega (arith, words_are, size) in
      record {
        more = more;
        byte = ap (λ (k : ℕ). get_or t k 0) at
            ∙ sym (get_or-drop taken t 1 0)
            ∙ ap (λ (x : List ℕ). get_or x 1 0) behind;
        in_text = omega (arith, long);
        in_words = omega (arith, words_are, size);
        going = λ less.
            subst (λ (k : ℕ). IsSettled t bs (length t - 2) k) front
            (subst (λ (k : ℕ). IsSettled t bs k (8 * known)) first
            (settled_front t bs count taken known l size (omega (arith, words_are, less))
            (open_zeros more (group_bytes l.last) (ap group_bytes is))));
        full = λ all.
            settled_whole t bs count taken known l c (λ less. absurd (omega (arith, words_are, less, all)));
      }

-- ---- the settled prefix, derived from the words alone

pub named_text : (t bs : List ℕ) (nulls : ℕ) → Chosen t bs → 8 ≤ length bs → nulls ≡ zero_count (last_word bs)
    → 2 ≤ nulls → nulls ≢ 8 → IsSettled t bs (length t) (length bs)
named_text t bs nulls c some is more other =
    let size : length bs ≡ 8 * (length bs / 8) = omega (arith, chosen_whole t bs c) in
    let r = some_last c.groups (omega (arith, some, ap length c.content)) in
    let few = few_zeros (last_word bs) in
    named_settled t bs (length bs / 8) (length (texts r.front)) (word_count r.front)
    (last_is t bs (length bs / 8) c size r) c (omega (arith, is, more))
    (omega (arith, is, other, few, length-drop (length bs - 8) bs, some))

pub zeros_text : (t bs : List ℕ) → Chosen t bs → 8 ≤ length bs → zero_count (last_word bs) ≡ 8 → ZerosEnd t bs
zeros_text t bs c some nulls =
    let size : length bs ≡ 8 * (length bs / 8) = omega (arith, chosen_whole t bs c) in
    let r = some_last c.groups (omega (arith, some, ap length c.content)) in
    zeros_end t bs (length bs / 8) (length (texts r.front)) (word_count r.front)
    (last_is t bs (length bs / 8) c size r) c size nulls
