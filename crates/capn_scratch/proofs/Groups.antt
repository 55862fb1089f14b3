-- Lemmas on the groups of a packed text, and on the bytes that they unpack to. (For `group.rt` and `unpacked.rt`.)
use Rattle.std.proofs.Common.{◌≡◌, ℕ, ◌+◌, ◌-◌, ◌*◌, ◌<◌, ◌≤◌, inl}
use Rattle.std.proofs.Common.{inr, List, [], ◌∷◌, ◌++◌, length, take, drop, get_or}
use Rattle.std.proofs.Common.{slice_range, refl, sym, ap, ◌∙◌, subst, arith, take-add}
use Rattle.std.proofs.Common.{take-append-drop, length-take, length-drop, take_all}
use Rattle.std.proofs.lemmas.Bool.{cases_eq, ne_eqb, eq-eqb}
use Rattle.std.specs.Prelude.{count_ones}
use Rattle.std.specs.List.{AllByRecursion}
use Rattle.capn_pack.specs.Packed.{Group, IsGroup, group_bytes, Packs, texts, contents, word_count}
use Rattle.capn_pack.specs.Packed.Group.{Zeros, Named, Raw}
use Rattle.capn_pack.specs.UnpackRefusal.{Stands, len_at, words_at}
use Rattle.capn_pack.proofs.shared.GroupLemmas.{contents_more, each_more, length_contents, rest_is}
use Rattle.capn_pack.proofs.shared.GroupLemmas.{byte_of_rest, raw_is_group, take_first}
use Rattle.capn_pack.proofs.shared.GroupLemmas.{take_raw_text, take_two, texts_more, count_more}
use Rattle.capn_scratch.specs.inner.Groups.{Takes}
use Rattle.capn_scratch.proofs.Spread.{spread_from}

-- ---- one group

-- `rest` begins with a group of `taken` bytes that unpacks to `count` words.
abbrev pub Has : List ℕ → ℕ → ℕ → List ℕ → Type 0
Has rest taken count old = (new : List ℕ) × Takes rest taken count old new

zeros_there : (rest old : List ℕ) → 2 ≤ length rest → get_or rest 0 0 ≡ 0 → get_or rest 1 0 < 256
    → Has rest 2 (1 + get_or rest 1 0) old
zeros_there rest old inside tag small = (
  old ++ group_bytes (Zeros (get_or rest 1 0)),
  record {
    group = Zeros (get_or rest 1 0);
    is_group = small;
    within = inside;
    text = take_two rest inside ∙ ap (λ (b : ℕ). b ∷ get_or rest 1 0 ∷ []) tag;
    counted = refl;
    content = refl;
  },
)

raw_there : (rest old : List ℕ) → 10 + 8 * get_or rest 9 0 ≤ length rest → get_or rest 0 0 ≡ 255
    → get_or rest 9 0 < 256 → Has rest (10 + 8 * get_or rest 9 0) (1 + get_or rest 9 0) old
raw_there rest old inside tag small =
    let more : ℕ = get_or rest 9 0 in
    let word : List ℕ = slice_range rest 1 9 in
    let copied : List ℕ = slice_range rest 10 (10 + 8 * more) in (
      old ++ group_bytes (Raw word more copied),
      record {
        group = Raw word more copied;
        is_group = raw_is_group rest more inside small;
        within = inside;
        text = take_raw_text rest more inside ∙ ap (λ (b : ℕ). b ∷ word ++ more ∷ copied) tag;
        counted = refl;
        content = refl;
      },
    )

named_there : (rest old : List ℕ) → 1 + count_ones (get_or rest 0 0) ≤ length rest → 0 < get_or rest 0 0
    → get_or rest 0 0 < 255 → Has rest (1 + count_ones (get_or rest 0 0)) 1 old
named_there rest old inside above below =
    let tag : ℕ = get_or rest 0 0 in
    let s = spread_from 8 tag (drop 1 rest) (omega arith) (omega (arith, length-drop 1 rest)) in (
      old ++ group_bytes (Named tag s.word),
      record {
        group = Named tag s.word;
        is_group = (above, below, s.long, s.named);
        within = inside;
        text = take_first (count_ones tag) rest (omega arith) ∙ ap (λ (xs : List ℕ). tag ∷ xs) (sym s.bytes_are);
        counted = refl;
        content = refl;
      },
    )

-- If `rest` has at least one byte and at least `len_at rest` bytes, `rest` begins with a complete group.
pub group_there : (rest old : List ℕ) (taken count : ℕ) → ((i : ℕ) → get_or rest i 0 < 256) → taken ≡ len_at rest
    → count ≡ words_at rest → 0 < length rest → taken ≤ length rest → Has rest taken count old
group_there rest old taken count below size many some inside =
    let tag : ℕ = get_or rest 0 0 in
    elim (cases_eq tag 0) [
      | inl zero ↦
          (let bytes : taken ≡ 2 =
          size ∙ rw (eq-eqb tag 0 zero, ne_eqb tag 255 (λ e. absurd (omega (arith, e, zero)))) refl in
          let number : count ≡ 1 + get_or rest 1 0 = many ∙ rw (eq-eqb tag 0 zero) refl in
          let h = zeros_there rest old (omega (arith, bytes, inside)) zero (below 1) in
          subst (λ (n : ℕ). Has rest n count old) (sym bytes) (subst (λ (n : ℕ). Has rest 2 n old) (sym number) h))
      | inr other ↦
          elim (cases_eq tag 255) [
            | inl raw ↦
                (let bytes : taken ≡ 10 + 8 * get_or rest 9 0 = size ∙ rw (eq-eqb tag 255 raw) refl in
                let number : count ≡ 1 + get_or rest 9 0 =
                many ∙ rw (ne_eqb tag 0 other, eq-eqb tag 255 raw) refl in
                let h = raw_there rest old (omega (arith, bytes, inside)) raw (below 9) in
                subst (λ (n : ℕ). Has rest n count old) (sym bytes)
                (subst (λ (n : ℕ). Has rest (10 + 8 * get_or rest 9 0) n old) (sym number) h))
            | inr named ↦
                (let bytes : taken ≡ 1 + count_ones tag =
                size ∙ rw (ne_eqb tag 0 other, ne_eqb tag 255 named) refl in
                let number : count ≡ 1 = many ∙ rw (ne_eqb tag 0 other, ne_eqb tag 255 named) refl in
                let h = named_there rest old (omega (arith, bytes, inside)) (omega (arith, other))
                (omega (arith, named, below 0)) in
                subst (λ (n : ℕ). Has rest n count old) (sym bytes)
                (subst (λ (n : ℕ). Has rest (1 + count_ones tag) n old) (sym number) h))
          ]
    ]

pub byte_below : (bytes : List ℕ) (at : ℕ) → ((k : ℕ) → get_or bytes k 0 < 256) → (i : ℕ)
    → get_or (slice_range bytes at (length bytes)) i 0 < 256
byte_below bytes at below i = byte_of_rest bytes at i below

-- ---- groups one after another

-- The first `at` bytes of `bytes` are groups that unpack to `out`. The number of words of the groups plus `room` is
-- `max`.
pub record Unpacked (bytes : List ℕ) (at : ℕ) (out : List ℕ) (room max : ℕ) : Type 0 where
  pub groups : List Group
  pub each : AllByRecursion IsGroup groups
  pub within : at ≤ length bytes
  pub text : take at bytes ≡ texts groups
  pub content : out ≡ contents groups
  pub counted : word_count groups + room ≡ max

pub unpacked_none : (bytes : List ℕ) (max : ℕ) → Unpacked bytes 0 [] max max
unpacked_none bytes max =
    record { groups = []; each = tt; within = omega arith; text = refl; content = refl; counted = omega arith }

pub unpacked_more : (bytes : List ℕ) (at : ℕ) (out : List ℕ) (room max taken count : ℕ) (new : List ℕ)
    → Unpacked bytes at out room max → Takes (slice_range bytes at (length bytes)) taken count out new → count ≤ room
    → Unpacked bytes (at + taken) new (room - count) max
unpacked_more bytes at out room max taken count new u t fits =
    let rest = rest_is bytes at in
    record {
      groups = u.groups ++ t.group ∷ [];
      each = each_more u.groups t.group u.each t.is_group;
      within = omega (arith, t.within, ap length rest, length-drop at bytes, u.within);
      text = take-add at taken bytes ∙ ap (λ l. l ++ take taken (drop at bytes)) u.text
          ∙ ap (λ l. texts u.groups ++ l) (ap (take taken) (sym rest) ∙ t.text) ∙ sym (texts_more u.groups t.group);
      content = t.content ∙ ap (λ l. l ++ group_bytes t.group) u.content ∙ sym (contents_more u.groups t.group);
      counted = omega (arith, u.counted, t.counted, fits, count_more u.groups t.group);
    }

pub unpacked_length : (bytes : List ℕ) (at : ℕ) (out : List ℕ) (room max : ℕ) → Unpacked bytes at out room max
    → length out + 8 * room ≡ 8 * max
unpacked_length bytes at out room max u = omega (arith, u.counted, ap length u.content, length_contents u.groups u.each)

-- If the groups in the first `at` bytes of `bytes` unpack to `out`, and `bytes` end at `at`, `bytes` unpack to `out`.
pub unpacked_all : (bytes : List ℕ) (at : ℕ) (out : List ℕ) (room max : ℕ) → Unpacked bytes at out room max
    → length bytes ≤ at → Packs bytes out
unpacked_all bytes at out room max u end = record {
  groups = u.groups;
  each = u.each;
  is_text = sym (take_all at bytes end) ∙ u.text;
  are_bytes = u.content;
}

-- A fault `Q` of the group at `at` is a fault of `bytes` at the offset `at` (`Stands`).
pub stands : (Q : ℕ → List ℕ → Type 0) (bytes : List ℕ) (at : ℕ) (out : List ℕ) (room max : ℕ)
    → Unpacked bytes at out room max → Q room (slice_range bytes at (length bytes)) → Stands Q bytes max at
stands Q bytes at out room max u q = record {
  groups = u.groups;
  rest = drop at bytes;
  each = u.each;
  text = sym (take-append-drop at bytes) ∙ ap (λ l. l ++ drop at bytes) u.text;
  offset = omega (arith, ap length u.text, length-take at bytes, u.within);
  left = room;
  counted = omega (arith, u.counted);
  fault = subst (Q room) (rest_is bytes at) q;
}
