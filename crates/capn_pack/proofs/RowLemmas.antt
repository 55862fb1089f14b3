-- Lemmas for `text_piece.rt`, `unpack_block.rt` and `unpacked_words.rt`: rows of groups at the front of some bytes.
use Rattle.std.proofs.Common.{◌≡◌, ℕ, ◌+◌, ◌-◌, ◌*◌, ◌≤◌, List, [], ◌∷◌, ◌++◌, length, take, drop, slice_range}
use Rattle.std.proofs.Common.{sym, ap, ◌∙◌, subst, arith, append_assoc, length-append, take-add, take-append-drop}
use Rattle.std.proofs.Common.{length-take, length-drop, take_all}
use Rattle.std.proofs.lemmas.Grind.{flat_map-append}
use Rattle.capn_pack.specs.Packed.{group_text, group_bytes, Packs, texts, contents, word_count}
use Rattle.capn_pack.specs.UnpackRefusal.{Stands}
use Rattle.capn_pack.specs.inner.Steps.{Takes, TakesRow}
use Rattle.capn_pack.proofs.shared.GroupLemmas.{texts_more, contents_more, each_more, rest_is, length_content}
use Rattle.capn_pack.proofs.shared.GroupLemmas.{length_contents, each_append}

-- `TakesRow` still holds after one more group
pub row_more : (bytes : List ℕ) (at : ℕ) (old out : List ℕ) (room taken count : ℕ) (new : List ℕ)
    → TakesRow bytes at old out → Takes (slice_range bytes at (length bytes)) room taken count out new
    → TakesRow bytes (at + taken) old new
row_more bytes at old out room taken count new u t =
    let rest = rest_is bytes at in
    record {
      groups = u.groups ++ t.group ∷ [];
      each = each_more u.groups t.group u.each t.is_group;
      within = omega (arith, t.within, ap length rest, length-drop at bytes, u.within);
      text = take-add at taken bytes ∙ ap (λ l. l ++ take taken (drop at bytes)) u.text
          ∙ ap (λ l. texts u.groups ++ l) (ap (take taken) (sym rest) ∙ t.text) ∙ sym (texts_more u.groups t.group);
      content = t.content ∙ ap (λ l. l ++ group_bytes t.group) u.content
          ∙ append_assoc old (contents u.groups) (group_bytes t.group)
          ∙ ap (λ l. old ++ l) (sym (contents_more u.groups t.group));
    }

pub row_next : (bytes : List ℕ) (at next : ℕ) (old out : List ℕ) (room count : ℕ) (new : List ℕ) → at ≤ next
    → TakesRow bytes at old out → Takes (slice_range bytes at (length bytes)) room (next - at) count out new
    → TakesRow bytes next old new
row_next bytes at next old out room count new forward u t =
    let sum : at + (next - at) ≡ next = omega arith in
    subst (λ n. TakesRow bytes n old new) sum (row_more bytes at old out room (next - at) count new u t)

-- `TakesRow` still holds after another row of groups
pub row_join : (bytes : List ℕ) (at : ℕ) (old out : List ℕ) (taken : ℕ) (new : List ℕ) → TakesRow bytes at old out
    → TakesRow (slice_range bytes at (length bytes)) taken out new → TakesRow bytes (at + taken) old new
row_join bytes at old out taken new u t =
    let rest = rest_is bytes at in
    record {
      groups = u.groups ++ t.groups;
      each = each_append u.groups t.groups u.each t.each;
      within = omega (arith, t.within, ap length rest, length-drop at bytes, u.within);
      text = take-add at taken bytes ∙ ap (λ l. l ++ take taken (drop at bytes)) u.text
          ∙ ap (λ l. texts u.groups ++ l) (ap (take taken) (sym rest) ∙ t.text)
          ∙ sym (flat_map-append group_text u.groups t.groups);
      content = t.content ∙ ap (λ l. l ++ contents t.groups) u.content
          ∙ append_assoc old (contents u.groups) (contents t.groups)
          ∙ ap (λ l. old ++ l) (sym (flat_map-append group_bytes u.groups t.groups));
    }

pub row_behind : (bytes : List ℕ) (taken : ℕ) (block old new : List ℕ) → TakesRow bytes taken [] block
    → new ≡ old ++ block → TakesRow bytes taken old new
row_behind bytes taken block old new u e =
    record {
      groups = u.groups;
      each = u.each;
      within = u.within;
      text = u.text;
      content = e
          ∙ ap (λ l. old ++ l) u.content;
    }

-- if `block` is the words of a row of groups, its length is a multiple of 8
pub row_whole : (bytes : List ℕ) (taken : ℕ) (block : List ℕ) → TakesRow bytes taken [] block → (n : ℕ)
    × (length block ≡ 8 * n)
row_whole bytes taken block u = (word_count u.groups, ap length u.content ∙ length_contents u.groups u.each)

-- the first `at` bytes are groups, the words of these groups are `out`, and `room` words are left of the maximum `max`
pub record Unpacked (bytes : List ℕ) (at : ℕ) (out : List ℕ) (room max : ℕ) : Type 0 where
  pub row : TakesRow bytes at [] out
  pub counted : length out + 8 * room ≡ 8 * max

pub unpacked_more : (bytes : List ℕ) (at : ℕ) (out : List ℕ) (room max taken count : ℕ) (new : List ℕ)
    → Unpacked bytes at out room max → Takes (slice_range bytes at (length bytes)) room taken count out new
    → Unpacked bytes (at + taken) new (room - count) max
unpacked_more bytes at out room max taken count new u t = record {
  row = row_more bytes at [] out room taken count new u.row t;
  counted = omega (
    arith,
    u.counted,
    t.counted,
    t.fits,
    ap length t.content,
    length-append out (group_bytes t.group),
    length_content t.group t.is_group,
  );
}

pub unpacked_row : (bytes : List ℕ) (at : ℕ) (out : List ℕ) (room max taken count : ℕ) (new : List ℕ)
    → Unpacked bytes at out room max → TakesRow (slice_range bytes at (length bytes)) taken out new
    → length new ≡ length out + 8 * count → count ≤ room → Unpacked bytes (at + taken) new (room - count) max
unpacked_row bytes at out room max taken count new u t size fits = record {
  row = row_join bytes at [] out taken new u.row t;
  counted = omega (arith, u.counted);
}

-- if `Unpacked` holds up to the end of `bytes`, then `bytes` pack `out`, which is at most `max` words
pub unpacked_all : (bytes : List ℕ) (at : ℕ) (out : List ℕ) (room max : ℕ) → Unpacked bytes at out room max
    → length bytes ≤ at → Packs bytes out × (length out ≤ 8 * max)
unpacked_all bytes at out room max u end = (
  record {
    groups = u.row.groups;
    each = u.row.each;
    is_text = sym (take_all at bytes end) ∙ u.row.text;
    are_bytes =
        u.row.content;
  },
  omega (arith, u.counted),
)

-- if the fault `Q` holds of the bytes after the groups, `Stands Q` holds of `bytes` at offset `at`
pub stands : (Q : ℕ → List ℕ → Type 0) (bytes : List ℕ) (at : ℕ) (out : List ℕ) (room max : ℕ)
    → Unpacked bytes at out room max → Q room (slice_range bytes at (length bytes)) → Stands Q bytes max at
stands Q bytes at out room max u q = record {
  groups = u.row.groups;
  rest = drop at bytes;
  each = u.row.each;
  text = sym (take-append-drop at bytes) ∙ ap (λ l. l ++ drop at bytes) u.row.text;
  offset = omega (arith, ap length u.row.text, length-take at bytes, u.row.within);
  left = room;
  counted = omega (arith, u.counted, ap length u.row.content, length_contents u.row.groups u.row.each);
  fault = subst (Q room) (rest_is bytes at) q;
}
