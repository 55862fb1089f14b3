-- Lemmas for `unpack_some`: the words of the complete groups at the front of some bytes are appended, up to a maximum.
use Rattle.std.proofs.Common.{◌≡◌, ℕ, ◌+◌, ◌-◌, ◌*◌, ◌<◌, ◌≤◌, List, [], ◌∷◌, ◌++◌, length, take, drop, slice_range}
use Rattle.std.proofs.Common.{refl, sym, ap, ◌∙◌, subst, arith, append_assoc, length-append, take-append-drop}
use Rattle.std.proofs.Common.{length-take}
use Rattle.std.proofs.lemmas.List.{append-nil}
use Rattle.std.specs.List.{AllByRecursion}
use Rattle.capn_pack.specs.Packed.{Group, IsGroup, group_text, group_bytes, texts, contents, word_count}
use Rattle.capn_pack.specs.UnpackRefusal.{IsCut, IsTooLong, StartsWithin}
use Rattle.capn_pack.specs.WholeGroups.{UnpacksSome, AppendsSome, StandsNext, most_group}
use Rattle.capn_pack.specs.inner.Steps.{Takes, TakesRow}
use Rattle.capn_pack.specs.declared.whole_groups.Next.{Next}
use Rattle.capn_pack.specs.declared.whole_groups.Next.TheVariants as nexts
use Rattle.capn_pack.proofs.shared.GroupLemmas.{length_content, length_contents, rest_is}
use Rattle.capn_pack.proofs.RowLemmas.{row_join, row_more}

-- the first `at` bytes are groups. The words of these groups, appended to `old`, give `out`. Then `room` words are left
-- of the maximum `max`.
pub record Appended (bytes : List ℕ) (at : ℕ) (old out : List ℕ) (room max : ℕ) : Type 0 where
  pub row : TakesRow bytes at old out
  pub counted : length out + 8 * room ≡ length old + 8 * max

pub appended_none : (bytes old : List ℕ) (max : ℕ) → Appended bytes 0 old old max max
appended_none bytes old max = record {
  row = record { groups = []; each = tt; within = omega arith; text = refl; content = sym (append-nil old) };
  counted = refl;
}

-- `Appended` still holds after one more group of at most `room` words
pub appended_more : (bytes : List ℕ) (at : ℕ) (old out : List ℕ) (room max taken count : ℕ) (new : List ℕ)
    → Appended bytes at old out room max → Takes (slice_range bytes at (length bytes)) room taken count out new
    → Appended bytes (at + taken) old new (room - count) max
appended_more bytes at old out room max taken count new u t = record {
  row = row_more bytes at old out room taken count new u.row t;
  counted = omega (
    arith,
    u.counted,
    t.counted,
    t.fits,
    ap length t.content,
    length-append out (group_bytes t.group),
    length_content t.group t.is_group,
  );
}

-- `Appended` still holds after one more row of groups, of at most `room` words
pub appended_row : (bytes : List ℕ) (at : ℕ) (old out : List ℕ) (room max taken count : ℕ) (new : List ℕ)
    → Appended bytes at old out room max → TakesRow (slice_range bytes at (length bytes)) taken out new
    → length new ≡ length out + 8 * count → count ≤ room → Appended bytes (at + taken) old new (room - count) max
appended_row bytes at old out room max taken count new u t size fits = record {
  row = row_join bytes at old out taken new u.row t;
  counted = omega (arith, u.counted);
}

-- if `StandsNext` holds of the bytes after the groups, `UnpacksSome` holds
pub some_next : (bytes : List ℕ) (at : ℕ) (old out : List ℕ) (room max taken words : ℕ) (next is : Next)
    → Appended bytes at old out room max → taken ≡ at → words + room ≡ max → next ≡ is
    → StandsNext is room (drop at bytes) → UnpacksSome bytes max old out taken words next
some_next bytes at old out room max taken words next is u here sum same stops = record {
  groups = u.row.groups;
  each = u.row.each;
  inside = omega (arith, here, u.row.within);
  text = ap (λ (n : ℕ). take n bytes) here ∙ u.row.text;
  content = u.row.content;
  counted = omega (
    arith,
    u.counted,
    sum,
    ap length u.row.content,
    length-append old (contents u.row.groups),
    length_contents u.row.groups u.row.each,
  );
  left = room;
  fits = sum;
  stops =
      subst (λ (n : Next). StandsNext n room (drop taken bytes)) (sym same)
      (subst (λ (n : ℕ). StandsNext is room (drop n bytes)) (sym here) stops);
}

-- Case: if `IsCut` holds of the bytes after the groups, `UnpacksSome` holds for `nexts.Cut`.
pub cut_next : (bytes : List ℕ) (at : ℕ) (old out : List ℕ) (room max taken words : ℕ) (next : Next)
    → Appended bytes at old out room max → taken ≡ at → words + room ≡ max → next ≡ nexts.Cut
    → IsCut room (slice_range bytes at (length bytes)) × (length (slice_range bytes at (length bytes)) < most_group)
    → UnpacksSome bytes max old out taken words next
cut_next bytes at old out room max taken words next u here sum same cut =
    some_next bytes at old out room max taken words next nexts.Cut u here sum same
    (subst (λ (rest : List ℕ). IsCut room rest × (length rest < most_group)) (rest_is bytes at) cut)

-- Case: if `IsTooLong` holds of the bytes after the groups, `UnpacksSome` holds for `nexts.TooLong`.
pub long_next : (bytes : List ℕ) (at : ℕ) (old out : List ℕ) (room max taken words : ℕ) (next : Next)
    → Appended bytes at old out room max → taken ≡ at → words + room ≡ max → next ≡ nexts.TooLong
    → IsTooLong room (slice_range bytes at (length bytes)) → UnpacksSome bytes max old out taken words next
long_next bytes at old out room max taken words next u here sum same long =
    some_next bytes at old out room max taken words next nexts.TooLong u here sum same
    (subst (λ (rest : List ℕ). IsTooLong room rest) (rest_is bytes at) long)

pub some_appended : (bytes : List ℕ) (at : ℕ) (old out : List ℕ) (room max : ℕ) → Appended bytes at old out room max
    → AppendsSome bytes max old out
some_appended bytes at old out room max u = record {
  groups = u.row.groups;
  rest = drop at bytes;
  each = u.row.each;
  text = sym (take-append-drop at bytes) ∙ ap (λ (l : List ℕ). l ++ drop at bytes) u.row.text;
  content = u.row.content;
  fits = omega (
    arith,
    u.counted,
    ap length u.row.content,
    length-append old (contents u.row.groups),
    length_contents u.row.groups u.row.each,
  );
}

starts_from : (bytes : List ℕ) (at : ℕ) (gs : List Group) (room max : ℕ) → AllByRecursion IsGroup gs
    → at ≤ length bytes → take at bytes ≡ texts gs → word_count gs + room ≡ max
    → StartsWithin (slice_range bytes at (length bytes)) room → StartsWithin bytes max
starts_from bytes at [] room max each within e size s =
    let start : at ≡ 0 = omega (arith, within, ap length e, length-take at bytes) in
    record {
      group = s.group;
      more = s.more;
      is_group = s.is_group;
      text = ap (λ (n : ℕ). drop n bytes) (sym start) ∙ sym (rest_is bytes at) ∙ s.text;
      fits = omega (arith, s.fits, size);
    }
starts_from bytes at (g ∷ gs) room max each within e size s = record {
  group = g;
  more = texts gs ++ drop at bytes;
  is_group = each.0;
  text =
      sym (take-append-drop at bytes)
      ∙ ap (λ (xs : List ℕ). xs ++ drop at bytes) e
      ∙ append_assoc (group_text g) (texts gs) (drop at bytes);
  fits = omega (arith, size);
}

-- if a group of at most `room` words follows the first `at` bytes, `bytes` begin with a group of at most `max` words
pub some_starts : (bytes : List ℕ) (at : ℕ) (old out : List ℕ) (room max : ℕ) → Appended bytes at old out room max
    → StartsWithin (slice_range bytes at (length bytes)) room → StartsWithin bytes max
some_starts bytes at old out room max u s =
    let size : word_count u.row.groups + room ≡ max = omega (
      arith,
      u.counted,
      ap length u.row.content,
      length-append old (contents u.row.groups),
      length_contents u.row.groups u.row.each,
    ) in
    starts_from bytes at u.row.groups room max u.row.each u.row.within u.row.text size s
