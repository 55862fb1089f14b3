-- Lemmas for `take_groups`, `join_first`, `feed_begun`, capn_commands and capn_serve: the groups at the front of a
-- stream that is given in pieces.
use Rattle.std.proofs.Common.{◌≡◌, ℕ, ◌+◌, ◌-◌, ◌<◌, ◌≤◌, ◌⊎◌, inl, inr, List}
use Rattle.std.proofs.Common.{[], ◌∷◌, ◌++◌, length, take, drop, slice_range, refl, sym, ap, ◌∙◌, subst, arith}
use Rattle.std.proofs.Common.{append_assoc, length-append, take-append-drop, length-take, take_all}
use Rattle.std.proofs.lemmas.Bool.{cases_lt}
use Rattle.std.proofs.lemmas.List.{append-nil, take-append-le, take-take}
use Rattle.std.proofs.Math.Seq.{take-append-add}
use Rattle.std.proofs.lemmas.Grind.{flat_map-append}
use Rattle.capn_pack.specs.Packed.{group_text, group_bytes, texts, contents}
use Rattle.capn_pack.specs.inner.Steps.{Takes, TakesRow}
use Rattle.capn_pack.specs.PackedPieces.{Splits, Begins, NoGroupFirst}
use Rattle.capn_pack.specs.UnpackRefusal.{IsCut}
use Rattle.capn_pack.specs.inner.Joins.{Joins}
use Rattle.capn_pack.specs.declared.text_piece.Joined.TheVariants as joins
use Rattle.capn_pack.proofs.shared.GroupLemmas.{rest_is, each_append, text_some}
use Rattle.capn_pack.proofs.shared.GroupLaws.{no_group}

-- if `TakesRow` holds of `bytes`, `Begins` holds
pub begins : (bytes : List ℕ) (at : ℕ) (old out : List ℕ) → TakesRow bytes at old out → Begins bytes old out
begins bytes at old out u = record {
  groups = u.groups;
  rest = drop at bytes;
  each = u.each;
  text = sym (take-append-drop at bytes) ∙ ap (λ l. l ++ drop at bytes) u.text;
  content = u.content;
}

-- if `TakesRow` holds of `bytes`, and no group follows the row, `Splits` holds
pub splits : (bytes : List ℕ) (at : ℕ) (old out : List ℕ) → TakesRow bytes at old out → NoGroupFirst (drop at bytes)
    → Splits bytes (drop at bytes) old out at
splits bytes at old out u none = record {
  groups = u.groups;
  each = u.each;
  text = sym (take-append-drop at bytes) ∙ ap (λ l. l ++ drop at bytes) u.text;
  content = u.content;
  size = omega (arith, ap length u.text, length-take at bytes, u.within);
  open_rest = none;
}

-- if `stream` splits with the rest `rest`, and `Begins` holds of `rest ++ more`, `Begins` holds of `stream ++ more`
pub begins_then : (stream rest more words next : List ℕ) (len : ℕ) → Splits stream rest [] words len
    → Begins (rest ++ more) [] next → Begins (stream ++ more) [] (words ++ next)
begins_then stream rest more words next len s b = record {
  groups = s.groups ++ b.groups;
  rest = b.rest;
  each = each_append s.groups b.groups s.each b.each;
  text =
      ap (λ (l : List ℕ). l ++ more) s.text
      ∙ append_assoc (texts s.groups) rest more
      ∙ ap (λ (l : List ℕ). texts s.groups ++ l) b.text
      ∙ sym (append_assoc (texts s.groups) (texts b.groups) b.rest)
      ∙ ap (λ (l : List ℕ). l ++ b.rest) (sym (flat_map-append group_text s.groups b.groups));
  content =
      ap (λ (l : List ℕ). l ++ next) s.content
      ∙ ap (λ (l : List ℕ). contents s.groups ++ l) b.content
      ∙ sym (flat_map-append group_bytes s.groups b.groups);
}

-- the empty text begins with no group
pub nothing_first : NoGroupFirst []
nothing_first g more is e = omega (arith, text_some g, ap length e, length-append (group_text g) more)

-- if `TakesRow` holds of `bytes`, and `IsCut` holds of the bytes after the row, `Splits` holds
pub splits_cut : (bytes : List ℕ) (at : ℕ) (old out : List ℕ) (room : ℕ) → TakesRow bytes at old out
    → IsCut room (slice_range bytes at (length bytes)) → Splits bytes (drop at bytes) old out at
splits_cut bytes at old out room u cut =
    splits bytes at old out u (no_group room (drop at bytes) (subst (IsCut room) (rest_is bytes at) cut))

-- ---- an unfinished group, and a piece that continues it

past_rest : (rest piece joined : List ℕ) (more room taken count : ℕ) (old new : List ℕ)
    → joined ≡ rest ++ take more piece → NoGroupFirst rest → Takes joined room taken count old new → length rest ≤ taken
past_rest rest piece joined more room taken count old new e none t =
    elim (cases_lt taken (length rest)) [
      | inl less ↦
          let le : taken ≤ length rest = omega arith in
          let front : take taken rest ≡ group_text t.group = sym (take-append-le taken rest (take more piece) le)
          ∙ ap (take taken) (sym e) ∙ t.text in
          absurd (none t.group (drop taken rest) t.is_group (sym (take-append-drop taken rest)
          ∙ ap (λ l. l ++ drop taken rest) front))
      | inr le ↦ le
    ]

-- suppose that `joined` is the first `len` bytes of `held`, which begin with no complete group, and then bytes of
-- `piece`: a group at the front of `joined` has at least `len` bytes
pub join_past : (held piece joined : List ℕ) (len more room taken count : ℕ) (old new : List ℕ) → len ≤ length held
    → joined ≡ take len held ++ take more piece → NoGroupFirst (take len held) → Takes joined room taken count old new
    → len ≤ taken
join_past held piece joined len more room taken count old new le e none t =
    omega (arith, past_rest (take len held) piece joined more room taken count old new e none t, length-take len held)

-- Case: if `piece` completes the unfinished group, `Joins` holds for `joins.Whole`.
pub join_whole : (held piece joined kept : List ℕ) (len more room taken count : ℕ) (old new : List ℕ)
    → len ≤ length held → more ≤ length piece → joined ≡ take len held ++ take more piece → NoGroupFirst (take len held)
    → Takes joined room taken count old new
    → Joins (take len held) piece kept old new (joins.Whole (taken - len))
join_whole held piece joined kept len more room taken count old new le short e none t =
    let rest = take len held in
    let long : length rest ≡ len = omega (arith, length-take len held) in
    let past = join_past held piece joined len more room taken count old new le e none t in
    let most : taken - len ≤ more =
    omega (arith, t.within, ap length e, length-append rest (take more piece), length-take more piece) in
    let sum : taken ≡ length rest + (taken - len) = omega arith in
    let text_is : rest ++ take (taken - len) piece ≡ group_text t.group =
    ap (λ l. rest ++ l) (sym (take-take (taken - len) more piece most))
    ∙ sym (take-append-add rest (take more piece) (taken - len))
    ∙ ap (λ n. take n (rest ++ take more piece)) (sym sum) ∙ ap (take taken) (sym e) ∙ t.text in
    (omega arith, t.group, t.is_group, text_is, t.content)

-- Case: if the group is still unfinished after `piece`, `Joins` holds for `joins.Open`.
pub join_open : (held piece joined kept : List ℕ) (len more all room : ℕ) (old new : List ℕ) → 0 < len
    → len ≤ length held → (length piece ≤ more) ⊎ (2049 ≤ more) → more ≤ length piece
    → joined ≡ take len held ++ take more piece → all ≡ len + length (take more piece) → take all kept ≡ joined
    → length joined < 2050 → IsCut room joined → new ≡ old
    → Joins (take len held) piece kept old new (joins.Open all)
join_open held piece joined kept len more all room old new some le enough within e a k short cut same =
    let rest = take len held in
    let size = length-append rest (take more piece) in
    let long = length-take more piece in
    let least : length piece ≤ more = elim enough [
      | inl h ↦ h
      | inr h ↦ absurd (omega (arith, ap length e, size, long, length-take len held))
    ] in
    let whole : joined ≡ rest ++ piece = e ∙ ap (λ l. rest ++ l) (take_all more piece least) in (
      omega (arith, ap length e, size, long, length-take len held),
      k
          ∙ whole,
      subst NoGroupFirst whole (no_group room joined cut),
      same,
    )

-- ---- a group that a piece completed, and the groups after it

-- if `piece` completes the group that begins with `rest`, and the bytes after the group split, `rest ++ piece` splits
pub splits_more : (rest piece held : List ℕ) (at : ℕ) (old mid new after : List ℕ) (taken : ℕ)
    → Joins rest piece held old mid (joins.Whole at) → Splits (slice_range piece at (length piece)) after mid new taken
    → Splits (rest ++ piece) after old new ((length rest + at) + taken)
splits_more rest piece held at old mid new after taken j s =
    let g = j.1 in
    record {
      groups = g ∷ s.groups;
      each = (j.2, s.each);
      text = ap (λ l. rest ++ l) (sym (take-append-drop at piece))
          ∙ sym (append_assoc rest (take at piece) (drop at piece))
          ∙ (λ i. j.3 i ++ (sym (rest_is piece at) ∙ s.text) i)
          ∙ sym (append_assoc (group_text g) (texts s.groups) after);
      content = s.content ∙ ap (λ l. l ++ contents s.groups) j.4 ∙ append_assoc old (group_bytes g) (contents s.groups);
      size = omega (
        arith,
        s.size,
        j.0,
        ap length j.3,
        length-append rest (take at piece),
        length-take at piece,
        length-append (group_text g) (texts s.groups),
      );
      open_rest = s.open_rest;
    }

-- if `piece` completes the group that begins with `rest`, and `Begins` holds of the bytes after the group, `Begins`
-- holds of `rest ++ piece`
pub begins_more : (rest piece held : List ℕ) (at : ℕ) (old mid new : List ℕ)
    → Joins rest piece held old mid (joins.Whole at) → Begins (slice_range piece at (length piece)) mid new
    → Begins (rest ++ piece) old new
begins_more rest piece held at old mid new j s =
    let g = j.1 in
    record {
      groups = g ∷ s.groups;
      rest = s.rest;
      each = (j.2, s.each);
      text = ap (λ l. rest ++ l) (sym (take-append-drop at piece))
          ∙ sym (append_assoc rest (take at piece) (drop at piece))
          ∙ (λ i. j.3 i ++ (sym (rest_is piece at) ∙ s.text) i)
          ∙ sym (append_assoc (group_text g) (texts s.groups) s.rest);
      content = s.content ∙ ap (λ l. l ++ contents s.groups) j.4 ∙ append_assoc old (group_bytes g) (contents s.groups);
    }

-- a `stream` that begins with no group splits into no groups and `stream` as the rest
pub splits_open : (stream old new : List ℕ) → NoGroupFirst stream → new ≡ old → Splits stream stream old new 0
splits_open stream old new none e =
    record { groups = []; each = tt; text = refl; content = e ∙ sym (append-nil old); size = refl; open_rest = none }

-- if `stream` splits with the rest `rest`, and `rest ++ piece` splits, then `stream ++ piece` splits
pub splits_then : (stream rest piece after : List ℕ) (old mid new : List ℕ) (len more : ℕ)
    → Splits stream rest old mid len → Splits (rest ++ piece) after mid new more
    → Splits (stream ++ piece) after old new (len + more)
splits_then stream rest piece after old mid new len more s t =
    let texts_are = flat_map-append group_text s.groups t.groups in
    record {
      groups = s.groups ++ t.groups;
      each = each_append s.groups t.groups s.each t.each;
      text = ap (λ l. l ++ piece) s.text ∙ append_assoc (texts s.groups) rest piece
          ∙ ap (λ l. texts s.groups ++ l) t.text ∙ sym (append_assoc (texts s.groups) (texts t.groups) after)
          ∙ ap (λ l. l ++ after) (sym texts_are);
      content = t.content ∙ ap (λ l. l ++ contents t.groups) s.content
          ∙ append_assoc old (contents s.groups) (contents t.groups)
          ∙ ap (λ l. old ++ l) (sym (flat_map-append group_bytes s.groups t.groups));
      size = omega (arith, s.size, t.size, ap length texts_are, length-append (texts s.groups) (texts t.groups));
      open_rest = t.open_rest;
    }
