-- Lemmas for the error `Memory` in `text_piece.rt`, `unpack_block.rt`, `unpack_group.rt` and `unpacked_words.rt`: if an
-- allocation was refused, the text begins with a complete group.
use Rattle.std.proofs.Common.{◌≡◌, inl, inr, ℕ, ◌*◌, ◌<◌, ◌≤◌, List, [], ◌∷◌, ◌++◌, length, take, drop}
use Rattle.std.proofs.Common.{slice_range, sym, ap, ◌∙◌, arith, append_assoc, length-take}
use Rattle.std.proofs.Common.{take-append-drop, Result, IsErrAnd}
use Rattle.std.proofs.lemmas.Bool.{cases_lt}
use Rattle.std.proofs.lemmas.Result.{err_from_is_err_and}
use Rattle.std.specs.List.{AllByRecursion}
use Rattle.capn_pack.specs.Packed.{Group, IsGroup, group_text, group_words, texts, word_count}
use Rattle.capn_pack.specs.Packed.Group.{Zeros, Named, Raw}
use Rattle.capn_pack.specs.inner.Joins.{Joins}
use Rattle.capn_pack.specs.declared.text_piece.Joined.TheVariants as joins
use Rattle.capn_pack.specs.UnpackRefusal.{StartsWithin}
use Rattle.capn_pack.specs.inner.Steps.{TakeGives, TakesRow}
use Rattle.capn_pack.specs.PackedPieces.{NoGroupFirst}
use Rattle.capn_pack.specs.declared.unpack_group.Stop.{Stop}
use Rattle.capn_pack.specs.declared.unpack_group.Stop.TheVariants.{Memory}
use Rattle.capn_pack.specs.declared.unpack_group.Taken.{Taken}
use Rattle.capn_pack.proofs.shared.GroupLemmas.{length_contents, rest_is}
use Rattle.capn_pack.proofs.RowLemmas.{Unpacked}

-- if `rest` begins with a group of at most `room` words, `TakeGives` allows the error `Memory`
pub memory_gives : (rest : List ℕ) (n room : ℕ) (g : Group) (old new : List ℕ) (r : Result Taken Stop) → IsGroup g
    → take n rest ≡ group_text g → group_words g ≤ room → new ≡ old → IsErrAnd r (λ (e : Stop). e ≡ Memory)
    → TakeGives rest room old r new
memory_gives rest n room g old new r is e fits same refused =
    let error = err_from_is_err_and r refused in
    let first : StartsWithin rest room = record {
      group = g;
      more = drop n rest;
      is_group = is;
      text = sym (take-append-drop n rest) ∙ ap (λ (xs : List ℕ). xs ++ drop n rest) e;
      fits = fits;
    } in
    rw (error.1, error.2) (first, same)

first_of : (bytes : List ℕ) (at room : ℕ) (gs : List Group) → AllByRecursion IsGroup gs → take at bytes ≡ texts gs
    → 0 < word_count gs → word_count gs ≤ room → StartsWithin bytes room
first_of bytes at room [] each e some fits = absurd (omega arith)
first_of bytes at room (g ∷ gs) each e some fits = record {
  group = g;
  more = texts gs ++ drop at bytes;
  is_group = each.0;
  text =
      sym (take-append-drop at bytes)
      ∙ ap (λ (xs : List ℕ). xs ++ drop at bytes) e
      ∙ append_assoc (group_text g) (texts gs) (drop at bytes);
  fits = omega (arith, fits);
}

-- if a row of 1 to `room` words was read from `bytes`, `bytes` begin with a group of at most `room` words
pub row_starts : (bytes : List ℕ) (at room : ℕ) (out : List ℕ) → TakesRow bytes at [] out → 0 < length out
    → length out ≤ 8 * room
    → StartsWithin bytes room
row_starts bytes at room out u some fits =
    let size = length_contents u.groups u.each in
    first_of bytes at room u.groups u.each u.text (omega (arith, size, ap length u.content))
    (omega (arith, size, ap length u.content))

no_groups : (bytes : List ℕ) (at : ℕ) (gs : List Group) → at ≤ length bytes → take at bytes ≡ texts gs
    → word_count gs ≡ 0 → at ≡ 0
no_groups bytes at [] within e none = omega (arith, within, ap length e, length-take at bytes)
no_groups bytes at (Zeros more ∷ gs) within e none = absurd (omega (arith, none))
no_groups bytes at (Named tag word ∷ gs) within e none = absurd (omega (arith, none))
no_groups bytes at (Raw word count more ∷ gs) within e none = absurd (omega (arith, none))

-- if a group of at most `room` words follows the first `at` bytes, `bytes` begin with a group of at most `max` words
pub unpacked_starts : (bytes : List ℕ) (at : ℕ) (out : List ℕ) (room max : ℕ) → Unpacked bytes at out room max
    → StartsWithin (slice_range bytes at (length bytes)) room → StartsWithin bytes max
unpacked_starts bytes at out room max u s = elim (cases_lt 0 (length out)) [
  | inl some ↦ row_starts bytes at max out u.row some (omega (arith, u.counted))
  | inr none ↦
      (let count : word_count u.row.groups ≡ 0 =
      omega (arith, none, length_contents u.row.groups u.row.each, ap length u.row.content) in
      let start : at ≡ 0 = no_groups bytes at u.row.groups u.row.within u.row.text count in
      record {
        group = s.group;
        more = s.more;
        is_group = s.is_group;
        text = ap (λ (n : ℕ). drop n bytes) (sym start) ∙ sym (rest_is bytes at) ∙ s.text;
        fits = omega (arith, s.fits, u.counted, none);
      })
]

-- ---- a text that needs memory does not satisfy `NoGroupFirst`

row_open : (bytes : List ℕ) (at : ℕ) (gs : List Group) → AllByRecursion IsGroup gs → at ≤ length bytes
    → take at bytes ≡ texts gs
    → NoGroupFirst bytes → at ≡ 0
row_open bytes at [] each within e none = omega (arith, within, ap length e, length-take at bytes)
row_open bytes at (g ∷ gs) each within e none =
    absurd (none g (texts gs ++ drop at bytes) each.0
    (sym (take-append-drop at bytes) ∙ ap (λ (xs : List ℕ). xs ++ drop at bytes) e
    ∙ append_assoc (group_text g) (texts gs) (drop at bytes)))

-- if a group follows the row of groups, `bytes` begin with a group, which contradicts `NoGroupFirst`
pub row_started : (bytes : List ℕ) (at room : ℕ) (old out : List ℕ) → TakesRow bytes at old out
    → StartsWithin (slice_range bytes at (length bytes)) room → NoGroupFirst bytes → ⊥
row_started bytes at room old out u s none =
    let start : at ≡ 0 = row_open bytes at u.groups u.each u.within u.text none in
    none s.group s.more s.is_group (ap (λ (n : ℕ). drop n bytes) (sym start) ∙ sym (rest_is bytes at) ∙ s.text)

pub joined_started : (rest piece joined : List ℕ) (more room : ℕ) → joined ≡ rest ++ take more piece
    → StartsWithin joined room
    → NoGroupFirst (rest ++ piece) → ⊥
joined_started rest piece joined more room e s none =
    none s.group (s.more ++ drop more piece) s.is_group
    (ap (λ (xs : List ℕ). rest ++ xs) (sym (take-append-drop more piece))
    ∙ sym (append_assoc rest (take more piece) (drop more piece))
    ∙ ap (λ (xs : List ℕ). xs ++ drop more piece) (sym e ∙ s.text)
    ∙ append_assoc (group_text s.group) s.more (drop more piece))

-- if `piece` completes the group that begins with `rest`, `NoGroupFirst` does not hold of `rest ++ piece`
pub whole_started : (rest piece held : List ℕ) (at : ℕ) (old mid : List ℕ)
    → Joins rest piece held old mid (joins.Whole at)
    → NoGroupFirst (rest ++ piece) → ⊥
whole_started rest piece held at old mid j none =
    none j.1 (drop at piece) j.2
    (ap (λ (xs : List ℕ). rest ++ xs) (sym (take-append-drop at piece))
    ∙ sym (append_assoc rest (take at piece) (drop at piece))
    ∙ ap (λ (xs : List ℕ). xs ++ drop at piece) j.3)
