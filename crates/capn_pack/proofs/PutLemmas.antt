-- Lemmas for `pack_block.rt`, `pack_group.rt` and `packed_text.rt`: the groups that the packer appends.
use Rattle.std.proofs.Common.{◌≡◌, ℕ, ◌+◌, ◌-◌, ◌*◌, ◌<◌, ◌≤◌, List, [], ◌∷◌, ◌++◌, length, take, drop, slice_range}
use Rattle.std.proofs.Common.{replicate, sym, ap, ◌∙◌, subst, arith, append_assoc, take-append-drop, drop-drop}
use Rattle.std.proofs.Common.{length-take, length-drop}
use Rattle.std.proofs.lemmas.List.{replicate-append-replicate, append-nil, drop_all}
use Rattle.capn_pack.specs.Packed.{group_text, group_bytes, texts, contents, tag_of, named_bytes}
use Rattle.capn_pack.specs.Chosen.{IsChoice, IsChosenRow, Chosen, IsDense, AllDense}
use Rattle.capn_pack.specs.inner.Steps.{Puts, PutsRow, IsZeroRun}
use Rattle.capn_pack.specs.Packed.Group.{Zeros, Named, Raw}
use Rattle.std.proofs.lemmas.Grind.{flat_map-append}
use Rattle.capn_pack.proofs.shared.GroupLemmas.{texts_more, contents_more, count_more, count_append}
use Rattle.capn_pack.proofs.RunLemmas.{tag_zero, named_exact}

length_word : (bytes : List ℕ) (at : ℕ) → at + 8 ≤ length bytes → length (take 8 (drop at bytes)) ≡ 8
length_word bytes at h = simp (length-take, length-drop) (omega arith)

word_then : (bytes : List ℕ) (at : ℕ) → drop at bytes ≡ take 8 (drop at bytes) ++ drop (at + 8) bytes
word_then bytes at = sym (take-append-drop 8 (drop at bytes))
    ∙ ap (λ l. take 8 (drop at bytes) ++ l) (drop-drop 8 at bytes)

pub puts_zeros : (bytes : List ℕ) (at more : ℕ) (old new : List ℕ) → at + 8 ≤ length bytes
    → tag_of (take 8 (drop at bytes)) ≡ 0
    → IsZeroRun bytes (at + 8) more
    → (more < 255 → take 8 (drop ((at + 8) + 8 * more) bytes) ≡ replicate 8 0 → ⊥) → new ≡ old ++ (0 ∷ more ∷ [])
    → Puts bytes at ((at + 8) + 8 * more) old new
puts_zeros bytes at more old new room tag run last e =
    let next = (at + 8) + 8 * more in
    let is : take 8 (drop at bytes) ≡ replicate 8 0 = tag_zero (take 8 (drop at bytes)) tag
    ∙ ap (λ n. replicate n 0) (length_word bytes at room) in
    let size : 8 + 8 * more ≡ 8 * (1 + more) = omega arith in
    record {
      group = Zeros more;
      is_group = omega arith;
      choice = last;
      span = omega arith;
      inside = run.inside;
      content = word_then bytes at ∙ (λ i. is i ++ run.zeros i)
          ∙ sym (append_assoc (replicate 8 0) (replicate (8 * more) 0) (drop next bytes))
          ∙ ap (λ l. l ++ drop next bytes) (replicate-append-replicate 8 (8 * more) 0 ∙ ap (λ n. replicate n 0) size);
      text = e;
    }

pub puts_raw : (bytes : List ℕ) (at more : ℕ) (old new : List ℕ) → at + 8 ≤ length bytes
    → tag_of (take 8 (drop at bytes)) ≡ 255
    → more ≤ 255 → (at + 8) + 8 * more ≤ length bytes → AllDense more (slice_range bytes (at + 8) ((at + 8) + 8 * more))
    → (more < 255 → IsDense (take 8 (drop ((at + 8) + 8 * more) bytes)) → ⊥)
    → new ≡ old ++ (255 ∷ take 8 (drop at bytes) ++ more ∷ slice_range bytes (at + 8) ((at + 8) + 8 * more))
    → Puts bytes at ((at + 8) + 8 * more) old new
puts_raw bytes at more old new room tag most inside dense last e =
    let next = (at + 8) + 8 * more in
    let word = take 8 (drop at bytes) in
    let copied = slice_range bytes (at + 8) next in
    let size : next - (at + 8) ≡ 8 * more = omega arith in
    let behind : drop (at + 8) bytes ≡ copied ++ drop next bytes =
    sym (take-append-drop (8 * more) (drop (at + 8) bytes))
    ∙ (λ i. take (sym size i) (drop (at + 8) bytes) ++ drop-drop (8 * more) (at + 8) bytes i) in
    record {
      group = Raw word more copied;
      is_group = (length_word bytes at room, omega arith, simp (length-take, length-drop) (omega arith));
      choice = (tag, dense, last);
      span = omega arith;
      inside = inside;
      content = word_then bytes at ∙ ap (λ l. word ++ l) behind ∙ sym (append_assoc word copied (drop next bytes));
      text = e;
    }

pub puts_named : (bytes : List ℕ) (at tag : ℕ) (old new : List ℕ) → at + 8 ≤ length bytes
    → tag ≡ tag_of (take 8 (drop at bytes)) → 0 < tag → tag < 255
    → new ≡ old ++ (tag ∷ named_bytes tag (take 8 (drop at bytes))) → Puts bytes at (at + 8) old new
puts_named bytes at tag old new room is above below e =
    let word = take 8 (drop at bytes) in
    let exact = named_exact word in
    record {
      group = Named tag word;
      is_group = (above, below, length_word bytes at room, rw is exact.1);
      choice = is;
      span = omega arith;
      inside = room;
      content = word_then bytes at;
      text = e;
    }

-- ---- groups one after another

-- `PutsRow` still holds after one more group
pub puts_more : (bytes : List ℕ) (at mid next : ℕ) (old out new : List ℕ) → PutsRow bytes at mid old out
    → Puts bytes mid next out new → PutsRow bytes at next old new
puts_more bytes at mid next old out new r p = record {
  groups = r.groups ++ p.group ∷ [];
  chosen = λ more e row.
      let here : contents (p.group ∷ more) ≡ drop mid bytes = ap (λ l. group_bytes p.group ++ l) e ∙ sym p.content in
      subst IsChosenRow (sym (append_assoc r.groups (p.group ∷ []) more))
      (r.chosen (p.group ∷ more) here (p.is_group, subst (IsChoice p.group) (sym e) p.choice, row));
  span = omega (arith, r.span, p.span, count_more r.groups p.group);
  inside = p.inside;
  content = r.content ∙ ap (λ l. contents r.groups ++ l) p.content
      ∙ sym (append_assoc (contents r.groups) (group_bytes p.group) (drop next bytes))
      ∙ ap (λ l. l ++ drop next bytes) (sym (contents_more r.groups p.group));
  text = p.text ∙ ap (λ l. l ++ group_text p.group) r.text ∙ append_assoc old (texts r.groups) (group_text p.group)
      ∙ ap (λ l. old ++ l) (sym (texts_more r.groups p.group));
}

-- `PutsRow` still holds after the text `block` of a further row is appended
pub puts_join : (bytes : List ℕ) (at mid next : ℕ) (old out block new : List ℕ) → PutsRow bytes at mid old out
    → PutsRow bytes mid next [] block → new ≡ out ++ block → PutsRow bytes at next old new
puts_join bytes at mid next old out block new r s grown = record {
  groups = r.groups ++ s.groups;
  chosen = λ more e row.
      let here : contents (s.groups ++ more) ≡ drop mid bytes = flat_map-append group_bytes s.groups more
      ∙ ap (λ l. contents s.groups ++ l) e ∙ sym s.content in
      subst IsChosenRow (sym (append_assoc r.groups s.groups more))
      (r.chosen (s.groups ++ more) here (s.chosen more e row));
  span = omega (arith, r.span, s.span, count_append r.groups s.groups);
  inside = s.inside;
  content = r.content ∙ ap (λ l. contents r.groups ++ l) s.content
      ∙ sym (append_assoc (contents r.groups) (contents s.groups) (drop next bytes))
      ∙ ap (λ l. l ++ drop next bytes) (sym (flat_map-append group_bytes r.groups s.groups));
  text = grown ∙ (λ i. r.text i ++ s.text i) ∙ append_assoc old (texts r.groups) (texts s.groups)
      ∙ ap (λ l. old ++ l) (sym (flat_map-append group_text r.groups s.groups));
}

-- if `PutsRow` holds up to the end of `bytes`, `out` is the text that the packer chooses for `bytes`
pub puts_all : (bytes : List ℕ) (at : ℕ) (out : List ℕ) → PutsRow bytes 0 at [] out → length bytes ≤ at
    → Chosen out bytes
puts_all bytes at out r h =
    let none : drop at bytes ≡ [] = drop_all at bytes h in
    record {
      groups = r.groups;
      chosen = subst IsChosenRow (append-nil r.groups) (r.chosen [] (sym none) tt);
      text = r.text;
      content = r.content ∙ ap (λ l. contents r.groups ++ l) none ∙ append-nil (contents r.groups);
    }

pub raw_text : (bytes : List ℕ) (at more : ℕ) (copied old a b c d : List ℕ) → a ≡ old ++ 255 ∷ []
    → b ≡ a ++ slice_range bytes at (at + 8) → c ≡ b ++ more ∷ [] → d ≡ c ++ copied
    → d ≡ old ++ (255 ∷ take 8 (drop at bytes) ++ more ∷ copied)
raw_text bytes at more copied old a b c d p q r s =
    let size : at + 8 - at ≡ 8 = omega arith in
    let word : slice_range bytes at (at + 8) ≡ take 8 (drop at bytes) = ap (λ n. take n (drop at bytes)) size in
    rw (s, r, q, p, word) (regroup old (take 8 (drop at bytes)))
  where
    regroup : (xs ys : List ℕ) → (((xs ++ 255 ∷ []) ++ ys) ++ more ∷ []) ++ copied ≡ xs ++ (255 ∷ ys ++ more ∷ copied)
    regroup xs ys = simp append_assoc
