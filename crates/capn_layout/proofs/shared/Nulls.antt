-- A slot is null if and only if its word is zero. (For `EachRow` and capn_canon.)
use Rattle.std.proofs.Common.{◌≡◌, ◌≢◌, ◌⊎◌, inl, inr, ℕ, suc, ◌+◌, ◌%◌, ◌≤◌, ◌==◌, true, false}
use Rattle.std.proofs.Common.{List, length, take, Ok, refl, ap, ap₂, sym, subst}
use Rattle.std.proofs.Common.{◌∙◌, arith}
use Rattle.std.proofs.Math.Seq.{drop-cons}
use Rattle.std.proofs.lemmas.Bool.Decides.{nat_tests}
use Rattle.capn_words.specs.Message.{segment_at, word_at}
use Rattle.capn_words.specs.declared.space.Place.{Place}
use Rattle.capn_words.specs.declared.pointer.Pointer.{Pointer}
use Rattle.capn_words.specs.declared.pointer.Pointer.TheVariants.{Nil}
use Rattle.capn_words.specs.Pointers.{field, pointer_of}
use Rattle.capn_words.proofs.shared.Choices.{pick}
use Rattle.capn_value.specs.Tree.{Tree, nil, node, voids, numbers, links, rows, cap, Trees}
use Rattle.capn_value.specs.Tree.{no_trees, tree, count, is_null}
use Rattle.capn_value.specs.Trim.{kept_behind, kept_words, kept_slots}
use Rattle.capn_target.specs.declared.target.Target.TheVariants as targets
use Rattle.capn_target.specs.Target.{pointer_in, target_of_pointer, target}
use Rattle.capn_target.proofs.shared.NeverNull.{IsThere, there-named}
use Rattle.capn_walk.specs.ValueAt.{IsAt, AreAt, words_from}

pointer-other : (w : ℕ) → w ≢ 0 → pointer_of w ≢ Nil
unfolding pointer_of
pointer-other w n =
    pick (λ (p : Pointer). p ≢ Nil) (w == 0) _ _ (λ e. absurd (n (grind (arith, nat_tests)))) (λ _.
    pick (λ (p : Pointer). p ≢ Nil) (w % 4 == 0) _ _ (λ _ e. cc) (λ _.
    pick (λ (p : Pointer). p ≢ Nil) (w % 4 == 1) _ _ (λ _ e. cc) (λ _.
    pick (λ (p : Pointer). p ≢ Nil) (w % 4 == 2) _ _ (λ _ e. cc) (λ _.
    pick (λ (p : Pointer). p ≢ Nil) (field 2 30 w == 0) _ _ (λ _ e. cc) (λ _ e. cc)))))

pointer-zero : (w : ℕ) → w ≡ 0 → pointer_of w ≡ Nil
unfolding pointer_of
pointer-zero w e = ap pointer_of e

module _ (m : List (List ℕ)) where
  other-target : (at : Place) → word_at m at ≢ 0 → IsThere (target m at)
  unfolding target
  other-target at n =
      there-named m at.segment at.word (pointer_in m at.segment at.word) (pointer-other (word_at m at) n)

  -- If the word at `at` is 0, the target of `at` is `Nil`.
  pub zero-target : (at : Place) → word_at m at ≡ 0 → target m at ≡ Ok targets.Nil
  unfolding target
  zero-target at e = ap (target_of_pointer m at.segment at.word) (pointer-zero (word_at m at) e)

  -- If the target of `at` is `Nil`, the word at `at` is 0.
  pub other-than-nil : (at : Place) → target m at ≡ Ok targets.Nil → word_at m at ≡ 0
  other-than-nil at e = from (decided (word_at m at))
    where
      decided : (w : ℕ) → (w ≡ 0) ⊎ (w ≢ 0)
      decided w = grind arith

      from : (word_at m at ≡ 0) ⊎ (word_at m at ≢ 0) → word_at m at ≡ 0
      from (inl z) = z
      from (inr n) = absurd (subst IsThere e (other-target at n))

  is-zero : (w : ℕ) → w ≡ 0 → true ≡ (w == 0)
  is-zero w e = grind (arith, nat_tests)

  is-other : (w : ℕ) → w ≢ 0 → false ≡ (w == 0)
  is-other w e = grind (arith, nat_tests)

  pub null-word : (at : Place) (v : Tree) → IsAt m at v → is_null v ≡ (word_at m at == 0)
  null-word at nil h = is-zero (word_at m at) (other-than-nil at h)
  null-word at (cap k) h = is-other (word_at m at) (λ z. let e = zero-target at z in cc)
  null-word at (node ws ss) h = is-other (word_at m at) (λ z. let e = zero-target at z in let f = h.is in cc)
  null-word at (voids n) h = is-other (word_at m at) (λ z. let e = zero-target at z in let f = h.is in cc)
  null-word at (numbers a xs) h = is-other (word_at m at) (λ z. let e = zero-target at z in let f = h.is in cc)
  null-word at (links ts) h = is-other (word_at m at) (λ z. let e = zero-target at z in let f = h.is in cc)
  null-word at (rows bs) h = is-other (word_at m at) (λ z. let e = zero-target at z in let f = h.3.is in cc)

  -- If the values `ss` are in the slots from word `w` on, `kept_slots ss` is `kept_words` of the words of these slots.
  pub kept-slots : (ss : Trees) (s w : ℕ) → AreAt m s w ss → w + count ss ≤ length (segment_at m s)
      → kept_slots ss ≡ kept_words (take (count ss) (words_from m s w))
  kept-slots no_trees s w h le = refl
  kept-slots (tree t ts) s w h le =
      let d = drop-cons (segment_at m s) w 0 (omega arith) in
      ap₂ kept_behind (null-word (record { segment = s; word = w }) t h.0) (kept-slots ts s (suc w) h.1 (omega arith))
      ∙ ap (λ (xs : List ℕ). kept_words (take (suc (count ts)) xs)) (sym d)
