-- The target of a slot whose pointer names content in the slot's own segment.
use Rattle.std.proofs.Common.{◌≡◌, ◌∙◌, ℕ, ℤ, List, ap, sym}
use Rattle.capn_words.specs.Message.{word_at}
use Rattle.capn_words.specs.Pointers.{pointer_of}
use Rattle.capn_words.specs.declared.space.Place.{Place}
use Rattle.capn_words.specs.declared.pointer.Pointer.{Pointer}
use Rattle.capn_words.specs.declared.pointer.Pointer.TheVariants.{Node, Many}
use Rattle.capn_words.specs.declared.pointer.Width.{Width}
use Rattle.capn_target.specs.Target.{target_of_pointer, target_from, pointer_in, target}

module _ (m : List (List ℕ)) (at : Place) (w : ℕ) (p : Pointer) where
  -- the pointer names a near struct
  pub near-struct : (o : ℤ) (a b : ℕ) → w ≡ word_at m at → p ≡ pointer_of w → p ≡ Node o a b
      → target_from m at.segment at.word 0 p ≡ target m at
  unfolding target
  near-struct o a b e f h =
      let r : pointer_in m at.segment at.word ≡ Node o a b = sym (f ∙ ap pointer_of e) ∙ h in
      ap (target_from m at.segment at.word 0) h ∙ sym (ap (target_of_pointer m at.segment at.word) r)

  -- the pointer names a near list
  pub near-list : (o : ℤ) (width : Width) (n : ℕ) → w ≡ word_at m at → p ≡ pointer_of w → p ≡ Many o width n
      → target_from m at.segment at.word 0 p ≡ target m at
  unfolding target
  near-list o width n e f h =
      let r : pointer_in m at.segment at.word ≡ Many o width n = sym (f ∙ ap pointer_of e) ∙ h in
      ap (target_from m at.segment at.word 0) h ∙ sym (ap (target_of_pointer m at.segment at.word) r)
