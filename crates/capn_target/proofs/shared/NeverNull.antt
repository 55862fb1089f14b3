-- Lemmas for capn_layout and capn_walk: if a pointer is not null, its target is not null.
use Rattle.std.proofs.Common.{◌≡◌, ℕ, ◌+◌, ◌*◌, ◌==◌, nat_lt, true, false, List, length, slice_index, Result, Ok}
use Rattle.std.proofs.Common.{Err, refl, ap, sym, subst, ◌∙◌}
use Rattle.std.specs.Bool.{⊤}
use Rattle.capn_words.specs.Message.{segment_at, word_at}
use Rattle.capn_words.specs.Pointers.{field, pointer_of, word_of}
use Rattle.capn_words.specs.declared.space.Place.{Place}
use Rattle.capn_words.specs.declared.pointer.Pointer.{Pointer}
use Rattle.capn_words.specs.declared.pointer.Pointer.TheVariants.{Nil, Node, Many, Far, Cap, Reserved}
use Rattle.capn_words.specs.declared.pointer.Width.{Width}
use Rattle.capn_words.specs.declared.pointer.Width.TheVariants.{W0, W1, W8, W16, W32, W64, Link, Rows}
use Rattle.capn_words.proofs.shared.Choices.{pick}
use Rattle.capn_target.specs.declared.target.Target.{Target}
use Rattle.capn_target.specs.declared.target.Target.TheVariants as targets
use Rattle.capn_target.specs.declared.target.Fault.{Fault}
use Rattle.capn_target.specs.Target.{if_inside, list, struct_from, list_from, target_from, second_pad, is_second_pad}
use Rattle.capn_target.specs.Target.{content_start, two_pads, pointer_in, landing, target_of_pointer, target}

-- the result is a fault, or a target that is not null
abbrev pub IsThere : Result Target Fault → Type 0
IsThere (Ok targets.Nil) = ⊥
IsThere _ = ⊤

module _ (m : List (List ℕ)) where
  there-within : (s start n : ℕ) (r : Result Target Fault) → IsThere r → IsThere (if_inside m s start n r)
  there-within s start n r h =
      pick IsThere (nat_lt (length (segment_at m s)) (start + n)) _ _ (λ e. tt) (λ e. h)

  there-list : (s start pads : ℕ) (width : Width) (n : ℕ) → IsThere (list m s start pads width n)
  there-list s start pads W0 n = there-within s start _ _ tt
  there-list s start pads W1 n = there-within s start _ _ tt
  there-list s start pads W8 n = there-within s start _ _ tt
  there-list s start pads W16 n = there-within s start _ _ tt
  there-list s start pads W32 n = there-within s start _ _ tt
  there-list s start pads W64 n = there-within s start _ _ tt
  there-list s start pads Link n = there-within s start _ _ tt
  there-list s start pads Rows n =
      let t : ℕ = slice_index (segment_at m s) start in
      there-within s start _ _
      (pick IsThere (field 0 2 t == 0) _ _
      (λ e. pick IsThere (nat_lt n (field 2 30 t * (field 32 16 t + field 48 16 t))) _ _ (λ f. tt) (λ f. tt)) (λ e. tt))

  there-struct_from : (s : ℕ) (r : Result ℕ Fault) (pads a b : ℕ) → IsThere (struct_from m s r pads a b)
  there-struct_from s (Ok start) pads a b = there-within s start (a + b) _ tt
  there-struct_from s (Err e) pads a b = tt

  there-list_from : (s : ℕ) (r : Result ℕ Fault) (pads : ℕ) (width : Width) (n : ℕ)
      → IsThere (list_from m s r pads width n)
  there-list_from s (Ok start) pads width n = there-list s start pads width n
  there-list_from s (Err e) pads width n = tt

  there-near : (s w pads : ℕ) (p : Pointer) → IsThere (target_from m s w pads p)
  there-near s w pads (Node o a b) = there-struct_from s (content_start w o) pads a b
  there-near s w pads (Many o width n) = there-list_from s (content_start w o) pads width n
  there-near s w pads Nil = tt
  there-near s w pads (Far d v t) = tt
  there-near s w pads (Cap k) = tt
  there-near s w pads (Reserved n) = tt

  there-second_pad : (s start : ℕ) (p : Pointer) → IsThere (second_pad m s start p)
  there-second_pad s start Nil = there-within s start (0 + 0) _ tt
  there-second_pad s start (Node o a b) = there-within s start (a + b) _ tt
  there-second_pad s start (Many o width n) = there-list s start 2 width n
  there-second_pad s start (Far d v t) = tt
  there-second_pad s start (Cap k) = tt
  there-second_pad s start (Reserved n) = tt

  there-two_pads : (p q : Pointer) → IsThere (two_pads m p q)
  there-two_pads (Far false w s) q =
      pick IsThere (is_second_pad m q) _ _
      (λ e. pick IsThere (nat_lt s (length m)) _ _ (λ f. there-second_pad s w q) (λ f. tt)) (λ e. tt)
  there-two_pads (Far true w s) q = tt
  there-two_pads Nil q = tt
  there-two_pads (Node o a b) q = tt
  there-two_pads (Many o width n) q = tt
  there-two_pads (Cap k) q = tt
  there-two_pads (Reserved n) q = tt

  there-landing : (s w n : ℕ) (r : Result Target Fault) → IsThere r → IsThere (landing m s w n r)
  there-landing s w n r h =
      pick IsThere (nat_lt s (length m)) _ _
      (λ e. pick IsThere (nat_lt (length (segment_at m s)) (w + n)) _ _ (λ f. tt) (λ f. h)) (λ e. tt)

  pub there-named : (s w : ℕ) (p : Pointer) → (p ≡ Nil → ⊥) → IsThere (target_of_pointer m s w p)
  there-named s w Nil h = absurd (h refl)
  there-named s w (Cap k) h = tt
  there-named s w (Reserved n) h = tt
  there-named s w (Far false v t) h = there-landing t v 1 _ (there-near t v 1 (pointer_in m t v))
  there-named s w (Far true v t) h =
      there-landing t v 2 _ (there-two_pads (pointer_in m t v) (pointer_in m t (v + 1)))
  there-named s w (Node o a b) h = there-near s w 0 (Node o a b)
  there-named s w (Many o width n) h = there-near s w 0 (Many o width n)

  -- if the word `w` at `at` is not 0, `IsThere` holds of the result of `target` at `at`
  pub there : (at : Place) (w : ℕ) (p : Pointer) → w ≡ word_at m at → p ≡ pointer_of w → word_of p ≡ w → (w ≡ 0 → ⊥)
      → IsThere (target m at)
  unfolding target
  there at w p e f j h =
      let is : pointer_in m at.segment at.word ≡ p = sym (f ∙ ap pointer_of e) in
      let some : p ≡ Nil → ⊥ = λ z. h (sym j ∙ ap word_of z) in
      subst (λ (q : Pointer). IsThere (target_of_pointer m at.segment at.word q)) (sym is)
      (there-named at.segment at.word p some)
