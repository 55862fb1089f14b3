-- There are three ways in which a pointer names content. (For `targets`.)
use Rattle.std.proofs.Common.{◌≡◌, inl, inr, ℕ, ◌+◌, ◌*◌, ◌<◌, ◌==◌, nat_lt, ℤ, true, false, List, length, slice_index}
use Rattle.std.proofs.Common.{Result, Ok, refl, sym, ap, ◌∙◌, arith}
use Rattle.std.proofs.lemmas.Bool.Decides.{nat_tests}
use Rattle.capn_words.specs.Message.{segment_at}
use Rattle.capn_words.specs.Pointers.{field}
use Rattle.capn_words.specs.declared.space.Place.{Place}
use Rattle.capn_words.specs.declared.pointer.Pointer.{Pointer}
use Rattle.capn_words.specs.declared.pointer.Pointer.TheVariants.{Nil, Node, Many, Far, Cap, Reserved}
use Rattle.capn_words.specs.declared.pointer.Width.{Width}
use Rattle.capn_words.specs.declared.pointer.Width.TheVariants.{W0, W1, W8, W16, W32, W64, Link, Rows}
use Rattle.capn_words.proofs.shared.Choices.{if-no, if-yes, same-yes}
use Rattle.capn_target.specs.declared.target.Target.{Target}
use Rattle.capn_target.specs.declared.target.Target.TheVariants as targets
use Rattle.capn_target.specs.declared.target.Shape.{Shape}
use Rattle.capn_target.specs.declared.target.Fault.{Fault}
use Rattle.capn_target.specs.Target.{if_inside, list, struct_from, list_from, target_from, second_pad, is_second_pad}
use Rattle.capn_target.specs.Target.{two_pads, pointer_in, landing, target_of_pointer, target}
use Rattle.capn_target.specs.Ways.{LeadsTo, Describes, Lies, IsPad, OneOfThree}

module _ (m : List (List ℕ)) where
  within-yes : (s start n : ℕ) (r : Result Target Fault) → Lies m s start n → if_inside m s start n r ≡ r
  within-yes s start n r l = if-no (nat_lt (length (segment_at m s)) (start + n)) _ _ (grind (arith, nat_tests))

  content-yes : (s start pads n : ℕ) (x shape : Shape) → shape ≡ x → Lies m s start n
      → if_inside m s start n (Ok (targets.Content s start x pads)) ≡ Ok (targets.Content s start shape pads)
  content-yes s start pads n x shape e l =
      within-yes s start n _ l ∙ ap (λ (y : Shape). Ok (targets.Content s start y pads)) (sym e)

  list-yes : (s start pads : ℕ) (width : Width) (n : ℕ) (o : ℤ) (shape : Shape)
      → Describes m (Many o width n) s start shape
      → list m s start pads width n ≡ Ok (targets.Content s start shape pads)
  list-yes s start pads W0 n o shape d = content-yes s start pads _ _ shape d.0 d.1
  list-yes s start pads W1 n o shape d = content-yes s start pads _ _ shape d.0 d.1
  list-yes s start pads W8 n o shape d = content-yes s start pads _ _ shape d.0 d.1
  list-yes s start pads W16 n o shape d = content-yes s start pads _ _ shape d.0 d.1
  list-yes s start pads W32 n o shape d = content-yes s start pads _ _ shape d.0 d.1
  list-yes s start pads W64 n o shape d = content-yes s start pads _ _ shape d.0 d.1
  list-yes s start pads Link n o shape d = content-yes s start pads _ _ shape d.0 d.1
  list-yes s start pads Rows n o shape d =
      let t : ℕ = slice_index (segment_at m s) start in
      let fits = d.1.2 in
      within-yes s start _ _ d.0
      ∙ if-yes (field 0 2 t == 0) _ _ (same-yes _ _ d.1.0)
      ∙ if-no (nat_lt n (field 2 30 t * (field 32 16 t + field 48 16 t))) _ _ (grind (arith, nat_tests))
      ∙ ap (λ (x : Shape). Ok (targets.Content s start x pads)) (sym d.1.1)

  near-yes : (s w pads start : ℕ) (p : Pointer) (shape : Shape) → LeadsTo w p start → Describes m p s start shape
      → target_from m s w pads p ≡ Ok (targets.Content s start shape pads)
  near-yes s w pads start (Node o a b) shape l d = ap (λ (r : Result ℕ Fault). struct_from m s r pads a b) l
      ∙ content-yes s start pads _ _ shape d.0 d.1
  near-yes s w pads start (Many o width n) shape l d = ap (λ (r : Result ℕ Fault). list_from m s r pads width n) l
      ∙ list-yes s start pads width n o shape d
  near-yes s w pads start Nil shape l d = absurd l
  near-yes s w pads start (Far f v t) shape l d = absurd l
  near-yes s w pads start (Cap k) shape l d = absurd l
  near-yes s w pads start (Reserved n) shape l d = absurd l

  named-near : (s w start : ℕ) (p : Pointer) → LeadsTo w p start → target_of_pointer m s w p ≡ target_from m s w 0 p
  named-near s w start (Node o a b) l = refl
  named-near s w start (Many o width n) l = refl
  named-near s w start Nil l = absurd l
  named-near s w start (Far f v t) l = absurd l
  named-near s w start (Cap k) l = absurd l
  named-near s w start (Reserved n) l = absurd l

  second-yes : (s start : ℕ) (p : Pointer) (shape : Shape) → Describes m p s start shape
      → (is_second_pad m p ≡ true) × (second_pad m s start p ≡ Ok (targets.Content s start shape 2))
  second-yes s start Nil shape d = (refl, content-yes s start 2 _ _ shape d.0 d.1)
  second-yes s start (Node o a b) shape d = (refl, content-yes s start 2 _ _ shape d.0 d.1)
  second-yes s start (Many o width n) shape d = (refl, list-yes s start 2 width n o shape d)
  second-yes s start (Far f v t) shape d = absurd d
  second-yes s start (Cap k) shape d = absurd d
  second-yes s start (Reserved n) shape d = absurd d

  landing-yes : (s w n : ℕ) (r : Result Target Fault) → IsPad m s w n → landing m s w n r ≡ r
  landing-yes s w n r pad =
      let here = pad.0 in
      let room = pad.1 in
      if-yes (nat_lt s (length m)) _ _ (grind (arith, nat_tests))
      ∙ if-no (nat_lt (length (segment_at m s)) (w + n)) _ _ (grind (arith, nat_tests))

  two-yes : (s start : ℕ) (q : Pointer) (shape : Shape) → s < length m → Describes m q s start shape
      → two_pads m (Far false start s) q ≡ Ok (targets.Content s start shape 2)
  two-yes s start q shape there d =
      let e = second-yes s start q shape d in
      if-yes (is_second_pad m q) _ _ e.0 ∙ if-yes (nat_lt s (length m)) _ _ (grind (arith, nat_tests)) ∙ e.1

  pub back : (at : Place) (s start pads : ℕ) (shape : Shape) → OneOfThree m at s start shape pads
      → target m at ≡ Ok (targets.Content s start shape pads)
  unfolding target
  back at s start pads shape (inl n) =
      let l = n.offset in
      let d = n.content in
      rw (n.here, n.none) (named-near at.segment at.word start (pointer_in m at.segment at.word) l
      ∙ near-yes at.segment at.word 0 start (pointer_in m at.segment at.word) shape l (rw n.here at d))
  back at s start pads shape (inr (inl n)) =
      rw n.one (ap (λ (p : Pointer). target_of_pointer m at.segment at.word p) n.far
      ∙ landing-yes s n.word 1 _ n.pad
      ∙ near-yes s n.word 1 start (pointer_in m s n.word) shape n.offset n.content)
  back at s start pads shape (inr (inr n)) =
      rw n.two (ap (λ (p : Pointer). target_of_pointer m at.segment at.word p) n.far
      ∙ landing-yes n.segment n.word 2 _ n.pad
      ∙ ap (λ (p : Pointer). two_pads m p (pointer_in m n.segment (n.word + 1))) n.first
      ∙ two-yes s start (pointer_in m n.segment (n.word + 1)) shape n.there n.content)
