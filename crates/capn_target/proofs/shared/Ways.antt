-- Lemmas for `Inside`, `Present`, `Ranges`, capn_canon and capn_walk: a pointer to content leads there in one of three
-- ways, and a target is a capability only if the pointer is. No pointer is refused with `Memory`.
use Rattle.std.proofs.Common.{◌≡◌, ◌≢◌, inl, inr, ℕ, ◌+◌, ◌*◌, ◌<◌, ◌==◌, nat_lt, ℤ, pos, negsuc, true, false, List}
use Rattle.std.proofs.Common.{length, slice_index, Result, Ok, Err, refl, arith}
use Rattle.std.specs.Bool.{⊤}
use Rattle.std.proofs.lemmas.Bool.Decides.{nat_tests}
use Rattle.capn_words.specs.Message.{segment_at}
use Rattle.capn_words.specs.Pointers.{field}
use Rattle.capn_words.specs.declared.space.Place.{Place}
use Rattle.capn_words.specs.declared.pointer.Pointer.{Pointer}
use Rattle.capn_words.specs.declared.pointer.Pointer.TheVariants.{Nil, Node, Many, Far, Cap, Reserved}
use Rattle.capn_words.specs.declared.pointer.Width.{Width}
use Rattle.capn_words.specs.declared.pointer.Width.TheVariants.{W0, W1, W8, W16, W32, W64, Link, Rows}
use Rattle.capn_words.proofs.shared.Choices.{pick}
use Rattle.capn_target.specs.declared.target.Target.{Target}
use Rattle.capn_target.specs.declared.target.Target.TheVariants as targets
use Rattle.capn_target.specs.declared.target.Shape.{Shape}
use Rattle.capn_target.specs.declared.target.Shape.TheVariants as shapes
use Rattle.capn_target.specs.declared.target.Fault.{Fault}
use Rattle.capn_target.specs.declared.target.Fault.TheVariants as faults
use Rattle.capn_target.specs.Target.{content_start, if_inside, list, struct, struct_from, list_from, target_from}
use Rattle.capn_target.specs.Target.{second_pad}
use Rattle.capn_target.specs.Target.{is_second_pad}
use Rattle.capn_target.specs.Target.{two_pads, pointer_in, landing, target_of_pointer, target}
use Rattle.capn_target.specs.Ways.{LeadsTo, Describes, Lies, IsPad, OneOfThree}

-- the result is not the fault `Memory`
abbrev IsPlain : Result ℕ Fault → Type 0
IsPlain (Ok n) = ⊤
IsPlain (Err e) = e ≢ faults.Memory

plain-moved : (w : ℕ) (o : ℤ) → IsPlain (content_start w o)
plain-moved w (pos n) = tt
plain-moved w (negsuc n) = pick IsPlain (nat_lt w n) _ _ (λ e f. absurd cc) (λ e. tt)

module _ (m : List (List ℕ)) where
  -- If the target is content, `P` holds of the content. If the target is a capability, `Q` holds of the index. If there
  -- is a fault, the fault is not `Memory`.
  module _ (P : ℕ → ℕ → Shape → ℕ → Type 0) (Q : ℕ → Type 0) where
    abbrev pub Told : Result Target Fault → Type 0
    Told (Ok (targets.Content s start shape pads)) = P s start shape pads
    Told (Ok (targets.Cap k)) = Q k
    Told (Ok targets.Nil) = ⊤
    Told (Err e) = e ≢ faults.Memory

    told-within : (s start n : ℕ) (r : Result Target Fault) → (Lies m s start n → Told r)
        → Told (if_inside m s start n r)
    told-within s start n r h =
        pick Told (nat_lt (length (segment_at m s)) (start + n)) _ _ (λ e f. absurd cc)
        (λ e. h (grind (arith, nat_tests)))

    told-struct : (s start pads a b : ℕ) → (Lies m s start (a + b) → P s start (shapes.Node a b) pads)
        → Told (struct m s start pads a b)
    told-struct s start pads a b h = told-within s start (a + b) _ h

    told-list : (s start pads : ℕ) (width : Width) (n : ℕ) (o : ℤ)
        → ((shape : Shape) → Describes m (Many o width n) s start shape → P s start shape pads)
        → Told (list m s start pads width n)
    told-list s start pads W0 n o h = told-within s start _ _ (λ l. h _ (refl, l))
    told-list s start pads W1 n o h = told-within s start _ _ (λ l. h _ (refl, l))
    told-list s start pads W8 n o h = told-within s start _ _ (λ l. h _ (refl, l))
    told-list s start pads W16 n o h = told-within s start _ _ (λ l. h _ (refl, l))
    told-list s start pads W32 n o h = told-within s start _ _ (λ l. h _ (refl, l))
    told-list s start pads W64 n o h = told-within s start _ _ (λ l. h _ (refl, l))
    told-list s start pads Link n o h = told-within s start _ _ (λ l. h _ (refl, l))
    told-list s start pads Rows n o h =
        let t : ℕ = slice_index (segment_at m s) start in
        told-within s start _ _ (λ l. pick Told (field 0 2 t == 0) _ _
        (λ e. pick Told (nat_lt n (field 2 30 t * (field 32 16 t + field 48 16 t))) _ _ (λ f g. absurd cc)
        (λ f. h _ (l, (grind (arith, nat_tests), refl, grind (arith, nat_tests))))) (λ e f. absurd cc))

    told-struct_from : (s : ℕ) (r : Result ℕ Fault) (pads a b : ℕ) → IsPlain r
        → ((start : ℕ) → r ≡ Ok start → Told (struct m s start pads a b)) → Told (struct_from m s r pads a b)
    told-struct_from s (Ok start) pads a b n h = h start refl
    told-struct_from s (Err e) pads a b n h = n

    told-list_from : (s : ℕ) (r : Result ℕ Fault) (pads : ℕ) (width : Width) (n : ℕ) → IsPlain r
        → ((start : ℕ) → r ≡ Ok start → Told (list m s start pads width n)) → Told (list_from m s r pads width n)
    told-list_from s (Ok start) pads width n k h = h start refl
    told-list_from s (Err e) pads width n k h = k

    -- if `P` holds of each struct or list that the pointer may lead to, `Told` holds of the target
    pub told-near : (s w pads : ℕ) (p : Pointer)
        → ((start : ℕ) (shape : Shape) → LeadsTo w p start → Describes m p s start shape → P s start shape pads)
        → Told (target_from m s w pads p)
    told-near s w pads (Node o a b) h =
        told-struct_from s (content_start w o) pads a b (plain-moved w o)
        (λ start e. told-struct s start pads a b (λ l. h start _ e (refl, l)))
    told-near s w pads (Many o width n) h =
        told-list_from s (content_start w o) pads width n (plain-moved w o)
        (λ start e. told-list s start pads width n o (λ shape d. h start shape e d))
    told-near s w pads Nil h = λ e. absurd cc
    told-near s w pads (Far d v t) h = λ e. absurd cc
    told-near s w pads (Cap k) h = λ e. absurd cc
    told-near s w pads (Reserved n) h = λ e. absurd cc

    told-second_pad : (s start : ℕ) (p : Pointer) → ((shape : Shape) → Describes m p s start shape → P s start shape 2)
        → Told (second_pad m s start p)
    told-second_pad s start Nil h = told-struct s start 2 0 0 (λ l. h _ (refl, l))
    told-second_pad s start (Node o a b) h = told-struct s start 2 a b (λ l. h _ (refl, l))
    told-second_pad s start (Many o width n) h = told-list s start 2 width n o h
    told-second_pad s start (Far d v t) h = λ e. absurd cc
    told-second_pad s start (Cap k) h = λ e. absurd cc
    told-second_pad s start (Reserved n) h = λ e. absurd cc

    told-two_pads : (p q : Pointer)
        → ((s start : ℕ) (shape : Shape) → p ≡ Far false start s → s < length m → Describes m q s start shape
        → P s start shape 2) → Told (two_pads m p q)
    told-two_pads (Far false w s) q h =
        pick Told (is_second_pad m q) _ _
        (λ e. pick Told (nat_lt s (length m)) _ _
        (λ f. told-second_pad s w q (λ shape d. h s w shape refl (grind (arith, nat_tests)) d)) (λ f g. absurd cc))
        (λ e f. absurd cc)
    told-two_pads (Far true w s) q h = λ e. absurd cc
    told-two_pads Nil q h = λ e. absurd cc
    told-two_pads (Node o a b) q h = λ e. absurd cc
    told-two_pads (Many o width n) q h = λ e. absurd cc
    told-two_pads (Cap k) q h = λ e. absurd cc
    told-two_pads (Reserved n) q h = λ e. absurd cc

    told-landing : (s w n : ℕ) (r : Result Target Fault) → (IsPad m s w n → Told r) → Told (landing m s w n r)
    told-landing s w n r h =
        pick Told (nat_lt s (length m)) _ _
        (λ e. pick Told (nat_lt (length (segment_at m s)) (w + n)) _ _ (λ f g. absurd cc)
        (λ f. h (grind (arith, nat_tests), grind (arith, nat_tests)))) (λ e f. absurd cc)

  -- `Told`, where `P` says that the pointer at the place leads to the content in one of the three ways, and `Q` says
  -- that the pointer is itself the capability
  abbrev ToldAt : Place → Result Target Fault → Type 0
  ToldAt at = Told (OneOfThree m at) (λ k. pointer_in m at.segment at.word ≡ Cap k)

  told-named : (at : Place) (p : Pointer) → pointer_in m at.segment at.word ≡ p
      → ToldAt at (target_of_pointer m at.segment at.word p)
  told-named at Nil is = tt
  told-named at (Cap k) is = is
  told-named at (Reserved n) is = λ e. absurd cc
  told-named at (Far false v t) is =
      told-landing _ _ t v 1 _ (λ pad. told-near _ _ t v 1 (pointer_in m t v) (λ start shape l d.
      inr (inl (record { word = v; far = is; pad = pad; offset = l; content = d; one = refl }))))
  told-named at (Far true v t) is =
      told-landing _ _ t v 2 _
      (λ pad. told-two_pads _ _ (pointer_in m t v) (pointer_in m t (v + 1)) (λ s start shape e f d.
      inr (inr (record { segment = t; word = v; far = is; pad = pad; first = e; there = f; content = d; two = refl }))))
  told-named at (Node o a b) is =
      told-near _ _ at.segment at.word 0 (Node o a b)
      (λ start shape l d. inl (record { offset = rw is l; content = rw is d; here = refl; none = refl }))
  told-named at (Many o width n) is =
      told-near _ _ at.segment at.word 0 (Many o width n)
      (λ start shape l d. inl (record { offset = rw is l; content = rw is d; here = refl; none = refl }))

  told : (at : Place) → ToldAt at (target m at)
  unfolding target
  told at = told-named at (pointer_in m at.segment at.word) refl

  -- if the target is content, the pointer leads to the content in one of the three ways
  pub one-of-three : (at : Place) (s start pads : ℕ) (shape : Shape)
      → target m at ≡ Ok (targets.Content s start shape pads) → OneOfThree m at s start shape pads
  one-of-three at s start pads shape e = let h = rw e at (told at) in h

  -- if the target is a capability, the pointer is itself that capability
  pub cap-pointer : (at : Place) (k : ℕ) → target m at ≡ Ok (targets.Cap k) → pointer_in m at.segment at.word ≡ Cap k
  cap-pointer at k e = let h = rw e at (told at) in h

  -- no slot is refused with `Memory`
  pub never-memory : (at : Place) (e : Fault) → target m at ≡ Err e → e ≢ faults.Memory
  never-memory at e h = let k = rw h at (told at) in k

  -- if the target is content, there is a place with a pointer that describes the content
  pub described : (at : Place) (s start pads : ℕ) (shape : Shape)
      → target m at ≡ Ok (targets.Content s start shape pads)
      → (by : Place) × Describes m (pointer_in m by.segment by.word) s start shape
  described at s start pads shape e = from (one-of-three at s start pads shape e)
    where
      from : OneOfThree m at s start shape pads
          → (by : Place) × Describes m (pointer_in m by.segment by.word) s start shape
      from (inl n) = (at, n.content)
      from (inr (inl n)) = (record { segment = s; word = n.word }, n.content)
      from (inr (inr n)) = (record { segment = n.segment; word = n.word + 1 }, n.content)
