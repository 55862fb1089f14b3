-- Lemmas for the cycle `slots`, `show_bits`, `show_bytes` and `show_list`: the text of a value is made of marks,
-- pieces, digits and other texts.
use Rattle.std.proofs.Common.{◌≡◌, ℕ, zero, suc, ◌+◌, ◌/◌, ◌<◌, arith, List, ◌++◌, Bool, length}
use Rattle.std.proofs.Common.{subst, sym, ap, ap₂, ◌∙◌, append_assoc}
use Rattle.std.specs.Prelude.{Ok}
use Rattle.capn_words.specs.declared.space.Place.{Place}
use Rattle.capn_words.specs.declared.pointer.Width.{Width}
use Rattle.capn_words.specs.declared.pointer.Width.TheVariants.{W0, W1, W8, Link}
use Rattle.capn_value.specs.NumberWidth.{NumberWidth, byte}
use Rattle.capn_value.specs.Views.{length-bits}
use Rattle.capn_value.proofs.shared.Bits.{bits_again}
use Rattle.capn_value.specs.Tree.{Tree}
use Rattle.capn_value.specs.Text.{digits_of}
use Rattle.capn_target.specs.declared.target.Target.{Target}
use Rattle.capn_target.specs.declared.target.Target.TheVariants as targets
use Rattle.capn_target.specs.declared.target.Shape.{Shape}
use Rattle.capn_target.specs.declared.target.Shape.TheVariants as shapes
use Rattle.capn_target.specs.Target.{target, list_width}
use Rattle.capn_walk.specs.ShownValue.{Shows, ViewsShow}
use Rattle.capn_walk.specs.View as seen
use Rattle.capn_walk.specs.View.{step_place}
use Rattle.capn_show.specs.Emitted.{Rule, emitted_words, emitted_each, emitted_digits, emitted_numbers}
use Rattle.capn_show.specs.declared.piece.Piece.{Piece}
use Rattle.capn_show.specs.declared.piece.Piece.TheVariants as pieces
use Rattle.capn_show.specs.Descent.{named_by}
use Rattle.capn_show.specs.Emitted.{emitted, emitted_slots, emitted_rows}
use Rattle.capn_show.specs.ReadyPlaces.{struct_at, AreNumbers, BitsShown, NumbersShown}
use Rattle.capn_show.specs.EmittedPlaces.{AreEmitted, IsBodyEmitted, IsEmitted, IsFoundEmitted, IsRowEmitted}
use Rattle.capn_show.specs.EmittedPlaces.{RowsEmitted, WordsEmitted}
use Rattle.capn_show.proofs.shared.FoundKinds.{as-nil, as-cap, as-node, as-links, as-rows}
use Rattle.capn_show.proofs.shared.FoundKinds.{as-voids, as-bits, as-numbers}

-- If `n` is not 0, the mark, the piece `Digits`, `digits` and the piece `EndDigits` are the text `emitted_digits`.
pub digits-emitted : (rule : Rule) (level : ℕ) (path : List ℕ) (first n : ℕ) (digits : List ℕ) → 0 < n
    → (rule.mark 0 first path ++ rule.piece level pieces.Digits) ++ (digits ++ rule.piece level pieces.EndDigits)
    ≡ emitted_digits rule level path first n digits
digits-emitted rule level path first zero digits some = absurd (omega arith)
digits-emitted rule level path first (suc n) digits some =
    append_assoc (rule.mark 0 first path) (rule.piece level pieces.Digits) (digits ++ rule.piece level pieces.EndDigits)

module _ (m : List (List ℕ)) (rule : Rule) (level : ℕ) (path : List ℕ) where
  -- ---- a slot

  pub slot-emitted : (laws : (message : List (List ℕ)) (at : Place) (t : Target) (v : Tree) → ViewsShow message at t v)
      (number : ℕ) (at : Place) (t : Target) → target m at ≡ Ok t → (Says Below : List ℕ → Type 0)
      → ((y : List ℕ) → Below y → Says (rule.mark number (rule.lies m at) path ++ y))
      → IsFoundEmitted m rule level path t Below → IsEmitted m rule level number path at Says
  slot-emitted laws number at t e Says Below step h v i =
      let front = rule.mark number (rule.lies m at) path in
      subst (λ (f : Target). Says (front ++ emitted m rule level path f v)) (sym (ap named_by e))
      (step (emitted m rule level path t v) (h v (laws m at t v e i)))

  -- ---- a struct: its first piece, its data words and its slots

  pub body-emitted : (s w a b : ℕ) (Says Words Below : List ℕ → Type 0)
      → ((x y : List ℕ) → Words x → Below y → Says (rule.piece level (pieces.Body a b) ++ (x ++ y)))
      → WordsEmitted m s w a
      (emitted_words rule (level + 1) path (rule.lies m (record { segment = s; word = w }))) Words
      → AreEmitted m rule (level + 1) path s (w + a) b Below
      → IsBodyEmitted m rule level path s w a b Says
  body-emitted s w a b Says Words Below step words slots ws ss h =
      let own = emitted_words rule (level + 1) path (rule.lies m (record { segment = s; word = w })) ws in
      let rest = emitted_slots m rule (level + 1) path (step_place (struct_at s w a b)) 0 ss in
      subst Says (ap₂ (λ (x y : ℕ). rule.piece level (pieces.Body x y) ++ (own ++ rest)) h.words h.slots)
      (step own rest (words ws h.word (sym h.words)) (slots ss h.slot (sym h.slots)))

  module _ (Says : List ℕ → Type 0) where
    on : {found other : Target} → found ≡ other → IsFoundEmitted m rule level path other Says
        → IsFoundEmitted m rule level path found Says
    on e = subst (λ (t : Target). IsFoundEmitted m rule level path t Says) (sym e)

    module _ (found : Target) where
      pub nil-emitted : found ≡ targets.Nil → Says (rule.piece level pieces.Nil)
          → IsFoundEmitted m rule level path found Says
      nil-emitted e h =
          on e (λ v i. subst Says (sym (ap (emitted m rule level path targets.Nil) (as-nil m v i))) h)

      pub cap-emitted : (k : ℕ) → found ≡ targets.Cap k → Says (rule.piece level (pieces.Cap k))
          → IsFoundEmitted m rule level path found Says
      cap-emitted k e h =
          on e (λ v i. subst Says (sym (ap (emitted m rule level path (targets.Cap k)) (as-cap m k v i))) h)

      module _ (s w pads : ℕ) (shape : Shape) (e : found ≡ targets.Content s w shape pads) where
        there : (other : Shape) → shape ≡ other → found ≡ targets.Content s w other pads
        there other f = e ∙ ap (λ (x : Shape). targets.Content s w x pads) f

        pub node-emitted : (a b : ℕ) → shape ≡ shapes.Node a b → IsBodyEmitted m rule level path s w a b Says
            → IsFoundEmitted m rule level path found Says
        node-emitted a b f h =
            let t = targets.Content s w (shapes.Node a b) pads in
            on (there (shapes.Node a b) f) (λ v i. let x = as-node m s w pads a b v i in
            subst Says (sym (ap (emitted m rule level path t) x.is)) (h x.words x.slots x.are))

        pub list-emitted : (width : Width) (n : ℕ) → shape ≡ shapes.Many width n
            → ((any : ℕ) → IsFoundEmitted m rule level path (targets.Content s w (shapes.Many width n) any) Says)
            → IsFoundEmitted m rule level path found Says
        list-emitted width n f h = on (there (shapes.Many width n) f) (h pads)

        module _ (Below : List ℕ → Type 0) where
          pub links-emitted : (width : Width) (n : ℕ) → shape ≡ shapes.Many width n → width ≡ Link
              → ((y : List ℕ) → Below y → Says (rule.piece level (pieces.Links n) ++ y))
              → AreEmitted m rule (level + 1) path s w n Below → IsFoundEmitted m rule level path found Says
          links-emitted width n f g step k =
              let t = targets.Content s w (shapes.Many Link n) pads in
              on (there (shapes.Many Link n) (f ∙ ap (λ (y : Width). shapes.Many y n) g))
              (λ v i. let x = as-links m s w pads n v i in
              let rest = emitted_slots m rule (level + 1) path (step_place t) 0 x.slots in
              subst Says
              (ap (λ (j : ℕ). rule.piece level (pieces.Links j) ++ rest) (sym x.number)
              ∙ sym (ap (emitted m rule level path t) x.is)) (step rest (k x.slots x.are x.number)))

          pub rows-emitted : (n a b span : ℕ) → shape ≡ shapes.Rows n a b span
              → ((y : List ℕ) → Below y → Says (rule.piece level (pieces.Rows n) ++ y))
              → RowsEmitted m rule (level + 1) path s (w + 1) n a b Below → IsFoundEmitted m rule level path found Says
          rows-emitted n a b span f step k =
              let t = targets.Content s w (shapes.Rows n a b span) pads in
              on (there (shapes.Rows n a b span) f)
              (λ v i. let x = as-rows m s w pads n a b span v i in
              let rest = emitted_rows m rule (level + 1) path (seen.row_of t) 0 x.bodies in
              subst Says
              (ap (λ (j : ℕ). rule.piece level (pieces.Rows j) ++ rest) (sym x.number)
              ∙ sym (ap (emitted m rule level path t) x.is)) (step rest (k x.bodies x.are x.number)))

  -- ---- a list of elements without pointers

  module _ (s w n : ℕ) (width : Width) (Says : List ℕ → Type 0) where
    -- `Says` holds of the text of the list, for any number `pads` of landing pads.
    abbrev IsListEmitted : Type 0
    IsListEmitted = (pads : ℕ)
        → IsFoundEmitted m rule level path (targets.Content s w (shapes.Many width n) pads) Says

    as-width : (other : Width) → width ≡ other
        → ((pads : ℕ) → IsFoundEmitted m rule level path (targets.Content s w (shapes.Many other n) pads) Says)
        → IsListEmitted
    as-width other e h pads =
        subst (λ (x : Width). IsFoundEmitted m rule level path (targets.Content s w (shapes.Many x n) pads) Says)
        (sym e) (h pads)

    pub voids-emitted : width ≡ W0 → Says (rule.piece level (pieces.Voids n)) → IsListEmitted
    voids-emitted e h =
        as-width W0 e (λ pads v i.
        subst Says (sym (ap (emitted m rule level path (targets.Content s w (shapes.Many W0 n) pads))
        (as-voids m s w pads n v i))) h)

    -- The offset in bytes of the content of the list, which is at word `w` of segment `s`.
    abbrev first : ℕ
    first = rule.lies m (record { segment = s; word = w })

    pub bytes-emitted : width ≡ W8 → NumbersShown m s w W8 n (emitted_numbers rule byte level path first) Says
        → IsListEmitted
    bytes-emitted e k =
        as-width W8 e (λ pads v i.
        let x = as-numbers m byte s w pads n v i in
        subst Says (sym (ap (emitted m rule level path (targets.Content s w (shapes.Many W8 n) pads)) x.is))
        (k x.items x.are x.count))

    module _ (Below : List ℕ → Type 0) where
      pub numbers-emitted : (a : NumberWidth) (head : ℕ → Piece)
          → ((f : ℕ) (xs : List ℕ) → emitted_numbers rule a level path f xs
          ≡ rule.piece level (head (length xs))
          ++ emitted_each rule (list_width a) (8 / seen.per_word (list_width a)) (level + 1) path f xs)
          → width ≡ list_width a → ((y : List ℕ) → Below y → Says (rule.piece level (head n) ++ y))
          → NumbersShown m s w width n (emitted_each rule width (8 / seen.per_word width) (level + 1) path first) Below
          → IsListEmitted
      numbers-emitted a head each e step k pads v i =
          let x = as-numbers m a s w pads n v (subst (λ (y : Width). Shows m
          (targets.Content s w (shapes.Many y n) pads) v) e i) in
          let t = targets.Content s w (shapes.Many width n) pads in
          let rest = emitted_each rule width (8 / seen.per_word width) (level + 1) path first x.items in
          let are = subst (λ (y : Width). AreNumbers m s w y x.items) (sym e) x.are in
          subst Says
          (ap (λ (j : ℕ). rule.piece level (head j) ++ rest) (sym x.count)
          ∙ ap (λ (y : Width). rule.piece level (head (length x.items))
          ++ emitted_each rule y (8 / seen.per_word y) (level + 1) path first x.items) e
          ∙ sym (each first x.items)
          ∙ sym (ap (emitted m rule level path t) x.is)) (step rest (k x.items are x.count))

      pub bits-emitted : width ≡ W1 → ((y : List ℕ) → Below y → Says (rule.piece level (pieces.Bits n) ++ y))
          → BitsShown m s w n (λ xs. emitted_digits rule (level + 1) path first (length xs) (digits_of xs)) Below
          → IsListEmitted
      bits-emitted e step k =
          as-width W1 e (λ pads v i.
          let x = as-bits m s w pads n v i in
          let t = targets.Content s w (shapes.Many W1 n) pads in
          let rest = emitted_digits rule (level + 1) path first (length x.digits) (digits_of x.digits) in
          subst Says
          (ap (λ (j : ℕ). rule.piece level (pieces.Bits j) ++ rest) (sym x.count)
          ∙ ap₂ (λ (j : ℕ) (ys : List Bool). rule.piece level (pieces.Bits j)
          ++ emitted_digits rule (level + 1) path first j (digits_of ys))
          (sym (length-bits x.digits)) (sym (bits_again x.digits))
          ∙ sym (ap (emitted m rule level path t) x.is)) (step rest (k x.digits x.are x.count)))

-- ---- the same texts by an equal rule and at an equal path

module _ (m : List (List ℕ)) (level : ℕ) (r s : Rule) (e : r ≡ s) (v w : List ℕ) (f : v ≡ w)
    (Says : List ℕ → Type 0) where
  pub slot-moved : (i : ℕ) (at : Place) → IsEmitted m r level i v at Says → IsEmitted m s level i w at Says
  slot-moved i at h = subst (λ (x : Rule). IsEmitted m x level i w at Says) e
      (subst (λ (x : List ℕ). IsEmitted m r level i x at Says) f h)

  pub row-moved : (i g p a b : ℕ) → IsRowEmitted m r level i v g p a b Says → IsRowEmitted m s level i w g p a b Says
  row-moved i g p a b h = subst (λ (x : Rule). IsRowEmitted m x level i w g p a b Says) e
      (subst (λ (x : List ℕ). IsRowEmitted m r level i x g p a b Says) f h)
