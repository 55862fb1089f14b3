-- The value of a target has the kind of the target. (For `EmittedTexts`, `FoundTexts`, `PartSteps` and capn_marks.)
use Rattle.std.proofs.Common.{◌≡◌, ℕ, suc, ◌+◌, ◌<◌, ◌^◌, List, [], ◌∷◌, Bool, length, map, refl, sym, ap, ◌∙◌}
use Rattle.std.proofs.Common.{Some, None, Option, subst, slice_index, arith}
use Rattle.std.proofs.lemmas.List.{length-map}
use Rattle.std.specs.Int.{from_bool}
use Rattle.capn_words.specs.declared.pointer.Width.TheVariants.{W0, W1, Link}
use Rattle.capn_value.specs.NumberWidth.{NumberWidth, bit, byte, pair, quad, oct, is_set}
use Rattle.capn_value.specs.InRange.{AllBelow}
use Rattle.capn_value.specs.Tree.{Tree, nil, node, voids, numbers, links, rows, cap, Trees}
use Rattle.capn_value.specs.Tree.{Bodies, count, count_rows}
use Rattle.capn_value.proofs.shared.Bits.{bits_back}
use Rattle.capn_target.specs.declared.target.Target.{Target}
use Rattle.capn_target.specs.declared.target.Target.TheVariants as targets
use Rattle.capn_target.specs.declared.target.Shape.TheVariants as shapes
use Rattle.capn_walk.specs.declared.kind.Kind.{Kind}
use Rattle.capn_walk.specs.declared.kind.Kind.TheVariants as kinds
use Rattle.capn_target.specs.Target.{list_width}
use Rattle.capn_walk.specs.View.{kind_of_list, kind_of}
use Rattle.capn_walk.specs.ShownValue.{Shows, ShowsStruct}
use Rattle.capn_show.specs.ReadyPlaces.{struct_at, AreNumbers, AreSlots, AreRowsAt}

abbrev kind_in : Tree → Kind
kind_in nil = kinds.Nil
kind_in (cap k) = kinds.Cap
kind_in (node ws ss) = kinds.Node
kind_in (voids n) = kinds.Voids
kind_in (numbers a xs) = kind_of_list (list_width a)
kind_in (links ts) = kinds.Links
kind_in (rows bs) = kinds.Rows

-- The width of the numbers in a list of a kind, or `None` if lists of that kind have no numbers.
abbrev number_kind : Kind → Option NumberWidth
number_kind kinds.Bits = Some bit
number_kind kinds.Bytes = Some byte
number_kind kinds.Pairs = Some pair
number_kind kinds.Quads = Some quad
number_kind kinds.Octs = Some oct
number_kind _ = None

number_kind-list : (a : NumberWidth) → number_kind (kind_of_list (list_width a)) ≡ Some a
number_kind-list bit = refl
number_kind-list byte = refl
number_kind-list pair = refl
number_kind-list quad = refl
number_kind-list oct = refl

no-numbers : (a : NumberWidth) (k : Kind) → number_kind k ≡ None → k ≡ kind_of_list (list_width a) → ⊥
no-numbers a k none e = let same : None ≡ Some a = sym none ∙ ap number_kind e ∙ number_kind-list a in absurd cc

-- The value `v` is a list of `n` numbers of the kind `a`, and `Are` holds of these numbers.
pub record IsNumbers (a : NumberWidth) (Are : List ℕ → Type 0) (n : ℕ) (v : Tree) : Type 0 where
  pub items : List ℕ
  pub is : v ≡ numbers a items
  pub count : length items ≡ n
  pub are : Are items

-- The value `v` is a list of `n` bits, and `Are` holds of these bits as numbers.
pub record IsBits (Are : List ℕ → Type 0) (n : ℕ) (v : Tree) : Type 0 where
  pub digits : List Bool
  pub is : v ≡ numbers bit (map from_bool digits)
  pub count : length digits ≡ n
  pub are : Are (map from_bool digits)

pub record IsNode (m : List (List ℕ)) (s w a b : ℕ) (v : Tree) : Type 0 where
  pub words : List ℕ
  pub slots : Trees
  pub is : v ≡ node words slots
  pub are : ShowsStruct m (struct_at s w a b) words slots

pub record IsLinks (m : List (List ℕ)) (s w n : ℕ) (v : Tree) : Type 0 where
  pub slots : Trees
  pub is : v ≡ links slots
  pub number : count slots ≡ n
  pub are : AreSlots m s w slots

pub record IsRows (m : List (List ℕ)) (s w n a b : ℕ) (v : Tree) : Type 0 where
  pub bodies : Bodies
  pub is : v ≡ rows bodies
  pub number : count_rows bodies ≡ n
  pub are : AreRowsAt m s (w + 1) a b bodies

bits-below : (xs : List ℕ)
    → ((i : ℕ) → i < length xs → slice_index xs i < 2) → AllBelow (2 ^ 1) xs
bits-below [] h = tt
bits-below (x ∷ xs) h = (h 0 (omega arith), bits-below xs (λ i l. h (suc i) (omega arith)))

module _ (m : List (List ℕ)) where
  -- If the target `found` shows the value `v`, `v` has the kind of `found`.
  kinded : (found : Target) (v : Tree) → Shows m found v → kind_of found ≡ kind_in v
  kinded found nil h = ap kind_of h
  kinded found (cap k) h = ap kind_of h
  kinded found (node ws ss) h = h.kind
  kinded found (voids n) h = h.0
  kinded found (numbers a xs) h = h.kind
  kinded found (links ts) h = h.kind
  kinded found (rows bs) h = h.kind

  -- ---- null, and a capability

  pub as-nil : (v : Tree) → Shows m targets.Nil v → v ≡ nil
  as-nil nil h = refl
  as-nil (numbers a xs) h = absurd (no-numbers a kinds.Nil refl (kinded targets.Nil (numbers a xs) h))
  as-nil v h = let e = kinded targets.Nil v h in absurd (cc)

  pub as-cap : (k : ℕ) (v : Tree) → Shows m (targets.Cap k) v → v ≡ cap k
  as-cap k (cap j) h = cc
  as-cap k (numbers a xs) h = absurd (no-numbers a kinds.Cap refl (kinded (targets.Cap k) (numbers a xs) h))
  as-cap k v h = let e = kinded (targets.Cap k) v h in absurd (cc)

  -- ---- lists of elements without pointers

  pub as-voids : (s w pads : ℕ) (n : ℕ) (v : Tree)
      → Shows m (targets.Content s w (shapes.Many W0 n) pads) v → v ≡ voids n
  as-voids s w pads n (voids z) h = ap voids (sym h.1)
  as-voids s w pads n (numbers a xs) h =
      absurd (no-numbers a kinds.Voids refl (kinded (targets.Content s w (shapes.Many W0 n) pads) (numbers a xs) h))
  as-voids s w pads n v h = let e = kinded (targets.Content s w (shapes.Many W0 n) pads) v h in absurd (cc)

  pub as-numbers : (a : NumberWidth) (s w pads : ℕ) (n : ℕ) (v : Tree)
      → Shows m (targets.Content s w (shapes.Many (list_width a) n) pads) v
      → IsNumbers a (AreNumbers m s w (list_width a)) n v
  as-numbers a s w pads n (numbers b xs) h =
      let same : Some b ≡ Some a = sym (number_kind-list b) ∙ ap number_kind (sym h.kind) ∙ number_kind-list a in
      let e : b ≡ a = cc in
      record { items = xs; is = ap (λ (c : NumberWidth). numbers c xs) e; count = sym h.len; are = h.number }
  as-numbers a s w pads n v h =
      let found : Target = targets.Content s w (shapes.Many (list_width a) n) pads in
      absurd (no-numbers a (kind_in v) refl (sym (kinded found v h)))

  pub as-bits : (s w pads : ℕ) (n : ℕ) (v : Tree)
      → Shows m (targets.Content s w (shapes.Many W1 n) pads) v → IsBits (AreNumbers m s w W1) n v
  as-bits s w pads n v h =
      let x = as-numbers bit s w pads n v h in
      let below : AllBelow (2 ^ 1) x.items = bits-below x.items (λ i l. let e = x.are i l in omega arith) in
      let back = bits_back x.items below in
      record {
        digits = map is_set x.items;
        is = x.is ∙ ap (numbers bit) (sym back);
        count = length-map x.items is_set ∙ x.count;
        are = subst (AreNumbers m s w W1) (sym back) x.are;
      }

  -- ---- values with slots

  pub as-node : (s w pads : ℕ) (a b : ℕ) (v : Tree)
      → Shows m (targets.Content s w (shapes.Node a b) pads) v → IsNode m s w a b v
  as-node s w pads a b (node ws ss) h =
      record {
        words = ws;
        slots = ss;
        is = refl;
        are = record { kind = refl; words = h.words; slots = h.slots; word = h.word; slot = h.slot };
      }
  as-node s w pads a b (numbers c xs) h =
      absurd (no-numbers c kinds.Node refl (kinded (targets.Content s w (shapes.Node a b) pads) (numbers c xs) h))
  as-node s w pads a b v h = let e = kinded (targets.Content s w (shapes.Node a b) pads) v h in absurd (cc)

  pub as-links : (s w pads : ℕ) (n : ℕ) (v : Tree)
      → Shows m (targets.Content s w (shapes.Many Link n) pads) v → IsLinks m s w n v
  as-links s w pads n (links ts) h = record { slots = ts; is = refl; number = sym h.len; are = h.slot }
  as-links s w pads n (numbers a xs) h =
      absurd (no-numbers a kinds.Links refl (kinded (targets.Content s w (shapes.Many Link n) pads) (numbers a xs) h))
  as-links s w pads n v h = let e = kinded (targets.Content s w (shapes.Many Link n) pads) v h in absurd (cc)

  pub as-rows : (s w pads : ℕ) (n a b span : ℕ) (v : Tree)
      → Shows m (targets.Content s w (shapes.Rows n a b span) pads) v → IsRows m s w n a b v
  as-rows s w pads n a b span (rows bs) h = record { bodies = bs; is = refl; number = sym h.len; are = h.row }
  as-rows s w pads n a b span (numbers c xs) h =
      absurd (no-numbers c kinds.Rows refl (kinded (targets.Content s w (shapes.Rows n a b span) pads)
      (numbers c xs) h))
  as-rows s w pads n a b span v h = let e = kinded (targets.Content s w (shapes.Rows n a b span) pads) v h in
      absurd (cc)
