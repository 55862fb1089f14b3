-- Lemmas for `Apart`, `Cases` and `Copies`: a value can be recovered from its tree.
use Rattle.std.proofs.Common.{◌≡◌, List, [], ◌∷◌, map, refl, sym, ap, ap₂, ◌∙◌, subst}
use Rattle.capn_value.specs.TreeOf.{tree_of, trees_of, rows_of}
use Rattle.capn_value.specs.Views.{tree_of-Nil, tree_of-Node, tree_of-Voids, tree_of-Bits, tree_of-Bytes, tree_of-Pairs}
use Rattle.capn_value.specs.Views.{tree_of-Quads, tree_of-Octs, tree_of-Links, tree_of-Rows, tree_of-Cap}
use Rattle.capn_value.specs.NumberWidth.{is_set}
use Rattle.capn_value.specs.Tree.{Tree, Trees, Bodies}
use Rattle.capn_value.specs.Code as code
use Rattle.capn_value.proofs.shared.Bits.{bits_again}
use Rattle.capn_value.specs.declared.value.Value.{Value, Node, Bits, Links, Rows, ind-Value, map-Value, roll-Value}
use Rattle.capn_value.specs.declared.value.Value.TheOpen.{Value-F}
use Rattle.capn_value.specs.declared.value.Value.TheVariants.{rolls-Nil, rolls-Node, rolls-Voids, rolls-Bits}
use Rattle.capn_value.specs.declared.value.Value.TheVariants.{rolls-Bytes, rolls-Pairs, rolls-Quads, rolls-Octs}
use Rattle.capn_value.specs.declared.value.Value.TheVariants.{rolls-Links, rolls-Rows, rolls-Cap}
use Rattle.capn_value.specs.declared.value.Body.{Body}

module _ (A : Type 0) where
  -- the value that a tree stands for
  abbrev pub value_of : Tree → Value A
  value_of t = code.value_of A (map is_set) t

  abbrev values_of : Trees → List (Value A)
  values_of ts = code.values_of A (map is_set) ts

  abbrev bodies_of : Bodies → List (Body A)
  bodies_of bs = code.bodies_of A (map is_set) bs

  abbrev IsBack : Value A → Type 0
  IsBack v = value_of (tree_of v) ≡ v

  abbrev IsBodyBack : Body A → Type 0
  IsBodyBack b = values_of (trees_of b.slots) ≡ b.slots

  values_back : (es : List ((v : Value A) × IsBack v)) → values_of (trees_of (map (λ e. e.0) es)) ≡ map (λ e. e.0) es
  values_back [] = refl
  values_back (e ∷ es) = ap₂ (λ x xs. x ∷ xs) e.1 (values_back es)

  body_back : (b : Body A) → IsBodyBack b
      → (let made : Body A = record { words = b.words; slots = values_of (trees_of b.slots) } in made) ≡ b
  body_back b e = λ i. record { words = b.words; slots = e i }

  bodies_back : (es : List ((b : Body A) × IsBodyBack b))
      → bodies_of (rows_of (map (λ e. e.0) es)) ≡ map (λ e. e.0) es
  bodies_back [] = refl
  bodies_back (e ∷ es) = ap₂ (λ x xs. x ∷ xs) (body_back e.0 e.1) (bodies_back es)

  abbrev Child : Type 0
  Child = (v : Value A) × IsBack v

  abbrev BodyChild : Type 0
  BodyChild = (b : Body A) × IsBodyBack b

  level : (y : Value-F A Child BodyChild)
      → IsBack (roll-Value A (map-Value A Child BodyChild (Value A) (Body A) (λ e. e.0) (λ e. e.0) y))
  level Value-F.Nil = subst IsBack (sym rolls-Nil) (ap value_of (tree_of-Nil A))
  level (Value-F.Node e) =
      subst IsBack (sym (rolls-Node e.0)) (ap value_of (tree_of-Node e.0) ∙ ap Node (body_back e.0 e.1))
  level (Value-F.Voids n) = subst IsBack (sym (rolls-Voids n)) (ap value_of (tree_of-Voids A n))
  level (Value-F.Bits xs) =
      subst IsBack (sym (rolls-Bits xs)) (ap value_of (tree_of-Bits A xs) ∙ ap Bits (bits_again xs))
  level (Value-F.Bytes xs) = subst IsBack (sym (rolls-Bytes xs)) (ap value_of (tree_of-Bytes A xs))
  level (Value-F.Pairs xs) = subst IsBack (sym (rolls-Pairs xs)) (ap value_of (tree_of-Pairs A xs))
  level (Value-F.Quads xs) = subst IsBack (sym (rolls-Quads xs)) (ap value_of (tree_of-Quads A xs))
  level (Value-F.Octs xs) = subst IsBack (sym (rolls-Octs xs)) (ap value_of (tree_of-Octs A xs))
  level (Value-F.Links es) =
      subst IsBack (sym (rolls-Links (map (λ e. e.0) es))) (ap value_of (tree_of-Links (map (λ e. e.0) es))
      ∙ ap Links (values_back es))
  level (Value-F.Rows es) =
      subst IsBack (sym (rolls-Rows (map (λ e. e.0) es))) (ap value_of (tree_of-Rows (map (λ e. e.0) es))
      ∙ ap Rows (bodies_back es))
  level (Value-F.Cap k) = subst IsBack (sym (rolls-Cap k)) (ap value_of (tree_of-Cap A k))

  pub value_of-tree_of : (v : Value A) → value_of (tree_of v) ≡ v
  value_of-tree_of = ind-Value A IsBack IsBodyBack (λ x y is. subst (λ z. IsBack (roll-Value A z)) is (level y))
      (λ x y is. subst (λ z. values_of (trees_of z.slots) ≡ z.slots) is (values_back y.slots))
