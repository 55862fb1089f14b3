-- Lemmas for `follow`, `named` and `step_down`: a step of a path, from a target to a value below it.
use Rattle.std.proofs.Common.{◌≡◌, ℕ, zero, suc, ◌+◌, ◌*◌, ◌<◌, ◌≤◌, List, [], ◌∷◌, length, drop, get_or, Some, None}
use Rattle.std.proofs.Common.{refl, subst, sym, ap, ◌∙◌, arith, Err}
use Rattle.std.proofs.Math.Seq.{drop-cons}
use Rattle.std.proofs.Math.ListN.{drop_of_length-le}
use Rattle.capn_words.specs.declared.pointer.Width.{Width}
use Rattle.capn_words.specs.declared.pointer.Width.TheVariants.{Link}
use Rattle.capn_words.specs.declared.space.Place.{Place}
use Rattle.capn_value.specs.Tree.{Tree, node, Trees, no_trees, tree, Bodies, no_bodies, body, count, count_rows}
use Rattle.capn_value.specs.Tree.{tree_at}
use Rattle.capn_value.specs.Cost.{height}
use Rattle.capn_target.specs.declared.target.Target.{Target}
use Rattle.capn_target.specs.declared.target.Target.TheVariants as targets
use Rattle.capn_target.specs.declared.target.Shape.{Shape}
use Rattle.capn_target.specs.declared.target.Shape.TheVariants as shapes
use Rattle.capn_target.specs.declared.target.Fault.{Fault}
use Rattle.capn_target.specs.Target.{target}
use Rattle.capn_walk.specs.ValueAt.{IsAt}
use Rattle.capn_walk.specs.ShownValue.{Shows, words_of_row, slots_of_row}
use Rattle.capn_show.specs.Part.{nth_tree, nth_row, step_down, follow}
use Rattle.capn_show.specs.ReadyPlaces.{HasValue, Holds, LeadsTo, struct_at}
use Rattle.capn_show.proofs.shared.FoundKinds.{as-node, as-links, as-rows}
use Rattle.capn_show.proofs.SlotTexts.{low-at, row-low}
use Rattle.capn_show.proofs.shared.Steps.{found}

pub here : (found : Target) (s w pads : ℕ) (shape other : Shape) → found ≡ targets.Content s w shape pads
    → shape ≡ other → found ≡ targets.Content s w other pads
here found s w pads shape other e f = e ∙ ap (λ (x : Shape). targets.Content s w x pads) f

nth-there : (ts : Trees) (i : ℕ) → i < count ts → nth_tree ts i ≡ Some (tree_at ts i)
nth-there no_trees i h = absurd (omega arith)
nth-there (tree t ts) zero h = refl
nth-there (tree t ts) (suc i) h = nth-there ts i (omega arith)

nth-none : (ts : Trees) (i : ℕ) → count ts ≤ i → nth_tree ts i ≡ None
nth-none no_trees i h = refl
nth-none (tree t ts) zero h = absurd (omega arith)
nth-none (tree t ts) (suc i) h = nth-none ts i (omega arith)

row-there : (bs : Bodies) (i : ℕ) → i < count_rows bs
    → nth_row bs i ≡ Some (node (words_of_row bs i) (slots_of_row bs i))
row-there no_bodies i h = absurd (omega arith)
row-there (body ws ss bs) zero h = refl
row-there (body ws ss bs) (suc i) h = row-there bs i (omega arith)

row-none : (bs : Bodies) (i : ℕ) → count_rows bs ≤ i → nth_row bs i ≡ None
row-none no_bodies i h = refl
row-none (body ws ss bs) zero h = absurd (omega arith)
row-none (body ws ss bs) (suc i) h = row-none bs i (omega arith)

follow-none : (path : List ℕ) → follow path None ≡ None
follow-none [] = refl
follow-none (i ∷ path) = refl

pub follow-one : (path : List ℕ) (i n : ℕ) (t : Tree) → i < length path → n ≡ get_or path i 0
    → follow (drop i path) (Some t) ≡ follow (drop (i + 1) path) (step_down t n)
follow-one path i n t below e =
    let next : suc i ≡ i + 1 = omega arith in
    ap (λ (l : List ℕ). follow l (Some t)) (drop-cons path i 0 below)
    ∙ ap (λ (k : ℕ). follow (drop (suc i) path) (step_down t k)) (sym e)
    ∙ ap (λ (k : ℕ). follow (drop k path) (step_down t n)) next

-- If step `i` of `path` leads from `t` to no value, the steps from `i` on also lead from `t` to no value.
pub follow-stop : (path : List ℕ) (i n : ℕ) (t : Tree) → i < length path → n ≡ get_or path i 0 → step_down t n ≡ None
    → follow (drop i path) (Some t) ≡ None
follow-stop path i n t below e none =
    follow-one path i n t below e ∙ ap (follow (drop (i + 1) path)) none ∙ follow-none (drop (i + 1) path)

pub follow-end : (path : List ℕ) (i : ℕ) (t : Tree) → length path ≤ i → follow (drop i path) (Some t) ≡ Some t
follow-end path i t past = ap (λ (l : List ℕ). follow l (Some t)) (drop_of_length-le path past)

module _ (m : List (List ℕ)) where
  -- If a value is at `at`, the pointer at `at` has no fault.
  pub no-fault-held : (at : Place) (e : Fault) → Holds m at → target m at ≡ Err e → ⊥
  no-fault-held at e h f = let g = (found m at h.0 h.1).1 in absurd (cc)

  module _ (t : Target) (s w pads : ℕ) (shape : Shape) (e : t ≡ targets.Content s w shape pads) where
    named-by : (other : Shape) (v : Tree) → shape ≡ other → Shows m t v
        → Shows m (targets.Content s w other pads) v
    named-by other v f h =
        subst (λ (x : Target). Shows m x v) (e ∙ ap (λ (x : Shape). targets.Content s w x pads) f) h

    -- Case: `shape` is the shape of a struct with `a` data words and `b` slots.
    module _ (a b i : ℕ) (f : shape ≡ shapes.Node a b) where
      pub slot-held : i < b → HasValue m t → Holds m (record { segment = s; word = w + a + i })
      slot-held below h =
          let x = as-node m s w pads a b h.0 (named-by (shapes.Node a b) h.0 f h.1) in
          let number = x.are.slots in
          let there : i < count x.slots = omega arith in
          (tree_at x.slots i, x.are.slot i there)

      pub slot-step : i < b → (found : Target)
          → ((u : Tree) → IsAt m (record { segment = s; word = w + a + i }) u → Shows m found u)
          → (v : Tree) → Shows m t v → LeadsTo m v (step_down v i) found
      slot-step below found shows v h =
          let x = as-node m s w pads a b v (named-by (shapes.Node a b) v f h) in
          let number = x.are.slots in
          let there : i < count x.slots = omega arith in
          let high = ap height x.is in
          let low = low-at x.slots i there in
          record {
            value = tree_at x.slots i;
            is = ap (λ (u : Tree). step_down u i) x.is ∙ nth-there x.slots i there;
            shown = shows (tree_at x.slots i) (x.are.slot i there);
            low = omega arith;
          }

      pub slot-none : b ≤ i → (v : Tree) → Shows m t v → step_down v i ≡ None
      slot-none past v h =
          let x = as-node m s w pads a b v (named-by (shapes.Node a b) v f h) in
          let number = x.are.slots in
          ap (λ (u : Tree). step_down u i) x.is ∙ nth-none x.slots i (omega arith)

    -- Case: `shape` is the shape of a list of `n` pointers.
    module _ (width : Width) (n i : ℕ) (f : shape ≡ shapes.Many width n) (g : width ≡ Link) where
      is-links : shape ≡ shapes.Many Link n
      is-links = f ∙ ap (λ (y : Width). shapes.Many y n) g

      pub link-held : i < n → HasValue m t → Holds m (record { segment = s; word = w + i })
      link-held below h =
          let x = as-links m s w pads n h.0 (named-by (shapes.Many Link n) h.0 is-links h.1) in
          let number = x.number in
          let there : i < count x.slots = omega arith in
          (tree_at x.slots i, x.are i there)

      pub link-step : i < n → (found : Target)
          → ((u : Tree) → IsAt m (record { segment = s; word = w + i }) u → Shows m found u)
          → (v : Tree) → Shows m t v → LeadsTo m v (step_down v i) found
      link-step below found shows v h =
          let x = as-links m s w pads n v (named-by (shapes.Many Link n) v is-links h) in
          let number = x.number in
          let there : i < count x.slots = omega arith in
          let high = ap height x.is in
          let low = low-at x.slots i there in
          record {
            value = tree_at x.slots i;
            is = ap (λ (u : Tree). step_down u i) x.is ∙ nth-there x.slots i there;
            shown = shows (tree_at x.slots i) (x.are i there);
            low = omega arith;
          }

      pub link-none : n ≤ i → (v : Tree) → Shows m t v → step_down v i ≡ None
      link-none past v h =
          let x = as-links m s w pads n v (named-by (shapes.Many Link n) v is-links h) in
          let number = x.number in
          ap (λ (u : Tree). step_down u i) x.is ∙ nth-none x.slots i (omega arith)

    -- Case: `shape` is the shape of a list of `n` structs.
    module _ (n a b span i : ℕ) (f : shape ≡ shapes.Rows n a b span) where
      pub row-step : i < n → (v : Tree) → Shows m t v
          → LeadsTo m v (step_down v i) (struct_at s (w + 1 + i * (a + b)) a b)
      row-step below v h =
          let x = as-rows m s w pads n a b span v (named-by (shapes.Rows n a b span) v f h) in
          let number = x.number in
          let there : i < count_rows x.bodies = omega arith in
          let high = ap height x.is in
          let low = row-low x.bodies i there in
          record {
            value = node (words_of_row x.bodies i) (slots_of_row x.bodies i);
            is = ap (λ (u : Tree). step_down u i) x.is ∙ row-there x.bodies i there;
            shown = x.are i there;
            low = omega arith;
          }

      pub no-row : n ≤ i → (v : Tree) → Shows m t v → step_down v i ≡ None
      no-row past v h =
          let x = as-rows m s w pads n a b span v (named-by (shapes.Rows n a b span) v f h) in
          let number = x.number in
          ap (λ (u : Tree). step_down u i) x.is ∙ row-none x.bodies i (omega arith)
