-- The height of the value of a target, and the values in its slots, elements and rows. (For the cycle `slots`.)
use Rattle.std.proofs.Common.{◌≡◌, ℕ, ◌+◌, ◌-◌, ◌≤◌, List, subst, ap, ◌∙◌, arith}
use Rattle.capn_words.specs.declared.pointer.Width.{Width}
use Rattle.capn_words.specs.declared.pointer.Width.TheVariants.{Link}
use Rattle.capn_value.specs.Tree.{Tree, nil, node, voids, numbers, links, rows, cap}
use Rattle.capn_value.specs.Cost.{height}
use Rattle.capn_target.specs.declared.target.Target.{Target}
use Rattle.capn_target.specs.declared.target.Target.TheVariants as targets
use Rattle.capn_target.specs.declared.target.Shape.{Shape}
use Rattle.capn_target.specs.declared.target.Shape.TheVariants as shapes
use Rattle.capn_target.specs.Shapes.{IsContent, RowsFit, extent, IsInMessage}
use Rattle.capn_walk.specs.ShownValue.{Shows}
use Rattle.capn_show.specs.ReadyPlaces.{IsFound, IsBody, AreReady, AreRows}
use Rattle.capn_show.proofs.shared.FoundKinds.{as-node, as-links, as-rows}

-- The value of a target with content has a height of at least 1.
high : (m : List (List ℕ)) (s w pads : ℕ) (shape : Shape) (v : Tree)
    → Shows m (targets.Content s w shape pads) v → 1 ≤ height v
high m s w pads shape nil h = absurd (cc)
high m s w pads shape (cap k) h = absurd (cc)
high m s w pads shape (node ws ss) h = omega arith
high m s w pads shape (voids n) h = omega arith
high m s w pads shape (numbers a xs) h = omega arith
high m s w pads shape (links ts) h = omega arith
high m s w pads shape (rows bs) h = omega arith

-- Let the target `found` have content of the given `shape` at word `w` of segment `s`.
module _ (m : List (List ℕ)) (found : Target) (s w pads : ℕ) (shape : Shape)
    (e : found ≡ targets.Content s w shape pads) where
  pub inside : IsInMessage m found → IsContent m (record { segment = s; word = w }) (extent shape) × RowsFit shape
  inside h = subst (λ (t : Target). IsInMessage m t) e h

  module _ (depth : ℕ) (ready : IsFound m found depth) where
    pub deep : 1 ≤ depth
    deep =
        let k = high m s w pads shape ready.value (subst (λ (t : Target). Shows m t ready.value) e ready.is) in
        let l = ready.low in
        omega arith

    here : (other : Shape) → shape ≡ other → Shows m (targets.Content s w other pads) ready.value
    here other f =
        subst (λ (t : Target). Shows m t ready.value) (e ∙ ap (λ (x : Shape). targets.Content s w x pads) f) ready.is

    pub node-ready : (a b : ℕ) → shape ≡ shapes.Node a b → IsBody m s w a b (depth - 1)
    node-ready a b f =
        let x = as-node m s w pads a b ready.value (here (shapes.Node a b) f) in
        let h = ap height x.is in
        let l = ready.low in
        record { words = x.words; slots = x.slots; is = x.are; low = omega arith }

    pub links-ready : (width : Width) (n : ℕ) → shape ≡ shapes.Many width n → width ≡ Link
        → AreReady m s w n (depth - 1)
    links-ready width n f g =
        let x = as-links m s w pads n ready.value (here (shapes.Many Link n) (f
        ∙ ap (λ (y : Width). shapes.Many y n) g)) in
        let h = ap height x.is in
        let l = ready.low in
        record { values = x.slots; are = x.are; count = x.number; low = omega arith }

    pub rows-ready : (n a b span : ℕ) → shape ≡ shapes.Rows n a b span → AreRows m s (w + 1) n a b (depth - 1)
    rows-ready n a b span f =
        let x = as-rows m s w pads n a b span ready.value (here (shapes.Rows n a b span) f) in
        let h = ap height x.is in
        let l = ready.low in
        record { values = x.bodies; are = x.are; count = x.number; low = omega arith }
