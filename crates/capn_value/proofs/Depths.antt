-- Lemmas for `cost_and_height.rt`, `flaws.rt`, `sameness.rt` and others: the values below a value are less deep, so the
-- functions that call themselves on those values terminate.
use Rattle.std.proofs.Common.{◌≡◌, ℕ, ◌+◌, ◌*◌, ◌<◌, ◌≤◌, List, length, get_or, ap, arith, rules}
use denote.Param.Weighed.{most, at_most}
use Rattle.capn_value.specs.declared.value.Value.{Value, Node, Links, Rows, size-Value, the_lemmas}
use Rattle.capn_value.specs.declared.value.Body.{Body, size-Body}

-- the measure of a call on a less deep value, `2 * x + 0`, is below the caller's measure `t`
pub falls : (x y q t : ℕ) → 2 * y + q ≡ t → x < y → 2 * x + 0 < t
falls x y q t e h = omega arith

pub falls_above : (x y q t : ℕ) → 2 * y + q ≡ t → x < y → 2 * x + 1 < t
falls_above x y q t e h = omega arith

pub steps_down : (x y t : ℕ) → 2 * y + 1 ≡ t → x ≤ y → 2 * x + 0 < t
steps_down x y t e h = omega arith

module _ {A : Type 0} where
  links_hold : (vs : List (Value A)) → most (size-Value A) vs < size-Value A (Links vs)
  links_hold vs = search (rules, the_lemmas)

  rows_hold : (bs : List (Body A)) → most (size-Body A) bs < size-Value A (Rows bs)
  rows_hold bs = search (rules, the_lemmas)

  node_holds : (b : Body A) → size-Body A b < size-Value A (Node b)
  node_holds b = search (rules, the_lemmas)

  body_holds : (b : Body A) → most (size-Value A) b.slots < size-Body A b
  body_holds b = search (rules, the_lemmas)

  pub in_body : (b : Body A) {s : List (Value A)} → s ≡ b.slots → most (size-Value A) s < size-Body A b
  in_body b e = rw e (body_holds b)

  module _ (v : Value A) where
    pub in_links : {vs s : List (Value A)} → v ≡ Links vs → s ≡ vs → most (size-Value A) s < size-Value A v
    in_links {vs} e f = rw (e, f) (links_hold vs)

    pub in_rows : {bs s : List (Body A)} → v ≡ Rows bs → s ≡ bs → most (size-Body A) s < size-Value A v
    in_rows {bs} e f = rw (e, f) (rows_hold bs)

    pub in_node : (b : Body A) → v ≡ Node b → size-Body A b < size-Value A v
    in_node b e = rw e (node_holds b)

    pub in_slots : (b : Body A) {s : List (Value A)} → v ≡ Node b → s ≡ b.slots → most (size-Value A) s < size-Value A v
    in_slots b e f = let outer = in_node b e in let inner = in_body b f in omega arith

  pub item_below : (items : List (Value A)) (i : ℕ) (v : Value A) → i < length items → v ≡ get_or items i v
      → size-Value A v ≤ most (size-Value A) items
  item_below items i v h e = let within = at_most (size-Value A) items i v h in let same = ap (size-Value A) e in
      omega arith

  pub row_below : (bodies : List (Body A)) (i : ℕ) (b : Body A) → i < length bodies → b ≡ get_or bodies i b
      → size-Body A b ≤ most (size-Body A) bodies
  row_below bodies i b h e = let within = at_most (size-Body A) bodies i b h in let same = ap (size-Body A) e in
      omega arith

  pub row_slots_below : (bodies : List (Body A)) (i : ℕ) (b : Body A) {s : List (Value A)} → i < length bodies
      → b ≡ get_or bodies i b → s ≡ b.slots →
      most (size-Value A) s < most (size-Body A) bodies
  row_slots_below bodies i b h e f = let within = row_below bodies i b h e in let inner = in_body b f in omega arith
