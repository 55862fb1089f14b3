-- A step of the walk that writes a text: a place with a value has a target, which shows the value. (For the cycle
-- `slots`.)
use Rattle.std.proofs.Common.{◌≡◌, ℕ, ◌+◌, ◌*◌, ◌<◌, List, Ok, Err, sym, arith}
use Rattle.capn_words.specs.declared.space.Place.{Place}
use Rattle.capn_value.specs.Tree.{Tree, nil, node, voids, numbers, links, rows, cap}
use Rattle.capn_value.specs.Tree.{count, count_rows, tree_at}
use Rattle.capn_target.specs.declared.target.Target.{Target}
use Rattle.capn_target.specs.declared.target.Target.TheVariants as targets
use Rattle.capn_target.specs.declared.target.Fault.{Fault}
use Rattle.capn_target.specs.Target.{target}
use Rattle.capn_walk.specs.ValueAt.{IsAt}
use Rattle.capn_walk.specs.ShownValue.{ViewsShow, words_of_row, slots_of_row}
use Rattle.capn_show.specs.ReadyPlaces.{IsReady, IsFound, IsBody, AreReady, AreRows}
use Rattle.capn_show.proofs.SlotTexts.{low-at, row-low}

module _ (m : List (List ℕ)) where
  -- If the value `v` is at `at`, the pointer at `at` has a target.
  pub found : (at : Place) (v : Tree) → IsAt m at v → (t : Target) × (target m at ≡ Ok t)
  found at nil h = (targets.Nil, h)
  found at (cap k) h = (targets.Cap k, h)
  found at (node ws ss) h = (_, h.is)
  found at (voids n) h = (_, h.is)
  found at (numbers a xs) h = (_, h.is)
  found at (links ts) h = (_, h.is)
  found at (rows bs) h = (_, h.3.is)

  -- If a value is at `at`, the pointer at `at` has no fault.
  pub no-fault : (at : Place) (depth : ℕ) (e : Fault) → IsReady m at depth → target m at ≡ Err e → ⊥
  no-fault at depth e r f = let g = (found at r.value r.is).1 in absurd (cc)

  -- If a value is at `at`, the target `t` of the pointer at `at` shows this value.
  pub found-ready : (laws : (message : List (List ℕ)) (at : Place) (t : Target) (v : Tree) → ViewsShow message at t v)
      (at : Place) (t : Target) (depth : ℕ) → target m at ≡ Ok t → IsReady m at depth → IsFound m t depth
  found-ready laws at t depth e r = record { value = r.value; is = laws m at t r.value e r.is; low = r.low }

  pub slot-ready : (s w number depth i : ℕ) → i < number → AreReady m s w number depth
      → IsReady m (record { segment = s; word = w + i }) depth
  slot-ready s w number depth i below r =
      let n = r.count in
      let there : i < count r.values = omega arith in
      let k = low-at r.values i there in
      let l = r.low in
      record { value = tree_at r.values i; is = r.are i there; low = omega arith }

  pub row-ready : (s w number a b depth i : ℕ) → i < number → AreRows m s w number a b depth
      → IsBody m s (w + i * (a + b)) a b depth
  row-ready s w number a b depth i below r =
      let n = r.count in
      let there : i < count_rows r.values = omega arith in
      let k = row-low r.values i there in
      let l = r.low in
      record {
        words = words_of_row r.values i;
        slots = slots_of_row r.values i;
        is = r.are i there;
        low = omega arith;
      }

  pub slots-ready : (s w a b depth : ℕ) → IsBody m s w a b depth → AreReady m s (w + a) b depth
  slots-ready s w a b depth r = record { values = r.slots; are = r.is.slot; count = sym r.is.slots; low = r.low }
