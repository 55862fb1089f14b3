use Rattle.std.proofs.Common.{arith, subst, sym}
use Rattle.capn_value.specs.Tree.{Tree}
use Rattle.capn_layout.specs.Sound.{Sound}
use Rattle.capn_layout.specs.inner.TreeSlots.{HasValue, values_of, PacksNumbers, AreBodies}
use Rattle.capn_layout.specs.inner.Source.{IsItem}
use Rattle.capn_layout.proofs.writer.TreeItems.{root-is, slot-is}
use Rattle.capn_layout.proofs.tree_slots.TreeSlotsSource.item.Goals as goal

pub item_of-requires : goal.item_of-requires
item_of-requires g c =
    let h = subst (λ s. HasValue (values_of s) c.args.slot c.requires.0) c.in-Root.is c.requires.1 in
    subst Sound (root-is c.in-Root.value.now c.args.slot c.requires.0 h) h.sound

pub returns-in-Root-clause-is : goal.returns-in-Root-clause-is
returns-in-Root-clause-is g c v x =
    let h = subst (λ s. HasValue (values_of s) c.args.slot v) c.in-Root.is x in
    subst (λ (t : Tree). IsItem PacksNumbers AreBodies c.item_of.result t)
    (sym (root-is c.in-Root.value.now c.args.slot v h)) c.item_of.ensures

pub offset_bounds-values-slot : goal.offset_bounds-values-slot
offset_bounds-values-slot g c =
    let h = subst (λ s. HasValue (values_of s) c.args.slot c.requires.0) c.in-Slots.is c.requires.1 in
    let l = h.inside in
    omega arith

pub bounds-values-slot : goal.bounds-values-slot
bounds-values-slot g c =
    let h = subst (λ s. HasValue (values_of s) c.args.slot c.requires.0) c.in-Slots.is c.requires.1 in
    let l = h.inside in
    omega arith

pub item_of-requires-in-Slots : goal.item_of-requires-in-Slots
item_of-requires-in-Slots g c =
    let h = subst (λ s. HasValue (values_of s) c.args.slot c.requires.0) c.in-Slots.is c.requires.1 in
    subst Sound (slot-is c.in-Slots.values.now c.args.slot c.requires.0 c.index-values-slot.result
    c.index-values-slot.is h) h.sound

pub returns-in-Slots-clause-is : goal.returns-in-Slots-clause-is
returns-in-Slots-clause-is g c v x =
    let h = subst (λ s. HasValue (values_of s) c.args.slot v) c.in-Slots.is x in
    subst (λ (t : Tree). IsItem PacksNumbers AreBodies c.item_of-in-Slots.result t)
    (sym (slot-is c.in-Slots.values.now c.args.slot v c.index-values-slot.result c.index-values-slot.is h))
    c.item_of-in-Slots.ensures
