use Rattle.std.proofs.Common.{◌∙◌, ap, map, sym, refl, []}
use Rattle.std.specs.Int.{from_bool}
use Rattle.capn_value.specs.NumberWidth.{bit, byte, pair, quad, oct}
use Rattle.capn_value.specs.Tree.{links, rows, numbers}
use Rattle.capn_value.specs.TreeOf.{tree_of, trees_of, rows_of}
use Rattle.capn_value.specs.Views.{tree_of-Node, tree_of-Voids, tree_of-Bits, tree_of-Bytes, tree_of-Pairs}
use Rattle.capn_value.specs.Views.{tree_of-Quads, tree_of-Octs, tree_of-Links, tree_of-Rows}
use Rattle.capn_layout.proofs.writer.TreeItems.{struct-item, links-item, rows-item, voids-list, bits-list}
use Rattle.capn_layout.proofs.writer.TreeItems.{numbers-list}
use Rattle.capn_layout.proofs.tree_slots.item_of.Goals as goal

pub returns-in-Node : goal.returns-in-Node
returns-in-Node g c =
    struct-item (tree_of c.args.value.now) c.in-Node.body _ (ap tree_of c.in-Node.is ∙ tree_of-Node c.in-Node.body)
    c.requires refl

pub returns-in-Voids : goal.returns-in-Voids
returns-in-Voids g c = (
  [],
  refl,
  voids-list (tree_of c.args.value.now) c.in-Voids.count
      (ap tree_of c.in-Voids.is ∙ tree_of-Voids _ c.in-Voids.count) c.requires,
)

pub returns-in-Bits : goal.returns-in-Bits
returns-in-Bits g c =
    let e = ap tree_of c.in-Bits.is ∙ tree_of-Bits _ c.in-Bits.xs
    ∙ ap (λ ys. numbers bit (map from_bool ys)) (sym c.as_slice-xs.ensures) in
    (_, refl, bits-list (tree_of c.args.value.now) c.as_slice-xs.result.now e c.requires)

pub returns-in-Bytes : goal.returns-in-Bytes
returns-in-Bytes g c =
    let e = ap tree_of c.in-Bytes.is ∙ tree_of-Bytes _ c.in-Bytes.xs
    ∙ ap (numbers byte) (sym c.as_slice-xs-in-Bytes.ensures) in
    (_, refl, numbers-list byte (tree_of c.args.value.now) c.as_slice-xs-in-Bytes.result.now e c.requires)

pub returns-in-Pairs : goal.returns-in-Pairs
returns-in-Pairs g c =
    let e = ap tree_of c.in-Pairs.is ∙ tree_of-Pairs _ c.in-Pairs.xs
    ∙ ap (numbers pair) (sym c.as_slice-xs-in-Pairs.ensures) in
    (_, refl, numbers-list pair (tree_of c.args.value.now) c.as_slice-xs-in-Pairs.result.now e c.requires)

pub returns-in-Quads : goal.returns-in-Quads
returns-in-Quads g c =
    let e = ap tree_of c.in-Quads.is ∙ tree_of-Quads _ c.in-Quads.xs
    ∙ ap (numbers quad) (sym c.as_slice-xs-in-Quads.ensures) in
    (_, refl, numbers-list quad (tree_of c.args.value.now) c.as_slice-xs-in-Quads.result.now e c.requires)

pub returns-in-Octs : goal.returns-in-Octs
returns-in-Octs g c =
    let e = ap tree_of c.in-Octs.is ∙ tree_of-Octs _ c.in-Octs.xs
    ∙ ap (numbers oct) (sym c.as_slice-xs-in-Octs.ensures) in
    (_, refl, numbers-list oct (tree_of c.args.value.now) c.as_slice-xs-in-Octs.result.now e c.requires)

pub returns-in-Links : goal.returns-in-Links
returns-in-Links g c =
    links-item (tree_of c.args.value.now) c.as_slice-slots.result.now _ _
    (ap tree_of c.in-Links.is ∙ tree_of-Links c.in-Links.items
    ∙ ap (λ x. links (trees_of x)) (sym c.as_slice-slots.ensures)) c.requires refl refl

pub returns-in-Rows : goal.returns-in-Rows
returns-in-Rows g c =
    rows-item (tree_of c.args.value.now) c.as_slice-bodies.result.now _ _
    (ap tree_of c.in-Rows.is ∙ tree_of-Rows c.in-Rows.rows ∙ ap (λ x. rows (rows_of x)) (sym c.as_slice-bodies.ensures))
    c.requires refl refl
