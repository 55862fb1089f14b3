use Rattle.std.proofs.Common.{ℕ, ◌*◌, ◌≡◌, List, length, replicate, refl, subst, arith}
use Rattle.std.specs.List.{flat_map}
use Rattle.byteorder.specs.Endian.{little_bytes}
use Rattle.capn_target.specs.Target.{words_for}
use Rattle.capn_layout.specs.inner.Draft.{Writes, Appends}
use Rattle.capn_layout.proofs.writer.PackedBytes.{packed-numbers, length-numbers}
use Rattle.capn_layout.proofs.writer.Drafted.{padded-appended, zeros-end}
use Rattle.capn_layout.proofs.draft.extend_quads.Goals as goal

pub returns : goal.returns
returns c =
    let xs = c.args.xs.now in
    let bs = flat_map (little_bytes 4) xs in
    let n = length-numbers 4 xs in
    let k = words_for (32 * length xs) in
    let z = c.extend_zeros-end.ensures in
    let e : c.div_ceil.result ≡ k = omega (arith, c.div_ceil.ensures) in
    subst (λ (ws : List ℕ). Appends c.args.len c.extend_zeros-end.result ws c.args.out.now c.write_quads.new.out)
    (packed-numbers 4 2 32 k xs refl refl (λ i. omega (arith, c.type_inv.xs i)))
    (padded-appended c.args.len k c.extend_zeros-end.result bs c.args.out.now c.extend_zeros-end.new.out
    c.write_quads.new.out c.requires (omega arith)
    (zeros-end c.args.len k c.extend_zeros-end.result c.div_ceil.result c.args.out.now c.extend_zeros-end.new.out e
    z.words)
    (subst (λ (j : ℕ). Writes (8 * c.args.len) (replicate (8 * j) 0) c.args.out.now c.extend_zeros-end.new.out) e
    z.bytes) c.write_quads.ensures)
