use Rattle.std.proofs.Common.{ℕ, ◌*◌, ◌≡◌, length, replicate, subst, arith}
use Rattle.capn_target.specs.Target.{words_for}
use Rattle.capn_layout.specs.inner.Draft.{Writes}
use Rattle.capn_layout.proofs.writer.Drafted.{padded-appended, zeros-end}
use Rattle.capn_layout.proofs.draft.extend_bytes.Goals as goal

pub returns : goal.returns
returns c =
    let xs = c.args.xs.now in
    let k = words_for (8 * length xs) in
    let z = c.extend_zeros-end.ensures in
    let e : c.div_ceil.result ≡ k = omega (arith, c.div_ceil.ensures) in
    padded-appended c.args.len k c.extend_zeros-end.result xs c.args.out.now c.extend_zeros-end.new.out c.write.new.out
    c.requires (omega arith)
    (zeros-end c.args.len k c.extend_zeros-end.result c.div_ceil.result c.args.out.now c.extend_zeros-end.new.out e
    z.words)
    (subst (λ (j : ℕ). Writes (8 * c.args.len) (replicate (8 * j) 0) c.args.out.now c.extend_zeros-end.new.out) e
    z.bytes) c.write.ensures
