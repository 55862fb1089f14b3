use Rattle.std.proofs.Common.{ℕ, List, take, replicate, length, subst, ap, arith}
use Rattle.std.proofs.lemmas.List.{length-take-le}
use Rattle.capn_layout.specs.inner.Draft.{Appends}
use Rattle.capn_layout.proofs.writer.Drafted.{appends-then, appends-length}
use Rattle.capn_layout.proofs.tree_slots.push_body.Goals as goal

pub extend_zeros-requires : goal.extend_zeros-requires
extend_zeros-requires g c =
    let e = ap length c.as_slice.ensures in
    let w = c.requires.wide in
    let l = length-take-le c.args.words c.as_slice.result.now (omega arith) in
    let r = c.requires.room in
    let a = c.extend_octs-end.ensures in
    let n = appends-length c.args.len c.extend_octs-end.result (take c.args.words c.as_slice.result.now) c.args.out.now
    c.extend_octs-end.new.out a in
    let k = a.kept.same in
    omega arith

pub returns : goal.returns
returns g c =
    let a = subst (λ (xs : List ℕ). Appends c.args.len c.extend_octs-end.result (take c.args.words xs) c.args.out.now
    c.extend_octs-end.new.out) c.as_slice.ensures c.extend_octs-end.ensures in
    appends-then c.args.len c.extend_octs-end.result c.extend_zeros.result (take c.args.words c.args.body.now.words)
    (replicate c.args.slots 0) c.args.out.now c.extend_octs-end.new.out c.extend_zeros.new.out a
    c.extend_zeros.ensures.words
