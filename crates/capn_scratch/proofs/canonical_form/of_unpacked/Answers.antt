use Rattle.std.proofs.Common.{ℕ, List, ◌*◌, length, take, ap, sym, subst, arith}
use Rattle.capn_pack.specs.Packed.{Packs}
use Rattle.capn_pack.proofs.shared.GroupLaws.{refused_only}
use Rattle.capn_scratch.proofs.Forms.{all_unpacked, packed_told}
use Rattle.capn_scratch.proofs.canonical_form.of_unpacked.Goals as goal

pub returns-in-Ok-clause-told : goal.returns-in-Ok-clause-told
returns-in-Ok-clause-told g c =
    let bs = c.args.bytes.now in
    let text = c.into_bytes.result in
    let p = c.requires.packs in
    let found = subst (λ (xs : List ℕ). Packs bs (take (8 * c.in-Ok.field-0) xs)) (sym c.into_bytes.ensures)
    c.in-Ok.ensures.found in
    let packs = all_unpacked bs p.0 text c.in-Ok.field-0 c.args.words p.1 p.2 found
    (omega (arith, ap length c.into_bytes.ensures)) in
    packed_told bs text c.args.words packs (omega (arith, ap length c.into_bytes.ensures)) c.args.limits _
    c.args.out.now c.of_frame.new.out c.of_frame.result c.requires.few c.of_frame.ensures.told

pub returns-in-Err-clause-told : goal.returns-in-Err-clause-told
returns-in-Err-clause-told g c =
    let p = c.requires.packs in
    absurd (c.in-Err.ensures.no_memory
    (refused_only c.in-Err.fault c.args.bytes.now p.0 c.args.words c.in-Err.ensures.refused p.1 (omega (arith, p.2))))
