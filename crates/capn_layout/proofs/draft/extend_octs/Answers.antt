use Rattle.std.proofs.Common.{ℕ, ◌+◌, List, length, refl, ◌∙◌, subst, arith}
use Rattle.std.specs.List.{flat_map}
use Rattle.byteorder.specs.Endian.{little_bytes}
use Rattle.capn_layout.specs.inner.Draft.{Appends}
use Rattle.capn_layout.proofs.writer.PackedBytes.{packed-numbers, packed-words, length-numbers, words-packed}
use Rattle.capn_layout.proofs.writer.Drafted.{appended}
use Rattle.capn_layout.proofs.draft.extend_octs.Goals as goal

pub returns : goal.returns
returns c =
    let xs = c.args.xs.now in
    let bs = flat_map (little_bytes 8) xs in
    let n = length-numbers 8 xs in
    subst (λ (ws : List ℕ). Appends c.args.len (c.args.len + length xs) ws c.args.out.now c.write_octs.new.out)
    (words-packed (length xs) bs
    ∙ packed-numbers 8 1 64 (length xs) xs refl refl (λ i. omega (arith, c.type_inv.xs i)) ∙ packed-words xs)
    (appended c.args.len (length xs) (c.args.len + length xs) bs c.args.out.now c.write_octs.new.out
    (let r = c.requires in omega arith) n refl c.write_octs.ensures)
