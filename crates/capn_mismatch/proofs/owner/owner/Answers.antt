use Rattle.capn_mismatch.proofs.Owning.{pointer-owned, tag-owned, last-owned}
use Rattle.capn_mismatch.proofs.owner.owner.Goals as goal

pub returns-in-Pointer : goal.returns-in-Pointer
returns-in-Pointer g c =
    let h = rw c.in-Pointer.is at c.in_ok-found.ensures in
    pointer-owned c.args.canonical.now c.args.limits c.args.word c.in_ok-found.path.items h

pub returns-in-Tag : goal.returns-in-Tag
returns-in-Tag g c =
    let h = rw c.in-Tag.is at c.in_ok-found.ensures in
    tag-owned c.args.canonical.now c.args.limits c.args.word c.in_ok-found.path.items h

pub returns-in-LastWord : goal.returns-in-LastWord
returns-in-LastWord g c =
    let h = rw c.in-LastWord.is at c.in_ok-found.ensures in
    last-owned c.args.canonical.now c.args.limits c.args.word c.in_ok-found.path.items h
