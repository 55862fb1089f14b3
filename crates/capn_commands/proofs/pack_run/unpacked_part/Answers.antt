use Rattle.std.proofs.Common.{arith, refl}
use Rattle.capn_pack.proofs.shared.ChosenLaws.{chosen_whole}
use Rattle.capn_commands.proofs.LastWord.{open_last}
use Rattle.capn_commands.proofs.Settled.{last_inside, last_of, settled_front, settled_tag}
use Rattle.capn_commands.proofs.pack_run.unpacked_part.Goals as goal

pub bounds-text-progress : goal.bounds-text-progress
bounds-text-progress g c =
    let l = last_of c.args.text.now c.args.words.now _ _ _ _ _ c.requires.chosen c.requires.some
    c.in_ok-progress.ensures.some in
    last_inside c.args.text.now c.args.words.now _ _ _ l

pub returns-then-may_go_on : goal.returns-then-may_go_on
returns-then-may_go_on g c =
    let l = last_of c.args.text.now c.args.words.now _ _ _ _ _ c.requires.chosen c.requires.some
    c.in_ok-progress.ensures.some in
    settled_front c.args.text.now c.args.words.now _ _ _ l (omega (arith, chosen_whole _ _ c.requires.chosen))
    (c.may_go_on.ensures.open c.if-may_go_on.true)
    (open_last c.args.text.now c.args.words.now _ _ _ _ l refl (c.may_go_on.ensures.tag c.if-may_go_on.true))

pub returns : goal.returns
returns g c =
    let l = last_of c.args.text.now c.args.words.now _ _ _ _ _ c.requires.chosen c.requires.some
    c.in_ok-progress.ensures.some in
    settled_tag c.args.text.now c.args.words.now _ _ _ _ l c.requires.chosen refl
    (c.may_go_on.ensures.closed c.if-may_go_on.false)
