use Rattle.std.proofs.Common.{sym, ap, ◌∙◌}
use Rattle.capn_target.specs.Target.{target_of_pointer, target}
use Rattle.capn_target.proofs.shared.Inside.{answer-inside}
use Rattle.capn_target.proofs.slot_target.resolve.Goals as goal

pub returns-clause-inside : goal.returns-clause-inside
unfolding target
returns-clause-inside g c =
    let m = c.args.space.now in
    answer-inside m c.args.at c.named.result c.requires
    (sym (c.named.ensures.named
    ∙ ap (target_of_pointer m c.args.at.segment c.args.at.word) c.pointer_at-pointer.ensures.pointer))
