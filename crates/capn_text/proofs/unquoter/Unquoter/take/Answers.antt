use Rattle.std.proofs.Common.{sym, ap, ◌∙◌}
use Rattle.capn_text.specs.Unquoting.{Unquoting}
use Rattle.capn_text.proofs.Unquotings.{part_given, part_kept}
use Rattle.capn_text.proofs.unquoter.Unquoter.take.Goals as goal

pub returns-then-self : goal.returns-then-self
returns-then-self g c =
    part_given c.args.self.now c.args.part.now c.args.out.now.items c.extend_from_slice.new.self.items c.requires
    (sym (ap (λ (u : Unquoting). u.through) c.self.view_is) ∙ c.if-self.true) c.in_ok-extend_from_slice.ensures.items

pub returns : goal.returns
returns g c =
    let said = c.in_ok-keep.ensures in
    part_kept c.args.self.now c.keep.new.self c.args.part.now c.args.out.now.items c.requires
    (sym (ap (λ (u : Unquoting). u.through) c.self.view_is) ∙ c.if-self.false) said.through said.front said.line
    said.digits said.passed
