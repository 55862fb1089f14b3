use Rattle.std.proofs.Common.{is_ok}
use Rattle.capn_text.proofs.Unquotings.{quiet_either}
use Rattle.capn_text.proofs.unquoter.Unquoter.keep.Goals as goal

pub invariant_of-self : goal.invariant_of-self
invariant_of-self g c = (
  quiet_either (is_ok c.extend_from_slice.result) c.self.inside.front.items c.args.part.now
      c.extend_from_slice.new.self.items c.self.invariant.0 c.requires c.extend_from_slice.ensures.items,
  c.self.invariant.1,
)

pub returns-clause-quiet : goal.returns-clause-quiet
returns-clause-quiet g c =
    quiet_either (is_ok c.extend_from_slice.result) c.self.inside.front.items c.args.part.now
    c.extend_from_slice.new.self.items c.self.invariant.0 c.requires c.extend_from_slice.ensures.items
