use Rattle.capn_diagnostics.proofs.refusal.tell.Goals as goal

pub returns-clause-told : goal.returns-clause-told
returns-clause-told g c = record {
  path = c.args.refused.now.path.items;
  refused = c.requires.refused;
  slot = c.slot_lines.result;
  lines = rw c.deref.ensures.value at c.slot_lines.ensures;
  is = rw c.head_of.ensures at c.in_ok-text.ensures;
}
