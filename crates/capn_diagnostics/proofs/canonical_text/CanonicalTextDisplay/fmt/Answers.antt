use Rattle.capn_diagnostics.proofs.canonical_text.CanonicalTextDisplay.fmt.Goals as goal

pub returns-in-Pointer-clause-writes : goal.returns-in-Pointer-clause-writes
returns-in-Pointer-clause-writes g c = rw c.in-Pointer.is c.write-in-Pointer.ensures.writes

pub returns-in-Tag-clause-writes : goal.returns-in-Tag-clause-writes
returns-in-Tag-clause-writes g c = rw c.in-Tag.is c.write-in-Tag.ensures.writes

pub returns-in-LastWord-clause-writes : goal.returns-in-LastWord-clause-writes
returns-in-LastWord-clause-writes g c = rw c.in-LastWord.is c.write-in-LastWord.ensures.writes

pub returns-in-After-clause-writes : goal.returns-in-After-clause-writes
returns-in-After-clause-writes g c = rw c.in-After.is c.write-in-After.ensures.writes
