use Rattle.capn_diagnostics.proofs.frame_text.FrameKeyDisplay.fmt.Goals as goal

pub returns-in-AtLeast-clause-writes : goal.returns-in-AtLeast-clause-writes
returns-in-AtLeast-clause-writes g c = rw c.in-AtLeast.is c.write-in-AtLeast.ensures.writes

pub returns-in-Group-clause-writes : goal.returns-in-Group-clause-writes
returns-in-Group-clause-writes g c = rw c.in-Group.is c.write-in-Group.ensures.writes
