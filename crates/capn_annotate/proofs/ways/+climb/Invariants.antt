use Rattle.capn_annotate.proofs.ways.+climb.Given as goal

abbrev pub decreases-climb : goal.decreases-climb
decreases-climb g l = l.levels
