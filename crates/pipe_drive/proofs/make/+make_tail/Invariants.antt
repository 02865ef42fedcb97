use Rattle.pipe_drive.proofs.make.«+make_tail».Given as goal

abbrev pub decreases-make_tail : goal.decreases-make_tail
decreases-make_tail l = l.places
