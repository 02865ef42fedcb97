use Rattle.pipe_drive.proofs.make.«+make_chosen».Given as goal

abbrev pub decreases-make_chosen : goal.decreases-make_chosen
decreases-make_chosen l = l.units
