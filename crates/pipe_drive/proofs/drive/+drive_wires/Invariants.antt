use Rattle.std.proofs.Common.{length}
use Rattle.pipe_drive.proofs.drive.«+drive_wires».Given as goal

abbrev pub decreases-drive_wires : goal.decreases-drive_wires
decreases-drive_wires l = length l.drives.now
