use Rattle.std.proofs.Common.{length}
use Rattle.pipe_drive.proofs.drive.«+drive_outs».Given as goal

abbrev pub decreases-drive_outs : goal.decreases-drive_outs
decreases-drive_outs l = length l.drives.now
