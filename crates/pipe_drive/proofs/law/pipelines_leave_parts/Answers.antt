use Rattle.pipe_drive.proofs.Left.{all_driven, pipe_leaves}
use Rattle.pipe_drive.proofs.law.pipelines_leave_parts.Goals as goal

pub returns : goal.returns
returns c = record { leaves = pipe_leaves; driven = all_driven }
