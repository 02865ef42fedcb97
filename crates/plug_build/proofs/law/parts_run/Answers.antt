use Rattle.plug_build.proofs.Runs.{part_run}
use Rattle.plug_build.proofs.PartRuns.{runs_part}
use Rattle.plug_build.proofs.law.parts_run.Goals as goal

pub returns-clause-runs : goal.returns-clause-runs
returns-clause-runs c = part_run

pub returns-clause-part_runs : goal.returns-clause-part_runs
returns-clause-part_runs c = runs_part
