use Rattle.plug_build.proofs.Apart.{exec_of-at, later_new}
use Rattle.plug_build.proofs.Worlds.{world_fits, offered_fits, exec_fits}
use Rattle.plug_build.proofs.law.worlds_stay_fit.Goals as goal

pub returns-clause-grown : goal.returns-clause-grown
returns-clause-grown c = world_fits

pub returns-clause-offered : goal.returns-clause-offered
returns-clause-offered c = offered_fits

pub returns-clause-offered_exec : goal.returns-clause-offered_exec
returns-clause-offered_exec c = exec_fits

pub returns-clause-later : goal.returns-clause-later
returns-clause-later c = later_new

pub returns-clause-execs : goal.returns-clause-execs
returns-clause-execs c = exec_of-at
