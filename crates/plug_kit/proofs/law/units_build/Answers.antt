use Rattle.plug_kit.proofs.Unit.{unit_fits, unit_builds, unit_open, unit_offer, unit_wires, unit_regs, unit_arrays}
use Rattle.plug_kit.proofs.law.units_build.Goals as goal

pub returns-clause-fits : goal.returns-clause-fits
returns-clause-fits c = unit_fits

pub returns-clause-builds : goal.returns-clause-builds
returns-clause-builds c = unit_builds

pub returns-clause-are_open : goal.returns-clause-are_open
returns-clause-are_open c = unit_open

pub returns-clause-offers : goal.returns-clause-offers
returns-clause-offers c = unit_offer

pub returns-clause-wires : goal.returns-clause-wires
returns-clause-wires c = unit_wires

pub returns-clause-regs : goal.returns-clause-regs
returns-clause-regs c = unit_regs

pub returns-clause-arrays : goal.returns-clause-arrays
returns-clause-arrays c = unit_arrays
