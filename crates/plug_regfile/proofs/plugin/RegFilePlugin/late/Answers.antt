use Rattle.std.proofs.Common.{refl, arith, false}
use Rattle.hw_module.specs.Rights.{Rights}
use Rattle.service_reg.specs.declared.service.Service.TheVariants.{Fetch, RegFile, DataBus}
use Rattle.service_ports.specs.Ports.{regfile_ports}
use Rattle.plug_api.specs.Calls.{terms_of}
use Rattle.plug_build.specs.World.{World, world_of}
use Rattle.plug_build.proofs.Offers.{offer_fits}
use Rattle.plug_build.proofs.Worlds.{world_fits, builds_of}
use Rattle.plug_kinds.specs.Kinds.{params_of, spec_of}
use Rattle.plug_kinds.specs.declared.kind.Kind.TheVariants.{Regfile}
use Rattle.plug_regfile.proofs.Keeps.{parts_meet_laws}
use Rattle.plug_regfile.proofs.Late.{array_owned, array_open, built, done}
use Rattle.plug_regfile.proofs.plugin.RegFilePlugin.late.Goals as goal

no_rights : Rights
no_rights = record { wires = λ k. false; locked = λ k. false; outs = λ k. false }

pub own_ports-ports-requires : goal.own_ports-ports-requires
own_ports-ports-requires c = record { offers = c.requires.offered RegFile }

pub own_array-array-requires : goal.own_array-array-requires
own_array-array-requires c = record { owns = array_owned _ c.args.b.now.entry (world_of c.args.pool.now c.args.b.now c.args.reg.now) c.requires.begun }

pub write_cells-requires-clause-inputs : goal.write_cells-requires-clause-inputs
write_cells-requires-clause-inputs c =
    (offer_fits c.args.b.now.design c.args.pool.now c.args.reg.now c.requires.fits.offers c.args.b.now.entry RegFile (regfile_ports c.own_ports-ports.result) c.own_ports-ports.ensures).inputs

pub write_cells-requires-clause-open : goal.write_cells-requires-clause-open
write_cells-requires-clause-open c =
    array_open _ c.args.b.now.entry (world_of c.args.pool.now c.args.b.now c.args.reg.now) c.requires.begun c.own_array-array.result c.own_array-array.ensures.owner

abbrev old_world : goal.After-write_cells → World
old_world c = world_of c.args.pool.now c.args.b.now c.args.reg.now

abbrev new_world : goal.After-write_cells → World
new_world c = world_of c.write_cells.new.pool c.write_cells.new.b c.args.reg.now

pub returns-clause-fits : goal.returns-clause-fits
returns-clause-fits c =
    let w = c.write_cells.ensures.writes in
    world_fits (old_world c) (new_world c) 3 1 c.requires.fits c.write_cells.ensures.adds (w.makes no_rights).grows w.drivers (λ f. f)

pub returns-clause-adds : goal.returns-clause-adds
returns-clause-adds c = builds_of _ _ _ 3 1 _ _ c.write_cells.ensures.adds (c.write_cells.ensures.writes.makes _) (omega arith)

pub returns-clause-builds : goal.returns-clause-builds
returns-clause-builds c =
    built _ c.args.b.now.entry (old_world c) c.requires.begun (new_world c) c.requires.fits c.write_cells.ensures.adds refl
    c.own_ports-ports.result c.own_ports-ports.ensures c.own_array-array.result c.own_array-array.ensures.owner c.write_cells.ensures.writes

pub returns-clause-done : goal.returns-clause-done
returns-clause-done c =
    done _ c.args.b.now.entry (old_world c) c.requires.begun (new_world c) c.requires.fits c.write_cells.ensures.adds refl
    c.own_ports-ports.result c.own_ports-ports.ensures c.own_array-array.result c.own_array-array.ensures.owner c.write_cells.ensures.writes
    (c.requires.offered Fetch) (c.requires.offered DataBus)

pub returns-clause-law : goal.returns-clause-law
returns-clause-law c = λ p b. parts_meet_laws (terms_of (spec_of Regfile (params_of c.args.self.now.state.taken)) c.args.plan.now) p b
