use Rattle.std.proofs.Common.{◌∙◌, ℕ, ◌+◌, ◌*◌, ◌-◌, ◌<◌, List, length, arith, ap, refl, subst, sym, false, is_some}
use Rattle.hw_gates.proofs.Steps.{◌▸◌, adds_of}
use Rattle.hw_module.specs.Scope.{scope_of}
use Rattle.hw_module.proofs.Drivers.{drivers_stay}
use Rattle.hw_pool.proofs.Frames.{adds_nothing}
use Rattle.plug_build.proofs.Worlds.{builds_of, world_fits}
use Rattle.hw_module.specs.declared.rows.Owner.TheVariants.{Pipe}
use Rattle.pipe_drive.specs.Rights.{pipe_rights}
use Rattle.pipe_drive.proofs.Left.{all_driven}
use Rattle.pipe_steps.specs.Things.{PipeUnit}
use Rattle.pipe_steps.specs.Values.{made_late_in}
use Rattle.std.specs.Prelude.{All}
use Rattle.pipe_steps.specs.Drives.{DrivesUnit, PipeDrives, TailHas}
use Rattle.pipe_steps.proofs.Fit.{is_pipeline}
use Rattle.service_ports.specs.declared.ports.ExecOffer.{ExecOffer}
use Rattle.service_ports.specs.Ports.{system_ports}
use Rattle.part_laws.specs.Registered.{services_of}
use Rattle.pipe_steps.specs.Numbers.{tail_from, things_from, units_of}
use Rattle.pipe_build.specs.Ready.{shape_by, world_with}
use Rattle.pipe_build.specs.Undriven.{AreUndriven}
use Rattle.pipe_build.specs.UnitOuts.{AreExecs}
use Rattle.pipe_build.proofs.AllNets.{nets_on}
use Rattle.pipe_build.proofs.Bears.{later}
use Rattle.pipe_build.proofs.Begun.{are_execs, are_offers, are_undriven, made_fits, made_grows, take_is}
use Rattle.pipe_build.proofs.Before.{before_rest}
use Rattle.pipe_build.proofs.CanRest.{can_rest}
use Rattle.pipe_build.proofs.Ended.{all_drive, before_at, bus_is, holds_is, inputs_are, places_stay, rest_at, some_offered, system_there, units_of_all}
use Rattle.pipe_build.proofs.Later.{unit_later}
use Rattle.pipe_build.proofs.RestDrives.{rest_drives}
use Rattle.pipe_build.proofs.Covered.{rest_left}
use Rattle.pipe_build.proofs.Makes.{top_makes}
use Rattle.pipe_build.proofs.Found.{chosen_are, places_are, regs_found, tail_is, wires_found}
use Rattle.pipe_build.proofs.Has.{grows_both, later_grown}
use Rattle.pipe_build.proofs.phase.build_pipe.Goals as goal

pub prove-unreachable-requires : goal.prove-unreachable-requires
prove-unreachable-requires c =
    let long = ap length (c.as_slice-execs.ensures.value ∙ c.execs.ensures) in
    omega (arith, c.requires.room, long, c.if-prove.true, c.room-room.ensures)

pub overflow_cast-units : goal.overflow_cast-units
overflow_cast-units c = omega (arith, c.if-prove.false, c.room-room.type_inv)

pub pipe_nets-n-requires-clause-regs : goal.pipe_nets-n-requires-clause-regs
pipe_nets-n-requires-clause-regs c = regs_found c.make_things-made.ensures.made c.make_things-made.result.reg c.make_things-made.ensures.reg

pub pipe_nets-n-requires-clause-wires : goal.pipe_nets-n-requires-clause-wires
pipe_nets-n-requires-clause-wires c = wires_found c.make_things-made.ensures.made c.make_things-made.result.wire c.make_things-made.ensures.wire

pub pipe_nets-n-requires-clause-chosen : goal.pipe_nets-n-requires-clause-chosen
pipe_nets-n-requires-clause-chosen c = chosen_are c.make_things-made.ensures.made c.make_things-made.result.reg c.make_things-made.ensures.reg

pub pipe_nets-n-requires-clause-tail : goal.pipe_nets-n-requires-clause-tail
pipe_nets-n-requires-clause-tail c = tail_is c.make_things-made.new.m _ (c.args.stages - 2) (places_are c.make_things-made.ensures.made c.make_things-made.result.reg c.make_things-made.ensures.reg)

pub pipe_nets-n-requires-clause-take : goal.pipe_nets-n-requires-clause-take
pipe_nets-n-requires-clause-take c = take_is c.args.pool.now c.args.m.now c.args.reg.now c.requires.fits c.requires.ready c.offers-o.result c.offers-o.ensures.offered c.make_things-made.new.m c.args.reset_pc _ (c.args.stages - 2) c.make_things-made.ensures.made

pub pipe_nets-n-requires-clause-known : goal.pipe_nets-n-requires-clause-known
pipe_nets-n-requires-clause-known c = (c.args.pool.now.nodes, (services_of (λ e t. false) c.args.pool.now.nodes c.args.reg.now), (shape_by c.args.stages c.args.reset_pc c.args.commits.now c.args.reg.now), (are_offers c.args.pool.now c.args.m.now c.args.reg.now c.requires.fits c.requires.ready c.offers-o.result c.offers-o.ensures.offered c.make_things-made.new.m c.args.reset_pc _ (c.args.stages - 2) c.make_things-made.ensures.made (λ e t. false) c.args.pool.now.nodes (λ k l. refl) c.make_things-made.result.wire c.make_things-made.result.reg c.as_slice-execs.result.now (shape_by c.args.stages c.args.reset_pc c.args.commits.now c.args.reg.now) (some_offered system_ports c.args.reg.now.system)), (subst (AreExecs (scope_of c.make_things-made.new.m) c.args.pool.now c.args.pool.now.nodes) (sym (c.as_slice-execs.ensures.value ∙ c.execs.ensures)) (are_execs c.args.pool.now c.args.m.now c.args.reg.now c.requires.fits c.requires.ready c.offers-o.result c.offers-o.ensures.offered c.make_things-made.new.m c.args.reset_pc _ (c.args.stages - 2) c.make_things-made.ensures.made (λ e t. false) c.args.pool.now.nodes (λ k l. refl))))

pub drive_units-requires-clause-room : goal.drive_units-requires-clause-room
drive_units-requires-clause-room c =
    let long = ap length (c.as_slice-execs.ensures.value ∙ c.execs.ensures) in
    let grows = made_grows c.args.pool.now c.args.m.now c.args.reg.now c.requires.fits c.requires.ready c.offers-o.result c.offers-o.ensures.offered c.make_things-made.new.m c.args.reset_pc _ (c.args.stages - 2) c.make_things-made.ensures.made in
    omega (arith, c.requires.room, long, grows.room, c.requires.most)

pub drive_units-requires-clause-ready : goal.drive_units-requires-clause-ready
drive_units-requires-clause-ready c =
    subst (AreUndriven c.make_things-made.new.m (c.make_things-made.result.reg + 15)) (sym (c.as_slice-execs.ensures.value ∙ c.execs.ensures)) (are_undriven c.args.pool.now c.args.m.now c.args.reg.now c.requires.fits c.requires.ready c.offers-o.result c.offers-o.ensures.offered c.make_things-made.new.m c.args.reset_pc _ (c.args.stages - 2) c.make_things-made.ensures.made c.make_things-made.result.reg c.make_things-made.ensures.reg (ap length (c.as_slice-execs.ensures.value ∙ c.execs.ensures)))

pub drive_units-requires-clause-drivers : goal.drive_units-requires-clause-drivers
drive_units-requires-clause-drivers c = drivers_stay c.make_things-made.new.m c.args.pool.now c.pipe_nets-n.new.pool _ (adds_of _ _ _ c.pipe_nets-n.ensures.step) (made_fits c.args.pool.now c.args.m.now c.args.reg.now c.requires.fits c.requires.ready c.offers-o.result c.offers-o.ensures.offered c.make_things-made.new.m c.args.reset_pc _ (c.args.stages - 2) c.make_things-made.ensures.made).drivers

pub drive_units-requires-clause-nets : goal.drive_units-requires-clause-nets
drive_units-requires-clause-nets c = ((things_from c.args.pool.now.nodes c.make_things-made.result.wire c.make_things-made.result.reg c.as_slice-execs.result.now (services_of (λ e t. false) c.args.pool.now.nodes c.args.reg.now) (shape_by c.args.stages c.args.reset_pc c.args.commits.now c.args.reg.now)), c.offers-o.result.fetch.take, (λ k l. refl), c.pipe_nets-n.ensures.nets c.args.pool.now.nodes (services_of (λ e t. false) c.args.pool.now.nodes c.args.reg.now) (shape_by c.args.stages c.args.reset_pc c.args.commits.now c.args.reg.now) refl (are_offers c.args.pool.now c.args.m.now c.args.reg.now c.requires.fits c.requires.ready c.offers-o.result c.offers-o.ensures.offered c.make_things-made.new.m c.args.reset_pc _ (c.args.stages - 2) c.make_things-made.ensures.made (λ e t. false) c.args.pool.now.nodes (λ k l. refl) c.make_things-made.result.wire c.make_things-made.result.reg c.as_slice-execs.result.now (shape_by c.args.stages c.args.reset_pc c.args.commits.now c.args.reg.now) (some_offered system_ports c.args.reg.now.system)) (subst (AreExecs (scope_of c.make_things-made.new.m) c.args.pool.now c.args.pool.now.nodes) (sym (c.as_slice-execs.ensures.value ∙ c.execs.ensures)) (are_execs c.args.pool.now c.args.m.now c.args.reg.now c.requires.fits c.requires.ready c.offers-o.result c.offers-o.ensures.offered c.make_things-made.new.m c.args.reset_pc _ (c.args.stages - 2) c.make_things-made.ensures.made (λ e t. false) c.args.pool.now.nodes (λ k l. refl))))

pub drive_rest-requires-clause-room : goal.drive_rest-requires-clause-room
drive_rest-requires-clause-room c =
    let long = ap length (c.as_slice-execs.ensures.value ∙ c.execs.ensures) in
    let grows = made_grows c.args.pool.now c.args.m.now c.args.reg.now c.requires.fits c.requires.ready c.offers-o.result c.offers-o.ensures.offered c.make_things-made.new.m c.args.reset_pc _ (c.args.stages - 2) c.make_things-made.ensures.made in
    omega (arith, c.requires.room, long, grows.room, c.requires.most, c.drive_units.ensures.only.grows.room)

pub drive_places-requires-clause-room : goal.drive_places-requires-clause-room
drive_places-requires-clause-room c =
    let long = ap length (c.as_slice-execs.ensures.value ∙ c.execs.ensures) in
    let grows = made_grows c.args.pool.now c.args.m.now c.args.reg.now c.requires.fits c.requires.ready c.offers-o.result c.offers-o.ensures.offered c.make_things-made.new.m c.args.reset_pc _ (c.args.stages - 2) c.make_things-made.ensures.made in
    omega (arith, c.requires.room, long, grows.room, c.requires.most, c.drive_units.ensures.only.grows.room, c.drive_rest.ensures.only.grows.room)

pub drive_places-requires-clause-places : goal.drive_places-requires-clause-places
drive_places-requires-clause-places c =
    places_stay c.drive_units.new.m c.drive_rest.new.m (c.make_things-made.result.reg + 15 + length c.as_slice-execs.result.now) (c.args.stages - 2) c.drive_rest.ensures.only.count_regs (λ k l. c.drive_rest.ensures.only.above k (omega arith))
    (places_stay c.make_things-made.new.m c.drive_units.new.m (c.make_things-made.result.reg + 15 + length c.as_slice-execs.result.now) (c.args.stages - 2) c.drive_units.ensures.only.count_regs (λ k l. c.drive_units.ensures.only.above k (omega arith))
    (places_are c.make_things-made.ensures.made c.make_things-made.result.reg c.make_things-made.ensures.reg))

pub drive_places-requires-clause-nets : goal.drive_places-requires-clause-nets
drive_places-requires-clause-nets c = (
  (things_from c.args.pool.now.nodes c.make_things-made.result.wire c.make_things-made.result.reg c.as_slice-execs.result.now (services_of (λ e t. false) c.args.pool.now.nodes c.args.reg.now) (shape_by c.args.stages c.args.reset_pc c.args.commits.now c.args.reg.now)),
  refl,
  (nets_on (later_grown c.drive_units.new.m c.drive_rest.new.m 69 c.drive_units.new.pool c.drive_rest.ensures.only.grows)
      (nets_on (later_grown c.make_things-made.new.m c.drive_units.new.m _ c.drive_units.new.pool c.drive_units.ensures.only.grows)
      (nets_on (later c.drive_units.ensures.step) (c.pipe_nets-n.ensures.nets c.args.pool.now.nodes (services_of (λ e t. false) c.args.pool.now.nodes c.args.reg.now) (shape_by c.args.stages c.args.reset_pc c.args.commits.now c.args.reg.now) refl (are_offers c.args.pool.now c.args.m.now c.args.reg.now c.requires.fits c.requires.ready c.offers-o.result c.offers-o.ensures.offered c.make_things-made.new.m c.args.reset_pc _ (c.args.stages - 2) c.make_things-made.ensures.made (λ e t. false) c.args.pool.now.nodes (λ k l. refl) c.make_things-made.result.wire c.make_things-made.result.reg c.as_slice-execs.result.now (shape_by c.args.stages c.args.reset_pc c.args.commits.now c.args.reg.now) (some_offered system_ports c.args.reg.now.system)) (subst (AreExecs (scope_of c.make_things-made.new.m) c.args.pool.now c.args.pool.now.nodes) (sym (c.as_slice-execs.ensures.value ∙ c.execs.ensures)) (are_execs c.args.pool.now c.args.m.now c.args.reg.now c.requires.fits c.requires.ready c.offers-o.result c.offers-o.ensures.offered c.make_things-made.new.m c.args.reset_pc _ (c.args.stages - 2) c.make_things-made.ensures.made (λ e t. false) c.args.pool.now.nodes (λ k l. refl))))))).tail,
)

pub drive_rest-requires-clause-fit : goal.drive_rest-requires-clause-fit
drive_rest-requires-clause-fit c =
    let w = world_with c.args.pool.now c.args.m.now c.args.reg.now in
    let step = c.pipe_nets-n.ensures.step ▸ c.drive_units.ensures.step in
    let adds = adds_of _ _ _ step in
    let kept = λ (k : ℕ) (l : k < length c.args.pool.now.nodes). adds.trees k l in
    let x = services_of (λ e t. false) c.drive_units.new.pool.nodes c.args.reg.now in
    let offers = are_offers c.args.pool.now c.args.m.now c.args.reg.now c.requires.fits c.requires.ready c.offers-o.result c.offers-o.ensures.offered c.make_things-made.new.m c.args.reset_pc _ (c.args.stages - 2) c.make_things-made.ensures.made (λ e t. false) c.drive_units.new.pool.nodes kept c.make_things-made.result.wire c.make_things-made.result.reg c.as_slice-execs.result.now (shape_by c.args.stages c.args.reset_pc c.args.commits.now c.args.reg.now) (some_offered system_ports c.args.reg.now.system) in
    let execs = subst (AreExecs (scope_of c.make_things-made.new.m) c.args.pool.now c.drive_units.new.pool.nodes) (sym (c.as_slice-execs.ensures.value ∙ c.execs.ensures)) (are_execs c.args.pool.now c.args.m.now c.args.reg.now c.requires.fits c.requires.ready c.offers-o.result c.offers-o.ensures.offered c.make_things-made.new.m c.args.reset_pc _ (c.args.stages - 2) c.make_things-made.ensures.made (λ e t. false) c.drive_units.new.pool.nodes kept) in
    let nets = c.pipe_nets-n.ensures.nets c.drive_units.new.pool.nodes x (shape_by c.args.stages c.args.reset_pc c.args.commits.now c.args.reg.now) refl offers execs in
    let on = nets_on (later_grown c.make_things-made.new.m c.drive_units.new.m _ c.drive_units.new.pool c.drive_units.ensures.only.grows) (nets_on (later c.drive_units.ensures.step) nets) in
    let units = units_of_all c.make_things-made.result.reg (length c.args.m.now.regs) c.as_slice-execs.result.now c.args.reg.now.execs (c.as_slice-execs.ensures.value ∙ c.execs.ensures) c.make_things-made.ensures.reg c.drive_units.ensures.only in
    let bus = c.is_some-has_bus.ensures ∙ ap is_some c.databus.ensures in
    let before = before_at (length c.args.m.now.wires) (length c.args.m.now.regs) c.make_things-made.result.wire c.make_things-made.result.reg c.make_things-made.ensures.wire c.make_things-made.ensures.reg
    (before_rest w c.requires.fits c.requires.ready c.offers-o.result c.offers-o.ensures.offered c.make_things-made.ensures.made units c.is_some-has_bus.result
    (bus_is c.args.reg.now c.is_some-has_bus.result bus)) in
    let can = can_rest w c.drive_units.new.m c.make_things-made.result.wire c.make_things-made.result.reg c.args.reset_pc c.offers-o.result c.is_some-has_bus.result before c.drive_units.new.pool c.as_slice-execs.result.now x (shape_by c.args.stages c.args.reset_pc c.args.commits.now c.args.reg.now) c.offers-o.result.fetch.take c.pipe_nets-n.result on in
    can

pub returns-clause-fits : goal.returns-clause-fits
returns-clause-fits c =
    let old = world_with c.args.pool.now c.args.m.now c.args.reg.now in
    let new = world_with c.drive_units.new.pool c.drive_places.new.m c.args.reg.now in
    let adds = adds_of _ _ _ (c.pipe_nets-n.ensures.step ▸ c.drive_units.ensures.step) in
    let all = grows_both (made_grows c.args.pool.now c.args.m.now c.args.reg.now c.requires.fits c.requires.ready c.offers-o.result c.offers-o.ensures.offered c.make_things-made.new.m c.args.reset_pc _ (c.args.stages - 2) c.make_things-made.ensures.made) (grows_both c.drive_units.ensures.only.grows (grows_both c.drive_rest.ensures.only.grows c.drive_places.ensures.only.grows)) in
    world_fits old new _ _ c.requires.fits adds all (λ h. c.drive_places.ensures.drivers (c.drive_rest.ensures.drivers c.drive_units.ensures.drivers)) (λ h. h)

pub returns-clause-pipeline : goal.returns-clause-pipeline
returns-clause-pipeline c = λ takes.
    let w = world_with c.args.pool.now c.args.m.now c.args.reg.now in
    let step = c.pipe_nets-n.ensures.step ▸ c.drive_units.ensures.step in
    let adds = adds_of _ _ _ step in
    let kept = λ (k : ℕ) (l : k < length c.args.pool.now.nodes). adds.trees k l in
    let x = services_of takes c.drive_units.new.pool.nodes c.args.reg.now in
    let offers = are_offers c.args.pool.now c.args.m.now c.args.reg.now c.requires.fits c.requires.ready c.offers-o.result c.offers-o.ensures.offered c.make_things-made.new.m c.args.reset_pc _ (c.args.stages - 2) c.make_things-made.ensures.made takes c.drive_units.new.pool.nodes kept c.make_things-made.result.wire c.make_things-made.result.reg c.as_slice-execs.result.now (shape_by c.args.stages c.args.reset_pc c.args.commits.now c.args.reg.now) (some_offered system_ports c.args.reg.now.system) in
    let execs = subst (AreExecs (scope_of c.make_things-made.new.m) c.args.pool.now c.drive_units.new.pool.nodes) (sym (c.as_slice-execs.ensures.value ∙ c.execs.ensures)) (are_execs c.args.pool.now c.args.m.now c.args.reg.now c.requires.fits c.requires.ready c.offers-o.result c.offers-o.ensures.offered c.make_things-made.new.m c.args.reset_pc _ (c.args.stages - 2) c.make_things-made.ensures.made takes c.drive_units.new.pool.nodes kept) in
    let nets = c.pipe_nets-n.ensures.nets c.drive_units.new.pool.nodes x (shape_by c.args.stages c.args.reset_pc c.args.commits.now c.args.reg.now) refl offers execs in
    let on = nets_on (later_grown c.make_things-made.new.m c.drive_units.new.m _ c.drive_units.new.pool c.drive_units.ensures.only.grows) (nets_on (later c.drive_units.ensures.step) nets) in
    let units = units_of_all c.make_things-made.result.reg (length c.args.m.now.regs) c.as_slice-execs.result.now c.args.reg.now.execs (c.as_slice-execs.ensures.value ∙ c.execs.ensures) c.make_things-made.ensures.reg c.drive_units.ensures.only in
    let bus = c.is_some-has_bus.ensures ∙ ap is_some c.databus.ensures in
    let before = before_at (length c.args.m.now.wires) (length c.args.m.now.regs) c.make_things-made.result.wire c.make_things-made.result.reg c.make_things-made.ensures.wire c.make_things-made.ensures.reg
    (before_rest w c.requires.fits c.requires.ready c.offers-o.result c.offers-o.ensures.offered c.make_things-made.ensures.made units c.is_some-has_bus.result
    (bus_is c.args.reg.now c.is_some-has_bus.result bus)) in
    let can = can_rest w c.drive_units.new.m c.make_things-made.result.wire c.make_things-made.result.reg c.args.reset_pc c.offers-o.result c.is_some-has_bus.result before c.drive_units.new.pool c.as_slice-execs.result.now x (shape_by c.args.stages c.args.reset_pc c.args.commits.now c.args.reg.now) c.offers-o.result.fetch.take c.pipe_nets-n.result on in
    let p = things_from c.drive_units.new.pool.nodes c.make_things-made.result.wire c.make_things-made.result.reg c.as_slice-execs.result.now x (shape_by c.args.stages c.args.reset_pc c.args.commits.now c.args.reg.now) in
    let last = nets_on (later_grown c.drive_units.new.m c.drive_rest.new.m 69 c.drive_units.new.pool c.drive_rest.ensures.only.grows) on in
    let rest_grows = grows_both c.drive_rest.ensures.only.grows c.drive_places.ensures.only.grows in
    let all_grows = grows_both c.drive_units.ensures.only.grows rest_grows in
    let at = rest_at c.make_things-made.result.wire c.make_things-made.result.reg c.args.reset_pc (length c.as_slice-execs.result.now) _ c.offers-o.result c.is_some-has_bus.result c.pipe_nets-n.result c.drive_units.new.m c.drive_rest.new.m c.drive_places.new.m c.drive_units.new.pool can c.drive_rest.ensures.driven
    c.drive_places.ensures.only rest_grows.more_wires c.args.m.now c.make_things-made.new.m _ _ _ c.make_things-made.ensures.made c.make_things-made.ensures.reg all_grows in
    let rest = rest_drives c.drive_units.new.pool c.drive_places.new.m c.make_things-made.result.wire c.make_things-made.result.reg c.as_slice-execs.result.now x (shape_by c.args.stages c.args.reset_pc c.args.commits.now c.args.reg.now) c.offers-o.result c.is_some-has_bus.result c.pipe_nets-n.result (scope_of c.drive_units.new.m) on at
    (inputs_are takes c.drive_units.new.pool.nodes c.args.reg.now c.offers-o.result c.offers-o.ensures.offered) (holds_is c.args.reg.now c.is_some-has_bus.result bus) in
    let tail = c.drive_places.ensures.driven p refl last.tail in
    let first = c.drive_units.ensures.units c.drive_units.new.pool.nodes p c.offers-o.result.fetch.take (λ k l. refl) nets in
    let drives = all_drive c.drive_places.new.m c.drive_units.new.pool.nodes c.make_things-made.result.wire c.make_things-made.result.reg c.as_slice-execs.result.now x (shape_by c.args.stages c.args.reset_pc c.args.commits.now c.args.reg.now) c.requires.least rest tail
    (λ k d l. unit_later c.drive_units.ensures.drivers rest_grows (adds_nothing c.drive_units.new.pool c.drive_units.new.pool refl (omega arith)) (first k d l)) in
    is_pipeline takes (world_with c.drive_units.new.pool c.drive_places.new.m c.args.reg.now) c.make_things-made.result.wire c.make_things-made.result.reg (shape_by c.args.stages c.args.reset_pc c.args.commits.now c.args.reg.now) refl (system_there c.drive_units.new.pool.nodes c.args.reg.now.system)
    (subst (λ (es : List ExecOffer). PipeDrives c.drive_places.new.m c.drive_units.new.pool.nodes (things_from c.drive_units.new.pool.nodes c.make_things-made.result.wire c.make_things-made.result.reg es x (shape_by c.args.stages c.args.reset_pc c.args.commits.now c.args.reg.now))) (c.as_slice-execs.ensures.value ∙ c.execs.ensures) drives)

pub returns-clause-builds : goal.returns-clause-builds
returns-clause-builds c =
    let w = world_with c.args.pool.now c.args.m.now c.args.reg.now in
    let step = c.pipe_nets-n.ensures.step ▸ c.drive_units.ensures.step in
    let adds = adds_of _ _ _ step in
    let kept = λ (k : ℕ) (l : k < length c.args.pool.now.nodes). adds.trees k l in
    let x = services_of (λ e t. false) c.drive_units.new.pool.nodes c.args.reg.now in
    let offers = are_offers c.args.pool.now c.args.m.now c.args.reg.now c.requires.fits c.requires.ready c.offers-o.result c.offers-o.ensures.offered c.make_things-made.new.m c.args.reset_pc _ (c.args.stages - 2) c.make_things-made.ensures.made (λ e t. false) c.drive_units.new.pool.nodes kept c.make_things-made.result.wire c.make_things-made.result.reg c.as_slice-execs.result.now (shape_by c.args.stages c.args.reset_pc c.args.commits.now c.args.reg.now) (some_offered system_ports c.args.reg.now.system) in
    let execs = subst (AreExecs (scope_of c.make_things-made.new.m) c.args.pool.now c.drive_units.new.pool.nodes) (sym (c.as_slice-execs.ensures.value ∙ c.execs.ensures)) (are_execs c.args.pool.now c.args.m.now c.args.reg.now c.requires.fits c.requires.ready c.offers-o.result c.offers-o.ensures.offered c.make_things-made.new.m c.args.reset_pc _ (c.args.stages - 2) c.make_things-made.ensures.made (λ e t. false) c.drive_units.new.pool.nodes kept) in
    let nets = c.pipe_nets-n.ensures.nets c.drive_units.new.pool.nodes x (shape_by c.args.stages c.args.reset_pc c.args.commits.now c.args.reg.now) refl offers execs in
    let on = nets_on (later_grown c.make_things-made.new.m c.drive_units.new.m _ c.drive_units.new.pool c.drive_units.ensures.only.grows) (nets_on (later c.drive_units.ensures.step) nets) in
    let units = units_of_all c.make_things-made.result.reg (length c.args.m.now.regs) c.as_slice-execs.result.now c.args.reg.now.execs (c.as_slice-execs.ensures.value ∙ c.execs.ensures) c.make_things-made.ensures.reg c.drive_units.ensures.only in
    let bus = c.is_some-has_bus.ensures ∙ ap is_some c.databus.ensures in
    let before = before_at (length c.args.m.now.wires) (length c.args.m.now.regs) c.make_things-made.result.wire c.make_things-made.result.reg c.make_things-made.ensures.wire c.make_things-made.ensures.reg
    (before_rest w c.requires.fits c.requires.ready c.offers-o.result c.offers-o.ensures.offered c.make_things-made.ensures.made units c.is_some-has_bus.result
    (bus_is c.args.reg.now c.is_some-has_bus.result bus)) in
    let first = units_of_all c.make_things-made.result.reg c.make_things-made.result.reg c.as_slice-execs.result.now c.args.reg.now.execs (c.as_slice-execs.ensures.value ∙ c.execs.ensures) refl c.drive_units.ensures.only in
    let long = ap length (c.as_slice-execs.ensures.value ∙ c.execs.ensures) in
    let makes = top_makes w c.make_things-made.ensures.made first before c.drive_rest.ensures.only c.drive_places.ensures.only (92 + 9 * length c.as_slice-execs.result.now + 6 * (c.args.stages - 2)) (omega arith) in
    builds_of Pipe (pipe_rights c.args.reg.now) (8192 + 256 * length c.args.reg.now.execs) _ (92 + 9 * length c.as_slice-execs.result.now + 6 * (c.args.stages - 2)) w (world_with c.drive_units.new.pool c.drive_places.new.m c.args.reg.now) adds makes
    (omega (arith, long, c.requires.most))

pub returns-clause-driven : goal.returns-clause-driven
returns-clause-driven c =
    let w = world_with c.args.pool.now c.args.m.now c.args.reg.now in
    let step = c.pipe_nets-n.ensures.step ▸ c.drive_units.ensures.step in
    let adds = adds_of _ _ _ step in
    let kept = λ (k : ℕ) (l : k < length c.args.pool.now.nodes). adds.trees k l in
    let x = services_of (λ e t. false) c.drive_units.new.pool.nodes c.args.reg.now in
    let offers = are_offers c.args.pool.now c.args.m.now c.args.reg.now c.requires.fits c.requires.ready c.offers-o.result c.offers-o.ensures.offered c.make_things-made.new.m c.args.reset_pc _ (c.args.stages - 2) c.make_things-made.ensures.made (λ e t. false) c.drive_units.new.pool.nodes kept c.make_things-made.result.wire c.make_things-made.result.reg c.as_slice-execs.result.now (shape_by c.args.stages c.args.reset_pc c.args.commits.now c.args.reg.now) (some_offered system_ports c.args.reg.now.system) in
    let execs = subst (AreExecs (scope_of c.make_things-made.new.m) c.args.pool.now c.drive_units.new.pool.nodes) (sym (c.as_slice-execs.ensures.value ∙ c.execs.ensures)) (are_execs c.args.pool.now c.args.m.now c.args.reg.now c.requires.fits c.requires.ready c.offers-o.result c.offers-o.ensures.offered c.make_things-made.new.m c.args.reset_pc _ (c.args.stages - 2) c.make_things-made.ensures.made (λ e t. false) c.drive_units.new.pool.nodes kept) in
    let nets = c.pipe_nets-n.ensures.nets c.drive_units.new.pool.nodes x (shape_by c.args.stages c.args.reset_pc c.args.commits.now c.args.reg.now) refl offers execs in
    let on = nets_on (later_grown c.make_things-made.new.m c.drive_units.new.m _ c.drive_units.new.pool c.drive_units.ensures.only.grows) (nets_on (later c.drive_units.ensures.step) nets) in
    let units = units_of_all c.make_things-made.result.reg (length c.args.m.now.regs) c.as_slice-execs.result.now c.args.reg.now.execs (c.as_slice-execs.ensures.value ∙ c.execs.ensures) c.make_things-made.ensures.reg c.drive_units.ensures.only in
    let bus = c.is_some-has_bus.ensures ∙ ap is_some c.databus.ensures in
    let before = before_at (length c.args.m.now.wires) (length c.args.m.now.regs) c.make_things-made.result.wire c.make_things-made.result.reg c.make_things-made.ensures.wire c.make_things-made.ensures.reg
    (before_rest w c.requires.fits c.requires.ready c.offers-o.result c.offers-o.ensures.offered c.make_things-made.ensures.made units c.is_some-has_bus.result
    (bus_is c.args.reg.now c.is_some-has_bus.result bus)) in
    let can = can_rest w c.drive_units.new.m c.make_things-made.result.wire c.make_things-made.result.reg c.args.reset_pc c.offers-o.result c.is_some-has_bus.result before c.drive_units.new.pool c.as_slice-execs.result.now x (shape_by c.args.stages c.args.reset_pc c.args.commits.now c.args.reg.now) c.offers-o.result.fetch.take c.pipe_nets-n.result on in
    let p = things_from c.drive_units.new.pool.nodes c.make_things-made.result.wire c.make_things-made.result.reg c.as_slice-execs.result.now x (shape_by c.args.stages c.args.reset_pc c.args.commits.now c.args.reg.now) in
    let last = nets_on (later_grown c.drive_units.new.m c.drive_rest.new.m 69 c.drive_units.new.pool c.drive_rest.ensures.only.grows) on in
    let rest_grows = grows_both c.drive_rest.ensures.only.grows c.drive_places.ensures.only.grows in
    let all_grows = grows_both c.drive_units.ensures.only.grows rest_grows in
    let at = rest_at c.make_things-made.result.wire c.make_things-made.result.reg c.args.reset_pc (length c.as_slice-execs.result.now) _ c.offers-o.result c.is_some-has_bus.result c.pipe_nets-n.result c.drive_units.new.m c.drive_rest.new.m c.drive_places.new.m c.drive_units.new.pool can c.drive_rest.ensures.driven
    c.drive_places.ensures.only rest_grows.more_wires c.args.m.now c.make_things-made.new.m _ _ _ c.make_things-made.ensures.made c.make_things-made.ensures.reg all_grows in
    let rest = rest_drives c.drive_units.new.pool c.drive_places.new.m c.make_things-made.result.wire c.make_things-made.result.reg c.as_slice-execs.result.now x (shape_by c.args.stages c.args.reset_pc c.args.commits.now c.args.reg.now) c.offers-o.result c.is_some-has_bus.result c.pipe_nets-n.result (scope_of c.drive_units.new.m) on at
    (inputs_are (λ e t. false) c.drive_units.new.pool.nodes c.args.reg.now c.offers-o.result c.offers-o.ensures.offered) (holds_is c.args.reg.now c.is_some-has_bus.result bus) in
    let tail = c.drive_places.ensures.driven p refl last.tail in
    let first = c.drive_units.ensures.units c.drive_units.new.pool.nodes p c.offers-o.result.fetch.take (λ k l. refl) nets in
    let long = ap length (c.as_slice-execs.ensures.value ∙ c.execs.ensures) in
    let made = c.make_things-made.ensures.made in
    let moves = c.drive_places.ensures.only in
    let kept_units = λ (k : ℕ) (d : PipeUnit) (l : k < length (units_of c.drive_units.new.pool.nodes (c.make_things-made.result.reg + 15) c.as_slice-execs.result.now)). unit_later c.drive_units.ensures.drivers rest_grows (adds_nothing c.drive_units.new.pool c.drive_units.new.pool refl (omega arith)) (first k d l) in
    let all_units = subst (λ (es : List ExecOffer). All (DrivesUnit c.drive_places.new.m c.drive_units.new.pool.nodes p) (units_of c.drive_units.new.pool.nodes (c.make_things-made.result.reg + 15) es)) (c.as_slice-execs.ensures.value ∙ c.execs.ensures) kept_units in
    let all_places = subst (λ (es : List ExecOffer). TailHas c.drive_places.new.m c.drive_units.new.pool.nodes (λ env. made_late_in p env) (tail_from (c.make_things-made.result.reg + 15 + length es) (c.args.stages - 2))) (c.as_slice-execs.ensures.value ∙ c.execs.ensures) tail in
    let left = rest_left w c.drive_units.new.m c.drive_places.new.m c.drive_units.new.pool.nodes p c.make_things-made.result.wire c.make_things-made.result.reg c.args.reset_pc (c.args.stages - 2) c.offers-o.result c.is_some-has_bus.result c.pipe_nets-n.result before at.has all_units (λ env. made_late_in p env) all_places
    (sym c.make_things-made.ensures.wire) (omega (arith, c.make_things-made.ensures.wire, ap length moves.wires, c.drive_rest.ensures.only.count, c.drive_units.ensures.only.count, made.more_wires))
    (sym c.make_things-made.ensures.reg) (omega (arith, c.make_things-made.ensures.reg, long, moves.count, c.drive_rest.ensures.only.count_regs, c.drive_units.ensures.only.count_regs, made.more_regs))
    (moves.arrays ∙ c.drive_rest.ensures.only.arrays ∙ c.drive_units.ensures.only.arrays ∙ made.arrays) in
    let grows = grows_both (made_grows c.args.pool.now c.args.m.now c.args.reg.now c.requires.fits c.requires.ready c.offers-o.result c.offers-o.ensures.offered c.make_things-made.new.m c.args.reset_pc _ (c.args.stages - 2) made) all_grows in
    all_driven w c.requires.fits c.requires.ready.done c.drive_places.new.m _ grows left
