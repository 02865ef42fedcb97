use Rattle.std.proofs.Common.{◌≡◌, ◌∙◌, ℕ, ◌+◌, ◌∷◌, [], ◌++◌, arith, ap, subst}
use Rattle.hw_pool.proofs.Frames.{adds_then}
use Rattle.hw_gates.proofs.Steps.{adds_of}
use Rattle.service_reg.specs.declared.service.Service.TheVariants.{Exec}
use Rattle.service_ports.specs.Ports.{exec_ports}
use Rattle.service_ports.specs.Registry.{AddsOffer}
use Rattle.plug_build.specs.World.{world_of}
use Rattle.plug_kit.specs.Unit.{IsUnit}
use Rattle.plug_kit.proofs.Unit.{unit_fits, unit_builds, unit_open}
use Rattle.unit_parts.proofs.Parts.{units_begin}
use Rattle.unit_parts.proofs.unit.build_unit.Goals as goal

-- what was built
unit : (g : _) (c : goal.After-offer_exec g) → IsUnit c.args.b.now.entry (g.C.Computes.nodes c.args.unit.now + 6) (world_of c.args.pool.now c.args.b.now c.args.reg.now)
    (world_of c.computing_ports-ports.new.pool c.exec_inputs-wires.new.b c.offer_exec.new.self) c.exec_inputs-wires.result c.computing_ports-ports.result
unit g c =
    let p = c.computing_ports-ports.result in
    let by : c.entry.result ≡ c.args.b.now.entry = c.entry.ensures ∙ c.exec_inputs-wires.ensures.entry in
    record {
      fits = c.requires.fits;
      nothing = c.requires.nothing;
      made = c.exec_inputs-wires.ensures.made;
      adds = adds_then _ _ _ (g.C.Computes.nodes c.args.unit.now) 6 _ (adds_of _ _ _ c.value-value.ensures.step) (adds_of _ _ 6 c.computing_ports-ports.ensures.step) (omega arith);
      inputs = c.computing_ports-ports.ensures.inputs;
      outputs = c.computing_ports-ports.ensures.outputs;
      execs = c.offer_exec.ensures.execs ∙ ap (λ (b : ℕ). c.args.reg.now.execs ++ record { by = b; ports = p } ∷ []) by;
      offers = subst (λ (b : ℕ). AddsOffer Exec b (exec_ports p) c.args.reg.now c.offer_exec.new.self) by c.offer_exec.ensures.adds;
    }

pub returns-clause-fits : goal.returns-clause-fits
returns-clause-fits g c = unit_fits _ _ _ _ _ _ (unit g c)

pub returns-clause-adds : goal.returns-clause-adds
returns-clause-adds g c = λ r most sum. unit_builds _ _ _ _ _ _ (unit g c) r most (omega arith)

pub returns-clause-open : goal.returns-clause-open
returns-clause-open g c = unit_open _ _ _ _ _ _ (unit g c)

pub returns-clause-begun : goal.returns-clause-begun
returns-clause-begun g c = units_begin (g.C.Computes.value_of c.args.unit.now) _ _ _ _ _ _ (unit g c) (c.computing_ports-ports.ensures.shows _ c.value-value.ensures.value)
