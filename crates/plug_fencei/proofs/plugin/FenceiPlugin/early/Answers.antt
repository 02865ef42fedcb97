use Rattle.std.proofs.Common.{◌≡◌, ◌∙◌, ℕ, List, ◌∷◌, [], ◌++◌, get_or, arith, ap, sym, subst}
use Rattle.hw_pool.specs.Meaning.{Env}
use Rattle.hw_gates.specs.Places.{place, worth}
use Rattle.hw_gates.proofs.Steps.{adds_of}
use Rattle.service_reg.specs.declared.service.Service.TheVariants.{Exec}
use Rattle.service_ports.specs.Ports.{exec_ports, input_shapes}
use Rattle.service_ports.specs.Registry.{AddsOffer}
use Rattle.plug_api.specs.Calls.{takes_of}
use Rattle.plug_build.specs.Fits.{AreInputs}
use Rattle.plug_build.specs.World.{World, world_of}
use Rattle.plug_kinds.specs.declared.kind.Kind.TheVariants as kind
use Rattle.plug_kinds.specs.Kinds.{params_of, spec_of}
use Rattle.plug_kit.specs.Unit.{IsUnit}
use Rattle.plug_kit.proofs.Bare.{input_wires, unit_bare, unit_only}
use Rattle.plug_kit.proofs.Unit.{unit_builds, unit_fits, unit_open}
use Rattle.isa_model.specs.Effects.{behind}
use Rattle.plug_fencei.proofs.plugin.FenceiPlugin.early.Goals as goal

abbrev old-world : goal.After-offer_exec → World
old-world c = world_of c.args.pool.now c.args.b.now c.args.reg.now

abbrev new-world : goal.After-offer_exec → World
new-world c = world_of c.fencei_nets-ports.new.pool c.exec_inputs-wires.new.b c.offer_exec.new.self

-- what was built
unit : (c : goal.After-offer_exec) → IsUnit c.args.b.now.entry 6 (old-world c) (new-world c) c.exec_inputs-wires.result c.fencei_nets-ports.result
unit c =
    let e = c.args.b.now.entry in
    let p = c.fencei_nets-ports.result in
    let by : c.entry.result ≡ e = c.entry.ensures ∙ c.exec_inputs-wires.ensures.entry in
    record {
      fits = c.requires.fits;
      nothing = c.requires.nothing;
      made = c.exec_inputs-wires.ensures.made;
      adds = adds_of _ _ 6 c.fencei_nets-ports.ensures.step;
      inputs = c.fencei_nets-ports.ensures.inputs;
      outputs = c.fencei_nets-ports.ensures.outputs;
      execs = c.offer_exec.ensures.execs ∙ ap (λ (b : ℕ). c.args.reg.now.execs ++ record { by = b; ports = p } ∷ []) by;
      offers = subst (λ (b : ℕ). AddsOffer Exec b (exec_ports p) c.args.reg.now c.offer_exec.new.self) by c.offer_exec.ensures.adds;
    }

pub returns-clause-fits : goal.returns-clause-fits
returns-clause-fits c = unit_fits _ _ _ _ _ _ (unit c)

pub returns-clause-adds : goal.returns-clause-adds
returns-clause-adds c = unit_builds _ _ _ _ _ _ (unit c) _ _ (omega arith)

pub returns-clause-open : goal.returns-clause-open
returns-clause-open c = unit_open _ _ _ _ _ _ (unit c)

pub returns-clause-begun : goal.returns-clause-begun
unfolding place worth
returns-clause-begun c =
    let takes = takes_of (spec_of kind.Fencei (params_of c.args.self.now.state.taken)) in
    let n = c.fencei_nets-ports.ensures in
    let at = λ (env : Env) (k : ℕ). ap (λ (ws : List ℕ). env.wires (get_or ws k 0)) n.inputs in
    record {
      builds = record {
        ports = _;
        only = unit_only _ _ _ _ _ _ (unit c) takes;
        done = λ env. n.done env ∙ sym (at env 0);
        next_pc = λ env. n.next_pc env ∙ ap behind (sym (at env 2));
        trap = n.trap;
        fence = λ env. n.fence env ∙ sym (at env 0);
      };
      bare = unit_bare _ _ _ _ _ _ (unit c) takes;
    }
