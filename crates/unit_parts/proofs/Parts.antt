-- Parts of units that compute.
use Rattle.std.proofs.Common.{◌∙◌, ℕ, suc, eqb, List, get_or, arith, ap, sym, subst}
use Rattle.hw_pool.specs.Meaning.{Env}
use Rattle.hw_gates.specs.Places.{place, worth}
use Rattle.isa_model.specs.Effects.{behind}
use Rattle.service_reg.specs.declared.service.Service.TheVariants.{Exec}
use Rattle.service_ports.specs.Ports.{exec_ports, input_shapes}
use Rattle.plug_part.specs.Part.{Part}
use Rattle.plug_part.specs.Runs.{IsPartRun}
use Rattle.plug_part.specs.Signals.{exec_signals}
use Rattle.plug_part.proofs.Things.{wire_fits}
use Rattle.plug_part.proofs.OneService.{exec_alone}
use Rattle.plug_build.specs.Fits.{AreInputs}
use Rattle.unit_law.specs.Computing.{IsComputing}
use Rattle.unit_law.proofs.Computing.{keeps_computing}
use Rattle.plug_kit.proofs.Bare.{input_wires, unit_bare, unit_only}
use Rattle.unit_parts.specs.Computing.{BuildsComputing, ComputingPartsMeetLaws, ComputingUnitsBegin}

module _ (f : (word pc a b : ℕ) → ℕ) (p : Part) (builds : BuildsComputing f p) (run : ℕ → Env) (is : IsPartRun p run) where
  computing : IsComputing f (exec_signals builds.ports run)
  computing = record {
    done = λ s. ap (λ n. eqb n 1) (builds.done (run (suc s)));
    value_is = λ s. builds.result (run (suc s));
    next_pc = λ s. builds.next_pc (run (suc s));
    trap = λ s. ap (λ n. eqb n 1) (builds.trap (run (suc s)));
    fence = λ s. ap (λ n. eqb n 1) (builds.fence (run (suc s)));
    a_fits = λ s. wire_fits p run is (get_or builds.ports.inputs 4 0) 32 builds.a (suc s);
    b_fits = λ s. wire_fits p run is (get_or builds.ports.inputs 5 0) 32 builds.b (suc s);
  }

pub parts_meet_laws : ComputingPartsMeetLaws
parts_meet_laws f g p builds table_is free no_fencei all =
    exec_alone g p builds.ports builds.only
    (λ run is mem csrs. keeps_computing g.set g.terms f (exec_signals builds.ports run) _ mem csrs _ table_is free no_fencei all (computing f p builds run is))

pub units_begin : ComputingUnitsBegin
unfolding place worth
units_begin f e n old new w p unit shows takes =
    let ports = exec_ports p in
    let inputs = subst (λ (ws : List ℕ). AreInputs new.design e ws (input_shapes Exec)) (sym unit.inputs) unit.made.inputs in
    let wire = input_wires takes e new ports.inputs (input_shapes Exec) inputs in
    let at = λ (env : Env) (k : ℕ). ap (λ (ws : List ℕ). env.wires (get_or ws k 0)) unit.inputs in
    record {
      ports = _;
      only = unit_only _ _ _ _ _ _ unit takes;
      bare = unit_bare _ _ _ _ _ _ unit takes;
      a = wire 4 (omega arith);
      b = wire 5 (omega arith);
      done = λ env. shows.done env ∙ sym (at env 0);
      result = λ env. shows.result env ∙ (λ i. f (sym (at env 3) i) (sym (at env 2) i) (sym (at env 4) i) (sym (at env 5) i));
      next_pc = λ env. shows.next_pc env ∙ ap behind (sym (at env 2));
      trap = shows.trap;
      fence = shows.fence;
    }
