-- From the runs of a module of joined parts to its text.
use Rattle.std.proofs.Common.{◌≡◌, ◌∙◌, ℕ, zero, suc, ◌^◌, ◌<◌, Bool, cond, List, length, All, Some, refl, ap, arith}
use Rattle.std.proofs.lemmas.Nat.{pow_pos}
use Rattle.core_ports.specs.Ports.{name_of, width_of}
use Rattle.core_ports.specs.Trace.{Trace}
use Rattle.hw_pool.specs.Nodes.{PoolValue}
use Rattle.hw_pool.specs.Trees.{Tree}
use Rattle.hw_pool.specs.Meaning.{Env, value}
use Rattle.hw_module.specs.Ports.{port_at}
use Rattle.hw_module.specs.Rows.{ModuleValue, reg_at, array_at}
use Rattle.hw_module.specs.Cycle.{Held, IsHeld, AreInputs, driven_value, out_value, held_at}
use Rattle.service_reg.specs.declared.service.Service.{Service}
use Rattle.verilog_mean.specs.Plain.{Plain}
use Rattle.verilog_mean.specs.Cycle.{State}
use Rattle.verilog_mean.specs.Run.{Inputs, IsInput, IsStart, AllZero, trace_of}
use Rattle.verilog_mean.specs.CorePorts.{HasCorePorts}
use Rattle.module_netlist.specs.Means.{Means, held_by}
use Rattle.module_agree.specs.Traces.{numbered}
use Rattle.module_agree.proofs.Traces.{shows_module, inputs_fit}
use Rattle.plug_part.specs.Part.{Part, PartReg, PartArray}
use Rattle.plug_part.specs.Of.{part_of}
use Rattle.plug_part.specs.Owned.{is_owner}
use Rattle.plug_part.proofs.Rows.{owner_is}
use Rattle.plug_build.specs.World.{World, part_in}
use Rattle.plug_build.specs.Run.{run_of}
use Rattle.plug_build.proofs.Holds.{holds, through, there-reg, there-array}
use Rattle.plug_build.proofs.PartRuns.{runs_part}
use Rattle.pipe_refine.specs.Refines.{RefinesFrom, RefinesWith}
use Rattle.part_laws.specs.Joined.{CoreTerms, Services, RunsParts}
use Rattle.part_laws.specs.Pipes.{PipeOwn}
use Rattle.part_laws.specs.Follow.{Chosen, StartsWell, RunsFollow, regs_of}
use Rattle.part_laws.specs.ModuleRuns.{IsModuleRun, ShowsPorts}
use Rattle.part_laws.proofs.Laws.{joined_follows}
use Rattle.core_refine.specs.Piped.{IsPiped, core_claim, parts_in}

-- inputs that are 0 but for the reset
reset_ins : ℕ → ℕ → ℕ
reset_ins zero zero = 0
reset_ins zero (suc zero) = 1
reset_ins zero (suc (suc q)) = 0
reset_ins (suc k) q = 0

reset_fits : (k : ℕ) → AreInputs (reset_ins k)
unfolding reset_ins port_at
reset_fits zero zero l o = omega arith
reset_fits zero (suc zero) l o = omega arith
reset_fits zero (suc (suc q)) l o = pow_pos (width_of (port_at (suc (suc q))))
reset_fits (suc k) q l o = pow_pos (width_of (port_at q))

reset_run : (m : ModuleValue) (s : Held) → IsHeld m s → IsModuleRun m s reset_ins
unfolding reset_ins
reset_run m s held = record { held = held; inputs = reset_fits; first = refl; later = λ k. refl }

-- registers and arrays of a part are the module's
own_reg_there : (takes : Service → Bool) (entry : ℕ) (w : World) (r : ℕ) (row : PartReg) → (part_in takes entry w).regs r ≡ Some row → r < length w.design.regs
unfolding part_of
own_reg_there takes entry w r row is =
    let h = through (is_owner (reg_at w.design.regs r).owner entry) _ row is in there-reg takes entry w r (owner_is _ entry h.0)

own_array_there : (takes : Service → Bool) (entry : ℕ) (w : World) (a : ℕ) (row : PartArray) → (part_in takes entry w).arrays a ≡ Some row → a < length w.design.arrays
unfolding part_of
own_array_there takes entry w a row is =
    let h = through (is_owner (array_at w.design.arrays a).owner entry) _ row is in there-array takes entry w a (owner_is _ entry h.0)

module _ (v : CoreTerms) (takes : ℕ → Service → Bool) (x : Services) (own : PipeOwn) (w : World) (is : IsPiped v takes x own w)
    (t : Plain) (means : Means w.design w.pool.nodes t) (ports : HasCorePorts t) where
  abbrev m : ModuleValue
  m = w.design

  abbrev pool : PoolValue
  pool = w.pool

  abbrev part : ℕ → Part
  part = parts_in takes w

  abbrev theorem : (c : Chosen x) × StartsWell part x c × RunsFollow v part x c
  theorem = joined_follows v part x is.joined is.planned

  module _ (c : State) (start : IsStart t.items c) where
    abbrev s : Held
    s = held_by m c

    held : IsHeld m s
    held = (means.start c).0 start

    abbrev begin : Env
    begin = record { inputs = λ q. 0; wires = λ k. 0; regs = s.regs; cells = s.cells }

    abbrev start_regs : List ℕ
    start_regs = regs_of theorem.0 begin

    starts_fit : All (λ r. r < 2 ^ 32) start_regs
    unfolding held_at
    starts_fit =
        let r = reset_run m s held in
        theorem.1.fits (run_of m pool.nodes s reset_ins)
        (runs_part (takes x.regs.0) x.regs.0 w is.fits is.is_pool is.is_module s r.held reset_ins r.inputs r.first r.later)

    zeros : AllZero t.items c → All (λ r. r ≡ 0) start_regs
    zeros h =
        let z = (means.zeros c).0 h in
        theorem.1.zeros begin
        (record { regs = λ r row there. z.regs r (own_reg_there (takes x.regs.0) x.regs.0 w r row there); cells = λ a row there. z.cells a (own_array_there (takes x.regs.0) x.regs.0 w a row there) })

    module _ (ins : Inputs) (is_ins : IsInput t ins) where
      abbrev run : ℕ → Env
      run = run_of m pool.nodes s (numbered ins)

      abbrev run' : Trace
      run' = trace_of t c ins

      shows : ShowsPorts m pool.nodes s (numbered ins) run'
      shows = shows_module m pool is.fits.drivers t means c ins ports

      is_run : IsModuleRun m s (numbered ins)
      unfolding port_at name_of
      is_run = record { held = held; inputs = inputs_fit t ports ins is_ins; first = is_ins.first; later = is_ins.later }

      out_is : (i q : ℕ) (tree : Tree) → (part i).outs q ≡ Some tree → (k : ℕ) → out_value m pool.nodes (held_at m pool.nodes s (numbered ins) k) (numbered ins k) q ≡ value (run k) tree
      out_is i q tree o k = let net = (holds (takes i) i w).outs q tree o in ap (driven_value (run k) pool.nodes) net.1 ∙ ap (value (run k)) net.2

      runs_parts : RunsParts part run run'
      runs_parts = record {
        parts = λ i. runs_part (takes i) i w is.fits is.is_pool is.is_module s is_run.held (numbered ins) is_run.inputs is_run.first is_run.later;
        inputs = λ k q l o. shows k q l ∙ ap (λ b. cond b (numbered ins k q) (out_value m pool.nodes (held_at m pool.nodes s (numbered ins) k) (numbered ins k) q)) o;
        outs = λ i q tree l o there k.
            shows k q l ∙ ap (λ b. cond b (numbered ins k q) (out_value m pool.nodes (held_at m pool.nodes s (numbered ins) k) (numbered ins k) q)) o ∙ out_is i q tree there k;
      }

    refines_from : RefinesFrom t v.set v.reset_pc (core_claim v part x own theorem.0) c
    unfolding held_at
    refines_from = record {
      regs = start_regs;
      all = theorem.1.size begin;
      zero_reg = theorem.1.zero_reg begin;
      fits = starts_fit;
      zeros = zeros;
      follows = λ ins is_ins memory is_memory n honest.
          let steps = is.steps s (numbered ins) (is_run ins is_ins) (run' ins is_ins) (shows ins is_ins) in
          let both = theorem.2 own (run ins is_ins) (run' ins is_ins) (runs_parts ins is_ins) steps memory is_memory n honest in
          (both.0, record { run = run ins is_ins; runs = runs_parts ins is_ins; steps = steps; serves = both.1.serves; brisk = both.1.brisk; overlap = both.1.overlap });
    }

  pub refined : (c : Chosen x) × RefinesWith t v.set v.reset_pc (core_claim v part x own c)
  refined = (theorem.0, record { ports = ports; from = refines_from })
