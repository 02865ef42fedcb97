-- The runs of a module in the words of the pipeline's step.
use Rattle.std.proofs.Common.{◌≡◌, ◌∙◌, ℕ, zero, suc, ◌^◌, ◌<◌, Bool, true, false, cond, eqb, List, [], ◌∷◌, map, get_or, length, refl, sym, ap, subst, Option, None, Some, arith}
use Rattle.std.specs.Prelude.{All}
use Rattle.core_ports.specs.Trace.{Trace}
use Rattle.core_ports.specs.Ports.{is_input, name_of}
use Rattle.hw_pool.specs.declared.node.Node.{Node}
use Rattle.hw_pool.specs.Trees.{Tree, tree_of}
use Rattle.hw_pool.specs.Meaning.{Env, Within, value}
use Rattle.hw_pool.specs.Nodes.{IsPool}
use Rattle.hw_pool.proofs.Bounds.{value-fits}
use Rattle.hw_expr.specs.declared.net.Net.{Net}
use Rattle.hw_module.specs.Ports.{port_at}
use Rattle.hw_module.specs.Rows.{IsModule, wire_at, reg_at, out_at}
use Rattle.hw_module.specs.Fits.{FitsIn}
use Rattle.hw_module.specs.Cycle.{Held, IsHeld, wire_value, held_at, next_held, next_reg, driven_value, out_value}
use Rattle.hw_module.proofs.Scopes.{fits_of}
use Rattle.hw_reach.proofs.Bounds.{within, wires_within, held_fits}
use Rattle.hw_reach.proofs.Solves.{wire_solves}
use Rattle.service_reg.specs.declared.service.Service.{Service}
use Rattle.service_reg.specs.declared.service.Service.TheVariants.{Fetch, Decoder, Hazard, System, Exec}
use Rattle.service_ports.specs.declared.ports.ExecOffer.{ExecOffer}
use Rattle.service_ports.specs.Ports.{exec_ports, output_level, output_widths}
use Rattle.service_ports.specs.Registry.{Offered, single, exec_of}
use Rattle.plug_part.specs.Part.{PortTrees, tree_at}
use Rattle.plug_part.specs.Of.{net_tree, tree_option, port_trees}
use Rattle.plug_part.specs.Runs.{next_value}
use Rattle.plug_part.specs.Signals.{or_none}
use Rattle.plug_build.specs.World.{World}
use Rattle.plug_build.specs.Fits.{WorldFits, AreOutputs}
use Rattle.plug_build.specs.Run.{run_of}
use Rattle.part_laws.specs.Joined.{Services, ports_in}
use Rattle.part_laws.specs.Registered.{trees_or_none, offered_trees}
use Rattle.part_laws.specs.ModuleRuns.{IsModuleRun, ShowsPorts}
use Rattle.pipe_steps.specs.Things.{PipeUnit, PipeThings, FitTogether}
use Rattle.pipe_steps.specs.Runs.{RunsModule, AreBits}
use Rattle.pipe_steps.specs.Steps.{IsPipeline, TakesSteps}
use Rattle.pipe_steps.specs.Values.{out_of}
use Rattle.pipe_steps.proofs.Fit.{entries_are, chosen_are, ports_are}
use Rattle.pipe_steps.proofs.Step.{steps}

none_some : {A : Type 0} {x : A} → ◌≡◌ {A = Option A} None (Some x) → ⊥
none_some e = cc

some_eq : {A : Type 0} {x y : A} → ◌≡◌ {A = Option A} (Some x) (Some y) → x ≡ y
some_eq e = cc

-- the value of a driver is that of its tree
driver_value : (env : Env) (nodes : List Node) (o : Option Net) (t : Tree) → tree_option nodes o ≡ Some t → driven_value env nodes o ≡ value env t
driver_value env nodes None t e = absurd (none_some e)
driver_value env nodes (Some net) t e = ap (value env) (some_eq e)

module _ (w : World) (fits : WorldFits w) (is_pool : IsPool w.pool.nodes) (is_module : IsModule w.design) (s : Held) (ins : ℕ → ℕ → ℕ) (is : IsModuleRun w.design s ins) where
  abbrev run : ℕ → Env
  run = run_of w.design w.pool.nodes s ins

  held_at_fits : (k : ℕ) → IsHeld w.design (held_at w.design w.pool.nodes s ins k)
  held_at_fits = held_fits w.design w.pool is_module fits.drivers s is.held ins is.inputs

  reg_value : (k : ℕ) (reset : Option ℕ) (n : ℕ) → next_reg w.design w.pool.nodes (held_at w.design w.pool.nodes s ins k) (ins k) reset n ≡ next_value (run k) reset n
  reg_value k None n = refl
  reg_value k (Some start) n = refl

  reg_runs : (r : ℕ) (t : Tree) → tree_option w.pool.nodes (reg_at w.design.regs r).next ≡ Some t → (k : ℕ)
      → (run (suc k)).regs r ≡ next_value (run k) (reg_at w.design.regs r).reset (value (run k) t)
  unfolding next_held held_at
  reg_runs r t e k = reg_value k (reg_at w.design.regs r).reset _ ∙ ap (next_value (run k) (reg_at w.design.regs r).reset) (driver_value (run k) w.pool.nodes (reg_at w.design.regs r).next t e)

  out_runs : (run' : Trace) → ShowsPorts w.design w.pool.nodes s ins run' → (q : ℕ) (t : Tree) → q < 30 → is_input (port_at q) ≡ false
      → tree_option w.pool.nodes (out_at w.design.outs q) ≡ Some t → (k : ℕ) → run' k (name_of (port_at q)) ≡ value (run k) t
  out_runs run' shows q t l o e k =
      shows k q l ∙ ap (λ b. cond b (ins k q) (out_value w.design w.pool.nodes (held_at w.design w.pool.nodes s ins k) (ins k) q)) o
      ∙ driver_value (run k) w.pool.nodes (out_at w.design.outs q) t e

  pub runs_module : (run' : Trace) → ShowsPorts w.design w.pool.nodes s ins run' → RunsModule w.design w.pool.nodes run run'
  runs_module run' shows = record {
    wires = λ k t l e c. wire_solves w.design w.pool is_pool fits.drivers (held_at w.design w.pool.nodes s ins c) (ins c) k l ∙ driver_value (run c) w.pool.nodes (wire_at w.design.wires k).driver t e;
    regs = λ r t l e c. reg_runs r t e c;
    fit = λ r l c. (held_at_fits c).regs r l;
    first = is.first;
    later = is.later;
    outs = λ q t l o e c. out_runs run' shows q t l o e c;
  }

  -- ---- outputs of services are within their widths

  module _ (k : ℕ) where
    net_below : (net : Net) → FitsIn w.design w.pool net → value (run k) (tree_of w.pool.nodes net.id.0) < 2 ^ net.width
    net_below net f =
        let h : Within (run k) (tree_of w.pool.nodes net.id.0) =
        within w.design (held_at w.design w.pool.nodes s ins k) (ins k) (held_at_fits k) (is.inputs k) (wire_value w.design w.pool.nodes (held_at w.design w.pool.nodes s ins k) (ins k))
        (wires_within w.design (held_at w.design w.pool.nodes s ins k) (ins k) (held_at_fits k) (is.inputs k) w.pool fits.drivers) net.level (tree_of w.pool.nodes net.id.0) f.tree in
        subst (λ n. value (run k) (tree_of w.pool.nodes net.id.0) < 2 ^ n) f.is.width (value-fits (run k) (tree_of w.pool.nodes net.id.0) f.is.fits h)

    trees_below : (most : ℕ) (ns : List Net) (ws : List ℕ) → AreOutputs w.design w.pool most ns ws → (i : ℕ) → value (run k) (tree_at (map (net_tree w.pool.nodes) ns) i) < 2 ^ get_or ws i 1
    trees_below most [] [] h i = omega arith
    trees_below most [] (x ∷ ws) h i = absurd h
    trees_below most (n ∷ ns) [] h i = absurd h
    trees_below most (n ∷ ns) (x ∷ ws) h zero = subst (λ width. value (run k) (tree_of w.pool.nodes n.id.0) < 2 ^ width) h.0.wide (net_below n (fits_of w.design w.pool n h.0.scope))
    trees_below most (n ∷ ns) (x ∷ ws) h (suc i) = trees_below most ns ws h.1 i

    -- an output of one bit
    IsBit : PortTrees → ℕ → Type 0
    IsBit o i = out_of (run k) o i < 2

    single_bit : (sv : Service) (o : Option Offered) → single w.reg sv ≡ o → (i : ℕ) → get_or (output_widths sv) i 1 ≡ 1 → out_of (run k) (trees_or_none w.pool.nodes o).1 i < 2
    single_bit sv None e i one = omega arith
    single_bit sv (Some o) e i one =
        subst (λ n. out_of (run k) (trees_or_none w.pool.nodes (Some o)).1 i < 2 ^ n) one
        (trees_below (output_level sv) o.ports.outputs (output_widths sv) (fits.offers.singles sv o e).outputs i)

    system_bit : (o : Option Offered) → single w.reg System ≡ o → out_of (run k) (or_none (ports_in (offered_trees w.pool.nodes o))) 0 < 2
    system_bit None e = omega arith
    system_bit (Some o) e = trees_below (output_level System) o.ports.outputs (output_widths System) (fits.offers.singles System o e).outputs 0

    exec_bit : (i : ℕ) → get_or (output_widths Exec) i 1 ≡ 1 → (os : List ExecOffer) → ((j : ℕ) (o : ExecOffer) → j < length os → get_or os j o ≡ o → AreOutputs w.design w.pool (output_level Exec) (exec_ports o.ports).outputs (output_widths Exec))
        → (entry : ℕ) → out_of (run k) (or_none (port_trees w.pool.nodes (exec_of entry os))) i < 2
    exec_bit i one [] h entry = omega arith
    exec_bit i one (o ∷ os) h entry = go (eqb o.by entry) (exec_bit i one os (λ j x l e. h (suc j) x (omega arith) e) entry)
        (subst (λ n. out_of (run k) (or_none (port_trees w.pool.nodes (Some (exec_ports o.ports)))) i < 2 ^ n) one (trees_below (output_level Exec) (exec_ports o.ports).outputs (output_widths Exec) (h 0 o (omega arith) refl) i))
      where
        go : (b : Bool) → out_of (run k) (or_none (port_trees w.pool.nodes (exec_of entry os))) i < 2 → out_of (run k) (or_none (port_trees w.pool.nodes (Some (exec_ports o.ports)))) i < 2
            → out_of (run k) (or_none (port_trees w.pool.nodes (cond b (Some (exec_ports o.ports)) (exec_of entry os)))) i < 2
        go true later here = here
        go false later here = later

module _ (takes : ℕ → Service → Bool) (w : World) (fits : WorldFits w) (is_pool : IsPool w.pool.nodes) (is_module : IsModule w.design) (p : PipeThings) (pipeline : IsPipeline takes w p) where
  exec_is : (entry : ℕ) → p.services.exec entry ≡ or_none (port_trees w.pool.nodes (exec_of entry w.reg.execs))
  exec_is entry = ap (λ (x : Services). x.exec entry) pipeline.services

  ports_fit : All (λ (u : PipeUnit). p.services.exec u.entry ≡ u.ports) p.units
  ports_fit j e l = exec_is _ ∙ ports_are w.pool.nodes w.reg.execs p.units pipeline.units fits.offers.once j e l

  chosen_fit : All (λ (u : PipeUnit). p.own.chosen u.entry ≡ u.chosen) p.units
  chosen_fit j e l = pipeline.chosen _ ∙ chosen_are w.pool.nodes w.reg.execs p.units pipeline.units fits.offers.once j e l

  together : FitTogether p
  together = record {
    entries = pipeline.entries ∙ entries_are w.pool.nodes w.reg.execs p.units pipeline.units;
    chosen = chosen_fit;
    ports = ports_fit;
    system = pipeline.system;
  }

  module _ (s : Held) (ins : ℕ → ℕ → ℕ) (is : IsModuleRun w.design s ins) (k : ℕ) where
    abbrev env : Env
    env = run_of w.design w.pool.nodes s ins k

    of_single : (sv : Service) (i : ℕ) → get_or (output_widths sv) i 1 ≡ 1 → out_of env (trees_or_none w.pool.nodes (single w.reg sv)).1 i < 2
    of_single sv i one = single_bit w fits is_pool is_module s ins is k sv (single w.reg sv) refl i one

    of_unit : (i : ℕ) → get_or (output_widths Exec) i 1 ≡ 1 → (j : ℕ) (e : PipeUnit) → j < length p.units → out_of env (get_or p.units j e).ports i < 2
    of_unit i one j e l =
        subst (λ o. out_of env o i < 2) (sym (exec_is (get_or p.units j e).entry) ∙ ports_fit j e l)
        (exec_bit w fits is_pool is_module s ins is k i one w.reg.execs (λ j o l e. (fits.offers.execs j o l e).outputs) (get_or p.units j e).entry)

    bits : AreBits p env
    bits =
        let x = pipeline.services in
        record {
          offered = subst (λ (x : Services). out_of env x.fetch.1 0 < 2) (sym x) (of_single Fetch 0 refl);
          error = subst (λ (x : Services). out_of env x.fetch.1 3 < 2) (sym x) (of_single Fetch 3 refl);
          legal = subst (λ (x : Services). out_of env x.decoder.1 0 < 2) (sym x) (of_single Decoder 0 refl);
          writes = subst (λ (x : Services). out_of env x.decoder.1 5 < 2) (sym x) (of_single Decoder 5 refl);
          hold = subst (λ (x : Services). out_of env x.hazard.1 0 < 2) (sym x) (of_single Hazard 0 refl);
          take_irq = subst (λ (x : Services). out_of env (or_none (ports_in x.system)) 0 < 2) (sym x) (system_bit w fits is_pool is_module s ins is k (single w.reg System) refl);
          units = λ j e l. record { done = of_unit 0 refl j e l; trap = of_unit 3 refl j e l; fence = of_unit 6 refl j e l };
        }

  pub takes_steps : TakesSteps w p
  takes_steps s ins is run' shows =
      steps w.design w.pool.nodes p (run_of w.design w.pool.nodes s ins) run' (runs_module w fits is_pool is_module s ins is run' shows) together pipeline.drives (bits s ins is)
