-- The outputs of services as nets with their functions.
use Rattle.std.proofs.Common.{◌≡◌, ◌∙◌, ℕ, suc, ◌<◌, List, [], ◌∷◌, length, get_or, arith, ap, refl, sym, Option, None, Some, is_some}
use Rattle.hw_pool.specs.declared.node.Node.{Node}
use Rattle.hw_pool.specs.Nodes.{PoolValue}
use Rattle.hw_pool.specs.Trees.{tree_of}
use Rattle.hw_pool.specs.Meaning.{Env, value}
use Rattle.hw_expr.specs.declared.net.Net.{Net}
use Rattle.hw_gates.specs.Places.{place, value_in, worth}
use Rattle.hw_gates.proofs.Has.{has_of, is_in}
use Rattle.hw_module.specs.Rows.{ModuleValue}
use Rattle.hw_module.specs.Scope.{scope_of}
use Rattle.service_reg.specs.declared.service.Service.TheVariants.{Decoder, Exec, Fetch, Hazard, System}
use Rattle.service_ports.specs.declared.ports.DecoderPorts.{DecoderPorts}
use Rattle.service_ports.specs.declared.ports.ExecOffer.{ExecOffer}
use Rattle.service_ports.specs.declared.ports.FetchPorts.{FetchPorts}
use Rattle.service_ports.specs.declared.ports.HazardPorts.{HazardPorts}
use Rattle.service_ports.specs.declared.ports.SystemPorts.{SystemPorts}
use Rattle.service_ports.specs.Ports.{Ports, decoder_ports, exec_ports, fetch_ports, hazard_ports, system_ports}
use Rattle.service_ports.specs.Registry.{Offered, offered_as}
use Rattle.service_ports.specs.Registry as registry
use Rattle.plug_part.specs.Named.{trees_of}
use Rattle.plug_part.specs.Of.{net_tree}
use Rattle.plug_part.specs.Part.{PortTrees, tree_at}
use Rattle.plug_part.specs.Signals.{or_none}
use Rattle.plug_build.specs.Fits.{IsOutput, OfferFits}
use Rattle.part_laws.specs.Joined.{ports_in}
use Rattle.part_laws.specs.Registered.{offered_trees}
use Rattle.pipe_steps.specs.Things.{PipeThings}
use Rattle.pipe_steps.specs.Values.{out_of}
use Rattle.pipe_build.specs.AllNets.{SystemIs}
use Rattle.pipe_build.specs.Bears.{Bears}
use Rattle.pipe_build.specs.Known.{IsDecoder, IsFetch, IsHazard}
use Rattle.pipe_build.specs.UnitOuts.{AreExecs, IsExec}

tree_value : (env : Env) (pool : PoolValue) (net : Net) → value_in env pool net ≡ value env (net_tree pool.nodes net)
unfolding place worth
tree_value env pool net = refl

-- nodes are those of a pool, or of one that has grown from it
module _ (d : ModuleValue) (pool : PoolValue) (nodes : List Node) (kept : (k : ℕ) → k < length pool.nodes → tree_of nodes k ≡ tree_of pool.nodes k) where
  out_is : {width most : ℕ} (o : PortTrees) (ports : Ports) → o ≡ trees_of nodes ports → (i : ℕ) (net : Net) → tree_at (trees_of nodes ports).outputs i ≡ net_tree nodes net → IsOutput d pool most width net
      → Bears (scope_of d) pool width most (λ env. out_of env o i) net
  out_is o ports is i net same h = record {
    is = (has_of pool net h.scope.is, h.wide, h.level);
    takes = is_in (scope_of d) pool net h.scope;
    value_is = λ env.
        let t : tree_at o.outputs i ≡ net_tree pool.nodes net = ap (λ (x : PortTrees). tree_at x.outputs i) is ∙ same ∙ kept net.id.0 h.scope.is.live in
        tree_value env pool net ∙ sym (ap (value env) t);
  }

  pub fetch_is : (p : PipeThings) (by : ℕ) (f : FetchPorts) → p.services.fetch.1 ≡ trees_of nodes (fetch_ports f) → OfferFits d pool Fetch by (fetch_ports f) → IsFetch (scope_of d) pool p f
  fetch_is p by f is h =
      let o = p.services.fetch.1 in
      record {
        valid = out_is o (fetch_ports f) is 0 f.valid refl h.outputs.0;
        pc = out_is o (fetch_ports f) is 1 f.pc refl h.outputs.1.0;
        word = out_is o (fetch_ports f) is 2 f.word refl h.outputs.1.1.0;
        error = out_is o (fetch_ports f) is 3 f.error refl h.outputs.1.1.1.0;
      }

  pub decoder_is : (p : PipeThings) (by : ℕ) (f : DecoderPorts) → p.services.decoder.1 ≡ trees_of nodes (decoder_ports f) → OfferFits d pool Decoder by (decoder_ports f) → IsDecoder (scope_of d) pool p f
  decoder_is p by f is h =
      let o = p.services.decoder.1 in
      record {
        legal = out_is o (decoder_ports f) is 0 f.legal refl h.outputs.0;
        row = out_is o (decoder_ports f) is 1 f.row refl h.outputs.1.0;
        unit = out_is o (decoder_ports f) is 2 f.unit refl h.outputs.1.1.0;
        uses_a = out_is o (decoder_ports f) is 3 f.uses_a refl h.outputs.1.1.1.0;
        uses_b = out_is o (decoder_ports f) is 4 f.uses_b refl h.outputs.1.1.1.1.0;
        writes = out_is o (decoder_ports f) is 5 f.writes refl h.outputs.1.1.1.1.1.0;
      }

  pub hazard_is : (p : PipeThings) (by : ℕ) (f : HazardPorts) → p.services.hazard.1 ≡ trees_of nodes (hazard_ports f) → OfferFits d pool Hazard by (hazard_ports f) → IsHazard (scope_of d) pool p f
  hazard_is p by f is h =
      let o = p.services.hazard.1 in
      record {
        hold = out_is o (hazard_ports f) is 0 f.hold refl h.outputs.0;
        a = out_is o (hazard_ports f) is 1 f.a refl h.outputs.1.0;
        b = out_is o (hazard_ports f) is 2 f.b refl h.outputs.1.1.0;
      }

  exec_is : (o : ExecOffer) → OfferFits d pool Exec o.by (exec_ports o.ports) → IsExec (scope_of d) pool nodes o
  exec_is o h =
      let t = trees_of nodes (exec_ports o.ports) in
      record {
        done = out_is t (exec_ports o.ports) refl 0 o.ports.done refl h.outputs.0;
        value_out = out_is t (exec_ports o.ports) refl 1 o.ports.value refl h.outputs.1.0;
        next_pc = out_is t (exec_ports o.ports) refl 2 o.ports.next_pc refl h.outputs.1.1.0;
        trap = out_is t (exec_ports o.ports) refl 3 o.ports.trap refl h.outputs.1.1.1.0;
        cause = out_is t (exec_ports o.ports) refl 4 o.ports.cause refl h.outputs.1.1.1.1.0;
        tval = out_is t (exec_ports o.ports) refl 5 o.ports.tval refl h.outputs.1.1.1.1.1.0;
        fence = out_is t (exec_ports o.ports) refl 6 o.ports.fence refl h.outputs.1.1.1.1.1.1.0;
      }

  pub execs_are : (os : List ExecOffer) → ((k : ℕ) (o : ExecOffer) → k < length os → get_or os k o ≡ o → OfferFits d pool Exec o.by (exec_ports o.ports)) → AreExecs (scope_of d) pool nodes os
  execs_are [] each = tt
  execs_are (o ∷ os) each = (exec_is o (each 0 o (omega arith) refl), execs_are os (λ k q l e. each (suc k) q (omega arith) e))

  pub system_is : (p : PipeThings) (o : Option (ℕ × SystemPorts)) → p.shape.system ≡ is_some o → p.services.system ≡ offered_trees nodes (offered_as system_ports o)
      → ((x : Offered) → offered_as system_ports o ≡ Some x → OfferFits d pool System x.by x.ports) → SystemIs (scope_of d) pool p (registry.ports_in o)
  system_is p None there is fits = (there, is)
  system_is p (Some x) there is fits =
      let ports = system_ports x.1 in
      let o = or_none (ports_in p.services.system) in
      let same : o ≡ trees_of nodes ports = ap (λ (q : Option (ℕ × PortTrees)). or_none (ports_in q)) is in
      let h = fits (record { by = x.0; ports = ports }) refl in
      (there, out_is o ports same 0 x.1.take_irq refl h.outputs.0, out_is o ports same 1 x.1.irq_cause refl h.outputs.1.0, out_is o ports same 2 x.1.base refl h.outputs.1.1.0)
