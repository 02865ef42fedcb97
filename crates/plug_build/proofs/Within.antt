-- The trees of a part take numbers within their widths.
use Rattle.std.proofs.Common.{◌≡◌, ◌∙◌, ℕ, ◌^◌, ◌<◌, Bool, true, false, cond, List, [], ◌∷◌, zero, suc, map, length, refl, ap, sym, subst, Option, None, Some, inl, inr, ◌&&◌}
use Rattle.std.proofs.lemmas.Bool.{cases_lt, and_parts}
use Rattle.std.proofs.lemmas.List.{get_or_past}
use Rattle.hw_pool.specs.declared.node.Node.{Node}
use Rattle.hw_pool.specs.Trees.{Tree, tree_of}
use Rattle.hw_pool.specs.Meaning.{Env, Within}
use Rattle.hw_expr.specs.declared.net.Net.{Net}
use Rattle.hw_module.specs.declared.rows.Owner.TheVariants.{Pipe, Entry}
use Rattle.hw_module.specs.declared.rows.WireRow.{WireRow}
use Rattle.hw_module.specs.declared.rows.ArrayWrite.{ArrayWrite}
use Rattle.hw_module.specs.Rows.{wire_at, reg_at, array_at, out_at}
use Rattle.hw_module.specs.Fits.{FitsIn}
use Rattle.hw_module.specs.Cycle.{Held, IsHeld, AreInputs, cycle_env, wire_value}
use Rattle.service_reg.specs.declared.service.Service.{Service}
use Rattle.service_reg.specs.declared.service.Service.TheVariants.{Fetch}
use Rattle.plug_build.specs.World.{World, part_in}
use Rattle.plug_build.specs.Fits.{WorldFits, AreOutputs}
use Rattle.plug_part.specs.Owned.{is_owner, is_own_input, is_predict_input, is_out_of, offers, ports_of}
use Rattle.service_ports.specs.Ports.{Ports, output_level, output_widths}
use Rattle.service_ports.specs.Registry.{Offered, single, offer_of}
use Rattle.plug_part.specs.Part.{PartWire, PartReg, PartArray, TreeWrite, PortTrees, tree_at}
use Rattle.plug_part.specs.Of.{tree_option, write_trees, net_tree, port_trees, part_of}
use Rattle.service_ports.proofs.Offers.{none_some}
use Rattle.plug_build.proofs.Offers.{offer_fits, predict_input_is}
use Rattle.hw_module.proofs.Scopes.{fits_of}
use Rattle.plug_part.proofs.Rows.{owner_is}
use Rattle.plug_build.proofs.Frame.{some_eq}
use Rattle.hw_reach.proofs.Bounds.{within, wires_within}
use Rattle.plug_build.proofs.Holds.{through, net_of, there-reg, there-array}
use Rattle.plug_part.specs.Part.{Part}

-- what the trees of a part take from outside in a cycle is within its widths
pub record IsWithinAt (p : Part) (env : Env) : Type 0 where
  pub wires_fit : (k : ℕ) (row : PartWire) → p.wires k ≡ Some row → env.wires k < 2 ^ row.width
  pub drivers : (k : ℕ) (row : PartWire) (t : Tree) → p.wires k ≡ Some row → row.driver ≡ Some t → Within env t
  pub drives : (k : ℕ) (t : Tree) → p.drives k ≡ Some t → Within env t
  pub nexts : (r : ℕ) (row : PartReg) (t : Tree) → p.regs r ≡ Some row → row.next ≡ Some t → Within env t
  pub writes : (a : ℕ) (row : PartArray) (t : TreeWrite) → p.arrays a ≡ Some row → row.write ≡ Some t → Within env t.enable × Within env t.addr × Within env t.value
  pub outs : (q : ℕ) (t : Tree) → q < 30 → p.outs q ≡ Some t → Within env t
  pub offers : (s : Service) (e : PortTrees) → p.offers s ≡ Some e → (i : ℕ) → Within env (tree_at e.outputs i)
  pub took : (s : Service) (e : PortTrees) → p.took s ≡ Some e → (i : ℕ) → Within env (tree_at e.outputs i)

-- no input of the part's own services is told as its driver
open_or : (input : Bool) (o : Option Tree) (t : Tree) → cond input None o ≡ Some t → o ≡ Some t
open_or true o t e = absurd (none_some None t refl e)
open_or false o t e = e

write_of : (nodes : List Node) (o : Option ArrayWrite) (t : TreeWrite) → write_trees nodes o ≡ Some t
    → (a : ArrayWrite) × (o ≡ Some a) × (tree_of nodes a.enable.id.0 ≡ t.enable) × (tree_of nodes a.addr.id.0 ≡ t.addr) × (tree_of nodes a.value.id.0 ≡ t.value)
write_of nodes None t e = absurd (none_some None t refl e)
write_of nodes (Some a) t e = let g = some_eq e in (a, refl, ap (λ (u : TreeWrite). u.enable) g, ap (λ (u : TreeWrite). u.addr) g, ap (λ (u : TreeWrite). u.value) g)

module _ (takes : Service → Bool) (entry : ℕ) (w : World) (fits : WorldFits w) (s : Held) (held : IsHeld w.design s) (ins : ℕ → ℕ) (inputs : AreInputs ins) where
  abbrev env : Env
  env = cycle_env w.design w.pool.nodes s ins

  net_within : (net : Net) → FitsIn w.design w.pool net → Within env (tree_of w.pool.nodes net.id.0)
  net_within net is = within w.design s ins held inputs (wire_value w.design w.pool.nodes s ins) (wires_within w.design s ins held inputs w.pool fits.drivers) net.level (tree_of w.pool.nodes net.id.0) is.tree

  there-wire : (k : ℕ) → (wire_at w.design.wires k).owner ≡ Entry entry → k < length w.design.wires
  there-wire k own = elim (cases_lt k (length w.design.wires)) [
    | inl l ↦ l
    | inr past ↦ absurd (let n : Pipe ≡ Entry entry = sym (ap (λ (row : WireRow). row.owner) (get_or_past w.design.wires k _ past)) ∙ own in cc)
  ]

  wire_within : (k : ℕ) (t : Tree) → k < length w.design.wires → tree_option w.pool.nodes (wire_at w.design.wires k).driver ≡ Some t → Within env t
  wire_within k t l e =
      let n = net_of w.pool.nodes (wire_at w.design.wires k).driver t e in
      subst (Within env) n.2 (net_within n.0 (fits.drivers.wires k n.0 l n.1).fits)

  trees_within : (most : ℕ) (ns : List Net) (ws : List ℕ) → AreOutputs w.design w.pool most ns ws → (i : ℕ) → Within env (tree_at (map (net_tree w.pool.nodes) ns) i)
  trees_within most [] ws h i = tt
  trees_within most (n ∷ ns) [] h i = absurd h
  trees_within most (n ∷ ns) (width ∷ ws) h zero = net_within n (fits_of w.design w.pool n h.0.scope)
  trees_within most (n ∷ ns) (width ∷ ws) h (suc i) = trees_within most ns ws h.1 i

  ports_within : (most : ℕ) (ws : List ℕ) (o : Option Ports) → ((p : Ports) → o ≡ Some p → AreOutputs w.design w.pool most p.outputs ws)
      → (e : PortTrees) → port_trees w.pool.nodes o ≡ Some e → (i : ℕ) → Within env (tree_at e.outputs i)
  ports_within most ws None h e is i = absurd (none_some None e refl is)
  ports_within most ws (Some p) h e is i = subst (λ (q : PortTrees). Within env (tree_at q.outputs i)) (some_eq is) (trees_within most p.outputs ws (h p refl) i)

  single_outs : (sv : Service) (o : Option Offered) → single w.reg sv ≡ o → (p : Ports) → ports_of o ≡ Some p → AreOutputs w.design w.pool (output_level sv) p.outputs (output_widths sv)
  single_outs sv None e p is = absurd (none_some None p refl is)
  single_outs sv (Some o) e p is = subst (λ (q : Ports). AreOutputs w.design w.pool (output_level sv) q.outputs (output_widths sv)) (some_eq is) (fits.offers.singles sv o e).outputs

  pub is_within : IsWithinAt (part_in takes entry w) env
  unfolding part_of
  is_within = record {
    wires_fit = λ k row is.
        let h = through (is_owner (wire_at w.design.wires k).owner entry) _ row is in
        subst (λ (p : PartWire). env.wires k < 2 ^ p.width) (some_eq h.1) (wires_within w.design s ins held inputs w.pool fits.drivers k (there-wire k (owner_is _ entry h.0)));
    drivers = λ k row t is e.
        let h = through (is_owner (wire_at w.design.wires k).owner entry) _ row is in
        wire_within k t (there-wire k (owner_is _ entry h.0)) (open_or (is_own_input w.reg entry k) _ t (ap (λ (p : PartWire). p.driver) (some_eq h.1) ∙ e));
    drives = λ k t is.
        let h = through (offers w.reg entry Fetch && is_predict_input w.reg k) _ t is in
        wire_within k t (predict_input_is w.design w.pool w.reg fits.offers k (and_parts (offers w.reg entry Fetch) (is_predict_input w.reg k) h.0).1).1 h.1;
    nexts = λ r row t is e.
        let h = through (is_owner (reg_at w.design.regs r).owner entry) _ row is in
        let n = net_of w.pool.nodes (reg_at w.design.regs r).next t (ap (λ (p : PartReg). p.next) (some_eq h.1) ∙ e) in
        subst (Within env) n.2 (net_within n.0 (fits.drivers.regs r n.0 (there-reg takes entry w r (owner_is _ entry h.0)) n.1).fits);
    writes = λ a row t is e.
        let h = through (is_owner (array_at w.design.arrays a).owner entry) _ row is in
        let n = write_of w.pool.nodes (array_at w.design.arrays a).write t (ap (λ (p : PartArray). p.write) (some_eq h.1) ∙ e) in
        let d = fits.drivers.arrays a n.0 (there-array takes entry w a (owner_is _ entry h.0)) n.1 in
        (subst (Within env) n.2 (net_within n.0.enable d.enable), subst (Within env) n.3 (net_within n.0.addr d.addr), subst (Within env) n.4 (net_within n.0.value d.value));
    outs = λ q t l is.
        let n = net_of w.pool.nodes (out_at w.design.outs q) t (through (is_out_of w.reg entry q) _ t is).1 in
        subst (Within env) n.2 (net_within n.0 (fits.drivers.outs q n.0 l n.1).fits);
    offers = λ sv e is. ports_within (output_level sv) (output_widths sv) (offer_of w.reg entry sv) (λ p q. (offer_fits w.design w.pool w.reg fits.offers entry sv p q).outputs) e is;
    took = λ sv e is. ports_within (output_level sv) (output_widths sv) (ports_of (single w.reg sv)) (single_outs sv (single w.reg sv) refl) e (through (takes sv) _ e is).1;
  }
