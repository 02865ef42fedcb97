-- Third rule: each line of a checked module uses names that stand before it.
use Rattle.std.proofs.Common.{◌≡◌, ℕ, suc, ◌<◌, Bool, true, false, not, eqb, ◌&&◌, List, [], ◌∷◌, length, get_or, Option, Some, None, refl, ap, sym, subst, ◌∙◌, arith}
use Rattle.std.specs.Prelude.{codes}
use Rattle.std.proofs.lemmas.Bool.Decides.{nat_tests}
use Rattle.core_ports.specs.Ports.{all_ports, name_of}
use Rattle.verilog_mean.specs.declared.refusal.MeanRefusal.TheVariants.{NameUnknown}
use Rattle.verilog_mean.specs.Look.{put_if}
use Rattle.verilog_mean.specs.Names.{Refusals, port_names, is_bit_input, unknown_in_items, names_unknown}
use Rattle.verilog_netlist.specs.Netlist.{Value}
use Rattle.verilog_netlist.specs.Netlist.Line.{Net}
use Rattle.verilog_netlist.specs.Places.{placed_lines, placed_ports, behind_ports, tree_of}
use Rattle.hw_pool.specs.declared.node.Op.{Op}
use Rattle.hw_pool.specs.declared.node.Op.TheVariants as op
use Rattle.hw_pool.specs.Nodes.{PoolValue, node_at, EachChild, AreChildren, IsPool}
use Rattle.hw_pool.specs.Trees.{Tree, of_op, unfold_to}
use Rattle.hw_pool.specs.Trees as trees
use Rattle.hw_expr.specs.declared.net.Net.{Net as Driver}
use Rattle.hw_module.specs.declared.rows.ArrayWrite.{ArrayWrite}
use Rattle.hw_module.specs.Ports.{port_at}
use Rattle.hw_module.specs.Rows.{ModuleValue, wire_at, reg_at, array_at, out_at}
use Rattle.hw_module.specs.Fits.{TreeFits, FitsIn}
use Rattle.hw_module.specs.Checked.{DriversFit}
use Rattle.hw_module.specs.Reached.{Drives, Reached, AreMarks, ReachedFits, top_of}
use Rattle.hw_module.specs.Reached.Drives.{OfWire, OfReg, OfEnable, OfAddr, OfValue, OfPort}
use Rattle.module_netlist.specs.Names.{node_name, wire_name, reg_name, array_name, port_name}
use Rattle.module_netlist.specs.Lines.{spread, assigned, clocked, written, line_if, node_value, wire_line, reg_line, array_line, node_line, drive_line, next_line, write_line, out_line, from_outs, from_writes, from_nexts, from_drives, from_nodes, from_arrays, from_regs, module_lines, ports_from, netlist_of}
use Rattle.netlist_sound.proofs.NameLists.{Names, IsIn, in_first, in_later, in_spread}
use Rattle.netlist_sound.proofs.Known.{ValueKnown, LinesKnown, PutKnown, behind, lines_known, spread_known}

unless_unknown : (b : Bool) (at : ℕ) (rest : Refusals) → b ≡ true → rest ≡ [] → put_if (not b) (NameUnknown at) rest ≡ []
unless_unknown b at rest h e = ap (λ v. put_if (not v) (NameUnknown at) rest) h ∙ e

-- one more of a row of names is known
one_more : (f : ℕ → List ℕ) (n : ℕ) (known : Names) (i : ℕ) → (b : Bool) → eqb n i ≡ b → (eqb n i ≡ false → IsIn known (f i)) → IsIn (f n ∷ known) (f i)
one_more f n known i true e h = let p : n ≡ i = grind (arith, nat_tests) in subst (λ z. IsIn (f n ∷ known) (f z)) p (in_first (f n) known)
one_more f n known i false e h = in_later (f n) (f i) known (h e)

below : (n i : ℕ) → i < suc n → eqb n i ≡ false → i < n
below n i h e = grind (arith, nat_tests)

module _ (m : ModuleValue) (pool : PoolValue) (marks : List Bool) where
  -- all ports are known, and the first wires, registers, arrays and marked nodes
  record Knows (w r a n : ℕ) (known : Names) : Type 0 where
    ports : (i : ℕ) → i < 30 → IsIn known (port_name i)
    wires : (i : ℕ) → i < w → IsIn known (wire_name m i)
    regs : (i : ℕ) → i < r → IsIn known (reg_name m i)
    arrays : (i : ℕ) → i < a → IsIn known (array_name m i)
    nodes : (i : ℕ) → i < n → get_or marks i false ≡ true → IsIn known (node_name i)

  add_wire : (w : ℕ) (known : Names) → Knows w 0 0 0 known → Knows (suc w) 0 0 0 (wire_name m w ∷ known)
  add_wire w known k = record {
    ports = λ i h. in_later (wire_name m w) (port_name i) known (k.ports i h);
    wires = λ i h. one_more (wire_name m) w known i (eqb w i) refl (λ e. k.wires i (below w i h e));
    regs = λ i h. absurd (omega arith);
    arrays = λ i h. absurd (omega arith);
    nodes = λ i h b. absurd (omega arith);
  }

  add_reg : (w r : ℕ) (known : Names) → Knows w r 0 0 known → Knows w (suc r) 0 0 (reg_name m r ∷ known)
  add_reg w r known k = record {
    ports = λ i h. in_later (reg_name m r) (port_name i) known (k.ports i h);
    wires = λ i h. in_later (reg_name m r) (wire_name m i) known (k.wires i h);
    regs = λ i h. one_more (reg_name m) r known i (eqb r i) refl (λ e. k.regs i (below r i h e));
    arrays = λ i h. absurd (omega arith);
    nodes = λ i h b. absurd (omega arith);
  }

  add_array : (w r a : ℕ) (known : Names) → Knows w r a 0 known → Knows w r (suc a) 0 (array_name m a ∷ known)
  add_array w r a known k = record {
    ports = λ i h. in_later (array_name m a) (port_name i) known (k.ports i h);
    wires = λ i h. in_later (array_name m a) (wire_name m i) known (k.wires i h);
    regs = λ i h. in_later (array_name m a) (reg_name m i) known (k.regs i h);
    arrays = λ i h. one_more (array_name m) a known i (eqb a i) refl (λ e. k.arrays i (below a i h e));
    nodes = λ i h b. absurd (omega arith);
  }

  add_node : (w r a n : ℕ) (known : Names) → Knows w r a n known → Knows w r a (suc n) (node_name n ∷ known)
  add_node w r a n known k = record {
    ports = λ i h. in_later (node_name n) (port_name i) known (k.ports i h);
    wires = λ i h. in_later (node_name n) (wire_name m i) known (k.wires i h);
    regs = λ i h. in_later (node_name n) (reg_name m i) known (k.regs i h);
    arrays = λ i h. in_later (node_name n) (array_name m i) known (k.arrays i h);
    nodes = λ i h b. one_more node_name n known i (eqb n i) refl (λ e. k.nodes i (below n i h e) b);
  }

  other : (n i : ℕ) → get_or marks n false ≡ false → get_or marks i false ≡ true → (b : Bool) → eqb n i ≡ b → b ≡ false
  other n i u v false e = refl
  other n i u v true e = let p : n ≡ i = grind (arith, nat_tests) in absurd (let q : get_or marks n false ≡ get_or marks i false = ap (λ z. get_or marks z false) p in cc)

  -- a node without a mark adds nothing
  no_node : (w r a n : ℕ) (known : Names) → get_or marks n false ≡ false → Knows w r a n known → Knows w r a (suc n) known
  no_node w r a n known u k = record {
    ports = k.ports;
    wires = k.wires;
    regs = k.regs;
    arrays = k.arrays;
    nodes = λ i h b. k.nodes i (below n i h (other n i u b (eqb n i) refl)) b;
  }

  abbrev W : ℕ
  W = length m.wires

  abbrev R : ℕ
  R = length m.regs

  abbrev A : ℕ
  A = length m.arrays

  abbrev N : ℕ
  N = length pool.nodes

  -- the names in an operator over nodes before number k
  op_known : (k level top : ℕ) (tree : ℕ → Tree) (known : Names) → Knows W R A k known → (width : ℕ) (o : Op) → AreChildren pool.nodes k level o → EachChild (λ c. get_or marks c false ≡ true) o
      → TreeFits m top (of_op tree width o) → ValueKnown known (node_value m width o)
  op_known k level top tree known q width (op.Lit v) c g t = tt
  op_known k level top tree known q width (op.Input i) c g t = q.ports i t.readable.most
  op_known k level top tree known q width (op.Wire w) c g t = q.wires w t.there
  op_known k level top tree known q width (op.Reg r) c g t = q.regs r t.there
  op_known k level top tree known q width (op.Not a) c g t = q.nodes a.0 c.0 g
  op_known k level top tree known q width (op.And a b) c g t = (q.nodes a.0 c.0.0 g.0, q.nodes b.0 c.1.0 g.1)
  op_known k level top tree known q width (op.Or a b) c g t = (q.nodes a.0 c.0.0 g.0, q.nodes b.0 c.1.0 g.1)
  op_known k level top tree known q width (op.Xor a b) c g t = (q.nodes a.0 c.0.0 g.0, q.nodes b.0 c.1.0 g.1)
  op_known k level top tree known q width (op.Add a b) c g t = (q.nodes a.0 c.0.0 g.0, q.nodes b.0 c.1.0 g.1)
  op_known k level top tree known q width (op.Sub a b) c g t = (q.nodes a.0 c.0.0 g.0, q.nodes b.0 c.1.0 g.1)
  op_known k level top tree known q width (op.Eq a b) c g t = (q.nodes a.0 c.0.0 g.0, q.nodes b.0 c.1.0 g.1)
  op_known k level top tree known q width (op.Ltu a b) c g t = (q.nodes a.0 c.0.0 g.0, q.nodes b.0 c.1.0 g.1)
  op_known k level top tree known q width (op.Mux x a b) c g t = (q.nodes x.0 c.0.0 g.0, q.nodes a.0 c.1.0 g.1, q.nodes b.0 c.2.0 g.2)
  op_known k level top tree known q width (op.Cat a b) c g t = (q.nodes a.0 c.0.0 g.0, q.nodes b.0 c.1.0 g.1)
  op_known k level top tree known q width (op.Slice a high low) c g t = q.nodes a.0 c.0 g
  op_known k level top tree known q width (op.Read x a) c g t = (q.arrays x t.0.there, q.nodes a.0 c.0 g)

  node_step : (k width : ℕ) (v : Value) (known : Names) → Knows W R A k known → ((known' : Names) → Knows W R A k known' → get_or marks k false ≡ true → ValueKnown known' v)
      → (b : Bool) → get_or marks k false ≡ b → PutKnown known (line_if b (Net width (node_name k) v)) × Knows W R A (suc k) (behind known (line_if b (Net width (node_name k) v)))
  node_step k width v known q f true e =
      (f (node_name k ∷ known) (later (node_name k) known q) e, add_node W R A k known q)
    where
      later : (x : List ℕ) (known : Names) → Knows W R A k known → Knows W R A k (x ∷ known)
      later x known k = record {
        ports = λ i h. in_later x (port_name i) known (k.ports i h);
        wires = λ i h. in_later x (wire_name m i) known (k.wires i h);
        regs = λ i h. in_later x (reg_name m i) known (k.regs i h);
        arrays = λ i h. in_later x (array_name m i) known (k.arrays i h);
        nodes = λ i h b. in_later x (node_name i) known (k.nodes i h b);
      }
  node_step k width v known q f false e = (tt, no_node W R A k known e q)

  module _ (is_pool : IsPool pool.nodes) (are : AreMarks m pool.nodes marks) (fit : DriversFit m pool)
      (reach : (k : ℕ) → Reached m pool.nodes k → ReachedFits m pool.nodes k) where
    net_known : (net : Driver) (known : Names) → Knows W R A N known → FitsIn m pool net → Drives m net.id.0 → IsIn known (node_name net.id.0)
    net_known net known q f d = q.nodes net.id.0 f.is.live (are.drivers net.id.0 d)

    out_known : (i : ℕ) → i < 30 → (known : Names) → Knows W R A N known → (o : Option Driver) → out_at m.outs i ≡ o
        → PutKnown known (assigned (port_name i) o) × Knows W R A N (behind known (assigned (port_name i) o))
    out_known i h known q None e = (tt, q)
    out_known i h known q (Some net) e = ((q.ports i h, net_known net known q (fit.outs i net h e).fits (OfPort i net h e refl)), q)

    write_known : (i : ℕ) → i < A → (known : Names) → Knows W R A N known → (o : Option ArrayWrite) → (array_at m.arrays i).write ≡ o
        → PutKnown known (written (array_name m i) o) × Knows W R A N (behind known (written (array_name m i) o))
    write_known i h known q None e = (tt, q)
    write_known i h known q (Some w) e =
        let d = fit.arrays i w h e in
        ((net_known w.enable known q d.enable (OfEnable i w h e refl), q.arrays i h, net_known w.addr known q d.addr (OfAddr i w h e refl), net_known w.value known q d.value (OfValue i w h e refl)), q)

    next_known : (i : ℕ) → i < R → (known : Names) → Knows W R A N known → (start : Option ℕ) (o : Option Driver) → (reg_at m.regs i).next ≡ o
        → PutKnown known (clocked (reg_name m i) (reg_at m.regs i).width start o) × Knows W R A N (behind known (clocked (reg_name m i) (reg_at m.regs i).width start o))
    next_known i h known q start None e = (tt, q)
    next_known i h known q None (Some net) e = ((q.regs i h, net_known net known q (fit.regs i net h e).fits (OfReg i net h e refl)), q)
    next_known i h known q (Some v) (Some net) e = ((q.regs i h, net_known net known q (fit.regs i net h e).fits (OfReg i net h e refl)), q)

    drive_known : (i : ℕ) → i < W → (known : Names) → Knows W R A N known → (o : Option Driver) → (wire_at m.wires i).driver ≡ o
        → PutKnown known (assigned (wire_name m i) o) × Knows W R A N (behind known (assigned (wire_name m i) o))
    drive_known i h known q None e = (tt, q)
    drive_known i h known q (Some net) e = ((q.wires i h, net_known net known q (fit.wires i net h e).fits (OfWire i net h e refl)), q)

    node_known : (k : ℕ) → k < N → (known : Names) → Knows W R A k known → get_or marks k false ≡ true → ValueKnown known (node_value m (node_at pool.nodes k).width (node_at pool.nodes k).op)
    unfolding trees.tree_of unfold_to
    node_known k h known q mark =
        op_known k (node_at pool.nodes k).level (top_of m.wires (trees.tree_of pool.nodes k)) (unfold_to k pool.nodes) known q (node_at pool.nodes k).width (node_at pool.nodes k).op
        (is_pool.children k h) (are.children k mark) (reach k (are.only k mark)).tree

    outs_known : (known : Names) → Knows W R A N known → LinesKnown known (from_outs m pool.nodes marks)
    outs_known known q =
        spread_known (out_line m) (λ i ks. Knows W R A N ks) [] 30 0 (λ i l h ks q. out_known i (omega arith) ks q (out_at m.outs i) refl) (λ i e ks q. tt) known q

    writes_known : (known : Names) → Knows W R A N known → LinesKnown known (from_writes m pool.nodes marks)
    writes_known known q =
        spread_known (write_line m) (λ i ks. Knows W R A N ks) (from_outs m pool.nodes marks) A 0
        (λ i l h ks q. write_known i (omega arith) ks q (array_at m.arrays i).write refl) (λ i e ks q. outs_known ks q) known q

    nexts_known : (known : Names) → Knows W R A N known → LinesKnown known (from_nexts m pool.nodes marks)
    nexts_known known q =
        spread_known (next_line m) (λ i ks. Knows W R A N ks) (from_writes m pool.nodes marks) R 0
        (λ i l h ks q. next_known i (omega arith) ks q (reg_at m.regs i).reset (reg_at m.regs i).next refl) (λ i e ks q. writes_known ks q) known q

    drives_known : (known : Names) → Knows W R A N known → LinesKnown known (from_drives m pool.nodes marks)
    drives_known known q =
        spread_known (drive_line m) (λ i ks. Knows W R A N ks) (from_nexts m pool.nodes marks) W 0
        (λ i l h ks q. drive_known i (omega arith) ks q (wire_at m.wires i).driver refl) (λ i e ks q. nexts_known ks q) known q

    nodes_known : (known : Names) → Knows W R A 0 known → LinesKnown known (from_nodes m pool.nodes marks)
    nodes_known known q =
        spread_known (node_line m pool.nodes marks) (λ i ks. Knows W R A i ks) (from_drives m pool.nodes marks) N 0
        (λ k l h ks q. node_step k (node_at pool.nodes k).width (node_value m (node_at pool.nodes k).width (node_at pool.nodes k).op) ks q
        (λ known q mark. node_known k (omega arith) known q mark) (get_or marks k false) refl)
        (λ i e ks q. drives_known ks (subst (λ z. Knows W R A z ks) (let p : i ≡ N = omega arith in p) q)) known q

    arrays_known : (known : Names) → Knows W R 0 0 known → LinesKnown known (from_arrays m pool.nodes marks)
    arrays_known known q =
        spread_known (array_line m) (λ i ks. Knows W R i 0 ks) (from_nodes m pool.nodes marks) A 0 (λ i l h ks q. (tt, add_array W R i ks q))
        (λ i e ks q. nodes_known ks (subst (λ z. Knows W R z 0 ks) (let p : i ≡ A = omega arith in p) q)) known q

    regs_known : (known : Names) → Knows W 0 0 0 known → LinesKnown known (from_regs m pool.nodes marks)
    regs_known known q =
        spread_known (reg_line m) (λ i ks. Knows W i 0 0 ks) (from_arrays m pool.nodes marks) R 0 (λ i l h ks q. (tt, add_reg W i ks q))
        (λ i e ks q. arrays_known ks (subst (λ z. Knows W z 0 0 ks) (let p : i ≡ R = omega arith in p) q)) known q

    wires_known : (known : Names) → Knows 0 0 0 0 known → LinesKnown known (module_lines m pool.nodes marks)
    wires_known known q =
        spread_known (wire_line m) (λ i ks. Knows i 0 0 0 ks) (from_regs m pool.nodes marks) W 0 (λ i l h ks q. (tt, add_wire i ks q))
        (λ i e ks q. regs_known ks (subst (λ z. Knows z 0 0 0 ks) (let p : i ≡ W = omega arith in p) q)) known q

    -- the ports
    ports_named : (p : ℕ → ℕ) → port_names (placed_ports p 3 (ports_from all_ports)) ≡ spread (λ i. Some (port_name i)) 0 30 []
    unfolding port_at
    ports_named p = refl

    inputs : (p : ℕ → ℕ) → (is_bit_input (placed_ports p 3 (ports_from all_ports)) (codes "clk") && is_bit_input (placed_ports p 3 (ports_from all_ports)) (codes "reset")) ≡ true
    unfolding name_of
    inputs p = refl

    first_known : (p : ℕ → ℕ) → Knows 0 0 0 0 (port_names (placed_ports p 3 (ports_from all_ports)))
    first_known p = record {
      ports = λ i h. subst (λ ks. IsIn ks (port_name i)) (sym (ports_named p)) (in_spread (λ j. Some (port_name j)) [] (port_name i) 30 i h refl);
      wires = λ i h. absurd (omega arith);
      regs = λ i h. absurd (omega arith);
      arrays = λ i h. absurd (omega arith);
      nodes = λ i h b. absurd (omega arith);
    }

    items_known : (p : ℕ → ℕ) (k : ℕ) → unknown_in_items (port_names (placed_ports p 3 (ports_from all_ports))) (placed_lines p k (module_lines m pool.nodes marks)) ≡ []
    items_known p k =
        let first = port_names (placed_ports p 3 (ports_from all_ports)) in
        lines_known first p k (module_lines m pool.nodes marks) (wires_known first (first_known p))

    pub known : (p : ℕ → ℕ) → names_unknown (tree_of p (netlist_of m pool.nodes marks)) ≡ []
    known p = unless_unknown _ (p 1) _ (inputs p) (items_known p (suc (behind_ports 3 (ports_from all_ports))))
