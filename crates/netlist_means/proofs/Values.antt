-- The values of nodes, forward wires and outputs in a cycle are the module's.
use Rattle.std.proofs.Common.{◌≡◌, ℕ, zero, suc, ◌+◌, ◌<◌, ◌≤◌, true, false, cond, eqb, ltb, List, Bool, Option, Some, None, get_or, set, length, refl, ap, sym, subst, ◌∙◌, arith, bit_and, bit_or, bit_xor}
use Rattle.core_words.specs.Values.{one_if, add_of, sub_of, not_of, bits_of, choose, join_of}
use Rattle.core_ports.specs.Ports.{is_input, name_of}
use Rattle.hw_pool.specs.declared.node.Node.{Node}
use Rattle.hw_pool.specs.declared.node.Op.{Op}
use Rattle.hw_pool.specs.declared.node.Op.TheVariants.{Lit, Input, Wire, Reg, Not, And, Or, Xor, Add, Sub, Eq, Ltu, Mux, Cat, Slice, Read}
use Rattle.hw_pool.specs.Nodes.{PoolValue, node_at, EachChild}
use Rattle.hw_pool.specs.Trees.{width_of, of_op, of_node, tree_of}
use Rattle.hw_pool.specs.Meaning.{Env}
use Rattle.hw_pool.specs.Meaning as meaning
use Rattle.hw_pool.proofs.Trees.{tree-here}
use Rattle.hw_expr.specs.declared.net.Net as net
use Rattle.hw_expr.proofs.Nets.{width-op}
use Rattle.hw_module.specs.Ports.{port_at}
use Rattle.hw_module.specs.Rows.{ModuleValue, wire_at, reg_at, array_at, out_at}
use Rattle.hw_module.specs.Fits.{TreeFits}
use Rattle.hw_module.specs.declared.rows.ArrayWrite.{ArrayWrite}
use Rattle.hw_module.specs.Cycle.{env_of, driven_value, wire_value, cycle_env, out_value, next_held}
use Rattle.hw_module.specs.Cycle as cycle
use Rattle.hw_module.specs.Reached.{AreMarks, Drives, ReachedFits, top_of}
use Rattle.hw_module.specs.Reached.Drives.{OfWire, OfReg, OfEnable, OfAddr, OfValue, OfPort}
use Rattle.verilog_mean.specs.Plain.{Expr, Plain}
use Rattle.verilog_mean.specs.Plain.Expr.{Named}
use Rattle.verilog_mean.specs.Cycle.{State, width_in, eval, value, source_of, clocked_of, writing_of, reset_name}
use Rattle.verilog_mean.specs.Cycle as mean
use Rattle.verilog_mean.specs.Cycle.Source.{Driven}
use Rattle.verilog_mean.proofs.Driven.{value_driven, value_held, value_outside}
use Rattle.verilog_netlist.specs.Meaning.{value_expr, plain_of}
use Rattle.module_netlist.specs.Names.{node_name, wire_name, reg_name, array_name, port_name}
use Rattle.module_netlist.specs.Lines.{node_value, netlist_of}
use Rattle.module_netlist.specs.Means.{held_by, ins_by}
use Rattle.module_netlist.specs.Written.{IsWritten}
use Rattle.hw_reach.proofs.Reached.{reached_fits}
use Rattle.hw_reach.proofs.Solves.{wires_are_one}
use Rattle.module_netlist.proofs.Naming.{names_differ}
use Rattle.netlist_order.proofs.Ranked.{module_is_ranked}
use Rattle.netlist_means.proofs.Finds.{IsNaming, node_width, node_source, wire_source, reg_source, input_source, output_source, reg_clocked, array_writing, taking}

-- two things that hold of each child lead to a third
each_two : (P Q R : ℕ → Type 0) → ((c : ℕ) → P c → Q c → R c) → (o : Op) → EachChild P o → EachChild Q o → EachChild R o
each_two P Q R f (Lit value) p q = tt
each_two P Q R f (Input port) p q = tt
each_two P Q R f (Wire wire) p q = tt
each_two P Q R f (Reg reg) p q = tt
each_two P Q R f (Not a) p q = f a.0 p q
each_two P Q R f (And a b) p q = (f a.0 p.0 q.0, f b.0 p.1 q.1)
each_two P Q R f (Or a b) p q = (f a.0 p.0 q.0, f b.0 p.1 q.1)
each_two P Q R f (Xor a b) p q = (f a.0 p.0 q.0, f b.0 p.1 q.1)
each_two P Q R f (Add a b) p q = (f a.0 p.0 q.0, f b.0 p.1 q.1)
each_two P Q R f (Sub a b) p q = (f a.0 p.0 q.0, f b.0 p.1 q.1)
each_two P Q R f (Eq a b) p q = (f a.0 p.0 q.0, f b.0 p.1 q.1)
each_two P Q R f (Ltu a b) p q = (f a.0 p.0 q.0, f b.0 p.1 q.1)
each_two P Q R f (Mux c a b) p q = (f c.0 p.0 q.0, f a.0 p.1 q.1, f b.0 p.2 q.2)
each_two P Q R f (Cat a b) p q = (f a.0 p.0 q.0, f b.0 p.1 q.1)
each_two P Q R f (Slice a high low) p q = f a.0 p q
each_two P Q R f (Read array a) p q = f a.0 p q

-- the widths of the names and their values are those of the module
module _ (m : ModuleValue) (nodes : List Node) (s : State) (ins : List ℕ → ℕ) (wires : ℕ → ℕ) (w : List ℕ → ℕ) (val : List ℕ → ℕ) where
  abbrev env : Env
  env = env_of (held_by m s) (ins_by ins) wires

  abbrev IsSame : ℕ → Type 0
  IsSame c = (val (node_name c) ≡ meaning.value env (tree_of nodes c)) × (w (node_name c) ≡ width_of (tree_of nodes c))

  record AreLeaves : Type 0 where
    inputs : (p : ℕ) → p < 30 → is_input (port_at p) ≡ true → val (port_name p) ≡ ins (port_name p)
    wires' : (k : ℕ) → k < length m.wires → val (wire_name m k) ≡ wires k
    regs : (r : ℕ) → r < length m.regs → val (reg_name m r) ≡ s.regs (reg_name m r)

  op_same : (level width : ℕ) (o : Op) → AreLeaves → TreeFits m level (of_op (tree_of nodes) width o) → EachChild IsSame o
      → eval w s.cells val (value_expr (node_value m width o)) ≡ meaning.value env (of_op (tree_of nodes) width o)
  op_same level width (Lit v) leaves fits h = refl
  op_same level width (Input p) leaves fits h = leaves.inputs p fits.readable.most fits.readable.input
  op_same level width (Wire k) leaves fits h = leaves.wires' k fits.there
  op_same level width (Reg r) leaves fits h = leaves.regs r fits.there
  op_same level width (Not a) leaves fits h = λ i. not_of (h.1 i) (h.0 i)
  op_same level width (And a b) leaves fits h = λ i. bit_and (h.0.0 i) (h.1.0 i)
  op_same level width (Or a b) leaves fits h = λ i. bit_or (h.0.0 i) (h.1.0 i)
  op_same level width (Xor a b) leaves fits h = λ i. bit_xor (h.0.0 i) (h.1.0 i)
  op_same level width (Add a b) leaves fits h = λ i. add_of (h.0.1 i) (h.0.0 i) (h.1.0 i)
  op_same level width (Sub a b) leaves fits h = λ i. sub_of (h.0.1 i) (h.0.0 i) (h.1.0 i)
  op_same level width (Eq a b) leaves fits h = λ i. one_if (eqb (h.0.0 i) (h.1.0 i))
  op_same level width (Ltu a b) leaves fits h = λ i. one_if (ltb (h.0.0 i) (h.1.0 i))
  op_same level width (Mux c a b) leaves fits h = λ i. choose (h.0.0 i) (h.1.0 i) (h.2.0 i)
  op_same level width (Cat a b) leaves fits h =
      ap (λ v. join_of v (val (node_name a.0)) (val (node_name b.0))) (let e : w (node_name b.0) + 0 ≡ w (node_name b.0) = omega arith in e)
      ∙ (λ i. join_of (h.1.1 i) (h.0.0 i) (h.1.0 i))
  op_same level width (Slice a high low) leaves fits h = ap (λ v. bits_of v high low) h.0
  op_same level width (Read x a) leaves fits h = ap (λ v. get_or (s.cells (array_name m x)) v 0) h.0

module _ (m : ModuleValue) (pool : PoolValue) (marks : List Bool) (is : IsWritten m pool) (are : AreMarks m pool.nodes marks) where
  abbrev tree : Plain
  tree = plain_of (netlist_of m pool.nodes marks)

  pub naming : IsNaming m pool.nodes
  naming = let few = is.few in names_differ m pool.nodes is.module' (omega arith) (omega arith) (omega arith) (omega arith)

  live : (k : ℕ) → get_or marks k false ≡ true → ReachedFits m pool.nodes k
  live k marked = reached_fits m pool is.nodes is.checked.fits k (are.only k marked)

  tree_width : (k : ℕ) → k < length pool.nodes → width_of (tree_of pool.nodes k) ≡ (node_at pool.nodes k).width
  tree_width k h = ap width_of (tree-here pool.nodes k is.nodes h) ∙ width-op (tree_of pool.nodes) (node_at pool.nodes k).width (node_at pool.nodes k).op

  module _ (s : State) (ins : List ℕ → ℕ) where
    driven : (x : List ℕ) (e : Expr) → source_of tree x ≡ Driven e → value tree s ins x ≡ eval (width_in tree) s.cells (value tree s ins) e
    driven x e h = let r = module_is_ranked m pool marks is are in value_driven tree r.0 r.1 s ins x e h

    abbrev wires_by : (wires : ℕ → ℕ) → Type 0
    wires_by wires = (k : ℕ) → k < length m.wires → value tree s ins (wire_name m k) ≡ wires k

    leaves : (wires : ℕ → ℕ) → wires_by wires → AreLeaves m pool.nodes s ins wires (width_in tree) (value tree s ins)
    leaves wires h = record {
      inputs = λ p l input. value_outside tree s ins (port_name p) (input_source m pool.nodes marks naming p l input);
      wires' = h;
      regs = λ r l. value_held tree s ins (reg_name m r) (reg_source m pool.nodes marks naming r l);
    }

    -- Where the forward wires have some values, each node has the value of its tree over them.
    node_to : (wires : ℕ → ℕ) → wires_by wires → (n k : ℕ) → k < n → get_or marks k false ≡ true
        → value tree s ins (node_name k) ≡ meaning.value (env_of (held_by m s) (ins_by ins) wires) (tree_of pool.nodes k)
    node_to wires h zero k l marked = absurd (omega arith)
    node_to wires h (suc n) k l marked =
        let at : ReachedFits m pool.nodes k = live k marked in
        let here : tree_of pool.nodes k ≡ of_node (tree_of pool.nodes) (node_at pool.nodes k) = tree-here pool.nodes k is.nodes at.live in
        let level = top_of m.wires (tree_of pool.nodes k) in
        driven (node_name k) (value_expr (node_value m (node_at pool.nodes k).width (node_at pool.nodes k).op)) (node_source m pool.nodes marks naming k at.live marked)
        ∙ op_same m pool.nodes s ins wires (width_in tree) (value tree s ins) level (node_at pool.nodes k).width (node_at pool.nodes k).op (leaves wires h)
        (subst (TreeFits m level) here at.tree)
        (each_two (λ c. (c < k) × ((node_at pool.nodes c).level ≤ (node_at pool.nodes k).level)) (λ c. get_or marks c false ≡ true)
        (IsSame m pool.nodes s ins wires (width_in tree) (value tree s ins))
        (λ c below mark. (
          node_to wires h n c (let b = below.0 in omega arith) mark,
          (node_width m pool.nodes marks naming c (let b = below.0 in omega (arith, at.live)) mark ∙ sym (tree_width c (let b = below.0 in omega (arith, at.live)))),
        ))
        (node_at pool.nodes k).op (is.nodes.children k at.live) (are.children k marked))
        ∙ ap (meaning.value (env_of (held_by m s) (ins_by ins) wires)) (sym here)

    pub node_is : (wires : ℕ → ℕ) → wires_by wires → (k : ℕ) → get_or marks k false ≡ true
        → value tree s ins (node_name k) ≡ meaning.value (env_of (held_by m s) (ins_by ins) wires) (tree_of pool.nodes k)
    node_is wires h k marked = node_to wires h (suc k) k (omega arith) marked

    -- the value of a forward wire is its driver's
    wire_driven : (w : ℕ) → w < length m.wires → (o : Option net.Net) → (wire_at m.wires w).driver ≡ o
        → value tree s ins (wire_name m w) ≡ driven_value (env_of (held_by m s) (ins_by ins) (λ k. value tree s ins (wire_name m k))) pool.nodes o
    wire_driven w l None o = absurd (is.checked.driven.wires w l o)
    wire_driven w l (Some n) o =
        driven (wire_name m w) (Named (node_name n.id.0)) (wire_source m pool.nodes marks naming w n l o)
        ∙ node_is (λ k. value tree s ins (wire_name m k)) (λ k b. refl) n.id.0 (are.drivers n.id.0 (OfWire w n l o refl))

    pub wire_is : (w : ℕ) → w < length m.wires → value tree s ins (wire_name m w) ≡ wire_value m pool.nodes (held_by m s) (ins_by ins) w
    wire_is =
        wires_are_one m pool is.nodes is.checked.fits (held_by m s) (ins_by ins) (λ k. value tree s ins (wire_name m k))
        (λ w l. wire_driven w l (wire_at m.wires w).driver refl)

    -- a node that drives something has its value in the module's cycle
    pub driver_is : (k : ℕ) → Drives m k → value tree s ins (node_name k) ≡ meaning.value (cycle_env m pool.nodes (held_by m s) (ins_by ins)) (tree_of pool.nodes k)
    driver_is k drives = node_is (wire_value m pool.nodes (held_by m s) (ins_by ins)) wire_is k (are.drivers k drives)

    out_driven : (p : ℕ) → p < 30 → is_input (port_at p) ≡ false → (o : Option net.Net) → out_at m.outs p ≡ o
        → value tree s ins (port_name p) ≡ driven_value (cycle_env m pool.nodes (held_by m s) (ins_by ins)) pool.nodes o
    out_driven p l output None o = absurd (is.checked.driven.outs p l (output, o))
    out_driven p l output (Some n) o =
        driven (port_name p) (Named (node_name n.id.0)) (output_source m pool.nodes marks naming p n l output o)
        ∙ driver_is n.id.0 (OfPort p n l o refl)

    pub out_is : (p : ℕ) → p < 30 → is_input (port_at p) ≡ false → value tree s ins (port_name p) ≡ out_value m pool.nodes (held_by m s) (ins_by ins) p
    out_is p l output = out_driven p l output (out_at m.outs p) refl

    -- ---- after the edge of the clock

    taken : (w : List ℕ → ℕ) (old : ℕ) (reset : Option ℕ) (k v : ℕ) → value tree s ins (node_name k) ≡ v
        → mean.next_reg w s.cells (value tree s ins) (ins reset_name) old (taking reset (Named (node_name k))) ≡ cycle.next_reg m pool.nodes (held_by m s) (ins_by ins) reset v
    unfolding port_at name_of
    taken w old None k v h = h
    taken w old (Some start) k v h = ap (choose (ins reset_name) start) h

    reg_driven : (r : ℕ) → r < length m.regs → (o : Option net.Net) → (reg_at m.regs r).next ≡ o
        → mean.next_reg (width_in tree) s.cells (value tree s ins) (ins reset_name) (s.regs (reg_name m r)) (clocked_of tree (reg_name m r))
        ≡ cycle.next_reg m pool.nodes (held_by m s) (ins_by ins) (reg_at m.regs r).reset (driven_value (cycle_env m pool.nodes (held_by m s) (ins_by ins)) pool.nodes o)
    reg_driven r l None o = absurd (is.checked.driven.regs r l o)
    reg_driven r l (Some n) o =
        ap (mean.next_reg (width_in tree) s.cells (value tree s ins) (ins reset_name) (s.regs (reg_name m r))) (reg_clocked m pool.nodes marks naming r n l o)
        ∙ taken (width_in tree) (s.regs (reg_name m r)) (reg_at m.regs r).reset n.id.0
        (meaning.value (cycle_env m pool.nodes (held_by m s) (ins_by ins)) (tree_of pool.nodes n.id.0)) (driver_is n.id.0 (OfReg r n l o refl))

    pub reg_is : (r : ℕ) → r < length m.regs → (mean.next tree s ins).regs (reg_name m r) ≡ (next_held m pool.nodes (held_by m s) (ins_by ins)).regs r
    unfolding mean.next next_held
    reg_is r l = reg_driven r l (reg_at m.regs r).next refl

    array_written : (a : ℕ) → a < length m.arrays → (o : Option ArrayWrite) → (array_at m.arrays a).write ≡ o
        → mean.next_cells (width_in tree) s.cells (value tree s ins) (s.cells (array_name m a)) (writing_of tree (array_name m a))
        ≡ cycle.next_cells m pool.nodes (held_by m s) (ins_by ins) o (s.cells (array_name m a))
    array_written a l None o = absurd (is.checked.driven.arrays a l o)
    array_written a l (Some w) o =
        ap (mean.next_cells (width_in tree) s.cells (value tree s ins) (s.cells (array_name m a))) (array_writing m pool.nodes marks naming a w l o)
        ∙ (λ i. cond (eqb (driver_is w.enable.id.0 (OfEnable a w l o refl) i) 1)
        (set (s.cells (array_name m a)) (driver_is w.addr.id.0 (OfAddr a w l o refl) i) (driver_is w.value.id.0 (OfValue a w l o refl) i)) (s.cells (array_name m a)))

    pub array_is : (a : ℕ) → a < length m.arrays → (mean.next tree s ins).cells (array_name m a) ≡ (next_held m pool.nodes (held_by m s) (ins_by ins)).cells a
    unfolding mean.next next_held
    array_is a l = array_written a l (array_at m.arrays a).write refl
